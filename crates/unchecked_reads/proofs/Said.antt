-- What read, take and the answers come to on bytes.
use Rattle.std.specs.Prelude.{None, Option, Some, Ok, Err}
use Prim.Native.Nat.{ℕ, suc, ◌≤◌, ◌<◌}
use mathlib.Core.Path.{◌≡◌, refl, sym, ap, ap₂, subst, ◌∙◌}
use mathlib.Core.Bool.{Bool, true, false, not, ◌&&◌, cond}
use mathlib.Core.List.{List, [], ◌∷◌}
use lib.Dec.{leb, ltb}
use lib.ListN.{length}
use borrow.Author.Tests.{lt-ltb, le-ltb, le-leb, lt-leb}
use Rattle.model.specs.declared.delta_snapshot.Slot.{Slot}
use Rattle.model.specs.declared.storage_memo.ReadAnchor.{ReadAnchor}
use Rattle.model.specs.Slots.{Value, anchor_eqb}
use Rattle.model.proofs.SlotLaws.{anchor_eqb_true}
use Rattle.model.specs.Layers.{Layer, record_count}
use Rattle.model.specs.Reads.{Member, is_awaiting, waiters_of, join, queued, take_queued, remove_all_pending, woken, all_taken, has_duplicate, member_slots, valued_slots, refused_slots, settle_members, count_served, count_waiting, count_answer}
use Rattle.model.specs.Entries.{first_slots, with_slots}
use Rattle.model.proofs.EntryLaws.{SlotFits, Each, slots_back}
use Rattle.model.specs.Store.{Config, Generation, read, AnchoredCall, on_slot, take, answer, answer_failed, at_anchor, on_store, Memory, Accepted, accept, chain, resolved, touched_top, with_reads, value, waiting, listed, answered}
use Rattle.model.specs.Refusals.{Lent, answered_slots, Answer, refuse, ok, StepResult, conclude, step, refusal, over_capacity}
use Rattle.image.specs.Image.{decode, overlay, bytes_after, BytesCall, BytesResult, lent_call, bytes_step}
use Rattle.image.specs.Lent.{store_of, generation_of, IsStore, Installed}
use Rattle.image.proofs.Lent.{generation_in}
use Rattle.replies.specs.Replies.{alone, Stepped, Took}
use Rattle.model.specs.Refusals.{refusal_number}
use Rattle.model.specs.declared.refusal.Refusal.{Refusal}
use Rattle.model.specs.declared.refusal.Refusal.TheVariants.{NamesTwice, NothingInstalled, AnotherAnchor}
use Rattle.header.specs.Header.{anchored_refusal}
use Rattle.header.proofs.Guards.{stopped}
use Rattle.unchecked_calls.proofs.Turned.{memory_of, over_by}
use Rattle.header.proofs.Guards.{Here, past_guard}
use Rattle.settling.proofs.Tops.{anchor_same}
use Rattle.unchecked_reads.specs.Inner.{reading, awaited, answer_refusal}
use Rattle.unchecked_reads.proofs.Turned.{twice, nothing_there, other_there, read_here, read_served, read_waits, take_here, take_accepted, answer_here, failed_here, answer_accepted, failed_accepted}

abbrev lent : List ℕ → BytesCall → Lent
lent b c = (lent_call (length b) c).lent

abbrev result : List ℕ → StepResult → BytesResult
result b o = record { bytes = bytes_after o b; answer = o.answer }

-- A call refused, and a call accepted.
module _ (b : List ℕ) (m : Memory) (c : BytesCall) (e : decode b ≡ m) where
  pub turned_down : (n : ℕ) → refusal m (lent b c) c.call ≡ Some n → bytes_step b c ≡ record { bytes = b; answer = refuse n }
  unfolding bytes_step step
  turned_down n r =
      ap (λ (x : Memory). result b (conclude (refusal x (lent b c) c.call) x (accept x c.call))) e ∙ ap (λ (o : Option ℕ). result b (conclude o m (accept m c.call))) r

  pub taken_up : (x : Accepted) → refusal m (lent b c) c.call ≡ None → accept m c.call ≡ x → bytes_step b c ≡ record { bytes = overlay x.memory b; answer = ok x.report }
  unfolding bytes_step step
  taken_up x r a =
      ap (λ (x : Memory). result b (conclude (refusal x (lent b c) c.call) x (accept x c.call))) e ∙ ap₂ (λ (o : Option ℕ) (y : Accepted). result b (conclude o m y)) r a

-- A result that a call's contract names.
pub stepped : {a : Answer} {x : List ℕ} {o : BytesResult} → o ≡ record { bytes = x; answer = a } → Stepped a x o
stepped q = record { answer_is = ap (λ (o : BytesResult). o.answer) (sym q); bytes_is = ap (λ (o : BytesResult). o.bytes) (sym q) }

-- What a take's contract names: a refusal, and a list.
pub took_none : {b out : List ℕ} {n : Refusal} {o : BytesResult} → o ≡ record { bytes = b; answer = refuse (refusal_number n) } → Took (Err n) b out out o
took_none {b} {out} {n} {o} q = subst (λ (x : BytesResult). Took (Err n) b out out x) (sym q) (record { answer_is = refl; bytes_is = refl; output_is = refl })

pub took : {b x out y : List ℕ} {n : ℕ} {ss : List Slot} {o : BytesResult} → o ≡ record { bytes = b; answer = ok (listed ss) } → Each SlotFits ss → n ≡ length ss → x ≡ b → y ≡ with_slots ss out
    → Took (Ok n) x y out o
took {b} {x} {out} {y} {n} {ss} {o} q t e f g =
    let k : first_slots n y ≡ ss = ap₂ first_slots e g ∙ slots_back out t in
    subst (λ (r : BytesResult). Took (Ok n) x y out r) (sym q) (record { answer_is = ap (λ (l : List Slot). ok (listed l)) k; bytes_is = f; output_is = g })

-- 8, 21 and 22.
abbrev anchored : ReadAnchor → AnchoredCall → ℕ → BytesCall
anchored a k n = record { call = on_store (at_anchor a k); work_bytes = 0; output_entries = n }

-- No slot, none twice.
pub none_twice : has_duplicate [] ≡ false
unfolding has_duplicate
none_twice = refl

module _ (b : List ℕ) (a : ReadAnchor) (k : AnchoredCall) (n : ℕ) where
  pub said_8 : IsStore b → has_duplicate (answered_slots k) ≡ true → bytes_step b (anchored a k n) ≡ record { bytes = b; answer = refuse 8 }
  said_8 e d = turned_down b (Some (store_of b)) (anchored a k n) e 8 (twice (store_of b).config (store_of b).installed (lent b (anchored a k n)) a k d)

  module _ (d : has_duplicate (answered_slots k) ≡ false) (e : IsStore b) where
    said_21 : (store_of b).installed ≡ None → bytes_step b (anchored a k n) ≡ record { bytes = b; answer = refuse 21 }
    said_21 i = turned_down b (memory_of (store_of b).config None) (anchored a k n) (e ∙ ap (memory_of (store_of b).config) i) 21 (nothing_there (store_of b).config (lent b (anchored a k n)) a k d)

    said_22 : (g : Generation) → (store_of b).installed ≡ Some g → anchor_eqb g.anchor a ≡ false → bytes_step b (anchored a k n) ≡ record { bytes = b; answer = refuse 22 }
    said_22 g i q = turned_down b (memory_of (store_of b).config (Some g)) (anchored a k n) (e ∙ ap (memory_of (store_of b).config) i) 22 (other_there (store_of b).config g (lent b (anchored a k n)) a k d q)

    pub by_guard : (m : Refusal) → anchored_refusal (store_of b).installed a ≡ Err m → bytes_step b (anchored a k n) ≡ record { bytes = b; answer = refuse (refusal_number m) }
    by_guard m q = go (store_of b).installed refl q
      where
        go : (o : Option Generation) → (store_of b).installed ≡ o → anchored_refusal o a ≡ Err m → bytes_step b (anchored a k n) ≡ record { bytes = b; answer = refuse (refusal_number m) }
        go None i h =
            let y : NothingInstalled ≡ m = cc in
            said_21 i ∙ ap (λ (x : Refusal). record { bytes = b; answer = refuse (refusal_number x) }) y
        go (Some g) i h =
            let y : (m ≡ AnotherAnchor) × (anchor_eqb g.anchor a ≡ false) = stopped g a m (anchor_eqb g.anchor a) refl h in
            said_22 g i y.1 ∙ ap (λ (x : Refusal). record { bytes = b; answer = refuse (refusal_number x) }) (sym y.0)

  -- An answer to slots: 8 goes before 21 and 22.
  pub by_answer_guard : (ss : List Slot) → answered_slots k ≡ ss → IsStore b → (m : Refusal) → answer_refusal ss (store_of b).installed a ≡ Err m → bytes_step b (anchored a k n) ≡ record { bytes = b; answer = refuse (refusal_number m) }
  by_answer_guard ss f e m q = go (has_duplicate ss) (ap has_duplicate f) q
    where
      go : (t : Bool) → has_duplicate (answered_slots k) ≡ t → cond t (Err NamesTwice) (anchored_refusal (store_of b).installed a) ≡ Err m
          → bytes_step b (anchored a k n) ≡ record { bytes = b; answer = refuse (refusal_number m) }
      go true d h =
          let y : NamesTwice ≡ m = cc in
          said_8 e d ∙ ap (λ (x : Refusal). record { bytes = b; answer = refuse (refusal_number x) }) y
      go false d h = by_guard d e m h

-- Past an answer's guard no slot is named twice, and the anchor is installed.
pub record Past (ss : List Slot) (b : List ℕ) (a : ReadAnchor) : Type 0 where
  pub once : has_duplicate ss ≡ false
  pub here : Here b a

pub past_answer_guard : (ss : List Slot) (b : List ℕ) (a : ReadAnchor) {x : Unit {0}} → IsStore b → answer_refusal ss (store_of b).installed a ≡ Ok x → Past ss b a
past_answer_guard ss b a {x} e q = go (has_duplicate ss) refl q
  where
    go : (t : Bool) → has_duplicate ss ≡ t → cond t (Err NamesTwice) (anchored_refusal (store_of b).installed a) ≡ Ok x → Past ss b a
    go true d h = absurd (cc)
    go false d h = record { once = d; here = past_guard b a e h }

-- The anchor of a generation is installed.
pub here_own : (b : List ℕ) → Installed b → Here b (generation_of b).anchor
here_own b i = record { has = i; same = anchor_same (generation_of b).anchor }

-- A call at the installed anchor, named by the call.
pub at_its_anchor : (b : List ℕ) (a : ReadAnchor) → Here b a → (k : AnchoredCall) {x : Answer} {y : List ℕ} → Stepped x y (bytes_step b (alone (on_store (at_anchor (generation_of b).anchor k)))) → Stepped x y (bytes_step b (alone (on_store (at_anchor a k))))
at_its_anchor b a h k {x} {y} s = subst (λ (z : ReadAnchor). Stepped x y (bytes_step b (alone (on_store (at_anchor z k))))) (anchor_eqb_true (generation_of b).anchor a h.same) s

-- With the anchor installed.
module _ (b : List ℕ) (a : ReadAnchor) (h : Here b a) where
  abbrev pub g : Generation
  g = generation_of b

  abbrev pub cfg : Config
  cfg = (store_of b).config

  decoded : decode b ≡ memory_of cfg (Some g)
  decoded = h.has.is_store ∙ ap (memory_of cfg) h.has.installs

  few : record_count (chain g) ≤ cfg.capacity
  few = (generation_in b h.has).facts.few_records

  -- 23 of a call that would leave a generation.
  over : (k : AnchoredCall) (x : Accepted) (y : Generation) (t : Bool) → accept (memory_of cfg (Some g)) (on_store (at_anchor a k)) ≡ x → x.memory ≡ memory_of cfg (Some y) → ltb cfg.capacity (record_count (chain y)) ≡ t →
      over_capacity (memory_of cfg (Some g)) (on_store (at_anchor a k)) ≡ t
  over k x y t p q z = over_by _ _ cfg y x p q ∙ z

  -- A take.
  module _ (n : ℕ) where
    take_over : over_capacity (memory_of cfg (Some g)) (on_store (at_anchor a take)) ≡ false
    take_over = over take _ (with_reads g g.top (take_queued g.pending) g.totals) false (take_accepted cfg g a) refl (le-ltb _ _ few)

    pub said_27 : n < length (queued g.pending) → bytes_step b (anchored a take n) ≡ record { bytes = b; answer = refuse 27 }
    said_27 z = turned_down b _ (anchored a take n) decoded 27 (take_here cfg g (lent b (anchored a take n)) a h.same ∙ rw (take_over, lt-ltb n (length (queued g.pending)) z))

    pub said_take : length (queued g.pending) ≤ n → bytes_step b (anchored a take n) ≡ record { bytes = overlay (awaited cfg g (take_queued g.pending)) b; answer = ok (listed (queued g.pending)) }
    said_take z = taken_up b _ (anchored a take n) decoded _ (take_here cfg g (lent b (anchored a take n)) a h.same ∙ rw (take_over, le-ltb n (length (queued g.pending)) z)) (take_accepted cfg g a)

  -- A read: 25 of any.
  pub said_25 : (s : Slot) → 4294967295 ≤ g.totals.accepted → bytes_step b (alone (on_store (at_anchor a (on_slot (read s))))) ≡ record { bytes = b; answer = refuse 25 }
  said_25 s z = turned_down b _ (anchored a (on_slot (read s)) 0) decoded 25 (read_here cfg g (lent b (anchored a (on_slot (read s)) 0)) a s h.same ∙ rw (le-leb 4294967295 g.totals.accepted z))

  module _ (s : Slot) (some_left : g.totals.accepted < 4294967295) where
    abbrev this : BytesResult
    this = bytes_step b (alone (on_store (at_anchor a (on_slot (read s)))))

    -- Of a served slot: 23, or the value.
    served_table : (v : Value) (t : Bool) → resolved cfg.retention g s ≡ Some v → ltb cfg.capacity (record_count (touched_top g s ∷ g.base)) ≡ t →
        refusal (memory_of cfg (Some g)) (lent b (anchored a (on_slot (read s)) 0)) (on_store (at_anchor a (on_slot (read s)))) ≡ cond t (Some 23) None
    served_table v t e z =
        let o : over_capacity (memory_of cfg (Some g)) (on_store (at_anchor a (on_slot (read s)))) ≡ t = over (on_slot (read s)) _ (with_reads g (touched_top g s) g.pending (count_served g.totals)) t (read_served cfg g a s v e) refl z in
        read_here cfg g (lent b (anchored a (on_slot (read s)) 0)) a s h.same ∙ rw (lt-leb 4294967295 g.totals.accepted some_left, e, o)

    pub said_full : (v : Value) → resolved cfg.retention g s ≡ Some v → cfg.capacity < record_count (touched_top g s ∷ g.base) → this ≡ record { bytes = b; answer = refuse 23 }
    said_full v e z = turned_down b _ (anchored a (on_slot (read s)) 0) decoded 23 (served_table v true e (lt-ltb _ _ z))

    pub said_served : (v : Value) → resolved cfg.retention g s ≡ Some v → record_count (touched_top g s ∷ g.base) ≤ cfg.capacity →
        this ≡ record { bytes = overlay (reading cfg g (touched_top g s) g.pending (count_served g.totals)) b; answer = ok (value v) }
    said_served v e z = taken_up b _ (anchored a (on_slot (read s)) 0) decoded _ (served_table v false e (le-ltb _ _ z)) (read_served cfg g a s v e)

    -- Of another: 24, or it waits.
    pub said_24 : resolved cfg.retention g s ≡ None → (not (is_awaiting s g.pending) && leb 64 (length g.pending)) ≡ true → this ≡ record { bytes = b; answer = refuse 24 }
    said_24 e w =
        turned_down b _ (anchored a (on_slot (read s)) 0) decoded 24 (read_here cfg g (lent b (anchored a (on_slot (read s)) 0)) a s h.same ∙ rw (lt-leb 4294967295 g.totals.accepted some_left, e, w))

    pub said_waits : resolved cfg.retention g s ≡ None → (not (is_awaiting s g.pending) && leb 64 (length g.pending)) ≡ false →
        this ≡ record { bytes = overlay (reading cfg g g.top (join s g.pending) (count_waiting (is_awaiting s g.pending) g.totals)) b; answer = ok (waiting (suc (waiters_of s g.pending))) }
    said_waits e w =
        let o : over_capacity (memory_of cfg (Some g)) (on_store (at_anchor a (on_slot (read s)))) ≡ false = over (on_slot (read s)) _ (with_reads g g.top (join s g.pending) (count_waiting (is_awaiting s g.pending) g.totals)) false (read_waits cfg g a s e) refl (le-ltb _ _ few) in
        taken_up b _ (anchored a (on_slot (read s)) 0) decoded _ (read_here cfg g (lent b (anchored a (on_slot (read s)) 0)) a s h.same ∙ rw (lt-leb 4294967295 g.totals.accepted some_left, e, w, o)) (read_waits cfg g a s e)

  -- An answer of either form, of distinct slots: 26, 23, or it is done.
  module _ (ss : List Slot) (d : has_duplicate ss ≡ false) where
    abbrev that : BytesResult
    that = bytes_step b (alone (on_store (at_anchor a (answer_failed ss))))

    pub failed_26 : all_taken ss g.pending ≡ false → that ≡ record { bytes = b; answer = refuse 26 }
    failed_26 z = turned_down b _ (anchored a (answer_failed ss) 0) decoded 26 (failed_here cfg g (lent b (anchored a (answer_failed ss) 0)) a ss d h.same ∙ rw z)

    pub said_failed : all_taken ss g.pending ≡ true →
        that ≡ record { bytes = overlay (reading cfg g g.top (remove_all_pending ss g.pending) (count_answer (length ss) 0 (woken [] g.pending) (woken ss g.pending) g.totals)) b; answer = ok (answered (length ss) 0 (woken ss g.pending)) }
    said_failed z =
        let y : Generation = with_reads g g.top (remove_all_pending ss g.pending) (count_answer (length ss) 0 (woken [] g.pending) (woken ss g.pending) g.totals) in
        let o : over_capacity (memory_of cfg (Some g)) (on_store (at_anchor a (answer_failed ss))) ≡ false = over (answer_failed ss) _ y false (failed_accepted cfg g a ss) refl (le-ltb _ _ few) in
        taken_up b _ (anchored a (answer_failed ss) 0) decoded _ (failed_here cfg g (lent b (anchored a (answer_failed ss) 0)) a ss d h.same ∙ rw (z, o)) (failed_accepted cfg g a ss)

  module _ (ms : List Member) (d : has_duplicate (member_slots ms) ≡ false) where
    abbrev those : BytesResult
    those = bytes_step b (alone (on_store (at_anchor a (answer ms))))

    abbrev pub settled : Layer
    settled = settle_members g.anchor.number ms g.top

    abbrev answer_totals : Generation
    answer_totals = with_reads g settled (remove_all_pending (member_slots ms) g.pending) (count_answer (length (member_slots ms)) (length (refused_slots ms)) (woken (valued_slots ms) g.pending) (woken (refused_slots ms) g.pending) g.totals)

    pub answer_26 : all_taken (member_slots ms) g.pending ≡ false → those ≡ record { bytes = b; answer = refuse 26 }
    answer_26 z = turned_down b _ (anchored a (answer ms) 0) decoded 26 (answer_here cfg g (lent b (anchored a (answer ms) 0)) a ms d h.same ∙ rw z)

    pub answer_23 : all_taken (member_slots ms) g.pending ≡ true → cfg.capacity < record_count (settled ∷ g.base) → those ≡ record { bytes = b; answer = refuse 23 }
    answer_23 z c =
        let o : over_capacity (memory_of cfg (Some g)) (on_store (at_anchor a (answer ms))) ≡ true = over (answer ms) _ answer_totals true (answer_accepted cfg g a ms) refl (lt-ltb _ _ c) in
        turned_down b _ (anchored a (answer ms) 0) decoded 23 (answer_here cfg g (lent b (anchored a (answer ms) 0)) a ms d h.same ∙ rw (z, o))

    pub said_answer : all_taken (member_slots ms) g.pending ≡ true → record_count (settled ∷ g.base) ≤ cfg.capacity →
        those ≡ record { bytes = overlay (reading cfg g settled (remove_all_pending (member_slots ms) g.pending) (count_answer (length (member_slots ms)) (length (refused_slots ms)) (woken (valued_slots ms) g.pending) (woken (refused_slots ms) g.pending) g.totals)) b; answer = ok (answered (length (member_slots ms)) (length (refused_slots ms)) (woken (member_slots ms) g.pending)) }
    said_answer z c =
        let o : over_capacity (memory_of cfg (Some g)) (on_store (at_anchor a (answer ms))) ≡ false = over (answer ms) _ answer_totals false (answer_accepted cfg g a ms) refl (le-ltb _ _ c) in
        taken_up b _ (anchored a (answer ms) 0) decoded _ (answer_here cfg g (lent b (anchored a (answer ms) 0)) a ms d h.same ∙ rw (z, o)) (answer_accepted cfg g a ms)
