-- What open, install, look, get and put come to on bytes.
use Rattle.std.specs.Prelude.{None, Option, Some}
use Prim.Native.Nat.{ℕ, ◌≤◌, ◌<◌}
use mathlib.Core.Path.{◌≡◌, refl, sym, ap, ap₂, subst, ◌∙◌}
use mathlib.Core.Bool.{Bool, true, false, cond}
use mathlib.Core.List.{List, [], ◌∷◌}
use native.Mathlib.Omega.{arith}
use lib.Dec.{ltb}
use lib.ListN.{length}
use borrow.Author.Tests.{lt-ltb, le-ltb, eq-eqb, ne_eqb}
use Rattle.model.specs.declared.delta_snapshot.Slot.{Slot}
use Rattle.model.specs.declared.delta_snapshot.Retention.{Retention}
use Rattle.model.specs.declared.storage_memo.ReadAnchor.{ReadAnchor}
use Rattle.model.specs.Slots.{Value, anchor_eqb}
use Rattle.model.specs.Numbers.{Bytes}
use Rattle.model.specs.Layers.{record_count, settle}
use Rattle.model.specs.Advance.{void_base}
use Rattle.model.specs.Store.{Config, Generation, Store, look, get, put, AnchoredCall, on_slot, install, at_anchor, Call, open_store, on_store, Memory, Accepted, accept, chain, with_top, resolved, touched_top, value_report, new_generation, fresh, opened, anchor_same, anchor_fresh, value, no_value, stored}
use Rattle.model.specs.Refusals.{Lent, Answer, refuse, ok, StepResult, conclude, step, refusal, over_capacity, store_size}
use Rattle.image.specs.WellFormed.{installed_ok}
use Rattle.image.specs.Image.{decode, overlay, bytes_after, BytesResult, bytes_step}
use Rattle.image.proofs.Facts.{generation_facts, store_facts}
use Rattle.image.proofs.ReadBack.{decode_some}
use Rattle.header.proofs.Guards.{Other}
use Rattle.replies.specs.Replies.{alone, Stepped}
use Rattle.header.specs.Header.{config_of, empty, begun}
use Rattle.top.specs.Top.{topped}
use Rattle.header.proofs.Images.{store_split}
use Rattle.unchecked_calls.proofs.Turned.{Plain, plain_look, plain_get, plain_put, memory_of, nothing_there, other_there, this_there, look_accepted, get_unserved, get_served, put_accepted, over_by, install_free, install_same, install_other, install_first, open_table}

-- What is lent to a call that is lent the store alone.
abbrev lent : List ℕ → Lent
lent b = record { store_bytes = length b; work_bytes = 0; output_entries = 0 }

abbrev result : List ℕ → StepResult → BytesResult
result b o = record { bytes = bytes_after o b; answer = o.answer }

-- A call refused, and a call accepted.
module _ (b : List ℕ) (m : Memory) (c : Call) (e : decode b ≡ m) where
  pub turned_down : (n : ℕ) → refusal m (lent b) c ≡ Some n → Stepped (refuse n) b (bytes_step b (alone c))
  unfolding bytes_step step
  turned_down n r =
      let q : bytes_step b (alone c) ≡ record { bytes = b; answer = refuse n } =
      ap (λ (x : Memory). result b (conclude (refusal x (lent b) c) x (accept x c))) e ∙ ap (λ (o : Option ℕ). result b (conclude o m (accept m c))) r in
      record { answer_is = ap (λ (o : BytesResult). o.answer) (sym q); bytes_is = ap (λ (o : BytesResult). o.bytes) (sym q) }

  pub taken_up : (x : Accepted) → refusal m (lent b) c ≡ None → accept m c ≡ x → Stepped (ok x.report) (overlay x.memory b) (bytes_step b (alone c))
  unfolding bytes_step step
  taken_up x r a =
      let q : bytes_step b (alone c) ≡ record { bytes = overlay x.memory b; answer = ok x.report } =
      ap (λ (x : Memory). result b (conclude (refusal x (lent b) c) x (accept x c))) e ∙ ap₂ (λ (o : Option ℕ) (y : Accepted). result b (conclude o m y)) r a in
      record { answer_is = ap (λ (o : BytesResult). o.answer) (sym q); bytes_is = ap (λ (o : BytesResult). o.bytes) (sym q) }

-- The same with other bytes that are equal.
pub with_bytes : {a : Answer} {x y : List ℕ} {o : BytesResult} → y ≡ x → Stepped a x o → Stepped a y o
with_bytes e h = record { answer_is = h.answer_is; bytes_is = e ∙ h.bytes_is }

-- 21 and 22 of a call at an anchor.
module _ (b : List ℕ) (st : Store) (a : ReadAnchor) {k : AnchoredCall} (p : Plain k) (e : decode b ≡ Some st) where
  pub said_21 : st.installed ≡ None → Stepped (refuse 21) b (bytes_step b (alone (on_store (at_anchor a k))))
  said_21 i = turned_down b (memory_of st.config None) _ (e ∙ ap (memory_of st.config) i) 21 (nothing_there st.config (lent b) a p)

  pub said_22 : (g : Generation) → st.installed ≡ Some g → anchor_eqb g.anchor a ≡ false → Stepped (refuse 22) b (bytes_step b (alone (on_store (at_anchor a k))))
  said_22 g i q = turned_down b (memory_of st.config (Some g)) _ (e ∙ ap (memory_of st.config) i) 22 (other_there st.config g (lent b) a p q)

-- With the anchor installed.
module _ (b : List ℕ) (st : Store) (g : Generation) (f : Bytes b) (e : decode b ≡ Some st) (i : st.installed ≡ Some g) where
  decoded : decode b ≡ memory_of st.config (Some g)
  decoded = e ∙ ap (memory_of st.config) i

  few : record_count (chain g) ≤ st.config.capacity
  few = (generation_facts st.config g (subst (λ (x : Option Generation). installed_ok st.config x ≡ true) i (store_facts st (decode_some b st e).right).installed_right)).few_records

  -- The store laid over its own bytes changes none.
  unchanged : b ≡ overlay (memory_of st.config (Some g)) b
  unchanged = store_split b st f e ∙ ap (λ (m : Option Generation). overlay (memory_of st.config m) b) i

  -- A call that would leave a generation h: refused by 23, or accepted.
  module _ (a : ReadAnchor) {k : AnchoredCall} (p : Plain k) (same : anchor_eqb g.anchor a ≡ true) where
    over : (h : Generation) (x : Accepted) → accept (memory_of st.config (Some g)) (on_store (at_anchor a k)) ≡ x → x.memory ≡ memory_of st.config (Some h) → (t : Bool) → ltb st.config.capacity (record_count (chain h)) ≡ t →
        refusal (memory_of st.config (Some g)) (lent b) (on_store (at_anchor a k)) ≡ cond t (Some 23) None
    over h x q r t z = this_there st.config g (lent b) a p same ∙ ap (λ (y : Bool). cond y (Some 23) None) (over_by _ _ st.config h x q r ∙ z)

    full : (h : Generation) (x : Accepted) → accept (memory_of st.config (Some g)) (on_store (at_anchor a k)) ≡ x → x.memory ≡ memory_of st.config (Some h) → st.config.capacity < record_count (chain h) →
        Stepped (refuse 23) b (bytes_step b (alone (on_store (at_anchor a k))))
    full h x q r z = turned_down b _ _ decoded 23 (over h x q r true (lt-ltb _ _ z))

    room : (h : Generation) (x : Accepted) → accept (memory_of st.config (Some g)) (on_store (at_anchor a k)) ≡ x → x.memory ≡ memory_of st.config (Some h) → record_count (chain h) ≤ st.config.capacity →
        Stepped (ok x.report) (overlay x.memory b) (bytes_step b (alone (on_store (at_anchor a k))))
    room h x q r z = taken_up b _ _ decoded x (over h x q r false (le-ltb _ _ z)) q

  module _ (a : ReadAnchor) (s : Slot) (same : anchor_eqb g.anchor a ≡ true) where
    pub said_look : (o : Option Value) → o ≡ resolved st.config.retention g s → Stepped (ok (value_report o)) b (bytes_step b (alone (on_store (at_anchor a (on_slot (look s))))))
    said_look o q =
        subst (λ (x : Option Value). Stepped (ok (value_report x)) b (bytes_step b (alone (on_store (at_anchor a (on_slot (look s))))))) (sym q)
        (with_bytes unchanged (room a (plain_look s) same g _ (look_accepted st.config g a s) refl few))

    pub said_none : resolved st.config.retention g s ≡ None → Stepped (ok no_value) b (bytes_step b (alone (on_store (at_anchor a (on_slot (get s))))))
    said_none q = with_bytes unchanged (room a (plain_get s) same g _ (get_unserved st.config g a s q) refl few)

    pub said_get : (v : Value) → resolved st.config.retention g s ≡ Some v → record_count (touched_top g s ∷ g.base) ≤ st.config.capacity →
        Stepped (ok (value v)) (overlay (topped st.config g (touched_top g s)) b) (bytes_step b (alone (on_store (at_anchor a (on_slot (get s))))))
    said_get v q z = room a (plain_get s) same (with_top g (touched_top g s)) _ (get_served st.config g a s v q) refl z

    pub said_get_full : (v : Value) → resolved st.config.retention g s ≡ Some v → st.config.capacity < record_count (touched_top g s ∷ g.base) →
        Stepped (refuse 23) b (bytes_step b (alone (on_store (at_anchor a (on_slot (get s))))))
    said_get_full v q z = full a (plain_get s) same (with_top g (touched_top g s)) _ (get_served st.config g a s v q) refl z

    pub said_put : (v : Value) → record_count (settle g.anchor.number s v g.top ∷ g.base) ≤ st.config.capacity →
        Stepped (ok stored) (overlay (topped st.config g (settle g.anchor.number s v g.top)) b) (bytes_step b (alone (on_store (at_anchor a (on_slot (put s v))))))
    said_put v z = room a (plain_put s v) same (with_top g (settle g.anchor.number s v g.top)) _ (put_accepted st.config g a s v) refl z

    pub said_put_full : (v : Value) → st.config.capacity < record_count (settle g.anchor.number s v g.top ∷ g.base) → Stepped (refuse 23) b (bytes_step b (alone (on_store (at_anchor a (on_slot (put s v))))))
    said_put_full v z = full a (plain_put s v) same (with_top g (settle g.anchor.number s v g.top)) _ (put_accepted st.config g a s v) refl z

  pub said_same : (a : ReadAnchor) → anchor_eqb g.anchor a ≡ true → Stepped (ok anchor_same) b (bytes_step b (alone (on_store (install a))))
  said_same a same =
      let q = install_same st.config g a same in
      let z : over_capacity (memory_of st.config (Some g)) (on_store (install a)) ≡ false = over_by _ _ st.config g _ q refl ∙ le-ltb _ _ few in
      with_bytes unchanged (taken_up b _ _ decoded _ (install_free st.config (Some g) (lent b) a ∙ ap (λ (y : Bool). cond y (Some 23) None) z) q)

-- A fresh generation has no records.
no_records : (a : ReadAnchor) → record_count (chain (new_generation a void_base [])) ≡ 0
unfolding record_count
no_records a = refl

install_fresh : (cfg : Config) (o : Option Generation) (a : ReadAnchor) → Other o a → accept (memory_of cfg o) (on_store (install a)) ≡ record { memory = memory_of cfg (fresh a).installed; report = anchor_fresh }
install_fresh cfg None a p = install_first cfg a
install_fresh cfg (Some g) a p = install_other cfg g a p

pub said_fresh : (b : List ℕ) (st : Store) (a : ReadAnchor) → decode b ≡ Some st → Other st.installed a → Stepped (ok anchor_fresh) (overlay (begun st.config a) b) (bytes_step b (alone (on_store (install a))))
said_fresh b st a e p =
    let q = install_fresh st.config st.installed a p in
    let n : record_count (chain (new_generation a void_base [])) ≤ st.config.capacity = omega (arith, no_records a) in
    let z : over_capacity (Some st) (on_store (install a)) ≡ false = over_by _ _ st.config (new_generation a void_base []) _ q refl ∙ le-ltb _ _ n in
    taken_up b (Some st) _ e _ (install_free st.config st.installed (lent b) a ∙ ap (λ (y : Bool). cond y (Some 23) None) z) q

-- Open ------------------------------------------------------------------------------------------------

module _ (b : List ℕ) (n d : ℕ) (R : Retention) where
  abbrev opens : BytesResult
  opens = bytes_step b (alone (open_store n d R))

  pub said_1_none : n ≡ 0 → Stepped (refuse 1) b opens
  said_1_none z = turned_down b _ _ refl 1 (open_table _ (lent b) n d R ∙ rw (eq-eqb n 0 z))

  pub said_1 : 4096 < n → Stepped (refuse 1) b opens
  said_1 z =
      let k : (n ≡ 0 → ⊥) = λ q. omega arith in
      turned_down b _ _ refl 1 (open_table _ (lent b) n d R ∙ rw (ne_eqb n 0 k, lt-ltb 4096 n z))

  module _ (some_room : n ≡ 0 → ⊥) (in_range : n ≤ 4096) where
    pub said_2 : 255 < d → Stepped (refuse 2) b opens
    said_2 z = turned_down b _ _ refl 2 (open_table _ (lent b) n d R ∙ rw (ne_eqb n 0 some_room, le-ltb 4096 n in_range, lt-ltb 255 d z))

    pub said_9 : d ≤ 255 → length b < store_size n → Stepped (refuse 9) b opens
    said_9 y z = turned_down b _ _ refl 9 (open_table _ (lent b) n d R ∙ rw (ne_eqb n 0 some_room, le-ltb 4096 n in_range, le-ltb 255 d y, lt-ltb (length b) (store_size n) z))

    pub said_open : d ≤ 255 → store_size n ≤ length b → Stepped (ok opened) (overlay (empty (config_of n d R)) b) opens
    unfolding accept
    said_open y z = taken_up b _ _ refl _ (open_table _ (lent b) n d R ∙ rw (ne_eqb n 0 some_room, le-ltb 4096 n in_range, le-ltb 255 d y, le-ltb (length b) (store_size n) z)) refl
