-- What a read and an answer count, and whether the queue is full.
use Prim.Native.Nat.{ℕ, ◌+◌, ◌-◌, ◌/◌, ◌^◌, ◌≤◌, ◌<◌}
use mathlib.Core.Path.{◌≡◌, refl, sym, ap, ap₂, subst, ◌∙◌}
use mathlib.Core.Bool.{Bool, true, false, not, ◌&&◌}
use mathlib.Core.List.{List, [], ◌∷◌}
use native.Mathlib.Omega.{arith}
use lib.Dec.{leb}
use lib.ListN.{length}
use borrow.Author.Tests.{leb-true, leb-false, le-leb, lt-leb}
use Rattle.layout.specs.Layout.{capacity_offset, records_count_offset}
use Rattle.model.specs.declared.delta_snapshot.Slot.{Slot}
use Rattle.model.specs.declared.read_hub.ReadTotals.{ReadTotals}
use Rattle.model.specs.Slots.{slot_eqb}
use Rattle.model.specs.Layers.{record_count}
use Rattle.model.specs.Reads.{Pending, Member, is_awaiting, waiters_of, join, woken, all_taken, has_duplicate, member_slots, valued_slots, refused_slots, settle_members, count_answer}
use Rattle.model.specs.Entries.{slots_of, members_of}
use Rattle.model.specs.Store.{answered}
use Rattle.model.specs.Refusals.{Answer, ok}
use Rattle.model.proofs.SlotLaws.{split}
use Rattle.image.specs.WellFormed.{all_waiters}
use Rattle.image.specs.Image.{BytesResult}
use Rattle.image.specs.Lent.{store_of, generation_of, Installed}
use Rattle.image.proofs.Areas.{word, GenerationBytes}
use Rattle.image.proofs.Lent.{store_in, generation_in}
use Rattle.image.proofs.PendingOk.{woken_members, length_refused}
use Rattle.awaiting.specs.Awaiting.{entry_slots}
use Rattle.awaiting.proofs.Changes.{join_fits}
use Rattle.awaiting.proofs.Lists.{entry_slots_alone, entry_slots_members, length_entry_slots}
use Rattle.totals.specs.Totals.{Answerable}
use Rattle.totals.proofs.Bounds.{answerable}
use Rattle.replies.specs.Replies.{Stepped}
use Rattle.settling.specs.Settling.{added}
use Rattle.settling.proofs.Additions.{length_settled}
use Rattle.unchecked_reads.proofs.Image.{few_waiters}

leb_same : (a b c d : ℕ) → (a ≤ b → c ≤ d) → (b < a → d < c) → leb a b ≡ leb c d
leb_same a b c d f g = split (leb a b) (λ p. p ∙ sym (le-leb c d (f (leb-true a b p)))) (λ p. p ∙ sym (lt-leb c d (g (leb-false a b p))))

-- A slot has no more waiters than all.
waiters_few : (s : Slot) (q : List Pending) → waiters_of s q ≤ all_waiters q
unfolding waiters_of all_waiters
waiters_few s [] = omega arith
waiters_few s (w ∷ q) = let k : waiters_of s q ≤ all_waiters q = waiters_few s q in split (slot_eqb w.slot s) (λ p. rw p (omega arith)) (λ p. rw p (omega arith))

pub one_more : (b : List ℕ) → Installed b → (s : Slot) (n : ℕ) → n ≡ waiters_of s (generation_of b).pending → n + 1 < 2 ^ 64
one_more b h s n e = omega (arith, e, waiters_few s (generation_of b).pending, few_waiters b h)

-- There is room where the queue is not full.
pub joins : (b : List ℕ) → Installed b → (s : Slot) → (not (is_awaiting s (generation_of b).pending) && leb 64 (length (generation_of b).pending)) ≡ false → length (join s (generation_of b).pending) ≤ 64
joins b h s e = let k = (generation_in b h).facts in join_fits s (generation_of b).pending k.pending_right k.few_pending e

-- A result that a contract names by an equal answer and equal bytes.
pub stepped_as : {a z : Answer} {x y : List ℕ} {o : BytesResult} → o ≡ record { bytes = x; answer = a } → z ≡ a → y ≡ x → Stepped z y o
stepped_as q e f = record { answer_is = e ∙ ap (λ (o : BytesResult). o.answer) (sym q); bytes_is = f ∙ ap (λ (o : BytesResult). o.bytes) (sym q) }

-- A round that failed: its slots, and the waiters that it wakes.
module _ (b : List ℕ) (h : Installed b) (l : List ℕ) (w : ℕ) (p : w ≡ woken (entry_slots 52 l) (generation_of b).pending) where
  abbrev q : List Pending
  q = (generation_of b).pending

  abbrev ss : List Slot
  ss = slots_of l

  members_are : length l / 52 ≡ length ss
  members_are = sym (length_entry_slots 52 l) ∙ ap length (entry_slots_alone l)

  woken_are : w ≡ woken ss q
  woken_are = p ∙ ap (λ (x : List Slot). woken x q) (entry_slots_alone l)

  none_woken : 0 ≡ woken [] q
  unfolding woken
  none_woken = refl

  pub failed_answerable : has_duplicate ss ≡ false → all_taken ss q ≡ true → (t : ReadTotals) → t ≡ (generation_of b).totals → Answerable (length l / 52) 0 0 w t
  failed_answerable d a t e =
      let k = (generation_in b h).facts in
      let z : woken [] q + woken ss q ≡ woken ss q = omega (arith, none_woken) in
      let y = answerable q (generation_of b).totals ss [] ss 0 (record { pending_right = k.pending_right; few_pending = k.few_pending; totals_add_up = k.totals_add_up }) d a z (omega arith) in
      subst (λ (i : ReadTotals). Answerable (length l / 52) 0 0 w i) (sym e) (subst (λ (i : ℕ). Answerable i 0 0 w (generation_of b).totals) (sym members_are)
      (subst (λ (i : ℕ). Answerable (length ss) 0 i w (generation_of b).totals) (sym none_woken) (subst (λ (i : ℕ). Answerable (length ss) 0 (woken [] q) i (generation_of b).totals) (sym woken_are) y)))

  pub failed_totals : count_answer (length l / 52) 0 0 w (generation_of b).totals ≡ count_answer (length ss) 0 (woken [] q) (woken ss q) (generation_of b).totals
  failed_totals =
      ap₂ (λ (i j : ℕ). count_answer i 0 j w (generation_of b).totals) members_are none_woken ∙ ap (λ (i : ℕ). count_answer (length ss) 0 (woken [] q) i (generation_of b).totals) woken_are

  pub failed_says : ok (answered (length l / 52) 0 w) ≡ ok (answered (length ss) 0 (woken ss q))
  failed_says = ap₂ (λ (i j : ℕ). ok (answered i 0 j)) members_are woken_are

-- An answer's members.
module _ (b : List ℕ) (h : Installed b) (l : List ℕ) where
  abbrev queue : List Pending
  queue = (generation_of b).pending

  abbrev ms : List Member
  ms = members_of l

  abbrev valued_count : ℕ
  valued_count = woken (valued_slots ms) queue

  abbrev refused_count : ℕ
  refused_count = woken (refused_slots ms) queue

  pub distinct : has_duplicate (entry_slots 85 l) ≡ false → has_duplicate (member_slots ms) ≡ false
  distinct d = ap has_duplicate (entry_slots_members l) ∙ d

  pub taken_members : (x : Bool) → all_taken (entry_slots 85 l) queue ≡ x → all_taken (member_slots ms) queue ≡ x
  taken_members x a = ap (λ (ss : List Slot). all_taken ss queue) (entry_slots_members l) ∙ a

  number_is : length l / 85 ≡ length (member_slots ms)
  number_is = sym (length_entry_slots 85 l) ∙ ap length (sym (entry_slots_members l))

  -- Room for the records that it adds.
  pub space_is : (a x y : ℕ) → has_duplicate (entry_slots 85 l) ≡ false → a ≡ added ms (generation_of b).top → x ≡ word records_count_offset b → y ≡ word capacity_offset b →
      leb a (y - x) ≡ leb (record_count (settle_members (generation_of b).anchor.number ms (generation_of b).top ∷ (generation_of b).base)) (store_of b).config.capacity
  unfolding record_count
  space_is a x y d p q r =
      let k : GenerationBytes b (store_of b) (generation_of b) = generation_in b h in
      let c : y ≡ (store_of b).config.capacity = r ∙ (store_in b h.is_store).capacity_word in
      let n : x ≡ length (generation_of b).top + record_count (generation_of b).base = q ∙ k.records_word in
      let f : length (generation_of b).top + record_count (generation_of b).base ≤ (store_of b).config.capacity = k.facts.few_records in
      let m : length (settle_members (generation_of b).anchor.number ms (generation_of b).top) ≡ added ms (generation_of b).top + length (generation_of b).top = length_settled (generation_of b).anchor.number ms (generation_of b).top k.top.rises (distinct d) in
      leb_same a (y - x) (length (settle_members (generation_of b).anchor.number ms (generation_of b).top) + record_count (generation_of b).base) (store_of b).config.capacity (λ z. omega arith) (λ z. omega arith)

  pub space_fits : (x y : ℕ) → x ≡ word records_count_offset b → y ≡ word capacity_offset b → x ≤ y
  space_fits x y q r =
      let k : GenerationBytes b (store_of b) (generation_of b) = generation_in b h in
      omega (arith, q, r, k.records_word, k.facts.few_records, (store_in b h.is_store).capacity_word)

  -- What it counts, by the numbers that the code has.
  module _ (w v e : ℕ) (p : w ≡ woken (entry_slots 85 l) queue) (q : v ≡ valued_count) (r : e ≡ length (refused_slots ms)) where
    woken_is : w ≡ woken (member_slots ms) queue
    woken_is = p ∙ ap (λ (ss : List Slot). woken ss queue) (sym (entry_slots_members l))

    pub valued_few : v ≤ w
    valued_few = omega (arith, woken_is, woken_members ms queue)

    refused_is : w - v ≡ refused_count
    refused_is = omega (arith, woken_is, woken_members ms queue)

    pub answer_answerable : has_duplicate (entry_slots 85 l) ≡ false → all_taken (entry_slots 85 l) queue ≡ true → (t : ReadTotals) → t ≡ (generation_of b).totals → Answerable (length l / 85) e v (w - v) t
    answer_answerable d a t z =
        let k = (generation_in b h).facts in
        let n : length (refused_slots ms) ≤ length (member_slots ms) = length_refused ms in
        let y = answerable queue (generation_of b).totals (member_slots ms) (valued_slots ms) (refused_slots ms) (length (refused_slots ms)) (record { pending_right = k.pending_right; few_pending = k.few_pending; totals_add_up = k.totals_add_up }) (distinct d) (taken_members true a) (woken_members ms queue) n in
        subst (λ (i : ReadTotals). Answerable (length l / 85) e v (w - v) i) (sym z)
        (subst (λ (i : ℕ). Answerable i e v (w - v) (generation_of b).totals) (sym number_is)
        (subst (λ (i : ℕ). Answerable (length (member_slots ms)) i v (w - v) (generation_of b).totals) (sym r)
        (subst (λ (i : ℕ). Answerable (length (member_slots ms)) (length (refused_slots ms)) i (w - v) (generation_of b).totals) (sym q)
        (subst (λ (i : ℕ). Answerable (length (member_slots ms)) (length (refused_slots ms)) valued_count i (generation_of b).totals) (sym refused_is) y))))

    pub answer_totals : count_answer (length l / 85) e v (w - v) (generation_of b).totals ≡ count_answer (length (member_slots ms)) (length (refused_slots ms)) valued_count refused_count (generation_of b).totals
    answer_totals =
        ap₂ (λ (i j : ℕ). count_answer i j v (w - v) (generation_of b).totals) number_is r ∙ ap₂ (λ (i j : ℕ). count_answer (length (member_slots ms)) (length (refused_slots ms)) i j (generation_of b).totals) q refused_is

    pub answer_says : ok (answered (length l / 85) e w) ≡ ok (answered (length (member_slots ms)) (length (refused_slots ms)) (woken (member_slots ms) queue))
    answer_says = ap₂ (λ (i j : ℕ). ok (answered i j w)) number_is r ∙ ap (λ (i : ℕ). ok (answered (length (member_slots ms)) (length (refused_slots ms)) i)) woken_is
