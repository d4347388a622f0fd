-- Each change of the awaiting slots keeps them right, and what it does to their number and their waiters.
use Rattle.std.specs.Prelude.{None, Option, Some}
use Prim.Native.Nat.{suc, ◌+◌, ◌≤◌}
use native.Mathlib.Omega.{arith}
use mathlib.Core.Path.{◌≡◌, refl}
use mathlib.Core.Bool.{Bool, true, false, cond}
use mathlib.Core.List.{List, [], ◌∷◌}
use lib.Dec.{ltb}
use lib.ListN.{length}
use borrow.Author.Tests.{lt-ltb}
use Rattle.model.specs.declared.delta_snapshot.Slot.{Slot}
use Rattle.model.specs.Slots.{Value, slot_eqb, slot_ltb, mem}
use Rattle.model.specs.Reads.{Pending, Member, waiters_of, is_awaiting, is_taken, join, take_queued, remove_pending, remove_all_pending, woken, all_taken, has_duplicate, member_slots, if_valued, if_refused, valued_slots, refused_slots}
use Rattle.image.specs.WellFormed.{slot_fits, pending_ok_from, pending_ok, all_waiters}
use Rattle.model.proofs.SlotLaws.{split, not_both, and_left, and_right, or_false_left, or_false_right, slot_eqb_true, slot_eqb_sym, slot_eqb_apart, slot_ltb_total, slot_ltb_trans, slot_ltb_eqb}

-- Right awaiting slots --------------------------------------------------------------------------------

-- The parts of right awaiting slots after a given one.
record FromOk (s : Slot) (w : Pending) (q : List Pending) : Type 0 where
  above : slot_ltb s w.slot ≡ true
  fit : slot_fits w.slot ≡ true
  waits : ltb 0 w.waiters ≡ true
  rest : pending_ok_from w.slot q ≡ true

from_ok : (s : Slot) (w : Pending) (q : List Pending) → pending_ok_from s (w ∷ q) ≡ true → FromOk s w q
unfolding pending_ok_from
from_ok s w q e =
    let x : Bool = slot_ltb s w.slot in
    let y : Bool = slot_fits w.slot in
    let z : Bool = ltb 0 w.waiters in
    record { above = and_left x _ e; fit = and_left y _ (and_right x _ e); waits = and_left z _ (and_right y _ (and_right x _ e)); rest = and_right z _ (and_right y _ (and_right x _ e)) }

-- Without the given slot, and for a lower one.
pending_ok_any : (s : Slot) (q : List Pending) → pending_ok_from s q ≡ true → pending_ok q ≡ true
unfolding pending_ok_from pending_ok
pending_ok_any s [] e = refl
pending_ok_any s (w ∷ q) e = and_right (slot_ltb s w.slot) _ e

pending_ok_lower : (a s : Slot) (q : List Pending) → slot_ltb a s ≡ true → pending_ok_from s q ≡ true → pending_ok_from a q ≡ true
unfolding pending_ok_from
pending_ok_lower a s [] h e = refl
pending_ok_lower a s (w ∷ q) h e = rw (slot_ltb_trans a s w.slot h (and_left (slot_ltb s w.slot) _ e)) (and_right (slot_ltb s w.slot) _ e)

pending_ok_rest : (w : Pending) (q : List Pending) → pending_ok (w ∷ q) ≡ true → pending_ok_from w.slot q ≡ true
unfolding pending_ok
pending_ok_rest w q e = and_right (ltb 0 w.waiters) _ (and_right (slot_fits w.slot) _ e)

-- join ------------------------------------------------------------------------------------------------

join_ok_from : (a s : Slot) (q : List Pending) → slot_ltb a s ≡ true → slot_fits s ≡ true → pending_ok_from a q ≡ true → pending_ok_from a (join s q) ≡ true
unfolding pending_ok_from join
join_ok_from a s [] h f e = rw (h, f)
join_ok_from a s (w ∷ q) h f e =
    let k : FromOk a w q = from_ok a w q e in
    split (slot_eqb w.slot s)
    (λ y. rw (y, h, f, lt-ltb 0 (suc w.waiters) (omega arith)) (rw (slot_eqb_true w.slot s y) at k.rest))
    (λ y. rw y (split (slot_ltb s w.slot)
    (λ z. rw (z, h, f, z, k.fit, k.waits, k.rest))
    (λ z. rw (z, k.above, k.fit, k.waits) (join_ok_from w.slot s q (slot_ltb_total w.slot s y z) f k.rest))))

pub join_ok : (s : Slot) (q : List Pending) → slot_fits s ≡ true → pending_ok q ≡ true → pending_ok (join s q) ≡ true
unfolding pending_ok_from pending_ok join
join_ok s [] f e = rw f
join_ok s (w ∷ q) f e =
    let r : pending_ok_from w.slot q ≡ true = pending_ok_rest w q e in
    let a : slot_fits w.slot ≡ true = and_left (slot_fits w.slot) _ e in
    let b : ltb 0 w.waiters ≡ true = and_left (ltb 0 w.waiters) _ (and_right (slot_fits w.slot) _ e) in
    split (slot_eqb w.slot s)
    (λ y. rw (y, f, lt-ltb 0 (suc w.waiters) (omega arith)) (rw (slot_eqb_true w.slot s y) at r))
    (λ y. rw y (split (slot_ltb s w.slot)
    (λ z. rw (z, f, z, a, b, r))
    (λ z. rw (z, a, b) (join_ok_from w.slot s q (slot_ltb_total w.slot s y z) f r))))

-- One waiter more.
pub all_waiters_join : (s : Slot) (q : List Pending) → all_waiters (join s q) ≡ suc (all_waiters q)
unfolding all_waiters join
all_waiters_join s [] = refl
all_waiters_join s (w ∷ q) =
    split (slot_eqb w.slot s)
    (λ y. rw y (omega arith))
    (λ y. rw y (split (slot_ltb s w.slot) (λ z. rw z (omega arith)) (λ z. rw z (omega (arith, all_waiters_join s q)))))

-- A slot below all awaiting ones does not await.
not_awaiting_below : (s a : Slot) (q : List Pending) → slot_ltb s a ≡ true → pending_ok_from a q ≡ true → is_awaiting s q ≡ false
unfolding is_awaiting
not_awaiting_below s a [] h e = refl
not_awaiting_below s a (w ∷ q) h e =
    let k : FromOk a w q = from_ok a w q e in
    let l : slot_ltb s w.slot ≡ true = slot_ltb_trans s a w.slot h k.above in
    rw (slot_eqb_sym w.slot s, slot_ltb_eqb s w.slot l) (not_awaiting_below s w.slot q l k.rest)

-- A slot that awaits already adds none.
pub length_join : (s : Slot) (q : List Pending) → pending_ok q ≡ true → length (join s q) ≡ cond (is_awaiting s q) (length q) (suc (length q))
unfolding is_awaiting join
length_join s [] e = refl
length_join s (w ∷ q) e =
    let r : pending_ok_from w.slot q ≡ true = pending_ok_rest w q e in
    split (slot_eqb w.slot s)
    (λ y. rw y)
    (λ y. rw y (split (slot_ltb s w.slot)
    (λ z. rw (z, not_awaiting_below s w.slot q z r))
    (λ z. rw (z, length_join s q (pending_ok_any w.slot q r)) (split (is_awaiting s q) (λ x. rw x) (λ x. rw x)))))

-- take ------------------------------------------------------------------------------------------------

take_ok_from : (s : Slot) (q : List Pending) → pending_ok_from s (take_queued q) ≡ pending_ok_from s q
unfolding pending_ok_from take_queued
take_ok_from s [] = refl
take_ok_from s (w ∷ q) = rw (take_ok_from w.slot q)

pub take_ok : (q : List Pending) → pending_ok (take_queued q) ≡ pending_ok q
unfolding pending_ok take_queued
take_ok [] = refl
take_ok (w ∷ q) = rw (take_ok_from w.slot q)

pub all_waiters_take : (q : List Pending) → all_waiters (take_queued q) ≡ all_waiters q
unfolding all_waiters take_queued
all_waiters_take [] = refl
all_waiters_take (w ∷ q) = rw (all_waiters_take q)

pub length_take_queued : (q : List Pending) → length (take_queued q) ≡ length q
unfolding take_queued
length_take_queued [] = refl
length_take_queued (w ∷ q) = rw (length_take_queued q)

-- answer ----------------------------------------------------------------------------------------------

remove_ok_from : (a s : Slot) (q : List Pending) → pending_ok_from a q ≡ true → pending_ok_from a (remove_pending s q) ≡ true
unfolding pending_ok_from remove_pending
remove_ok_from a s [] e = refl
remove_ok_from a s (w ∷ q) e =
    let k : FromOk a w q = from_ok a w q e in
    split (slot_eqb w.slot s)
    (λ y. rw y (pending_ok_lower a w.slot q k.above k.rest))
    (λ y. rw (y, k.above, k.fit, k.waits) (remove_ok_from w.slot s q k.rest))

remove_ok : (s : Slot) (q : List Pending) → pending_ok q ≡ true → pending_ok (remove_pending s q) ≡ true
unfolding pending_ok remove_pending
remove_ok s [] e = refl
remove_ok s (w ∷ q) e =
    let r : pending_ok_from w.slot q ≡ true = pending_ok_rest w q e in
    split (slot_eqb w.slot s)
    (λ y. rw y (pending_ok_any w.slot q r))
    (λ y. rw (y, and_left (slot_fits w.slot) _ e, and_left (ltb 0 w.waiters) _ (and_right (slot_fits w.slot) _ e)) (remove_ok_from w.slot s q r))

pub remove_all_ok : (ss : List Slot) (q : List Pending) → pending_ok q ≡ true → pending_ok (remove_all_pending ss q) ≡ true
unfolding remove_all_pending
remove_all_ok [] q e = e
remove_all_ok (s ∷ ss) q e = remove_all_ok ss (remove_pending s q) (remove_ok s q e)

-- The removal of a slot leaves what is known of others.
waiters_of_remove : (s t : Slot) (q : List Pending) → slot_eqb s t ≡ false → waiters_of t (remove_pending s q) ≡ waiters_of t q
unfolding waiters_of remove_pending
waiters_of_remove s t [] d = refl
waiters_of_remove s t (w ∷ q) d =
    split (slot_eqb w.slot s)
    (λ y. rw (y, slot_eqb_apart s w.slot t (rw slot_eqb_sym y) d))
    (λ y. rw y (split (slot_eqb w.slot t) (λ z. rw z) (λ z. rw z (waiters_of_remove s t q d))))

is_taken_remove : (s t : Slot) (q : List Pending) → slot_eqb s t ≡ false → is_taken t (remove_pending s q) ≡ is_taken t q
unfolding is_taken remove_pending
is_taken_remove s t [] d = refl
is_taken_remove s t (w ∷ q) d =
    split (slot_eqb w.slot s)
    (λ y. rw (y, slot_eqb_apart s w.slot t (rw slot_eqb_sym y) d))
    (λ y. rw y (split (slot_eqb w.slot t) (λ z. rw z) (λ z. rw z (is_taken_remove s t q d))))

woken_remove : (s : Slot) (ss : List Slot) (q : List Pending) → mem s ss ≡ false → woken ss (remove_pending s q) ≡ woken ss q
unfolding woken mem
woken_remove s [] q d = refl
woken_remove s (t ∷ ss) q d =
    rw (waiters_of_remove s t q (rw slot_eqb_sym (or_false_left (slot_eqb t s) (mem s ss) d)), woken_remove s ss q (or_false_right (slot_eqb t s) (mem s ss) d))

all_taken_remove : (s : Slot) (ss : List Slot) (q : List Pending) → mem s ss ≡ false → all_taken ss (remove_pending s q) ≡ all_taken ss q
unfolding all_taken mem
all_taken_remove s [] q d = refl
all_taken_remove s (t ∷ ss) q d =
    rw (is_taken_remove s t q (rw slot_eqb_sym (or_false_left (slot_eqb t s) (mem s ss) d)), all_taken_remove s ss q (or_false_right (slot_eqb t s) (mem s ss) d))

-- The removal of a slot takes away its waiters and, if it awaited, one slot.
all_waiters_remove : (s : Slot) (q : List Pending) → all_waiters (remove_pending s q) + waiters_of s q ≡ all_waiters q
unfolding all_waiters remove_pending waiters_of
all_waiters_remove s [] = refl
all_waiters_remove s (w ∷ q) =
    split (slot_eqb w.slot s) (λ y. rw y (omega arith)) (λ y. rw y (omega (arith, all_waiters_remove s q)))

length_remove : (s : Slot) (q : List Pending) → is_taken s q ≡ true → suc (length (remove_pending s q)) ≡ length q
unfolding remove_pending is_taken
length_remove s [] e = not_both e refl
length_remove s (w ∷ q) e =
    split (slot_eqb w.slot s) (λ y. rw y) (λ y. rw y (omega (arith, length_remove s q (rw y at e))))

-- Distinct slots: their waiters go.
pub all_waiters_remove_all : (ss : List Slot) (q : List Pending) → has_duplicate ss ≡ false → all_waiters (remove_all_pending ss q) + woken ss q ≡ all_waiters q
unfolding remove_all_pending woken has_duplicate
all_waiters_remove_all [] q d = omega arith
all_waiters_remove_all (s ∷ ss) q d =
    omega (
      arith,
      all_waiters_remove_all ss (remove_pending s q) (or_false_right (mem s ss) (has_duplicate ss) d),
      woken_remove s ss q (or_false_left (mem s ss) (has_duplicate ss) d),
      all_waiters_remove s q,
    )

-- Distinct taken slots: each was awaiting.
pub length_remove_all : (ss : List Slot) (q : List Pending) → has_duplicate ss ≡ false → all_taken ss q ≡ true → length (remove_all_pending ss q) + length ss ≡ length q
unfolding remove_all_pending all_taken has_duplicate
length_remove_all [] q d e = omega arith
length_remove_all (s ∷ ss) q d e =
    omega (
      arith,
      length_remove_all ss (remove_pending s q) (or_false_right (mem s ss) (has_duplicate ss) d) (rw (all_taken_remove s ss q (or_false_left (mem s ss) (has_duplicate ss) d)) (and_right (is_taken s q) _ e)),
      length_remove s q (and_left (is_taken s q) _ e),
    )

-- Each member gives a value or refuses.
pub woken_members : (ms : List Member) (q : List Pending) → woken (valued_slots ms) q + woken (refused_slots ms) q ≡ woken (member_slots ms) q
unfolding woken valued_slots refused_slots member_slots
woken_members [] q = refl
woken_members (m ∷ ms) q = one m.outcome (woken_members ms q)
  where
    one : (o : Option Value) → woken (valued_slots ms) q + woken (refused_slots ms) q ≡ woken (member_slots ms) q
        → woken (if_valued o m.slot (valued_slots ms)) q + woken (if_refused o m.slot (refused_slots ms)) q ≡ waiters_of m.slot q + woken (member_slots ms) q
    one None h = omega arith
    one (Some v) h = omega arith

pub length_refused : (ms : List Member) → length (refused_slots ms) ≤ length (member_slots ms)
unfolding refused_slots member_slots
length_refused [] = omega arith
length_refused (m ∷ ms) = one m.outcome (length_refused ms)
  where
    one : (o : Option Value) → length (refused_slots ms) ≤ length (member_slots ms) → length (if_refused o m.slot (refused_slots ms)) ≤ suc (length (member_slots ms))
    one None h = omega arith
    one (Some v) h = omega arith
