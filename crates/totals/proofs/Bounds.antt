-- The totals of a well-formed store meet what the functions of this crate require.
use Prim.Native.Nat.{ℕ, ◌+◌, ◌≤◌}
use mathlib.Core.Path.{◌≡◌}
use mathlib.Core.Bool.{Bool, true, false, ◌&&◌}
use mathlib.Core.List.{List}
use native.Mathlib.Omega.{arith}
use lib.Dec.{eqb, leb}
use lib.ListN.{length}
use borrow.Author.Tests.{eqb-true, leb-true}
use Rattle.model.specs.declared.delta_snapshot.Slot.{Slot}
use Rattle.model.specs.declared.read_hub.ReadTotals.{ReadTotals}
use Rattle.model.specs.Reads.{Pending, remove_all_pending, woken, all_taken, has_duplicate}
use Rattle.model.proofs.SlotLaws.{and_left, and_right}
use Rattle.image.specs.WellFormed.{all_waiters, totals_ok}
use Rattle.image.proofs.Facts.{TotalsFacts}
use Rattle.image.proofs.PendingOk.{all_waiters_remove_all, length_remove_all}
use Rattle.image.proofs.ReadsOk.{ReadsOk}
use Rattle.totals.specs.Totals.{Small, Answerable}

pub small_of : (q : List Pending) (t : ReadTotals) → TotalsFacts q t → Small t
small_of q t k =
    record {
      accepted_small = omega arith;
      served_small = omega arith;
      waiting_small = omega arith;
      valued_small = omega arith;
      refused_small = omega arith;
      rounds_small = omega arith;
      members_small = omega arith;
      errors_small = omega arith;
      coalesced_small = omega arith;
    }

-- The same from the test of a store.
pub small_if_ok : (q : List Pending) (t : ReadTotals) → totals_ok q t ≡ true → Small t
unfolding totals_ok
small_if_ok q t e =
    let a : Bool = leb t.accepted 4294967295 in
    let b : Bool = eqb t.accepted (t.served + t.waiting + t.valued + t.refused) in
    let c : Bool = eqb t.waiting (all_waiters q) in
    let d : Bool = eqb (t.coalesced + t.members + length q) (t.waiting + t.valued + t.refused) in
    let x : Bool = leb t.rounds t.members in
    let y : Bool = leb t.errors t.members in
    let e₁ : (b && (c && (d && (x && y)))) ≡ true = and_right a _ e in
    let e₂ : (c && (d && (x && y))) ≡ true = and_right b _ e₁ in
    let e₃ : (d && (x && y)) ≡ true = and_right c _ e₂ in
    let e₄ : (x && y) ≡ true = and_right d _ e₃ in
    small_of q t
    (record {
      accepted_limit = leb-true _ _ (and_left a _ e);
      adds_up = eqb-true _ _ (and_left b _ e₁);
      waiting_is = eqb-true _ _ (and_left c _ e₂);
      members_are = eqb-true _ _ (and_left d _ e₃);
      rounds_limit = leb-true _ _ (and_left x _ e₄);
      errors_limit = leb-true _ _ (and_right x _ e₄);
    })

-- An answer to distinct taken slots, of the slots that it gives a value and those that it refuses.
pub answerable : (q : List Pending) (t : ReadTotals) (ss vs rs : List Slot) (e : ℕ) → ReadsOk q t → has_duplicate ss ≡ false → all_taken ss q ≡ true → woken vs q + woken rs q ≡ woken ss q → e ≤ length ss
    → Answerable (length ss) e (woken vs q) (woken rs q) t
answerable q t ss vs rs e k d x w h =
    let a : all_waiters (remove_all_pending ss q) + woken ss q ≡ all_waiters q = all_waiters_remove_all ss q d in
    let n : length (remove_all_pending ss q) + length ss ≡ length q = length_remove_all ss q d x in
    record { totals_small = small_of q t k.totals_add_up; members_fit = omega arith; errors_fit = omega arith; wakes_waiting = omega arith }
