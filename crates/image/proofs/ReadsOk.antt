-- Each call keeps the awaiting slots and the read totals of a generation right.
use Prim.Native.Nat.{ℕ, suc, ◌+◌, ◌≤◌, ◌<◌}
use native.Mathlib.Omega.{arith}
use mathlib.Core.Path.{◌≡◌, refl}
use mathlib.Core.Bool.{true, false, cond}
use mathlib.Core.List.{List, []}
use lib.Dec.{eqb, leb}
use lib.ListN.{length}
use borrow.Author.Tests.{le-leb, leb-false, eqb-false, eq-eqb}
use Rattle.model.specs.declared.delta_snapshot.Slot.{Slot}
use Rattle.model.specs.declared.read_hub.ReadTotals.{ReadTotals}
use Rattle.model.specs.Reads.{Pending, is_awaiting, join, take_queued, remove_all_pending, woken, all_taken, has_duplicate, no_reads, count_served, count_waiting, count_answer}
use Rattle.image.specs.WellFormed.{slot_fits, pending_ok, all_waiters, totals_ok}
use Rattle.model.proofs.SlotLaws.{split, and_intro}
use Rattle.image.proofs.Facts.{TotalsFacts}
use Rattle.image.proofs.PendingOk.{join_ok, all_waiters_join, length_join, take_ok, all_waiters_take, length_take_queued, remove_all_ok, all_waiters_remove_all, length_remove_all}

-- The awaiting slots and the totals of a well-formed generation.
pub record ReadsOk (q : List Pending) (t : ReadTotals) : Type 0 where
  pub pending_right : pending_ok q ≡ true
  pub few_pending : length q ≤ 64
  pub totals_add_up : TotalsFacts q t

-- From the facts back to the test.
pub totals_ok_facts : (q : List Pending) (t : ReadTotals) → TotalsFacts q t → totals_ok q t ≡ true
unfolding totals_ok
totals_ok_facts q t k =
    and_intro _ _ (le-leb _ _ k.accepted_limit) (and_intro _ _ (eq-eqb _ _ k.adds_up) (and_intro _ _ (eq-eqb _ _ k.waiting_is)
    (and_intro _ _ (eq-eqb _ _ k.members_are) (and_intro _ _ (le-leb _ _ k.rounds_limit) (le-leb _ _ k.errors_limit)))))

pub reads_ok_none : ReadsOk [] no_reads
unfolding pending_ok all_waiters
reads_ok_none = record {
  pending_right = refl;
  few_pending = omega arith;
  totals_add_up = record { accepted_limit = omega arith; adds_up = refl; waiting_is = refl; members_are = refl; rounds_limit = omega arith; errors_limit = omega arith };
}

module _ (q : List Pending) (t : ReadTotals) (k : ReadsOk q t) where
  pub reads_ok_served : leb 4294967295 t.accepted ≡ false → ReadsOk q (count_served t)
  reads_ok_served e =
      let h : t.accepted < 4294967295 = leb-false 4294967295 t.accepted e in
      record {
        pending_right = k.pending_right;
        few_pending = k.few_pending;
        totals_add_up = record { accepted_limit = omega arith; adds_up = omega arith; waiting_is = omega arith; members_are = omega arith; rounds_limit = omega arith; errors_limit = omega arith };
      }

  -- A read that waits. A new slot is not the 65th.
  pub reads_ok_waiting : (s : Slot) → slot_fits s ≡ true → leb 4294967295 t.accepted ≡ false → (is_awaiting s q ≡ false → leb 64 (length q) ≡ false) → ReadsOk (join s q) (count_waiting (is_awaiting s q) t)
  reads_ok_waiting s f e room =
      let h : t.accepted < 4294967295 = leb-false 4294967295 t.accepted e in
      let a : all_waiters (join s q) ≡ suc (all_waiters q) = all_waiters_join s q in
      let n : length (join s q) ≡ cond (is_awaiting s q) (length q) (suc (length q)) = length_join s q k.pending_right in
      record {
        pending_right = join_ok s q f k.pending_right;
        few_pending = split (is_awaiting s q) (λ y. omega (arith, rw y at n)) (λ y. omega (arith, rw y at n, leb-false 64 (length q) (room y)));
        totals_add_up = record {
          accepted_limit = omega arith;
          adds_up = omega arith;
          waiting_is = omega arith;
          rounds_limit = omega arith;
          errors_limit = omega arith;
          members_are = split (is_awaiting s q) (λ y. rw y (omega (arith, rw y at n))) (λ y. rw y (omega (arith, rw y at n)));
        };
      }

  pub reads_ok_take : ReadsOk (take_queued q) t
  reads_ok_take =
      let a : all_waiters (take_queued q) ≡ all_waiters q = all_waiters_take q in
      let n : length (take_queued q) ≡ length q = length_take_queued q in
      record {
        pending_right = rw take_ok k.pending_right;
        few_pending = omega arith;
        totals_add_up = record { accepted_limit = omega arith; adds_up = omega arith; waiting_is = omega arith; members_are = omega arith; rounds_limit = omega arith; errors_limit = omega arith };
      }

  -- An answer to distinct taken slots, of the slots that it gives a value and those that it refuses.
  pub reads_ok_answer : (ss vs rs : List Slot) (e : ℕ) → has_duplicate ss ≡ false → all_taken ss q ≡ true → woken vs q + woken rs q ≡ woken ss q → e ≤ length ss
      → ReadsOk (remove_all_pending ss q) (count_answer (length ss) e (woken vs q) (woken rs q) t)
  reads_ok_answer ss vs rs e d x w h =
      let a : all_waiters (remove_all_pending ss q) + woken ss q ≡ all_waiters q = all_waiters_remove_all ss q d in
      let n : length (remove_all_pending ss q) + length ss ≡ length q = length_remove_all ss q d x in
      record {
        pending_right = remove_all_ok ss q k.pending_right;
        few_pending = omega arith;
        totals_add_up = record {
          accepted_limit = omega arith;
          adds_up = omega arith;
          waiting_is = omega arith;
          members_are = omega arith;
          errors_limit = omega arith;
          rounds_limit = split (eqb (length ss) 0) (λ y. rw y (omega arith)) (λ y. rw y (omega (arith, eqb-false (length ss) 0 y)));
        };
      }
