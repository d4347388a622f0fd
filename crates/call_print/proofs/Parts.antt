-- What a run's answer says of the part that it makes. Assumes nothing.
use Rattle.std.specs.Prelude.{Option, None, Some, Ok, Err, is_some}
use Prim.Native.Nat.{ℕ, suc, ◌-◌, ◌≤◌, ◌<◌}
use mathlib.Core.Path.{◌≡◌, refl, sym, ap, subst, ◌∙◌}
use mathlib.Core.Bool.{true, false, true≢false}
use mathlib.Core.List.{List}
use native.Mathlib.Nat.{min-le_left, min-le_right}
use native.Mathlib.Omega.{arith}
use borrow.Author.Tests.{leb-true, leb-false}
use lib.ListN.{length, take, length-take}
use Rattle.reader.specs.declared.Cursor.{Cursor}
use Rattle.model.specs.declared.refusal.Refusal.{Refusal}
use Rattle.call_run.specs.Run.{RunReply}
use Rattle.call_run.specs.declared.RunEnd.TheVariants.{Listed, Broken}
use Rattle.call_run.specs.Run.{too_short, RunTo, RanAs}
use Rattle.call_run.specs.Program.{last_run, broken_run}
use Rattle.call_run.proofs.Room.{long_enough}
use Rattle.call_run.proofs.Ends.{ran_forward}
use Rattle.call_print.specs.declared.Part.{Part}
use Rattle.call_print.specs.Part.{PartAs}

-- The place in an option, or 0.
place : Option ℕ → ℕ
place None = 0
place (Some n) = n

module _ (w e : ℕ) (list : List ℕ) (from : ℕ) (members before out after out_after : List ℕ) (r : RunReply) (h : RanAs r w e list from members before out after out_after) where
  -- A run to the list's end.
  pub part_last : (next : Cursor) (written : ℕ) → r ≡ Ok (Listed next written true) → PartAs (record { next = None; written = written }) w e list from before out after out_after
  part_last next written q =
      let k : RanAs (Ok (Listed next written true)) w e list from members before out after out_after = subst (λ (x : RunReply). RanAs x w e list from members before out after out_after) q h in
      let u : RunTo w e list from next.at None written before out after out_after = k.1 in
      record {
        last_is = λ x. last_run u (leb-true (length list) next.at (sym k.2));
        more_is = λ n x. absurd (true≢false (sym (ap (λ (o : Option ℕ). is_some o) x)));
        within = omega (arith, u.written_within, u.same_length);
      }

  -- A run that stopped before it.
  pub part_more : (next : Cursor) (written : ℕ) → r ≡ Ok (Listed next written false) → PartAs (record { next = Some next.at; written = written }) w e list from before out after out_after
  unfolding place
  part_more next written q =
      let k : RanAs (Ok (Listed next written false)) w e list from members before out after out_after = subst (λ (x : RunReply). RanAs x w e list from members before out after out_after) q h in
      let u : RunTo w e list from next.at None written before out after out_after = k.1 in
      record {
        last_is = λ x. absurd (true≢false (ap (λ (o : Option ℕ). is_some o) x));
        more_is = λ n x. subst (λ (m : ℕ). RunTo w e list from m None written before out after out_after × (from < m) × (m < length list)) (ap place x)
            (u, ran_forward u (long_enough list members out k.0).0 (k.3 refl), leb-false (length list) next.at (sym k.2));
        within = omega (arith, u.written_within, u.same_length);
      }

  -- A run that a fault ended.
  pub part_broken : (n : ℕ) (place : Cursor) (written : ℕ) → r ≡ Ok (Broken n place written) → PartAs (record { next = None; written = written }) w e list from before out after out_after
  part_broken n place written q =
      let k : RanAs (Ok (Broken n place written)) w e list from members before out after out_after = subst (λ (x : RunReply). RanAs x w e list from members before out after out_after) q h in
      let u = k.1.1 in
      record {
        last_is = λ x. broken_run u k.1.2;
        more_is = λ n x. absurd (true≢false (sym (ap (λ (o : Option ℕ). is_some o) x)));
        within = omega (arith, u.written_within, u.same_length);
      }

-- The bytes that are taken are the list's, and few enough.
pub taken_within : (list : List ℕ) → (length (take 65536 list) ≤ length list) × (length (take 65536 list) ≤ 65536)
taken_within list = (omega (arith, length-take 65536 list, min-le_right 65536 (length list)), omega (arith, length-take 65536 list, min-le_left 65536 (length list)))

-- What is left of a list of n bytes from a next place on, and that it falls.
abbrev pub left : ℕ → Option ℕ → ℕ
left n None = 0
left n (Some a) = suc (n - a)

pub falls : (x y : Option ℕ) (n a : ℕ) → x ≡ Some a → ((b : ℕ) → y ≡ Some b → (a < b) × (b < n)) → left n y < left n x
falls x None n a e h = omega (arith, ap (left n) e)
falls x (Some b) n a e h = omega (arith, ap (left n) e, (h b refl).0, (h b refl).1)
