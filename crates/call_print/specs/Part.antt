-- A part of the listing of a call list, as one run makes it.
use Rattle.std.specs.Prelude.{ℕ, ◌≤◌, ◌<◌, ◌≡◌, List, length, take, None, Some}
use Rattle.call_run.specs.Run.{RunTo}
use Rattle.call_run.specs.Program.{Printed}
use Rattle.call_print.specs.declared.Part.{Part}

-- The last part is all that is printed from a place on; another is what a run wrote, and the next part begins further on.
pub record PartAs (p : Part) (w e : ℕ) (list : List ℕ) (from : ℕ) (before out after out_after : List ℕ) : Type 0 where
  pub last_is : p.next ≡ None → Printed w e list from before (take p.written out_after)
  pub more_is : (n : ℕ) → p.next ≡ Some n → RunTo w e list from n None p.written before out after out_after × (from < n) × (n < length list)
  pub within : p.written ≤ length out_after
