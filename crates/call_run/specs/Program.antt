-- What the program `calls` prints, in parts: one run after the other.
use Rattle.std.specs.Prelude.{ℕ, ◌≤◌, ◌≡◌, List, ◌++◌, length, take, replicate, None, Some}
use Rattle.model.specs.Numbers.{Bytes}
use Rattle.model.specs.Refusals.{store_size, work_size}
use Rattle.call_list.specs.Calls.{calls_output}
use Rattle.call_run.specs.Run.{RunTo, FaultAt}

-- The program's store at first: zeros, as many as 256 records need.
abbrev pub program_bytes : List ℕ
program_bytes = replicate (store_size 256) 0

-- The text of runs, each from where the one before stopped, until the list's end or a fault.
pub data Printed (w e : ℕ) (list : List ℕ) : ℕ → List ℕ → List ℕ → Type 0 where
  last_run : {from next written : ℕ} {b out after out_after : List ℕ}
      → RunTo w e list from next None written b out after out_after → length list ≤ next → Printed w e list from b (take written out_after)
  broken_run : {from at n place written : ℕ} {b out after out_after : List ℕ}
      → RunTo w e list from at (Some n) written b out after out_after → FaultAt list at n place → Printed w e list from b (take written out_after)
  next_run : {from next written : ℕ} {b out after out_after text : List ℕ}
      → RunTo w e list from next None written b out after out_after → Printed w e list next after text
      → Printed w e list from b (take written out_after ++ text)

-- What such runs of the first 65,536 bytes of an input write is what the definition says that `calls` prints, however many runs it takes.
abbrev pub ProgramPrints : Type 0
ProgramPrints =
    (input list text : List ℕ) → Bytes list → list ≡ take 65536 input → Printed (work_size 256) 1024 list 0 program_bytes text → text ≡ calls_output input
