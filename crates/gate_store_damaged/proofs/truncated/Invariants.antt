-- As many looks were counted as bytes were passed.
use Rattle.std.proofs.Common.{◌≤◌}
use Rattle.gate_store_damaged.specs.Tally.{total}
use Rattle.gate_store_damaged.proofs.truncated.Given as goal

abbrev pub invariant-loop-n : goal.invariant-loop-n
invariant-loop-n l = total l.t ≤ l.n
