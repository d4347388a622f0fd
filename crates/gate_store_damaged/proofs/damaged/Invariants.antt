-- At most as many looks were counted as bytes were passed.
use Rattle.std.proofs.Common.{◌≤◌}
use Rattle.gate_store_damaged.specs.Tally.{total}
use Rattle.gate_store_damaged.proofs.damaged.Given as goal

abbrev pub invariant-loop-i : goal.invariant-loop-i
invariant-loop-i g l = total l.t ≤ l.i
