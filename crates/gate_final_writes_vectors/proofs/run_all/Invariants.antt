-- No more differ than ran.
use Rattle.std.proofs.Common.{◌≤◌}
use Rattle.gate_final_writes_vectors.proofs.run_all.Given as goal

abbrev pub invariant-loop-run : goal.invariant-loop-run
invariant-loop-run g l = l.different ≤ l.run
