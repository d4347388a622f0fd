-- The place is in the list, and what is left falls.
use Rattle.std.proofs.Common.{◌-◌, ◌≤◌, length}
use Rattle.gate_recorded_calls.proofs.print_calls.Given as goal

abbrev pub invariant-loop-at : goal.invariant-loop-at
invariant-loop-at g l = l.at ≤ length l.list

abbrev pub decreases-loop-at : goal.decreases-loop-at
decreases-loop-at g l = length l.list - l.at
