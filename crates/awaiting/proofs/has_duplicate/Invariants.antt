-- The loop of `awaiting::has_duplicate`: what it keeps, and its measure.
use mathlib.Core.Path.{◌≡◌}
use lib.ListN.{length}
use Rattle.model.specs.Reads.{has_duplicate}
use Rattle.awaiting.specs.Awaiting.{entry_slots}
use Rattle.awaiting.proofs.has_duplicate.Given as goal

abbrev pub invariant-loop-entry : goal.invariant-loop-entry
invariant-loop-entry g l = has_duplicate (entry_slots g.E.ListEntry.WIDTH l.rest) ≡ has_duplicate (entry_slots g.E.ListEntry.WIDTH l.list)

abbrev pub decreases-loop-entry : goal.decreases-loop-entry
decreases-loop-entry g l = length l.rest
