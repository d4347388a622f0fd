-- The loop of `final_writes::counts_sum`: what is left of the total and the counts so far are the total.
use mathlib.Core.Path.{◌≡◌}
use Prim.Native.Nat.{◌+◌}
use lib.ListN.{drop}
use Rattle.model.specs.Entries.{number_at}
use Rattle.entries.specs.Lists.{all_entries}
use Rattle.bal_entries.specs.Listed.{sum}
use Rattle.final_writes.proofs.counts_sum.Given as goal

abbrev pub invariant-loop-i : goal.invariant-loop-i
invariant-loop-i l = l.total + sum (drop l.i (all_entries (number_at l.at 8) l.width l.list)) ≡ l.left + sum (all_entries (number_at l.at 8) l.width l.list)
