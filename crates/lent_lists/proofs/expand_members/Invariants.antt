-- The loop of `lent_lists::expand_members`: what it keeps.
use Rattle.lent_lists.proofs.Members.{Putting}
use Rattle.lent_lists.proofs.expand_members.Given as goal

abbrev pub invariant-loop-k : goal.invariant-loop-k
invariant-loop-k l = Putting l.list l.fn.span l.members l.at l.k
