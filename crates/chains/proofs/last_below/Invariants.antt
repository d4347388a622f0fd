-- The loop of `chains::last_below`: what it keeps, and its measure.
use Rattle.chains.proofs.ChainLaws.{Walking}
use Rattle.chains.proofs.last_below.Given as goal

abbrev pub invariant-loop-p : goal.invariant-loop-p
invariant-loop-p l = Walking l.s l.i l.p

abbrev pub decreases-loop-p : goal.decreases-loop-p
decreases-loop-p l = l.left
