-- The loop of `seed::note`: what it keeps.
use Rattle.seed.specs.Rising.{Noted}
use Rattle.seed.proofs.note.Given as goal

abbrev pub invariant-loop-i : goal.invariant-loop-i
invariant-loop-i l = Noted l.i l.table l.addresses
