-- The loop of `words::move_up`: what it keeps.
use mathlib.Core.Path.{◌≡◌}
use Rattle.words.proofs.Moves.{moving}
use Rattle.words.proofs.move_up.Given as goal

abbrev pub invariant-loop-k : goal.invariant-loop-k
invariant-loop-k l = l.s ≡ moving l.at l.n l.by l.initial.s l.k
