-- The loop of `words::move_down`: what it keeps.
use mathlib.Core.Path.{◌≡◌}
use Prim.Native.Nat.{◌+◌}
use lib.Seq.{paste}
use Rattle.words.specs.Parts.{part}
use Rattle.words.proofs.move_down.Given as goal

abbrev pub invariant-loop-j : goal.invariant-loop-j
invariant-loop-j l = l.s ≡ paste l.initial.s l.at (part (l.at + l.by) l.n l.initial.s) l.j
