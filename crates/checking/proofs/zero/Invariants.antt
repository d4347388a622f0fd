-- The loop of `checking::zero`: what it keeps.
use mathlib.Core.Path.{◌≡◌}
use mathlib.Core.Bool.{◌&&◌}
use lib.ListN.{drop}
use lib.Dec.{eqb}
use Rattle.checking.specs.Checks.{all_zero}
use Rattle.checking.proofs.zero.Given as goal

abbrev pub invariant-loop-b : goal.invariant-loop-b
invariant-loop-b l = all_zero l.b-items ≡ (eqb l.m 0 && all_zero (drop l.b-index l.b-items))
