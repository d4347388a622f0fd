-- `checking::zero` meets its contract.
use native.Mathlib.Omega.{arith}
use mathlib.Core.Path.{sym, ap, ◌∙◌}
use Prim.Native.Nat.{ℕ, ◌-◌}
use lib.ListN.{take, drop}
use Rattle.checking.specs.Checks.{all_zero}
use Rattle.checking.proofs.Steps.{zero_next, zero_end, drop_take}
use Rattle.checking.proofs.zero.Goals as goal

pub loop-b-preserved : goal.loop-b-preserved
loop-b-preserved c =
    let a = c.args in
    c.loop-b.invariant ∙ zero_next (take (a.to - a.from) (drop a.from a.s.now)) c.loop-b.m c.loop-b.b-index c.loop-b-test.true

pub returns : goal.returns
returns c =
    let a = c.args in
    let l = take (a.to - a.from) (drop a.from a.s.now) in
    sym (zero_end l c.loop-b.m c.loop-b.b-index c.loop-b-test.false) ∙ sym c.loop-b.invariant
    ∙ ap all_zero (sym (drop_take a.from (a.to - a.from) a.s.now (omega arith)) ∙ ap (λ (k : ℕ). drop a.from (take k a.s.now)) (omega arith))
