-- `chains::last_below` meets its contract.
use mathlib.Core.Path.{sym, ◌∙◌}
use Prim.Native.Nat.{◌-◌}
use native.Mathlib.Omega.{arith}
use Rattle.chains.proofs.ChainLaws.{walk_start, walk_on, walk_found}
use Rattle.chains.proofs.last_below.Goals as goal

pub loop-p-init : goal.loop-p-init
loop-p-init c =
    let a = c.args in
    walk_start a.s.now a.i a.b _ c.requires.2 (c.requires.4.heads a.b c.requires.3)

pub returns-then-same_slot : goal.returns-then-same_slot
returns-then-same_slot c =
    let a = c.args in
    walk_found a.s.now a.i (c.loop-p.p - 1) c.loop-p.p (omega arith) c.loop-p.invariant (sym c.if-same_slot.true ∙ c.same_slot.ensures)

pub loop-p-preserved : goal.loop-p-preserved
loop-p-preserved c =
    let a = c.args in
    walk_on a.s.now a.i (c.loop-p.p - 1) c.loop-p.p _ (omega arith) c.loop-p.invariant (sym c.if-same_slot.false ∙ c.same_slot.ensures) (c.requires.4.prevs (c.loop-p.p - 1) (omega (arith, c.loop-p.invariant.low)))
