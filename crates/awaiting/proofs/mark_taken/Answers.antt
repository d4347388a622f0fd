-- `awaiting::mark_taken` meets its contract.
use native.Mathlib.Omega.{arith}
use mathlib.Core.Path.{refl, sym, ◌∙◌}
use Rattle.awaiting.proofs.Entries.{mark_start, mark_step, mark_end}
use Rattle.awaiting.proofs.mark_taken.Goals as goal

pub loop-i-init : goal.loop-i-init
loop-i-init c = (refl, mark_start c.args.n c.args.s.now)

pub loop-i-preserved : goal.loop-i-preserved
loop-i-preserved c =
    let m = mark_step c.args.n c.loop-i.i c.args.s.now c.loop-i.s _ c.requires (omega arith) c.loop-i.auto.s c.loop-i.invariant.0 c.write_u64.ensures in
    (m.0, m.1 ∙ c.loop-i.invariant.1)

pub returns : goal.returns
returns c = sym (mark_end c.args.n c.loop-i.i c.args.s.now c.loop-i.s (omega arith)) ∙ c.loop-i.invariant.1
