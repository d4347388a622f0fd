-- `unchecked_advance::count_after` meets its contract. Assumes nothing.
use mathlib.Core.Path.{sym, ◌∙◌}
use Rattle.unchecked_advance.proofs.AppliedLaws.{no_output}
use Rattle.unchecked_advance.proofs.count_after.Goals as goal

pub returns-then-applied-eq0 : goal.returns-then-applied-eq0
returns-then-applied-eq0 c = (no_output _ c.args.out.now (sym c.requires.counts_before.applied_is ∙ c.if-applied-eq0.true), c.requires.counts_before.counts_are c.if-applied-eq0.true)

pub returns : goal.returns
returns c = (c.write_outputs.ensures.0, c.counts_of.ensures)
