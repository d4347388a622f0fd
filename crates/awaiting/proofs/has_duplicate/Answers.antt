-- `awaiting::has_duplicate` meets its contract.
use mathlib.Core.Path.{sym, ◌∙◌}
use Rattle.awaiting.proofs.Entries.{duplicate_more, duplicate_none}
use Rattle.awaiting.proofs.has_duplicate.Goals as goal

pub returns-then-names : goal.returns-then-names
returns-then-names g c = sym (rw c.if-names.true at (duplicate_more _ _ _ _ _ _ g.E.ListEntry.wide (rw c.WIDTH.ensures at c.in-Some.ensures.cases) c.read_slot.ensures c.names.ensures)) ∙ c.loop-entry.invariant

pub loop-entry-preserved : goal.loop-entry-preserved
loop-entry-preserved g c = sym (rw c.if-names.false at (duplicate_more _ _ _ _ _ _ g.E.ListEntry.wide (rw c.WIDTH.ensures at c.in-Some.ensures.cases) c.read_slot.ensures c.names.ensures)) ∙ c.loop-entry.invariant

pub returns : goal.returns
returns g c = sym (duplicate_none g.E.ListEntry.WIDTH c.loop-entry.rest.now (rw c.WIDTH.ensures at c.in_default.ensures.cases)) ∙ c.loop-entry.invariant
