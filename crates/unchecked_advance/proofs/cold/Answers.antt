-- `unchecked_advance::cold` meets its contract. Assumes nothing.
use Rattle.unchecked_advance.proofs.Ranges.{anchor_range}
use Rattle.unchecked_advance.proofs.Begun.{cold_ready, cold_is}
use Rattle.unchecked_advance.proofs.cold.Goals as goal

pub counts_of-counted-requires : goal.counts_of-counted-requires
counts_of-counted-requires c =
    let a = c.args in
    (cold_ready a.s.now a.work.now a.child c.requires.0 (anchor_range a.child _ c.well_formed.1.0) _ c.begin_cold.ensures).installed

pub finish-requires : goal.finish-requires
finish-requires c =
    let a = c.args in
    (cold_ready a.s.now a.work.now a.child c.requires.0 (anchor_range a.child _ c.well_formed.1.0) _ c.begin_cold.ensures, c.requires.2, c.counts_of-counted.ensures)

pub returns : goal.returns
returns c k q =
    let a = c.args in
    cold_is a.s.now a.work.now a.child c.requires.0 (anchor_range a.child _ c.well_formed.1.0) _ c.begin_cold.ensures _ _ _ a.out.now a.addresses.now a.writes.now a.lineage a.skip k q c.finish.ensures
