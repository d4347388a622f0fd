-- `unchecked_advance::carried` meets its contract. Assumes nothing.
use Rattle.unchecked_advance.proofs.Ranges.{anchor_range}
use Rattle.unchecked_advance.proofs.Begun.{carried_ready, carried_is}
use Rattle.unchecked_advance.proofs.carried.Goals as goal

pub counts_of-counted-requires : goal.counts_of-counted-requires
counts_of-counted-requires c =
    let a = c.args in
    (carried_ready a.s.now a.work.now a.child c.requires.0 (anchor_range a.child _ c.well_formed.1.0) c.requires.1 _ _ c.begin_carried-compaction.ensures).installed

pub finish-requires : goal.finish-requires
finish-requires c =
    let a = c.args in
    (carried_ready a.s.now a.work.now a.child c.requires.0 (anchor_range a.child _ c.well_formed.1.0) c.requires.1 _ _ c.begin_carried-compaction.ensures, c.requires.3, c.counts_of-counted.ensures)

pub returns : goal.returns
returns c k =
    let a = c.args in
    carried_is a.s.now a.work.now a.child c.requires.0 (anchor_range a.child _ c.well_formed.1.0) c.requires.1 _ _ c.begin_carried-compaction.ensures _ _ _ a.out.now a.addresses.now a.writes.now _ k c.counts_of-counted.ensures c.finish.ensures
