-- `unchecked_reads::wait` meets its contract.
use native.Mathlib.Omega.{arith}
use Rattle.unchecked_reads.proofs.Counts.{one_more}
use Rattle.unchecked_reads.proofs.Reading.{read_refused, may_join, waiting_counts, read_waits}
use Rattle.unchecked_reads.proofs.wait.Goals as goal

pub returns-then-queue_full : goal.returns-then-queue_full
returns-then-queue_full c = read_refused c.requires.0 c.args.slot (rw (rw c.awaiting_in-awaiting.ensures.slots_are at c.is_awaiting-joined.ensures) at c.queue_full.ensures) c.requires.1 c.if-queue_full.true

pub join-requires : goal.join-requires
join-requires c = (c.requires.0.installed, may_join c.requires.0 c.args.slot (rw (rw c.awaiting_in-awaiting.ensures.slots_are at c.is_awaiting-joined.ensures) at c.queue_full.ensures) c.if-queue_full.false)

pub record_read-requires : goal.record_read-requires
record_read-requires c = waiting_counts c.requires.0 c.args.slot (rw (rw c.awaiting_in-awaiting.ensures.slots_are at c.is_awaiting-joined.ensures) at c.queue_full.ensures) c.if-queue_full.false c.join.ensures

pub overflow_add-result : goal.overflow_add-result
overflow_add-result c = omega (arith, one_more _ c.requires.0.installed c.args.slot c.waiters-w.result (rw c.awaiting_in-awaiting.ensures.slots_are at c.waiters-w.ensures))

pub returns : goal.returns
returns c =
    read_waits c.requires.0 c.args.slot (rw (rw c.awaiting_in-awaiting.ensures.slots_are at c.is_awaiting-joined.ensures) at c.queue_full.ensures) c.if-queue_full.false c.join.ensures c.requires.1 c.awaiting_in-awaiting.ensures.slots_are c.is_awaiting-joined.ensures _ c.waiters-w.ensures c.record_read.ensures
