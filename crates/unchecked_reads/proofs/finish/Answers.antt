-- `unchecked_reads::finish` meets its contract.
use Rattle.unchecked_reads.proofs.Answering.{answer_counts, answer_done}
use Rattle.unchecked_reads.proofs.Counts.{valued_few}
use Rattle.unchecked_reads.proofs.finish.Goals as goal

pub overflow_sub-w : goal.overflow_sub-w
overflow_sub-w c = valued_few _ c.requires.0 c.args.list.now _ _ _ (rw c.awaiting_in-awaiting.ensures.slots_are at c.woken-w.ensures) (rw c.awaiting_in-awaiting.ensures.slots_are at c.woken_valued-valued.ensures) c.refused_members-errors.ensures

pub record_answer-requires : goal.record_answer-requires
record_answer-requires c =
    let h = c.requires in
    answer_counts h.0 c.args.list.now h.1 h.2 h.3 c.awaiting_in-awaiting.ensures.slots_are c.woken-w.ensures c.woken_valued-valued.ensures c.refused_members-errors.ensures c.settle_members.ensures c.remove_all.ensures

pub returns : goal.returns
returns c =
    let h = c.requires in
    answer_done h.0 c.args.list.now h.1 h.2 h.3 c.awaiting_in-awaiting.ensures.slots_are c.woken-w.ensures c.woken_valued-valued.ensures c.refused_members-errors.ensures c.settle_members.ensures c.remove_all.ensures c.record_answer.ensures
