-- `store::answer_failed` meets its contract: 20, or what `unchecked_reads::answer_failed` does. Assumes nothing.
use Rattle.model.specs.Entries.{slots_of}
use Rattle.model.specs.Store.{at_anchor, answer_failed}
use Rattle.unchecked_reads.proofs.Said.{stepped}
use Rattle.store.proofs.Checked.{a_store, refused_20}
use Rattle.store.proofs.answer_failed.Goals as goal

pub returns-then-not-is_store : goal.returns-then-not-is_store
returns-then-not-is_store c =
    let a = c.args in
    stepped (refused_20 a.s.now _ c.is_store.ensures (at_anchor a.anchor (answer_failed (slots_of a.slots.now))) 0 0 c.if-not-is_store.true)

pub answer_failed-requires : goal.answer_failed-requires
answer_failed-requires c =
    let a = c.args in
    a_store a.s.now _ c.is_store.ensures c.if-not-is_store.false
