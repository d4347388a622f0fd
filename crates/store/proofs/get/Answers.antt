-- `store::get` meets its contract: 20, or what `unchecked_calls::get` does. Assumes nothing.
use Rattle.model.specs.Store.{at_anchor, get, on_slot}
use Rattle.unchecked_reads.proofs.Said.{stepped}
use Rattle.store.proofs.Checked.{a_store, refused_20}
use Rattle.store.proofs.get.Goals as goal

pub returns-then-not-is_store : goal.returns-then-not-is_store
returns-then-not-is_store c =
    let a = c.args in
    stepped (refused_20 a.s.now _ c.is_store.ensures (at_anchor a.anchor (on_slot (get a.slot))) 0 0 c.if-not-is_store.true)

pub get-requires : goal.get-requires
get-requires c = a_store c.args.s.now c.is_store.result c.is_store.ensures c.if-not-is_store.false
