-- `store::install` meets its contract: 20, or what `unchecked_calls::install` does. Assumes nothing.
use Rattle.model.specs.Store.{install}
use Rattle.unchecked_reads.proofs.Said.{stepped}
use Rattle.store.proofs.Checked.{a_store, refused_20}
use Rattle.store.proofs.install.Goals as goal

pub returns-then-not-is_store : goal.returns-then-not-is_store
returns-then-not-is_store c =
    let a = c.args in
    stepped (refused_20 a.s.now _ c.is_store.ensures (install a.anchor) 0 0 c.if-not-is_store.true)

pub install-requires : goal.install-requires
install-requires c = a_store c.args.s.now c.is_store.result c.is_store.ensures c.if-not-is_store.false
