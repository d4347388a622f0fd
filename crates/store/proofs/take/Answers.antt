-- `store::take` meets its contract: 20, or what `unchecked_reads::take` does. Assumes nothing.
use Prim.Native.Nat.{◌/◌}
use lib.ListN.{length}
use Rattle.model.specs.Store.{at_anchor, take}
use Rattle.unchecked_reads.proofs.Said.{took_none}
use Rattle.store.proofs.Checked.{a_store, refused_20}
use Rattle.store.proofs.take.Goals as goal

pub returns-then-not-is_store : goal.returns-then-not-is_store
returns-then-not-is_store c =
    let a = c.args in
    took_none (refused_20 a.s.now _ c.is_store.ensures (at_anchor a.anchor take) 0 (length a.out.now / 52) c.if-not-is_store.true)

pub take-requires : goal.take-requires
take-requires c = a_store c.args.s.now c.is_store.result c.is_store.ensures c.if-not-is_store.false
