-- `store::advance` meets its contract: 20, or what `unchecked_advance::advance` does. Assumes nothing.
use Prim.Native.Nat.{◌/◌}
use lib.ListN.{length}
use Rattle.model.specs.Store.{advance}
use Rattle.image.proofs.Lent.{decoded_some}
use Rattle.replies.specs.Replies.{lent_prepared}
use Rattle.store.proofs.Checked.{a_store, refused_20, advanced_none}
use Rattle.store.proofs.advance.Goals as goal

pub returns : goal.returns
returns c =
    let a = c.args in
    advanced_none (refused_20 a.s.now _ c.is_store.ensures (advance a.child a.parent_hash (lent_prepared a.skip a.addresses.now a.writes.now)) (length a.work.now) (length a.out.now / 52) c.if-is_store.false)

pub advance-requires : goal.advance-requires
advance-requires c =
    let a = c.args in
    decoded_some _ (a_store a.s.now _ c.is_store.ensures c.if-is_store.true)
