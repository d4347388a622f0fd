-- `poxilme::poxilme_look` meets its contract: 9, or what `store::look` does. Assumes nothing.
use Rattle.image.specs.Image.{bytes_step}
use Rattle.lent_calls.proofs.Giving.{given_by, look_given}
use Rattle.lent_calls.proofs.Joining.{fit, exported, stepped_as}
use Rattle.lent_calls.specs.Arguments.{slot_enough}
use Rattle.model.specs.Store.{on_store, at_anchor, on_slot, look}
use Rattle.model.specs.declared.delta_snapshot.Slot.{Slot}
use Rattle.model.specs.declared.storage_memo.ReadAnchor.{ReadAnchor}
use Rattle.replies.specs.Replies.{alone}
use mathlib.Core.Path.{ap₂}
use Rattle.poxilme.proofs.poxilme_look.Goals as goal

pub returns : goal.returns
returns c =
    let a = c.args in
    let st = stepped_as (ap₂ (λ (x : ReadAnchor) (y : Slot). bytes_step a.s.now (alone (on_store (at_anchor x (on_slot (look y)))))) c.anchor-anchor.ensures c.slot.ensures) c.look-r.ensures in
    exported a.s.now a.reply.now _ {fits = slot_enough a.hash.now a.slot.now a.reply.now} (fit c.slot_enough.ensures c.if-not-slot_enough.false) (given_by (look_given c.look-r.result) c.write_reply.ensures) st
