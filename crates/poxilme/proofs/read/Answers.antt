-- `poxilme::read` meets its contract: 9, or what the call does. Assumes nothing.
use Rattle.header.proofs.Segments.{known_bytes}
use Rattle.image.proofs.EntriesFit.{slot_of_fits}
use Rattle.image.specs.Image.{bytes_step}
use Rattle.lent_calls.proofs.Giving.{given_by, read_given}
use Rattle.lent_calls.proofs.Joining.{fit, exported, stepped_as}
use Rattle.lent_calls.proofs.Kept.{keeps}
use Rattle.header.specs.Header.{lent_anchor}
use Rattle.lent_calls.specs.Arguments.{slot_enough}
use Rattle.model.specs.Entries.{slot_of}
use Rattle.model.specs.Store.{on_store, at_anchor, on_slot, read}
use Rattle.model.specs.declared.delta_snapshot.Slot.{Slot}
use Rattle.model.specs.declared.storage_memo.ReadAnchor.{ReadAnchor}
use Rattle.replies.specs.Replies.{alone}
use mathlib.Core.Path.{ap₂}
use Rattle.poxilme.proofs.read.Goals as goal

pub returns : goal.returns
returns g c =
    let a = c.args in
    let st = stepped_as (ap₂ (λ (x : ReadAnchor) (y : Slot). bytes_step a.s.now (alone (on_store (at_anchor x (on_slot (read y)))))) c.anchor-anchor.ensures c.slot.ensures) c.read-r.ensures in (
      exported a.s.now a.reply.now _ {fits = slot_enough a.hash.now a.slot.now a.reply.now} (fit c.slot_enough.ensures c.if-not-slot_enough.false) (given_by (read_given c.read-r.result) c.write_reply.ensures) st,
      keeps a.s.now (alone (on_store (at_anchor (lent_anchor a.number a.hash.now) (on_slot (read (slot_of a.slot.now)))))) (slot_of_fits a.slot.now (known_bytes a.slot.now c.type_inv.slot)) st.bytes_is,
    )
