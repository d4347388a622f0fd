-- `poxilme::put` meets its contract: 9, or what the call does. Assumes nothing.
use Rattle.header.proofs.Segments.{known_bytes}
use Rattle.image.proofs.EntriesFit.{slot_of_fits, u256_at_fits}
use Rattle.image.specs.Image.{bytes_step}
use Rattle.lent_calls.proofs.Giving.{given_by, put_given}
use Rattle.lent_calls.proofs.Joining.{fit, exported, stepped_as}
use Rattle.lent_calls.proofs.Kept.{keeps}
use Rattle.header.specs.Header.{lent_anchor}
use Rattle.lent_calls.specs.Arguments.{put_enough}
use Rattle.model.proofs.SlotLaws.{and_intro}
use Rattle.model.specs.Entries.{slot_of, u256_at}
use Rattle.model.specs.Store.{on_store, at_anchor, on_slot, put}
use Rattle.model.specs.declared.delta_snapshot.Slot.{Slot}
use Rattle.model.specs.declared.storage_memo.ReadAnchor.{ReadAnchor}
use Rattle.model.specs.declared.storage_memo.U256.{U256}
use Rattle.replies.specs.Replies.{alone}
use mathlib.Core.Path.{ap, ap₂, ◌∙◌}
use Rattle.poxilme.proofs.put.Goals as goal

pub returns : goal.returns
returns g c =
    let a = c.args in
    let v = c.value in
    let st = stepped_as (ap₂ (λ (x : ReadAnchor) (y : Slot). bytes_step a.s.now (alone (on_store (at_anchor x (on_slot (put y v.result)))))) c.anchor-anchor.ensures c.slot.ensures ∙ ap (λ (y : U256). bytes_step a.s.now (alone (on_store (at_anchor (lent_anchor a.number a.hash.now) (on_slot (put (slot_of a.slot.now) y)))))) v.ensures) c.put-r.ensures in (
      exported a.s.now a.reply.now _ {fits = put_enough a.hash.now a.slot.now a.value.now a.reply.now} (fit {fits = put_enough a.hash.now a.slot.now a.value.now a.reply.now} c.put_enough.ensures c.if-not-put_enough.false) (given_by (put_given c.put-r.result) c.write_reply.ensures) st,
      keeps a.s.now (alone (on_store (at_anchor (lent_anchor a.number a.hash.now) (on_slot (put (slot_of a.slot.now) (u256_at 0 a.value.now)))))) (and_intro _ _ (slot_of_fits a.slot.now (known_bytes a.slot.now c.type_inv.slot)) (u256_at_fits 0 a.value.now (known_bytes a.value.now c.type_inv.value))) st.bytes_is,
    )
