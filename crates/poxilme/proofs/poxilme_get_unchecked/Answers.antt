-- `poxilme::poxilme_get_unchecked` meets its contract.
use Rattle.std.specs.Prelude.{None, Ok}
use borrow.Author.Rules.{rules}
use mathlib.Core.Path.{refl, sym, ap, ◌∙◌}
use Rattle.model.specs.Contents.{own_value}
use Rattle.model.specs.Entries.{slot_of}
use Rattle.model.specs.Store.{on_store, at_anchor, on_slot, get}
use Rattle.image.proofs.EntriesFit.{slot_of_fits}
use Rattle.image.proofs.Lent.{decoded_some}
use Rattle.replies.specs.Replies.{alone}
use Rattle.layers.specs.Answers.{row_content}
use Rattle.layers.proofs.Search.{no_row, value_at}
use Rattle.header.specs.Header.{lent_anchor}
use Rattle.header.proofs.Guards.{past_guard}
use Rattle.header.proofs.Segments.{known_bytes}
use Rattle.unchecked_calls.proofs.Guards.{by_guard}
use Rattle.unchecked_calls.proofs.Here.{get_none}
use Rattle.unchecked_calls.proofs.Turned.{plain_get}
use Rattle.lent_calls.specs.ReplyWords.{refused_by}
use Rattle.lent_calls.proofs.Giving.{refused_gives, valued_gives, given_by, look_given}
use Rattle.lent_calls.proofs.Kept.{keeps}
use Rattle.poxilme.proofs.Owned.{slot_stepped, slot_exported, row_full, row_set}
use Rattle.poxilme.proofs.poxilme_get_unchecked.Goals as goal

pub returns-in-Err : goal.returns-in-Err
returns-in-Err c = (
  slot_exported get c.args.s.now c.args.number c.args.hash.now c.args.slot.now c.args.reply.now c.slot_enough.ensures c.if-not-slot_enough.false c.anchor-anchor.ensures c.slot-t.ensures (refused_gives _ (ap refused_by (sym c.number-in-Err.ensures)))
      (by_guard _ _ _ (plain_get c.slot-t.result) (decoded_some _ c.requires) (sym c.guard.ensures ∙ c.in-Err.is)),
  c.requires,
)

pub returns-in_default-served_row : goal.returns-in_default-served_row
returns-in_default-served_row c = (
  slot_exported get c.args.s.now c.args.number c.args.hash.now c.args.slot.now c.args.reply.now c.slot_enough.ensures c.if-not-slot_enough.false c.anchor-anchor.ensures c.slot-t.ensures (given_by (look_given (Ok None)) c.write_reply.ensures)
      (get_none (known_bytes _ (search rules)) (past_guard _ _ (decoded_some _ c.requires) (sym c.guard.ensures ∙ c.in_default.is)) _ None (no_row _ _ _ c.served_row.ensures c.in_default-served_row.is) refl),
  c.requires,
)

pub returns-then-not-has_room : goal.returns-then-not-has_room
returns-then-not-has_room c = (
  slot_exported get c.args.s.now c.args.number c.args.hash.now c.args.slot.now c.args.reply.now c.slot_enough.ensures c.if-not-slot_enough.false c.anchor-anchor.ensures c.slot-t.ensures (refused_gives _ (ap refused_by (sym c.number-then-not-has_room.ensures)))
      (row_full (known_bytes _ (search rules)) (past_guard _ _ (decoded_some _ c.requires) (sym c.guard.ensures ∙ c.in_default.is)) _ c.top_place-place.ensures c.has_room.ensures (value_at _ _ _ _ c.served_row.ensures c.in-Some.is) c.if-not-has_room.true),
  c.requires,
)

pub returns : goal.returns
returns c =
    let a = c.args in
    let done = row_set (known_bytes _ (search rules)) (past_guard _ _ (decoded_some _ c.requires) (sym c.guard.ensures ∙ c.in_default.is)) _ c.top_place-place.ensures c.has_room.ensures (value_at _ _ _ _ c.served_row.ensures c.in-Some.is) c.if-not-has_room.false _ c.touch_top.ensures in
    let call = alone (on_store (at_anchor (lent_anchor a.number a.hash.now) (on_slot (get (slot_of a.slot.now))))) in (
      slot_exported get c.args.s.now c.args.number c.args.hash.now c.args.slot.now c.args.reply.now c.slot_enough.ensures c.if-not-slot_enough.false c.anchor-anchor.ensures c.slot-t.ensures (valued_gives (own_value (row_content c.in-Some.row a.s.now)) c.write_row.ensures) done,
      keeps a.s.now call (slot_of_fits a.slot.now (known_bytes a.slot.now c.type_inv.slot))
          (slot_stepped get c.args.s.now c.args.number c.args.hash.now c.args.slot.now c.args.reply.now c.slot_enough.ensures c.if-not-slot_enough.false c.anchor-anchor.ensures c.slot-t.ensures done).bytes_is c.requires,
    )
