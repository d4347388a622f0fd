-- `poxilme::poxilme_look_unchecked` meets its contract.
use Rattle.std.specs.Prelude.{None, Ok}
use borrow.Author.Rules.{rules}
use mathlib.Core.Path.{sym, ap, ◌∙◌}
use Rattle.model.specs.Contents.{own_value}
use Rattle.model.specs.Store.{look}
use Rattle.image.proofs.Lent.{decoded_some}
use Rattle.layers.specs.Answers.{row_content}
use Rattle.layers.proofs.Search.{no_row, value_at}
use Rattle.header.proofs.Guards.{past_guard}
use Rattle.header.proofs.Segments.{known_bytes}
use Rattle.unchecked_calls.proofs.Guards.{by_guard}
use Rattle.unchecked_calls.proofs.Here.{look_here}
use Rattle.unchecked_calls.proofs.Turned.{plain_look}
use Rattle.lent_calls.specs.ReplyWords.{refused_by}
use Rattle.lent_calls.proofs.Giving.{refused_gives, valued_gives, given_by, look_given}
use Rattle.poxilme.proofs.Owned.{slot_exported}
use Rattle.poxilme.proofs.poxilme_look_unchecked.Goals as goal

pub returns-in-Err : goal.returns-in-Err
returns-in-Err c =
    slot_exported look c.args.s.now c.args.number c.args.hash.now c.args.slot.now c.args.reply.now c.slot_enough.ensures c.if-not-slot_enough.false c.anchor-anchor.ensures c.slot-t.ensures (refused_gives _ (ap refused_by (sym c.number-in-Err.ensures)))
    (by_guard _ _ _ (plain_look c.slot-t.result) (decoded_some _ c.requires) (sym c.guard.ensures ∙ c.in-Err.is))

pub returns-in_default-served_row : goal.returns-in_default-served_row
returns-in_default-served_row c =
    slot_exported look c.args.s.now c.args.number c.args.hash.now c.args.slot.now c.args.reply.now c.slot_enough.ensures c.if-not-slot_enough.false c.anchor-anchor.ensures c.slot-t.ensures (given_by (look_given (Ok None)) c.write_reply.ensures)
    (look_here (known_bytes _ (search rules)) (past_guard _ _ (decoded_some _ c.requires) (sym c.guard.ensures ∙ c.in_default.is)) _ None (no_row _ _ _ c.served_row.ensures c.in_default-served_row.is))

pub returns : goal.returns
returns c =
    let o = own_value (row_content c.in-Some.row c.args.s.now) in
    slot_exported look c.args.s.now c.args.number c.args.hash.now c.args.slot.now c.args.reply.now c.slot_enough.ensures c.if-not-slot_enough.false c.anchor-anchor.ensures c.slot-t.ensures (valued_gives o c.write_row.ensures)
    (look_here (known_bytes _ (search rules)) (past_guard _ _ (decoded_some _ c.requires) (sym c.guard.ensures ∙ c.in_default.is)) _ o (value_at _ _ _ _ c.served_row.ensures c.in-Some.is).value_is)
