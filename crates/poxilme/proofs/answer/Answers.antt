-- `poxilme::answer` meets its contract: 9, or what the call does. Assumes nothing.
use Rattle.header.proofs.Segments.{known_bytes}
use Rattle.lent_calls.proofs.Giving.{given_by, answered_given}
use Rattle.lent_calls.proofs.Joining.{fit, exported, stepped_as}
use Rattle.lent_calls.proofs.Kept.{answer_keeps}
use Rattle.header.specs.Header.{lent_anchor}
use Rattle.lent_calls.specs.Arguments.{anchored_enough}
use Rattle.model.specs.declared.storage_memo.ReadAnchor.{ReadAnchor}
use Rattle.replies.specs.Replies.{answer_step}
use mathlib.Core.Path.{ap}
use Rattle.poxilme.proofs.answer.Goals as goal

pub returns : goal.returns
returns g c =
    let a = c.args in
    let st = stepped_as (ap (λ (x : ReadAnchor). answer_step a.s.now x a.members.now) c.anchor-anchor.ensures) c.answer-r.ensures in (
      exported a.s.now a.reply.now _ {fits = anchored_enough a.hash.now a.reply.now} (fit c.anchored_enough.ensures c.if-not-anchored_enough.false) (given_by (answered_given c.answer-r.result) c.write_reply.ensures) st,
      answer_keeps a.s.now (lent_anchor a.number a.hash.now) a.members.now (known_bytes a.members.now c.type_inv.members) st.bytes_is,
    )
