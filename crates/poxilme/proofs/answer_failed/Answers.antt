-- `poxilme::answer_failed` meets its contract: 9, or what the call does. Assumes nothing.
use Rattle.image.specs.Image.{bytes_step}
use Rattle.lent_calls.proofs.Giving.{given_by, answered_given}
use Rattle.lent_calls.proofs.Joining.{fit, exported, stepped_as}
use Rattle.lent_calls.proofs.Kept.{keeps}
use Rattle.header.specs.Header.{lent_anchor}
use Rattle.lent_calls.specs.Arguments.{anchored_enough}
use Rattle.model.specs.Entries.{slots_of}
use Rattle.model.specs.Store.{on_store, at_anchor, answer_failed}
use Rattle.model.specs.declared.storage_memo.ReadAnchor.{ReadAnchor}
use Rattle.replies.specs.Replies.{alone}
use mathlib.Core.Path.{ap, refl}
use Rattle.poxilme.proofs.answer_failed.Goals as goal

pub returns : goal.returns
returns g c =
    let a = c.args in
    let st = stepped_as (ap (λ (x : ReadAnchor). bytes_step a.s.now (alone (on_store (at_anchor x (answer_failed (slots_of a.slots.now)))))) c.anchor-anchor.ensures) c.answer_failed-r.ensures in (
      exported a.s.now a.reply.now _ {fits = anchored_enough a.hash.now a.reply.now} (fit c.anchored_enough.ensures c.if-not-anchored_enough.false) (given_by (answered_given c.answer_failed-r.result) c.write_reply.ensures) st,
      keeps a.s.now (alone (on_store (at_anchor (lent_anchor a.number a.hash.now) (answer_failed (slots_of a.slots.now))))) refl st.bytes_is,
    )
