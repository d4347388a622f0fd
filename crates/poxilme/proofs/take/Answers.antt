-- `poxilme::take` meets its contract: 9, or what the call does. Assumes nothing.
use Rattle.image.specs.Image.{bytes_step}
use Rattle.lent_calls.proofs.Giving.{given_by, take_given}
use Rattle.lent_calls.proofs.Joining.{fit, exported_output, took_as}
use Rattle.lent_calls.proofs.Kept.{keeps}
use Rattle.header.specs.Header.{lent_anchor}
use Rattle.lent_calls.specs.Arguments.{anchored_enough}
use Rattle.model.specs.Store.{on_store, at_anchor, take}
use Rattle.model.specs.declared.storage_memo.ReadAnchor.{ReadAnchor}
use Rattle.replies.specs.Replies.{with_output}
use mathlib.Core.Path.{ap, refl}
use Rattle.poxilme.proofs.take.Goals as goal

pub returns : goal.returns
returns g c =
    let a = c.args in
    let st = took_as (ap (λ (x : ReadAnchor). bytes_step a.s.now (with_output (on_store (at_anchor x take)) a.out.now)) c.anchor-anchor.ensures) c.take-r.ensures in (
      exported_output a.s.now a.reply.now _ {fits = anchored_enough a.hash.now a.reply.now} (fit c.anchored_enough.ensures c.if-not-anchored_enough.false) (given_by (take_given c.take-r.result _) c.write_reply.ensures) a.out.now (record { answer_is = st.answer_is; bytes_is = st.bytes_is }) st.output_is,
      keeps a.s.now (with_output (on_store (at_anchor (lent_anchor a.number a.hash.now) take)) a.out.now) refl st.bytes_is,
    )
