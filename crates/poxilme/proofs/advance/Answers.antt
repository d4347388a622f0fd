-- `poxilme::advance` meets its contract: 9, or what the call does. Assumes nothing.
use Rattle.header.proofs.Segments.{known_bytes}
use Rattle.image.proofs.EntriesFit.{writes_of_fit}
use Rattle.image.specs.Image.{bytes_step}
use Rattle.lent_calls.proofs.Giving.{given_by, advance_given}
use Rattle.lent_calls.proofs.Joining.{fit, exported_output, advanced_as}
use Rattle.lent_calls.proofs.Kept.{keeps}
use Rattle.lent_calls.proofs.Ranges.{lent_anchor_fits}
use Rattle.header.specs.Header.{lent_anchor}
use Rattle.lent_calls.specs.Arguments.{advance_enough}
use Rattle.model.proofs.SlotLaws.{and_intro}
use Rattle.model.specs.Entries.{u256_at}
use Rattle.model.specs.declared.storage_memo.ReadAnchor.{ReadAnchor}
use Rattle.model.specs.declared.storage_memo.U256.{U256}
use Rattle.replies.specs.Replies.{advance_call}
use mathlib.Core.Path.{ap₂}
use native.Mathlib.Omega.{arith}
use Rattle.poxilme.proofs.advance.Goals as goal

pub returns : goal.returns
returns g c =
    let a = c.args in
    let st = advanced_as (ap₂ (λ (x : ReadAnchor) (h : U256). bytes_step a.s.now (advance_call x h a.skip a.addresses.now a.writes.now a.work.now a.out.now)) c.anchor-anchor.ensures c.value-parent.ensures) c.advance-r.ensures in (
      exported_output a.s.now a.reply.now _ {fits = advance_enough a.hash.now a.parent_hash.now a.reply.now} (fit {fits = advance_enough a.hash.now a.parent_hash.now a.reply.now} c.advance_enough.ensures c.if-not-advance_enough.false) (given_by (advance_given c.advance-r.result _) c.write_reply.ensures) a.out.now (record { answer_is = st.answer_is; bytes_is = st.bytes_is }) st.output_is,
      keeps a.s.now (advance_call (lent_anchor a.number a.hash.now) (u256_at 0 a.parent_hash.now) a.skip a.addresses.now a.writes.now a.work.now a.out.now) (and_intro _ _ (lent_anchor_fits a.number a.hash.now (omega arith) (known_bytes a.hash.now c.type_inv.hash)) (writes_of_fit a.writes.now (known_bytes a.writes.now c.type_inv.writes))) st.bytes_is,
    )
