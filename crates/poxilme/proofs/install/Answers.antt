-- `poxilme::install` meets its contract: 9, or what the call does. Assumes nothing.
use Rattle.header.proofs.Segments.{known_bytes}
use Rattle.image.specs.Image.{bytes_step}
use Rattle.lent_calls.proofs.Giving.{given_by, install_given}
use Rattle.lent_calls.proofs.Joining.{fit, exported, stepped_as}
use Rattle.lent_calls.proofs.Kept.{keeps}
use Rattle.lent_calls.proofs.Ranges.{lent_anchor_fits}
use Rattle.header.specs.Header.{lent_anchor}
use Rattle.lent_calls.specs.Arguments.{anchored_enough}
use Rattle.model.specs.Store.{on_store, install}
use Rattle.model.specs.declared.storage_memo.ReadAnchor.{ReadAnchor}
use Rattle.replies.specs.Replies.{alone}
use mathlib.Core.Path.{ap}
use native.Mathlib.Omega.{arith}
use Rattle.poxilme.proofs.install.Goals as goal

pub returns : goal.returns
returns g c =
    let a = c.args in
    let st = stepped_as (ap (λ (x : ReadAnchor). bytes_step a.s.now (alone (on_store (install x)))) c.anchor-anchor.ensures) c.install-r.ensures in (
      exported a.s.now a.reply.now _ {fits = anchored_enough a.hash.now a.reply.now} (fit c.anchored_enough.ensures c.if-not-anchored_enough.false) (given_by (install_given c.install-r.result) c.write_reply.ensures) st,
      keeps a.s.now (alone (on_store (install (lent_anchor a.number a.hash.now)))) (lent_anchor_fits a.number a.hash.now (omega arith) (known_bytes a.hash.now c.type_inv.hash)) st.bytes_is,
    )
