-- `poxilme::poxilme_open` meets its contract: 9, 3, or what `store::open` does. Assumes nothing.
use Rattle.image.specs.Image.{bytes_step}
use Rattle.lent_calls.proofs.Kept.{keeps}
use Rattle.lent_calls.proofs.Numbered.{opened_store}
use Rattle.lent_calls.proofs.Ranges.{lent_retention_fits}
use Rattle.lent_calls.proofs.Giving.{given_by, open_given}
use Rattle.lent_calls.proofs.Joining.{fit, exported, stepped_as, form_known}
use Rattle.lent_calls.specs.Arguments.{lent_retention}
use Rattle.lent_calls.specs.ReplyWords.{code_of, answer_given}
use Rattle.model.specs.Refusals.{Answer}
use Rattle.model.specs.Store.{open_store}
use Rattle.model.specs.declared.delta_snapshot.Retention.{Retention}
use Rattle.replies.specs.Replies.{alone}
use mathlib.Core.Path.{sym, ap, ◌∙◌}
use native.Mathlib.Omega.{arith}
use Rattle.poxilme.proofs.poxilme_open.Goals as goal

pub returns : goal.returns
returns c =
    let a = c.args in
    let R = lent_retention a.bounded a.idle in
    let o = bytes_step a.s.now (alone (open_store a.capacity a.max_depth R)) in
    let e = ap (λ (x : Retention). bytes_step a.s.now (alone (open_store a.capacity a.max_depth x))) c.of_words-retention.ensures in
    let plain = stepped_as e c.«open».ensures in
    let st = stepped_as (sym (form_known a.bounded a.s.now o (omega arith))) plain in
    let gives = given_by (open_given c.«open».result) c.write_reply.ensures in (
      exported a.s.now a.reply.now _ (fit c.reply_enough.ensures c.if-not-reply_enough.false) gives st,
      λ z. opened_store a.s.now a.capacity a.max_depth R (lent_retention_fits a.bounded a.idle (omega arith)) plain.bytes_is
          (sym (ap (λ (x : Answer). code_of (answer_given x)) plain.answer_is) ∙ sym gives.code_is ∙ z),
      keeps a.s.now (alone (open_store a.capacity a.max_depth R)) (lent_retention_fits a.bounded a.idle (omega arith)) plain.bytes_is,
    )
