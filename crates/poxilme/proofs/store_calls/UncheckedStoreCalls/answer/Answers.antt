-- The unchecked answer meets its contract, where every flag byte is known. Assumes nothing.
use mathlib.Core.Path.{◌≡◌, sym}
use mathlib.Core.Bool.{true}
use borrow.Author.Rules.{rules}
use Rattle.lent_calls.proofs.Joining.{stepped_as}
use Rattle.store.proofs.Checked.{known_flags}
use Rattle.poxilme.proofs.store_calls.UncheckedStoreCalls.answer.Goals as goal

pub returns : goal.returns
returns c =
    let a = c.args in
    let t : c.flags_known.result ≡ true = search rules in
    stepped_as (sym (known_flags a.s.now a.anchor a.members.now c.flags_known.result c.flags_known.ensures t)) c.answer.ensures
