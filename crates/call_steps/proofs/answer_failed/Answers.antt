-- `call_steps::answer_failed` meets its contract: what `unchecked_reads::answer_failed` does with the span's slots. Assumes nothing.
use mathlib.Core.Path.{sym, ap}
use mathlib.Core.List.{List}
use Rattle.model.specs.declared.delta_snapshot.Slot.{Slot}
use Rattle.model.specs.Store.{answer_failed, at_anchor, on_store}
use Rattle.call_steps.proofs.Lent.{slots_lent}
use Rattle.call_steps.proofs.Said.{plain_failed, silent_answered, refused_as, stepped_as}
use Rattle.call_steps.proofs.answer_failed.Goals as goal

pub returns-in_err-answer_failed : goal.returns-in_err-answer_failed
returns-in_err-answer_failed c w e =
    let a = c.args in
    refused_as _ a.s.now w e (ap (λ (ss : List Slot). on_store (at_anchor a.anchor (answer_failed ss))) (sym (slots_lent a.list.now a.span c.requires.1))) (plain_failed a.anchor _) c.from_residual.ensures.1 c.in_err-answer_failed.ensures

pub returns : goal.returns
returns c w e =
    let a = c.args in
    stepped_as a.s.now w e (ap (λ (ss : List Slot). on_store (at_anchor a.anchor (answer_failed ss))) (sym (slots_lent a.list.now a.span c.requires.1))) (plain_failed a.anchor _) (silent_answered c.in_ok-answer_failed.field-0) (c.from.ensures e) c.in_ok-answer_failed.ensures
