-- `unchecked_reads::answer_failed` meets its contract.
use Rattle.std.proofs.lemmas.Result.{err_from_is_err_and}
use mathlib.Core.Path.{sym, ◌∙◌}
use Rattle.model.specs.Entries.{slots_of}
use Rattle.model.specs.Store.{answer_failed}
use Rattle.image.proofs.Lent.{decoded_some}
use Rattle.awaiting.specs.Awaiting.{entry_slots}
use Rattle.awaiting.proofs.Lists.{entry_slots_alone}
use Rattle.unchecked_reads.proofs.Answering.{failed_not_taken, failed_counts, failed_done}
use Rattle.unchecked_reads.proofs.Said.{stepped, by_answer_guard, Past, past_answer_guard}
use Rattle.unchecked_reads.proofs.answer_failed.Goals as goal

pub returns-in_err-guard_answer : goal.returns-in_err-guard_answer
returns-in_err-guard_answer c =
    let a = c.args in
    let p = err_from_is_err_and c.from_residual.result c.from_residual.ensures.1 in
    rw (p.1, p.2) (stepped (by_answer_guard a.s.now a.anchor (answer_failed (slots_of a.slots.now)) 0 (entry_slots 52 a.slots.now) (sym (entry_slots_alone a.slots.now))
    (decoded_some _ c.requires) _ (sym c.guard_answer.ensures ∙ c.in_err-guard_answer.was)))

pub returns-then-not-all_taken : goal.returns-then-not-all_taken
returns-then-not-all_taken c =
    let a = c.args in
    let p : Past (entry_slots 52 a.slots.now) a.s.now a.anchor = past_answer_guard _ _ _ (decoded_some _ c.requires) (sym c.guard_answer.ensures ∙ c.in_ok-guard_answer.was) in
    failed_not_taken p.here a.slots.now p.once c.awaiting_in-awaiting.ensures.slots_are c.all_taken.ensures c.if-not-all_taken.true

pub record_answer-requires : goal.record_answer-requires
record_answer-requires c =
    let a = c.args in
    let p : Past (entry_slots 52 a.slots.now) a.s.now a.anchor = past_answer_guard _ _ _ (decoded_some _ c.requires) (sym c.guard_answer.ensures ∙ c.in_ok-guard_answer.was) in
    failed_counts p.here a.slots.now p.once c.awaiting_in-awaiting.ensures.slots_are c.all_taken.ensures c.if-not-all_taken.false _ c.woken-w.ensures c.remove_all.ensures

pub returns : goal.returns
returns c =
    let a = c.args in
    let p : Past (entry_slots 52 a.slots.now) a.s.now a.anchor = past_answer_guard _ _ _ (decoded_some _ c.requires) (sym c.guard_answer.ensures ∙ c.in_ok-guard_answer.was) in
    failed_done p.here a.slots.now p.once c.awaiting_in-awaiting.ensures.slots_are c.all_taken.ensures c.if-not-all_taken.false _ c.woken-w.ensures c.remove_all.ensures c.record_answer.ensures
