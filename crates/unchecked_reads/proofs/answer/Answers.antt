-- `unchecked_reads::answer` meets its contract.
use Rattle.std.proofs.lemmas.Result.{err_from_is_err_and}
use mathlib.Core.Path.{sym, ◌∙◌}
use Rattle.model.specs.Entries.{members_of}
use Rattle.model.specs.Store.{answer}
use Rattle.image.proofs.Lent.{decoded_some}
use Rattle.awaiting.specs.Awaiting.{entry_slots}
use Rattle.awaiting.proofs.Lists.{entry_slots_members}
use Rattle.unchecked_reads.proofs.Answering.{answer_not_taken, answer_no_room}
use Rattle.unchecked_reads.proofs.Said.{stepped, by_answer_guard, Past, past_answer_guard, at_its_anchor}
use Rattle.unchecked_reads.proofs.answer.Goals as goal

pub returns-in_err-guard_answer : goal.returns-in_err-guard_answer
returns-in_err-guard_answer c =
    let a = c.args in
    let p = err_from_is_err_and c.from_residual.result c.from_residual.ensures.1 in
    rw (p.1, p.2) (stepped (by_answer_guard a.s.now a.anchor (answer (members_of a.members.now)) 0 (entry_slots 85 a.members.now) (entry_slots_members a.members.now)
    (decoded_some _ c.requires) _ (sym c.guard_answer.ensures ∙ c.in_err-guard_answer.was)))

pub returns-then-not-all_taken : goal.returns-then-not-all_taken
returns-then-not-all_taken c =
    let a = c.args in
    let p : Past (entry_slots 85 a.members.now) a.s.now a.anchor = past_answer_guard _ _ _ (decoded_some _ c.requires) (sym c.guard_answer.ensures ∙ c.in_ok-guard_answer.was) in
    answer_not_taken p.here a.members.now p.once c.awaiting_in.ensures.slots_are c.all_taken.ensures c.if-not-all_taken.true

pub returns-then-not-has_space : goal.returns-then-not-has_space
returns-then-not-has_space c =
    let a = c.args in
    let p : Past (entry_slots 85 a.members.now) a.s.now a.anchor = past_answer_guard _ _ _ (decoded_some _ c.requires) (sym c.guard_answer.ensures ∙ c.in_ok-guard_answer.was) in
    answer_no_room p.here a.members.now p.once c.awaiting_in.ensures.slots_are c.all_taken.ensures c.if-not-all_taken.false c.has_space.ensures c.if-not-has_space.true

pub returns : goal.returns
returns c =
    let a = c.args in
    let p : Past (entry_slots 85 a.members.now) a.s.now a.anchor = past_answer_guard _ _ _ (decoded_some _ c.requires) (sym c.guard_answer.ensures ∙ c.in_ok-guard_answer.was) in
    at_its_anchor _ _ p.here (answer (members_of a.members.now)) c.finish.ensures
