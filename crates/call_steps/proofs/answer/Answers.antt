-- `call_steps::answer` meets its contract: what `unchecked_reads::answer` does with the members as entries. Assumes nothing.
use Prim.Native.Nat.{◌-◌, ◌*◌}
use mathlib.Core.Path.{◌≡◌, sym, ap, ◌∙◌}
use mathlib.Core.List.{List}
use lib.ListN.{take}
use Rattle.model.specs.Reads.{Member}
use Rattle.model.specs.Entries.{members_of}
use Rattle.model.specs.Store.{answer, at_anchor, on_store}
use Rattle.reader.specs.Answers.{members_at}
use Rattle.call_steps.proofs.Lent.{from_start}
use Rattle.call_steps.proofs.Said.{plain_answer, silent_answered, refused_as, stepped_as}
use Rattle.call_steps.proofs.answer.Goals as goal

pub returns-in_err-answer : goal.returns-in_err-answer
returns-in_err-answer c w e =
    let a = c.args in
    let named : members_of (take (a.span.count * 85 - 0) c.expand_members.new.members) ≡ members_at a.list.now a.span = ap members_of (from_start (a.span.count * 85) c.expand_members.new.members) ∙ c.expand_members.ensures.0 in
    refused_as _ a.s.now w e (ap (λ (ms : List Member). on_store (at_anchor a.anchor (answer ms))) (sym named)) (plain_answer a.anchor _) c.from_residual.ensures.1 c.in_err-answer.ensures

pub returns : goal.returns
returns c w e =
    let a = c.args in
    let named : members_of (take (a.span.count * 85 - 0) c.expand_members.new.members) ≡ members_at a.list.now a.span = ap members_of (from_start (a.span.count * 85) c.expand_members.new.members) ∙ c.expand_members.ensures.0 in
    stepped_as a.s.now w e (ap (λ (ms : List Member). on_store (at_anchor a.anchor (answer ms))) (sym named)) (plain_answer a.anchor _) (silent_answered c.in_ok-answer.field-0) (c.from.ensures e) c.in_ok-answer.ensures
