-- `unchecked_reads::read` meets its contract.
use Rattle.std.proofs.lemmas.Result.{err_from_is_err_and}
use borrow.Author.Rules.{rules}
use mathlib.Core.Path.{sym, ◌∙◌}
use native.Mathlib.Omega.{arith}
use Rattle.model.specs.Store.{read, on_slot}
use Rattle.image.proofs.Lent.{decoded_some}
use Rattle.header.proofs.Guards.{Here, past_guard}
use Rattle.unchecked_reads.proofs.Said.{stepped, none_twice, by_guard, said_25, at_its_anchor}
use Rattle.unchecked_reads.proofs.Reading.{accepted_is, still_open}
use Rattle.unchecked_reads.proofs.read.Goals as goal

pub returns-in_err-guard : goal.returns-in_err-guard
returns-in_err-guard c =
    let a = c.args in
    let p = err_from_is_err_and c.from_residual.result c.from_residual.ensures.1 in
    rw (p.1, p.2) (stepped (by_guard a.s.now a.anchor (on_slot (read a.slot)) 0 none_twice (decoded_some _ c.requires) _ (sym c.guard.ensures ∙ c.in_err-guard.was)))

pub returns-then-read_u64-ge4294967295 : goal.returns-then-read_u64-ge4294967295
returns-then-read_u64-ge4294967295 c =
    let a = c.args in
    let h : Here a.s.now a.anchor = search (rules, past_guard, decoded_some) in
    stepped (said_25 a.s.now a.anchor h a.slot (omega (arith, accepted_is _ h.has c.read_u64.ensures, c.if-read_u64-ge4294967295.true)))

pub wait-requires : goal.wait-requires
wait-requires c =
    let h : Here c.args.s.now c.args.anchor = search (rules, past_guard, decoded_some) in
    (still_open _ h.has c.read_u64.ensures c.if-read_u64-ge4294967295.false, sym c.resolved_at.ensures ∙ c.in_default.is)

pub returns-in_default : goal.returns-in_default
returns-in_default c = at_its_anchor _ _ (search (rules, past_guard, decoded_some)) (on_slot (read c.args.slot)) c.wait.ensures

pub serve-requires : goal.serve-requires
serve-requires c =
    let h : Here c.args.s.now c.args.anchor = search (rules, past_guard, decoded_some) in
    (still_open _ h.has c.read_u64.ensures c.if-read_u64-ge4294967295.false, sym c.resolved_at.ensures ∙ c.in-Some.is, c.top_place-place.ensures)

pub returns : goal.returns
returns c = at_its_anchor _ _ (search (rules, past_guard, decoded_some)) (on_slot (read c.args.slot)) c.serve.ensures
