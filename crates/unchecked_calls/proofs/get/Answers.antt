-- `unchecked_calls::get` meets its contract.
use Rattle.std.proofs.lemmas.Result.{err_from_is_err_and}
use borrow.Author.Rules.{rules}
use mathlib.Core.Path.{sym, ◌∙◌}
use Rattle.image.proofs.Lent.{decoded_some}
use Rattle.header.proofs.Guards.{past_guard}
use Rattle.header.proofs.Segments.{known_bytes}
use Rattle.unchecked_calls.proofs.Guards.{by_guard}
use Rattle.unchecked_calls.proofs.Here.{get_none, get_full, get_set}
use Rattle.unchecked_calls.proofs.Turned.{plain_get}
use Rattle.unchecked_calls.proofs.get.Goals as goal

pub returns-in_err-guard : goal.returns-in_err-guard
returns-in_err-guard c =
    let p = err_from_is_err_and c.from_residual.result c.from_residual.ensures.1 in
    rw (p.1, p.2) (by_guard _ _ _ (plain_get c.args.slot) (decoded_some _ c.requires) (sym c.guard.ensures ∙ c.in_err-guard.was))

pub returns-in_default : goal.returns-in_default
returns-in_default c = get_none (known_bytes _ (search rules)) (search (rules, past_guard, decoded_some)) _ _ c.resolved_at.ensures c.in_default.is

pub returns-then-not-has_room : goal.returns-then-not-has_room
returns-then-not-has_room c = get_full (known_bytes _ (search rules)) (search (rules, past_guard, decoded_some)) _ c.top_place-place.ensures c.has_room.ensures _ _ c.resolved_at.ensures c.in-Some.is c.if-not-has_room.true

pub returns : goal.returns
returns c = get_set (known_bytes _ (search rules)) (search (rules, past_guard, decoded_some)) _ c.top_place-place.ensures c.has_room.ensures _ _ c.resolved_at.ensures c.in-Some.is c.if-not-has_room.false _ c.touch_top.ensures
