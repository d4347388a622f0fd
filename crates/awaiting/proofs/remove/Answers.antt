-- `awaiting::remove` meets its contract.
use borrow.Author.Rules.{rules}
use native.Mathlib.Omega.{arith}
use mathlib.Core.Path.{sym, ◌∙◌}
use Rattle.image.specs.Area.{pending_of}
use Rattle.awaiting.proofs.Places.{FoundAt, found, not_among}
use Rattle.awaiting.proofs.Awaits.{length_pending_of}
use Rattle.awaiting.proofs.Changes.{removed_found, removed_absent}
use Rattle.awaiting.proofs.remove.Goals as goal

pub returns-in_default : goal.returns-in_default
returns-in_default c = removed_absent c.args.n c.args.slot c.args.s.now c.requires (not_among (pending_of c.args.n c.args.s.now) c.args.slot _ c.requires.ok (sym c.find.ensures ∙ c.in_default.is))

pub remove_at-requires : goal.remove_at-requires
remove_at-requires c =
    let seen : FoundAt c.args.slot (pending_of c.args.n c.args.s.now) c.in-Ok.i = found (pending_of c.args.n c.args.s.now) c.args.slot c.in-Ok.i (sym c.find.ensures ∙ search rules) in
    (omega (arith, seen.inside, length_pending_of c.args.n c.args.s.now), omega (arith, c.requires.few, c.requires.area))

pub overflow_sub-result : goal.overflow_sub-result
overflow_sub-result c =
    let seen : FoundAt c.args.slot (pending_of c.args.n c.args.s.now) c.in-Ok.i = found (pending_of c.args.n c.args.s.now) c.args.slot c.in-Ok.i (sym c.find.ensures ∙ search rules) in
    omega (arith, seen.inside, length_pending_of c.args.n c.args.s.now)

pub returns : goal.returns
returns c =
    let seen : FoundAt c.args.slot (pending_of c.args.n c.args.s.now) c.in-Ok.i = found (pending_of c.args.n c.args.s.now) c.args.slot c.in-Ok.i (sym c.find.ensures ∙ search rules) in
    removed_found c.args.n c.in-Ok.i c.args.slot c.args.s.now c.requires seen c.remove_at.ensures
