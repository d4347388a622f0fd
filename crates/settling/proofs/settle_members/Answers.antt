-- `settling::settle_members` meets its contract.
use borrow.Author.Rules.{rules}
use native.Mathlib.Omega.{arith}
use mathlib.Core.Path.{◌∙◌}
use Rattle.header.proofs.Segments.{known_bytes}
use Rattle.settling.proofs.Tops.{unchanged, next_room, next, all_settled}
use Rattle.settling.proofs.settle_members.Goals as goal

pub loop-member-init : goal.loop-member-init
loop-member-init c = (search rules, unchanged c.args.s.now c.requires.0 (known_bytes c.args.s.now c.type_inv.s), search rules)

pub settle-requires : goal.settle-requires
settle-requires c =
    let i = c.loop-member.invariant in
    let e = c.in-Some.ensures.steps in
    (i.1.installed, e.1.1 ∙ i.0, next_room _ _ _ _ _ _ i.1 i.2 e.1.0 (e.1.1 ∙ i.0) c.requires.1)

pub loop-member-preserved : goal.loop-member-preserved
loop-member-preserved c =
    let i = c.loop-member.invariant in
    let e = c.in-Some.ensures.steps in
    let n = next _ _ _ _ _ _ i.1 i.2 e.1.0 (e.1.1 ∙ i.0) _ c.settle.ensures in
    (e.0 ∙ i.0, n.0, n.1)

pub returns : goal.returns
returns c =
    let i = c.loop-member.invariant in
    all_settled _ _ _ _ i.1 i.2 (omega (arith, c.in-None.ensures.steps.1.0, i.0))
