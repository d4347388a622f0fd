-- `lent_lists::expand_members` meets its contract. Assumes nothing.
use Prim.Native.Nat.{◌*◌, ◌≤◌}
use native.Mathlib.Omega.{arith}
use lib.ListN.{length}
use Rattle.lent_lists.proofs.Members.{putting_start, putting_next, putting_end, member_there, room_for}
use Rattle.lent_lists.proofs.expand_members.Goals as goal

pub loop-k-init : goal.loop-k-init
loop-k-init c =
    let a = c.args in
    putting_start a.list.now a.span a.members.now c.requires.0

pub expand_member-at-requires : goal.expand_member-at-requires
expand_member-at-requires c =
    let room : c.args.span.count * 85 ≤ length c.loop-k.members = room_for c.args.list.now c.args.span (length c.loop-k.members) c.requires.0 (omega (arith, c.requires.1, c.loop-k.auto.members)) in
    let a = c.args in
    (member_there a.list.now a.span c.loop-k.members c.loop-k.at c.loop-k.k c.loop-k.invariant c.loop-k-test.true, omega (arith, room, c.loop-k-test.true))

pub loop-k-preserved : goal.loop-k-preserved
loop-k-preserved c =
    let room : c.args.span.count * 85 ≤ length c.loop-k.members = room_for c.args.list.now c.args.span (length c.loop-k.members) c.requires.0 (omega (arith, c.requires.1, c.loop-k.auto.members)) in
    let a = c.args in
    putting_next a.list.now a.span c.loop-k.members c.loop-k.at c.loop-k.k c.loop-k.invariant _ _ c.loop-k-test.true (omega (arith, room, c.loop-k-test.true)) c.expand_member-at.ensures

pub returns : goal.returns
returns c =
    let room : c.args.span.count * 85 ≤ length c.loop-k.members = room_for c.args.list.now c.args.span (length c.loop-k.members) c.requires.0 (omega (arith, c.requires.1, c.loop-k.auto.members)) in
    let a = c.args in
    (putting_end a.list.now a.span c.loop-k.members c.loop-k.at c.loop-k.k c.loop-k.invariant c.loop-k-test.false, room, c.loop-k.auto.members)
