-- `lent_lists::expand_member` meets its contract. Assumes nothing.
use Prim.Native.Nat.{◌+◌, ◌-◌}
use mathlib.Core.Path.{refl}
use native.Mathlib.Omega.{arith}
use Rattle.lent_lists.proofs.Members.{part_fits, valued_size, put_valued, put_refused}
use Rattle.lent_lists.proofs.expand_member.Goals as goal

pub bounds-list-at : goal.bounds-list-at
bounds-list-at c = omega (arith, part_fits c.args.list.now c.args.at c.requires.0)

pub slice_bounds-place-end : goal.slice_bounds-place-end
slice_bounds-place-end c = omega (arith, c.requires.0, valued_size c.args.list.now c.args.at c.if-list-at-eq1.true)

pub returns-then-list-at-eq1 : goal.returns-then-list-at-eq1
returns-then-list-at-eq1 c =
    let a = c.args in
    put_valued a.list.now a.at a.members.now a.k c.requires.1 (a.at + 85 - a.at) _ c.requires.0 c.if-list-at-eq1.true (omega arith) c.place.ensures

pub slice_bounds-place-end-2 : goal.slice_bounds-place-end-2
slice_bounds-place-end-2 c = omega (arith, part_fits c.args.list.now c.args.at c.requires.0)

pub returns : goal.returns
returns c =
    let a = c.args in
    put_refused a.list.now a.at a.members.now a.k c.requires.1 (a.at + 52 - a.at) _ _ (part_fits a.list.now a.at c.requires.0) c.if-list-at-eq1.false (omega arith) c.place-2.ensures refl
