-- `bal_entries::seed_slots` meets its contract. Assumes nothing.
use mathlib.Core.Path.{subst, ◌≡◌}
use Prim.Native.Nat.{ℕ}
use native.Mathlib.Omega.{arith}
use Rattle.bal_entries.specs.Walking.{SlotsSeeded}
use Rattle.bal_entries.proofs.SlotWalk.{none_seeded, more_seeded}
use Rattle.bal_entries.proofs.seed_slots.Goals as goal

pub loop-init : goal.loop-init
loop-init c =
    let a = c.args in
    none_seeded a.address a.slots.now a.changes.now a.most a.from a.out.now c.requires.changes_left

pub seed_slot-spot-requires : goal.seed_slot-spot-requires
seed_slot-spot-requires c =
    let l = c.loop in
    record { slots_left = omega (arith, l.invariant.slot_is); changes_left = l.invariant.changes_left; found_before = omega (arith, l.invariant.slot_is, l.invariant.few_found); room = omega (arith, l.auto.out) }

pub loop-preserved : goal.loop-preserved
loop-preserved c =
    let l = c.loop in
    let a = c.args in
    more_seeded a.address a.slots.now a.changes.now a.most l.counter 1 a.from l.spot c.seed_slot-spot.result a.out.now l.out _ l.invariant c.seed_slot-spot.ensures

pub returns : goal.returns
returns c =
    let l = c.loop in
    let a = c.args in
    let e : l.counter ≡ a.count = omega arith in
    subst (λ (n : ℕ). SlotsSeeded a.address a.slots.now a.changes.now a.most n a.from a.out.now l.spot l.out) e l.invariant
