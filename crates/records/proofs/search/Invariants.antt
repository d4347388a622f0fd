-- The loop of `records::search`: what it keeps, and its measure.
use mathlib.Core.Path.{◌≡◌}
use mathlib.Core.Bool.{true}
use Prim.Native.Nat.{ℕ, ◌≤◌, ◌<◌, ◌-◌}
use Rattle.model.specs.declared.delta_snapshot.Slot.{Slot}
use Rattle.model.specs.Slots.{slot_ltb}
use Rattle.model.specs.Layers.{Layer}
use Rattle.records.specs.Records.{record_at, Entries}
use Rattle.records.proofs.Places.{Below}
use Rattle.records.proofs.search.Given as goal

-- Of records whose slots stand in the bytes, those before lo come before the slot, and those from hi on after it.
pub record Narrowed (slot : Slot) (n lo hi : ℕ) (l : Layer) : Type 0 where
  pub below : Below l slot lo
  pub above : (j : ℕ) → hi ≤ j → j < n → slot_ltb slot (record_at j l).slot ≡ true

abbrev pub invariant-loop-lo : goal.invariant-loop-lo
invariant-loop-lo z = (z.lo ≤ z.hi) × (z.hi ≤ z.n) × ((l : Layer) → Entries z.wide z.n z.s l → Narrowed z.slot z.n z.lo z.hi l)

abbrev pub decreases-loop-lo : goal.decreases-loop-lo
decreases-loop-lo l = l.hi - l.lo
