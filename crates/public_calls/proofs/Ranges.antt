-- The words of a slot and of a retention that are passed by value fit their fields. Assumes nothing.
use Prim.Native.Nat.{◌^◌}
use mathlib.Core.Path.{◌≡◌, refl}
use mathlib.Core.Bool.{true}
use mathlib.Core.List.{List}
use borrow.Author.Tests.{lt-ltb}
use mir.Val.{Val}
use denote.Laws.{Is}
use Rattle.model.specs.contracts.storage_memo.Address as address
use Rattle.model.specs.contracts.delta_snapshot.Slot as slot
use Rattle.model.specs.contracts.delta_snapshot.Retention as retention
use Rattle.model.specs.declared.storage_memo.Address.{Address}
use Rattle.model.specs.declared.delta_snapshot.Slot.{Slot}
use Rattle.model.specs.declared.delta_snapshot.Retention.{Retention}
use Rattle.model.specs.declared.delta_snapshot.Retention.TheVariants.{Unbounded, IdleBlocks}
use Rattle.model.proofs.SlotLaws.{and_intro}
use Rattle.image.specs.WellFormed.{address_fits, slot_fits, retention_fits}
use Rattle.unchecked_advance.proofs.Ranges.{word_range, u256_range}

address_range : (a : Address) (vs : List Val) → Is address.the_row a vs → address_fits a ≡ true
address_range a vs g =
    let w = g.1.1 in
    and_intro _ _ (lt-ltb a.w0 (2 ^ 32) w.0.1) (and_intro _ _ (word_range w.1.0.1) (word_range w.1.1.0.1))

pub slot_range : (s : Slot) (vs : List Val) → Is slot.the_row s vs → slot_fits s ≡ true
unfolding slot_fits
slot_range s vs g = and_intro _ _ (address_range s.address _ g.1.1.0) (u256_range s.index _ g.1.1.1.0)

pub retention_range : (R : Retention) (vs : List Val) → Is retention.the_row R vs → retention_fits R ≡ true
retention_range Unbounded vs g = refl
retention_range (IdleBlocks n) vs g = word_range g.1.1.1.1.0.1
