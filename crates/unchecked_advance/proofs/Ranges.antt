-- The words of a 32-byte number and of an anchor that are passed by value fit their fields. Assumes nothing.
use Rattle.std.specs.Prelude.{None, Option, Some}
use Prim.Native.Nat.{ℕ, ◌<◌, ◌^◌}
use mathlib.Core.Path.{◌≡◌, refl}
use mathlib.Core.Bool.{true}
use mathlib.Core.List.{List}
use borrow.Author.Tests.{lt-ltb}
use mir.Val.{Val}
use denote.Laws.{Is}
use Rattle.model.specs.contracts.storage_memo.U256 as u256
use Rattle.model.specs.contracts.storage_memo.ReadAnchor as read_anchor
use Rattle.model.specs.declared.storage_memo.U256.{U256}
use Rattle.model.specs.declared.storage_memo.ReadAnchor.{ReadAnchor}
use Rattle.model.proofs.SlotLaws.{and_intro}
use Rattle.model.specs.Slots.{fits_64, u256_fits}
use Rattle.image.specs.WellFormed.{anchor_fits}

pub word_range : {x : ℕ} → x < 2 ^ 64 → fits_64 x ≡ true
word_range {x} h = lt-ltb x (2 ^ 64) h

pub u256_range : (x : U256) (vs : List Val) → Is u256.the_row x vs → u256_fits x ≡ true
u256_range x vs g =
    let w = g.1.1 in
    and_intro _ _ (word_range w.0.1) (and_intro _ _ (word_range w.1.0.1) (and_intro _ _ (word_range w.1.1.0.1) (word_range w.1.1.1.0.1)))

parts_range : (n : ℕ) (h : Option U256) (vs : List Val) → Is read_anchor.the_row (record { number = n; hash = h }) vs → anchor_fits (record { number = n; hash = h }) ≡ true
unfolding anchor_fits
parts_range n None vs g = and_intro _ _ (word_range g.1.1.0.1) refl
parts_range n (Some x) vs g = and_intro _ _ (word_range g.1.1.0.1) (u256_range x _ g.1.1.1.0.1.1.1.1.0)

pub anchor_range : (a : ReadAnchor) (vs : List Val) → Is read_anchor.the_row a vs → anchor_fits a ≡ true
anchor_range a vs g = parts_range a.number a.hash vs g
