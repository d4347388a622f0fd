-- The arguments that lent bytes give fit the code's types. Assumes nothing.
use Prim.Native.Nat.{ℕ, ◌^◌, ◌<◌}
use mathlib.Core.Path.{◌≡◌, refl}
use mathlib.Core.Bool.{Bool, true, false, cond}
use mathlib.Core.List.{List}
use borrow.Author.Tests.{lt-ltb}
use lib.Dec.{eqb}
use lib.ListN.{length}
use Rattle.model.specs.Numbers.{Bytes}
use Rattle.model.specs.declared.delta_snapshot.Retention.TheVariants.{Unbounded, IdleBlocks}
use Rattle.model.specs.Slots.{at, identified}
use Rattle.model.specs.Entries.{u256_at}
use Rattle.model.proofs.SlotLaws.{and_intro}
use Rattle.image.specs.WellFormed.{anchor_fits, retention_fits}
use Rattle.image.proofs.EntriesFit.{u256_at_fits}
use Rattle.header.specs.Header.{lent_anchor}
use Rattle.lent_calls.specs.Arguments.{lent_retention}

pub lent_anchor_fits : (n : ℕ) (h : List ℕ) → n < 2 ^ 64 → Bytes h → anchor_fits (lent_anchor n h) ≡ true
unfolding anchor_fits
lent_anchor_fits n h k f = go (eqb (length h) 0)
  where
    go : (t : Bool) → anchor_fits (cond t (at n) (identified n (u256_at 0 h))) ≡ true
    go true = and_intro _ _ (lt-ltb n (2 ^ 64) k) refl
    go false = and_intro _ _ (lt-ltb n (2 ^ 64) k) (u256_at_fits 0 h f)

pub lent_retention_fits : (form idle : ℕ) → idle < 2 ^ 64 → retention_fits (lent_retention form idle) ≡ true
lent_retention_fits form idle k = go (eqb form 0)
  where
    go : (t : Bool) → retention_fits (cond t Unbounded (IdleBlocks idle)) ≡ true
    go true = refl
    go false = lt-ltb idle (2 ^ 64) k
