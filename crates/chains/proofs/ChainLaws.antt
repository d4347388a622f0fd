-- The table of no records; the walk down a chain.
use mathlib.Core.Path.{◌≡◌, refl, sym, subst, ◌∙◌}
use mathlib.Core.Bool.{true, false}
use mathlib.Core.List.{List}
use Prim.Native.Nat.{ℕ, zero, suc, ◌≤◌, ◌<◌}
use native.Mathlib.Omega.{arith}
use lib.Dec.{eqb, ltb}
use lib.ListN.{get_or, replicate, length-replicate}
use borrow.Author.Tests.{eqb-true, eqb-false, ltb-true, ltb-false}
use Rattle.model.specs.Slots.{slot_eqb}
use Rattle.model.proofs.SlotLaws.{split, slot_eqb_true, slot_eqb_false}
use Rattle.order.specs.Index.{slot_at}
use Rattle.chains.specs.Chains.{Last, LastOfSlot, bucket_at, Chained}
use Rattle.chains.proofs.SlotAt.{one_bucket}

-- The last number ------------------------------------------------------------------------------------------

module _ {P : ℕ → Type 0} where
  -- Below 0 there is none.
  pub last_zero : Last P 0 0
  last_zero = record { low = omega arith; has = λ k e. absurd (omega arith); later = λ k h l p. omega arith }

-- The table --------------------------------------------------------------------------------------------------

-- The table of no records.
pub chained_none : (s : List ℕ) → Chained s 0 (replicate 8192 0) (replicate 4096 0)
chained_none s = record {
  buckets = length-replicate {A = ℕ} 8192 0;
  places = length-replicate {A = ℕ} 4096 0;
  heads = λ b h. subst (Last (λ k. bucket_at k s ≡ b) 0) (sym (zeros 8192 b)) last_zero;
  prevs = λ j h. absurd (omega arith);
}
  where
    zeros : (n b : ℕ) → ◌≡◌ {A = ℕ} (get_or (replicate n 0) b 0) 0
    zeros zero b = refl
    zeros (suc n) zero = refl
    zeros (suc n) (suc b) = zeros n b

-- The walk ---------------------------------------------------------------------------------------------------

-- A walk for record i has come to p: what it says is in the bucket, and no later record has the slot.
pub record Walking (s : List ℕ) (i p : ℕ) : Type 0 where
  pub low : p ≤ i
  pub near : (k : ℕ) → p ≡ suc k → bucket_at k s ≡ bucket_at i s
  pub none : (k : ℕ) → p ≤ k → k < i → slot_at k s ≡ slot_at i s → ⊥

-- It begins at the last record of the bucket.
pub walk_start : (s : List ℕ) (i b p : ℕ) → b ≡ bucket_at i s → Last (λ k. bucket_at k s ≡ b) i p → Walking s i p
walk_start s i b p e l = record {
  low = l.low;
  near = λ k q. l.has k q ∙ e;
  none = λ k h m q. l.later k h m (one_bucket k i s q ∙ sym e);
}

-- It goes on from a record of another slot to the one below in the bucket.
pub walk_on : (s : List ℕ) (i j p q : ℕ) → p ≡ suc j → Walking s i p → false ≡ slot_eqb (slot_at j s) (slot_at i s) → Last (λ k. bucket_at k s ≡ bucket_at j s) j q → Walking s i q
walk_on s i j p q e w d l = record {
  low = omega (arith, l.low, w.low);
  near = λ k f. l.has k f ∙ w.near j e;
  none = λ k h m f. split (ltb k j)
      (λ t. l.later k h (ltb-true k j t) (one_bucket k i s f ∙ sym (w.near j e)))
      (λ u. split (eqb k j)
      (λ t. let z : k ≡ j = eqb-true k j t in slot_eqb_false (slot_at j s) (slot_at i s) (sym d) (rw z at f))
      (λ v. w.none k (omega (arith, ltb-false k j u, eqb-false k j v)) m f));
}

-- It may end at a record of the slot.
pub walk_found : (s : List ℕ) (i j p : ℕ) → p ≡ suc j → Walking s i p → true ≡ slot_eqb (slot_at j s) (slot_at i s) → LastOfSlot s i (suc j)
walk_found s i j p e w t = record {
  low = omega (arith, w.low);
  has = λ k f. let z : j ≡ k = omega arith in rw (← z) (slot_eqb_true (slot_at j s) (slot_at i s) (sym t));
  later = λ k h. w.none k (omega arith);
}
