-- Whether a plan admits an address, by the bytes of its addresses. Assumes nothing.
use mathlib.Core.Path.{◌≡◌, refl, ap}
use mathlib.Core.Bool.{true}
use Prim.Native.Nat.{ℕ, zero, suc, ◌/◌, ◌≤◌, ◌<◌}
use mathlib.Core.List.{List, map}
use native.Mathlib.Nat.{div-eq_of_lt}
use native.Mathlib.Omega.{arith}
use lib.ListN.{length}
use Rattle.model.specs.declared.storage_memo.Address.{Address}
use Rattle.model.specs.Advance.{relevant}
use Rattle.model.specs.Entries.{address_of, addresses_of, chunks}
use Rattle.bal_plan.specs.Plan.{admits_from}

module _ (plan : List ℕ) (a : Address) where
  pub admits_all : length plan < 20 → admits_from (addresses_of plan) a ≡ true
  unfolding chunks addresses_of
  admits_all h = ap (λ (n : ℕ). admits_from (map address_of (chunks 20 n plan)) a) (div-eq_of_lt h)

  -- A list that names an address admits those that it names.
  pub admits_named : 20 ≤ length plan → relevant (addresses_of plan) a ≡ admits_from (addresses_of plan) a
  unfolding chunks addresses_of
  admits_named h = named (length plan / 20) (omega arith)
    where
      named : (n : ℕ) → 0 < n → relevant (map address_of (chunks 20 n plan)) a ≡ admits_from (map address_of (chunks 20 n plan)) a
      named zero k = absurd (omega arith)
      named (suc n) k = refl
