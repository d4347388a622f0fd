-- The entries within a cap, by the largest number that it lets through. Assumes nothing.
use Rattle.std.specs.Prelude.{None, Option, Some}
use mathlib.Core.Path.{◌≡◌, ap, ◌∙◌}
use mathlib.Core.Bool.{Bool, cond}
use Prim.Native.Nat.{ℕ, ◌≤◌, min}
use native.Mathlib.Omega.{arith}
use lib.Dec.{ltb}
use borrow.Author.Tests.{ltb-true, ltb-false}
use Rattle.model.proofs.SlotLaws.{split}
use Rattle.bal_plan.specs.Plan.{within_cap, limit_of}

pub within_is : (c : Option ℕ) (n : ℕ) → n ≤ 18446744073709551615 → within_cap c n ≡ min n (limit_of c)
within_is None n h = omega arith
within_is (Some k) n h =
    split (ltb k n)
    (λ e. ap (λ (t : Bool). cond t k n) e ∙ omega (arith, ltb-true k n e))
    (λ e. ap (λ (t : Bool). cond t k n) e ∙ omega (arith, ltb-false k n e))
