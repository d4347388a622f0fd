-- Words of 64 bits.
use Prim.Native.Nat.{ℕ, zero, suc, ◌^◌, ◌<◌}
use mathlib.Core.Path.{◌≡◌}
use mathlib.Core.Bool.{Bool, true, ◌&&◌}
use mathlib.Core.List.{List, [], ◌∷◌, ◌++◌}
use lib.Dec.{lit<}
use lib.ListN.{replicate}
use borrow.Author.Tests.{ltb-true}
use Rattle.model.specs.Slots.{U256, u256_words, fits_64, u256_fits}
use Rattle.model.proofs.SlotLaws.{and_left, and_right}

-- Every word of a list has 64 bits.
pub data Fit : List ℕ → Type 0 where
  fit_nil : Fit []
  fit_cons : {x : ℕ} {xs : List ℕ} → x < 2 ^ 64 → Fit xs → Fit (x ∷ xs)

pub fit_append : {xs ys : List ℕ} → Fit xs → Fit ys → Fit (xs ++ ys)
fit_append fit_nil q = q
fit_append (fit_cons h p) q = fit_cons h (fit_append p q)

pub fit_left : (xs ys : List ℕ) → Fit (xs ++ ys) → Fit xs
fit_left [] ys p = fit_nil
fit_left (x ∷ xs) ys (fit_cons h p) = fit_cons h (fit_left xs ys p)

pub fit_zeros : (n : ℕ) → Fit (replicate n 0)
fit_zeros zero = fit_nil
fit_zeros (suc n) = fit_cons (lit< tt) (fit_zeros n)

-- A number that fits, a word that fits and those after it, and the words of a 32-byte number.
pub fits : (x : ℕ) → fits_64 x ≡ true → x < 2 ^ 64
fits x e = ltb-true x (2 ^ 64) e

pub fit_and : {xs : List ℕ} (x : ℕ) (t : Bool) → (fits_64 x && t) ≡ true → (t ≡ true → Fit xs) → Fit (x ∷ xs)
fit_and x t e k = fit_cons (fits x (and_left (fits_64 x) t e)) (k (and_right (fits_64 x) t e))

pub fit_u256 : (x : U256) → u256_fits x ≡ true → Fit (u256_words x)
fit_u256 x e = fit_and x.w0 _ e (λ e₁. fit_and x.w1 _ e₁ (λ e₂. fit_and x.w2 _ e₂ (λ e₃. fit_cons (fits x.w3 e₃) fit_nil)))
