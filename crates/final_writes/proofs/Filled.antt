-- A filled output: the entries within the limit at its beginning. Assumes nothing.
use mathlib.Core.Path.{◌≡◌, refl, sym, ap, ap₂, ◌∙◌}
use mathlib.Core.Bool.{Bool, true, false, cond}
use mathlib.Core.List.{List, [], ◌∷◌, map}
use Prim.Native.Nat.{ℕ, suc, ◌+◌, ◌-◌, ◌*◌, ◌≤◌, ◌<◌}
use native.Mathlib.Nat.{suc-mul, add-zero, add-mul}
use native.Mathlib.Omega.{arith}
use lib.Dec.{ltb}
use lib.ListN.{length, take}
use lib.Seq.{take-nil}
use borrow.Author.Tests.{ltb-true, ltb-false}
use Rattle.words.specs.Parts.{placed}
use Rattle.words.proofs.Places.{placed_length}
use Rattle.entries.proofs.Placing.{placed_nil, placed_next}
use Rattle.bal_entries.specs.Filling.{fill}
use Rattle.final_writes.specs.Lent.{joined}

-- Entries of w bytes each.
module _ {A : Type 0} (g : A → List ℕ) (w most : ℕ) (wide : (x : A) → length (g x) ≡ w) where
  abbrev Result : List A → ℕ → List ℕ → Type 0
  Result xs n out =
      fill w most (map g xs) (record { found = n; out = out }) ≡ record { found = n + length xs; out = placed (n * w) (joined (map g (take (most - n) xs))) out }

  nothing_over : (xs : List A) (n m : ℕ) (out : List ℕ) → most ≤ n → out ≡ placed m (joined (map g (take (most - n) xs))) out
  unfolding joined
  nothing_over xs n m out h =
      let e : most - n ≡ 0 = omega arith in
      sym (ap (λ (k : ℕ). placed m (joined (map g (take k xs))) out) e ∙ placed_nil m out)

  one_more : (x : A) (xs : List A) (n : ℕ) (out : List ℕ) → (n + suc (length xs)) * w ≤ length out → ((o : List ℕ) → (n + 1 + length xs) * w ≤ length o → Result xs (n + 1) o) → (t : Bool) → ltb n most ≡ t
      → fill w most (map g xs) (record { found = n + 1; out = cond t (placed (n * w) (g x) out) out }) ≡ record { found = n + suc (length xs); out = placed (n * w) (joined (map g (take (most - n) (x ∷ xs)))) out }
  unfolding joined
  one_more x xs n out h ih true e =
      let k : n < most = ltb-true n most e in
      let y : n + 1 + length xs ≡ n + suc (length xs) = omega arith in
      let z : (n + suc (length xs)) * w ≡ n * w + (w + length xs * w) = add-mul n (suc (length xs)) w ∙ omega (arith, suc-mul (length xs) w) in
      let o : List ℕ = placed (n * w) (g x) out in
      let wx : length (g x) ≡ w = wide x in
      let same : length o ≡ length out = placed_length (n * w) (g x) out (omega arith) in
      let fits : (n + 1 + length xs) * w ≤ length o = rw (y, same) h in
      let m : most - n ≡ suc (most - (n + 1)) = omega arith in
      let a : (n + 1) * w ≡ n * w + length (g x) = add-mul n 1 w ∙ omega arith in
      ih o fits
      ∙ ap₂ (λ (c : ℕ) (l : List ℕ). record { found = c; out = l }) y
      (placed_next (n * w) ((n + 1) * w) (g x) (joined (map g (take (most - (n + 1)) xs))) out a (omega arith)
      ∙ ap (λ (c : ℕ). placed (n * w) (joined (map g (take c (x ∷ xs)))) out) (sym m))
  one_more x xs n out h ih false e =
      let k : most ≤ n = ltb-false n most e in
      let y : n + 1 + length xs ≡ n + suc (length xs) = omega arith in
      let fits : (n + 1 + length xs) * w ≤ length out = rw y h in
      ih out fits
      ∙ ap₂ (λ (c : ℕ) (l : List ℕ). record { found = c; out = l }) y
      (sym (nothing_over xs (n + 1) ((n + 1) * w) out (omega arith)) ∙ nothing_over (x ∷ xs) n (n * w) out k)

  pub fill_is : (xs : List A) (n : ℕ) (out : List ℕ) → (n + length xs) * w ≤ length out → Result xs n out
  unfolding fill joined
  fill_is [] n out h =
      ap₂ (λ (k : ℕ) (o : List ℕ). record { found = k; out = o }) (sym (add-zero n))
      (sym (ap (λ (l : List A). placed (n * w) (joined (map g l)) out) (take-nil (most - n)) ∙ placed_nil (n * w) out))
  fill_is (x ∷ xs) n out h = one_more x xs n out h (λ o k. fill_is xs (n + 1) o k) (ltb n most) refl
