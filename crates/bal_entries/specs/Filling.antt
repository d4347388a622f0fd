-- An output filled with entries under a cap.
use Rattle.std.specs.Prelude.{ℕ, ◌+◌, ◌*◌, cond, List, [], ◌∷◌, ltb}
use Rattle.words.specs.Parts.{placed}

-- An output, and the number of entries found for it.
pub record Filled : Type 0 where
  pub found : ℕ
  pub out : List ℕ

-- One entry of w bytes more. It is put at its place if fewer than `most` were found before it.
abbrev pub fill_one : ℕ → ℕ → List ℕ → Filled → Filled
fill_one w most b f = record { found = f.found + 1; out = cond (ltb f.found most) (placed (f.found * w) b f.out) f.out }

unfoldable pub fill : ℕ → ℕ → List (List ℕ) → Filled → Filled
fill w most [] f = f
fill w most (b ∷ bs) f = fill w most bs (fill_one w most b f)
