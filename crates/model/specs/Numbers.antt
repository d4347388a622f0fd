-- Numbers in bytes.
use Rattle.std.specs.Prelude.{ℕ, zero, suc, ◌+◌, ◌*◌, ◌/◌, ◌%◌, ◌<◌, List, [], ◌∷◌, ◌++◌, get_or}

-- The n bytes of a number, the highest first.
unfoldable pub be : ℕ → ℕ → List ℕ
be zero x = []
be (suc n) x = be n (x / 256) ++ (x % 256 ∷ [])

-- The number that bytes give, the highest first.
unfoldable pub num_from : ℕ → List ℕ → ℕ
num_from a [] = a
num_from a (x ∷ l) = num_from (a * 256 + x) l

abbrev pub num : List ℕ → ℕ
num l = num_from 0 l

-- Every element of a list is a byte.
abbrev pub Bytes : List ℕ → Type 0
Bytes b = (j : ℕ) → get_or b j 0 < 256
