-- What a walk over record numbers that are ordered by slot asks: whether a record is the last of its slot.
use Rattle.std.specs.Prelude.{ℕ, Bool, true, not, List, [], ◌∷◌, leb, get_or}

-- Whether the first number is the last of its slot.
unfoldable pub last_of : List ℕ → List ℕ → Bool
last_of ss [] = true
last_of ss (x ∷ []) = true
last_of ss (x ∷ y ∷ l) = not (leb (get_or ss y 0) (get_or ss x 0))
