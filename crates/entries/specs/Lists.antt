-- Lists of entries in bytes.
use Rattle.std.specs.Prelude.{ℕ, zero, suc, ◌/◌, List, [], ◌∷◌, length, drop}

-- n entries of w bytes each; each is read from its first byte on.
unfoldable pub entries : {A : Type 0} → (List ℕ → A) → ℕ → ℕ → List ℕ → List A
entries rd w zero l = []
entries rd w (suc n) l = rd l ∷ entries rd w n (drop w l)

-- The entries of w bytes that bytes hold. Bytes at the end that are no whole entry are no entry.
abbrev pub all_entries : {A : Type 0} → (List ℕ → A) → ℕ → List ℕ → List A
all_entries rd w l = entries rd w (length l / w) l
