-- A line as its word, its numbers with a blank before each, and a newline. Assumes nothing.
use mathlib.Core.Path.{◌≡◌, refl, sym, ap, ◌∙◌}
use mathlib.Core.List.{List, [], ◌∷◌, ◌++◌}
use Prim.Native.Nat.{ℕ, ◌+◌, ◌*◌, ◌≤◌, ◌<◌}
use native.Mathlib.Numerals.{add-one}
use native.Mathlib.Omega.{arith}
use lib.ListN.{length, drop, get_or, length-append, drop_of_length-le}
use lib.Seq.{drop-cons}
use Rattle.call_list.specs.Listing.{decimal, decimals, line}
use Rattle.digits.proofs.Digits.{decimal_length}

-- what stands after the word
unfoldable pub fields : List ℕ → List ℕ
fields [] = 10 ∷ []
fields (n ∷ ns) = (32 ∷ decimal n) ++ fields ns

pub line_fields : (w ns : List ℕ) → line w (decimals ns) ≡ w ++ fields ns
unfolding line decimals fields
line_fields w [] = refl
line_fields w (n ∷ ns) = ap (λ (l : List ℕ). w ++ (32 ∷ l)) (line_fields (decimal n) ns)

pub line_fields_length : (w ns : List ℕ) → length (line w (decimals ns)) ≡ length w + length (fields ns)
line_fields_length w ns = ap length (line_fields w ns) ∙ length-append w (fields ns)

pub fields_turn : (ns : List ℕ) (i : ℕ) → i < length ns → fields (drop i ns) ≡ (32 ∷ decimal (get_or ns i 0)) ++ fields (drop (i + 1) ns)
unfolding fields
fields_turn ns i h = ap fields (drop-cons ns i 0 h ∙ ap (λ (k : ℕ). get_or ns i 0 ∷ drop k ns) (sym (add-one i)))

pub fields_turn_length : (ns : List ℕ) (i : ℕ) → i < length ns → length (fields (drop i ns)) ≡ 1 + length (decimal (get_or ns i 0)) + length (fields (drop (i + 1) ns))
fields_turn_length ns i h = omega (arith, ap length (fields_turn ns i h), length-append (decimal (get_or ns i 0)) (fields (drop (i + 1) ns)))

-- no number is left
pub fields_done : (ns : List ℕ) (i : ℕ) → length ns ≤ i → fields (drop i ns) ≡ 10 ∷ []
unfolding fields
fields_done ns i h = ap fields (drop_of_length-le ns h)

fields_length : (ns : List ℕ) → length (fields ns) ≤ 21 * length ns + 1
unfolding fields
fields_length [] = omega arith
fields_length (n ∷ ns) = omega (arith, length-append (decimal n) (fields ns), decimal_length n, fields_length ns)

-- a number has at most 20 digits
pub line_length : (w ns : List ℕ) → length (line w (decimals ns)) ≤ length w + 21 * length ns + 1
line_length w ns = omega (arith, line_fields_length w ns, fields_length ns)
