-- An entry put by its words.
use Prim.Native.Nat.{ℕ, ◌+◌, ◌*◌, ◌≤◌}
use mathlib.Core.Path.{◌≡◌, sym, ap, ◌∙◌}
use mathlib.Core.List.{List, ◌++◌}
use native.Mathlib.Omega.{arith}
use lib.ListN.{length, take, drop, length-append, length-take, length-drop}
use Rattle.layout.specs.Layout.{slot_size, slot_width}
use Rattle.words.specs.Parts.{part, placed}
use Rattle.words.specs.Moved.{moved}
use Rattle.words.proofs.Moves.{gap_filled}
use Rattle.image.specs.Image.{bytes_of}
use Rattle.image.proofs.Words.{length_bytes_of}
use Rattle.image.proofs.Written.{bytes_append, placed_after}

-- A run moved up.
length_moved : (at len by : ℕ) (s : List ℕ) → at + by + len ≤ length s → length (moved at len by s) ≡ length s
length_moved at len by s h = simp (length-append, length-take, length-drop) (omega arith)

-- A slot's words and those after them, in the gap of an entry moved up: `wide` bytes in all.
pub entry_put : (at len wide : ℕ) (xs ys s : List ℕ) {t0 t1 t2 : List ℕ} → length xs ≡ slot_width → wide ≡ slot_size + 8 * length ys → at + wide + len ≤ length s
    → t0 ≡ moved at len wide s → t1 ≡ placed at (bytes_of xs) t0 → t2 ≡ placed (at + slot_size) (bytes_of ys) t1
    → t2 ≡ take at s ++ bytes_of (xs ++ ys) ++ part at len s ++ drop (at + wide + len) s
entry_put at len wide xs ys s m n h e f g =
    let x = bytes_of xs in
    let y = bytes_of ys in
    let z = moved at len wide s in
    let i : at + slot_size ≡ at + length x = omega (arith, length_bytes_of xs) in
    let j : at + slot_size + length y ≤ length z = omega (arith, length_bytes_of ys, length_moved at len wide s h) in
    let k : length (bytes_of (xs ++ ys)) ≡ wide = length_bytes_of (xs ++ ys) ∙ omega (arith, length-append xs ys) in
    g ∙ ap (placed (at + slot_size) y) (f ∙ ap (placed at x) e) ∙ placed_after at (at + slot_size) x y z i j
    ∙ ap (λ (v : List ℕ). placed at v z) (sym (bytes_append xs ys)) ∙ gap_filled at len wide (bytes_of (xs ++ ys)) s k h
