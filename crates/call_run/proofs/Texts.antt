-- A text written at a place, and parts of an output. Assumes nothing.
use Prim.Native.Nat.{ℕ, ◌+◌, ◌-◌, ◌≤◌}
use mathlib.Core.Path.{◌≡◌, sym, ap, ◌∙◌}
use mathlib.Core.List.{List, [], ◌++◌, append_assoc}
use native.Mathlib.Omega.{arith}
use lib.ListN.{length, take, drop, length-append, take-append-drop, drop_of_length-le}
use lib.Seq.{length-take-le, take_at, drop_at, take-take, drop-drop, drop-append-le}
use Rattle.words.specs.Parts.{placed}

-- A text at a place, what is before it and what is after it.
module _ (at : ℕ) (v s : List ℕ) (h : at + length v ≤ length s) where
  head_length : length (take at s) ≡ at
  head_length = length-take-le at s (omega arith)

  text_length : length (take at s ++ v) ≡ at + length v
  text_length = length-append (take at s) v ∙ ap (λ (k : ℕ). k + length v) head_length

  pub placed_text : drop at (take (at + length v) (placed at v s)) ≡ v
  placed_text =
      ap (drop at) (take_at (take at s ++ v) (drop (at + length v) s) (at + length v) text_length)
      ∙ drop_at (take at s) v at head_length

  pub placed_before : take at (placed at v s) ≡ take at s
  placed_before =
      ap (take at) (append_assoc (take at s) v (drop (at + length v) s))
      ∙ take_at (take at s) (v ++ drop (at + length v) s) at head_length

  pub placed_rest : drop (at + length v) (placed at v s) ≡ drop (at + length v) s
  placed_rest = drop_at (take at s ++ v) (drop (at + length v) s) (at + length v) text_length

-- No text.
pub part_none : (a : ℕ) (s : List ℕ) → a ≤ length s → drop a (take a s) ≡ []
part_none a s h =
    let n : length (take a s) ≤ a = omega (arith, length-take-le a s h) in
    drop_of_length-le (take a s) n

-- A part in two.
pub part_then : (a b c : ℕ) (s : List ℕ) → a ≤ b → b ≤ c → c ≤ length s → drop a (take c s) ≡ drop a (take b s) ++ drop b (take c s)
part_then a b c s h k m =
    let n : a ≤ length (take b (take c s)) = omega (arith, length-take-le c s m, length-take-le b (take c s) (omega (arith, length-take-le c s m))) in
    ap (drop a) (sym (take-append-drop b (take c s)))
    ∙ drop-append-le a (take b (take c s)) (drop b (take c s)) n
    ∙ ap (λ (x : List ℕ). drop a x ++ drop b (take c s)) (take-take b c s k)

-- What is the same from a place on is so from a later one on.
pub later : (m n : ℕ) (x y : List ℕ) → m ≤ n → drop m x ≡ drop m y → drop n x ≡ drop n y
later m n x y h d =
    let e : m + (n - m) ≡ n = omega arith in
    ap (λ (k : ℕ). drop k x) (sym e) ∙ sym (drop-drop (n - m) m x) ∙ ap (drop (n - m)) d ∙ drop-drop (n - m) m y ∙ ap (λ (k : ℕ). drop k y) e
