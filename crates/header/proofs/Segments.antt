-- Bytes written over a segment, over zeros, and word by word.
use Prim.Native.Nat.{ℕ, zero, suc, ◌+◌, ◌-◌, ◌*◌, ◌≤◌}
use mathlib.Core.Path.{◌≡◌, refl, sym, ap, ap₂, ◌∙◌}
use mathlib.Core.List.{List, [], ◌∷◌, ◌++◌, append_assoc, append-nil}
use native.Mathlib.Omega.{arith}
use lib.ListN.{length, drop, get_or, replicate, length-append, length-replicate, replicate-append-replicate}
use lib.Seq.{take_at, drop_at}
use mir.Syntax.{w8}
use mir.Val.{Fits}
use Rattle.model.specs.Numbers.{be, Bytes}
use Rattle.words.specs.Parts.{placed}
use Rattle.image.specs.Image.{bytes_of}
use Rattle.image.proofs.Words.{length_bytes_of}
use Rattle.model.proofs.NumberLaws.{length_be}
use Rattle.image.proofs.Written.{bytes_append, placed_after}

-- The bytes of words that are 0 are 0.
pub zero_bytes : (n : ℕ) → bytes_of (replicate n 0) ≡ replicate (8 * n) 0
unfolding bytes_of be
zero_bytes zero = refl
zero_bytes (suc n) =
    let e : 8 + 8 * n ≡ 8 * suc n = omega arith in
    let z : be 8 0 ≡ replicate {A = ℕ} 8 0 = refl in
    ap₂ (λ (k l : List ℕ). k ++ l) z (zero_bytes n) ∙ replicate-append-replicate 8 (8 * n) 0 ∙ ap (λ (k : ℕ). replicate {A = ℕ} k 0) e

-- Zeros are as many zeros and the rest of them.
pub zeros_split : (m n : ℕ) → m ≤ n → replicate {A = ℕ} n 0 ≡ replicate m 0 ++ replicate (n - m) 0
zeros_split m n h =
    let e : n ≡ m + (n - m) = omega arith in
    ap (λ (k : ℕ). replicate {A = ℕ} k 0) e ∙ sym (replicate-append-replicate m (n - m) 0)

-- x placed after p, where m things stood.
pub placed_over : (p x y z : List ℕ) (n : ℕ) → length p ≡ n → length x ≡ length y → placed n x (p ++ (y ++ z)) ≡ p ++ (x ++ z)
placed_over p x y z n e f =
    let q : length (p ++ y) ≡ n + length x = length-append p y ∙ omega arith in
    ap₂ (λ (u v : List ℕ). u ++ x ++ v) (take_at p (y ++ z) n e) (ap (drop (n + length x)) (sym (append_assoc p y z)) ∙ drop_at (p ++ y) z (n + length x) q)
    ∙ append_assoc p x z

-- x placed over the first of n zeros after p.
pub placed_zeros : (p x z : List ℕ) (at n : ℕ) → length p ≡ at → length x ≤ n → placed at x (p ++ (replicate n 0 ++ z)) ≡ p ++ (x ++ (replicate (n - length x) 0 ++ z))
placed_zeros p x z at n e h =
    let m : ℕ = length x in
    let k : List ℕ = replicate m 0 in
    let w : List ℕ = replicate (n - m) 0 in
    ap (λ (l : List ℕ). placed at x (p ++ (l ++ z))) (zeros_split m n h)
    ∙ ap (λ (l : List ℕ). placed at x (p ++ l)) (append_assoc k w z)
    ∙ placed_over p x k (w ++ z) at e (sym (length-replicate {A = ℕ} m 0))

-- A word written, and one more after words that are written.
pub first_word : (at w : ℕ) (s : List ℕ) {t : List ℕ} → t ≡ placed at (be 8 w) s → t ≡ placed at (bytes_of (w ∷ [])) s
unfolding bytes_of
first_word at w s e = rw append-nil e

pub next_word : (at k w : ℕ) (ws s : List ℕ) {t u : List ℕ} → k ≡ at + 8 * length ws → k + 8 ≤ length s → t ≡ placed at (bytes_of ws) s → u ≡ placed k (be 8 w) t
    → u ≡ placed at (bytes_of (ws ++ (w ∷ []))) s
unfolding bytes_of
next_word at k w ws s g h e f =
    let n : k ≡ at + length (bytes_of ws) = omega (arith, length_bytes_of ws) in
    let m : k + length (be 8 w) ≤ length s = omega (arith, length_be 8 w) in
    f ∙ ap (placed k (be 8 w)) e ∙ placed_after at k (bytes_of ws) (be 8 w) s n m
    ∙ ap (λ (x : List ℕ). placed at x s) (ap (λ (x : List ℕ). bytes_of ws ++ x) (sym (append-nil (be 8 w))) ∙ sym (bytes_append ws (w ∷ [])))

-- The elements of a slice are bytes.
pub known_bytes : (s : List ℕ) → ((j : ℕ) → Fits w8 (get_or s j 0)) → Bytes s
known_bytes s f = λ j. (f j).fits
