-- Words written one after the other are their bytes placed.
use Prim.Native.Nat.{ℕ, ◌+◌, ◌*◌, ◌≤◌, ◌<◌}
use mathlib.Core.Path.{◌≡◌, refl, sym, ap, ap₂, ◌∙◌}
use mathlib.Core.List.{List, [], ◌∷◌, ◌++◌, append_assoc, append-nil}
use native.Mathlib.Omega.{arith}
use native.Mathlib.Numerals.{add-one}
use lib.ListN.{length, take, drop, get_or, take-append-drop, length-append}
use lib.Seq.{take-suc, take_at, drop_at, drop-drop, length-take-le}
use Rattle.model.specs.Numbers.{be}
use Rattle.words.specs.Parts.{placed}
use Rattle.image.specs.Image.{bytes_of}
use Rattle.image.proofs.Words.{length_bytes_of}

pub bytes_append : (xs ys : List ℕ) → bytes_of (xs ++ ys) ≡ bytes_of xs ++ bytes_of ys
unfolding bytes_of
bytes_append [] ys = refl
bytes_append (x ∷ xs) ys = ap (λ (l : List ℕ). be 8 x ++ l) (bytes_append xs ys) ∙ sym (append_assoc (be 8 x) (bytes_of xs) (bytes_of ys))

-- Bytes placed right after others.
pub placed_after : (at b : ℕ) (v r s : List ℕ) → b ≡ at + length v → b + length r ≤ length s → placed b r (placed at v s) ≡ placed at (v ++ r) s
placed_after at b v r s e h =
    let a = take at s in
    let d = drop (at + length v) s in
    let n : length a ≡ at = length-take-le at s (omega arith) in
    let m : length (a ++ v) ≡ b = length-append a v ∙ omega arith in
    let t : take b (a ++ v ++ d) ≡ a ++ v = take_at (a ++ v) d b m in
    let i : length (a ++ v) + length r ≡ b + length r = omega arith in
    let q : length (v ++ r) ≡ length v + length r = length-append v r in
    let j : at + length v + length r ≡ at + length (v ++ r) = omega arith in
    let u : drop (b + length r) (a ++ v ++ d) ≡ drop (at + length (v ++ r)) s =
    sym (drop-drop (length r) b (a ++ v ++ d)) ∙ ap (drop (length r)) (drop_at (a ++ v) d b m) ∙ drop-drop (length r) (at + length v) s ∙ ap (λ (k : ℕ). drop k s) j in
    ap₂ (λ (x y : List ℕ). x ++ r ++ y) t u ∙ ap (λ (x : List ℕ). x ++ drop (at + length (v ++ r)) s) (append_assoc a v r)

-- Bytes placed over the first of others that were placed.
pub placed_first : (at : ℕ) (w v r s : List ℕ) → length w ≡ length v → at + length (v ++ r) ≤ length s → placed at w (placed at (v ++ r) s) ≡ placed at (w ++ r) s
placed_first at w v r s e h =
    let a = take at s in
    let d = drop (at + length (v ++ r)) s in
    let n : length a ≡ at = length-take-le at s (omega arith) in
    let m : length (a ++ v) ≡ at + length w = length-append a v ∙ omega arith in
    let t : take at (a ++ (v ++ r) ++ d) ≡ a = ap (take at) (append_assoc a (v ++ r) d) ∙ take_at a (v ++ r ++ d) at n in
    let u : drop (at + length w) (a ++ (v ++ r) ++ d) ≡ r ++ d =
    ap (λ (x : List ℕ). drop (at + length w) (x ++ d)) (sym (append_assoc a v r)) ∙ ap (drop (at + length w)) (append_assoc (a ++ v) r d) ∙ drop_at (a ++ v) (r ++ d) (at + length w) m in
    let j : at + length (v ++ r) ≡ at + length (w ++ r) = omega (arith, length-append v r, length-append w r) in
    ap₂ (λ (x y : List ℕ). x ++ w ++ y) t u ∙ sym (append_assoc (a ++ w) r d) ∙ ap (λ (x : List ℕ). x ++ d) (append_assoc a w r) ∙ ap (λ (k : ℕ). a ++ (w ++ r) ++ drop k s) j

-- Nothing placed.
pub none_placed : (at : ℕ) (s : List ℕ) → at ≤ length s → placed at [] s ≡ s
none_placed at s h = let e : at + 0 ≡ at = omega arith in ap₂ (λ (x : List ℕ) (k : ℕ). x ++ drop k s) (append-nil (take at s)) e ∙ take-append-drop at s

-- One word, more words after others, and one word more.
pub one_word : (at w : ℕ) (s : List ℕ) {t : List ℕ} → t ≡ placed at (be 8 w) s → t ≡ placed at (bytes_of (w ∷ [])) s
unfolding bytes_of
one_word at w s e = rw append-nil e

pub words_more : (at k : ℕ) (vs ws s : List ℕ) {t u : List ℕ} → k ≡ 8 * length ws → at + k + 8 * length vs ≤ length s → t ≡ placed at (bytes_of ws) s → u ≡ placed (at + k) (bytes_of vs) t
    → u ≡ placed at (bytes_of (ws ++ vs)) s
words_more at k vs ws s g h e f =
    let n : at + k ≡ at + length (bytes_of ws) = omega (arith, length_bytes_of ws) in
    let m : at + k + length (bytes_of vs) ≤ length s = omega (arith, length_bytes_of vs) in
    f ∙ ap (placed (at + k) (bytes_of vs)) e ∙ placed_after at (at + k) (bytes_of ws) (bytes_of vs) s n m ∙ ap (λ (x : List ℕ). placed at x s) (sym (bytes_append ws vs))

pub word_more : (at k w : ℕ) (ws s : List ℕ) {t u : List ℕ} → k ≡ 8 * length ws → at + k + 8 ≤ length s → t ≡ placed at (bytes_of ws) s → u ≡ placed (at + k) (be 8 w) t
    → u ≡ placed at (bytes_of (ws ++ (w ∷ []))) s
word_more at k w ws s {t} g h e f = words_more at k (w ∷ []) ws s g h e (one_word (at + k) w t f)

-- Five words, and seven, each written after the one before.
pub five_words : (at w0 w1 w2 w3 w4 : ℕ) (s : List ℕ) {t0 t1 t2 t3 t4 : List ℕ}
    → t0 ≡ placed at (be 8 w0) s → t1 ≡ placed (at + 8) (be 8 w1) t0 → t2 ≡ placed (at + 16) (be 8 w2) t1 → t3 ≡ placed (at + 24) (be 8 w3) t2 → t4 ≡ placed (at + 32) (be 8 w4) t3
    → at + 40 ≤ length s → t4 ≡ placed at (bytes_of (w0 ∷ w1 ∷ w2 ∷ w3 ∷ w4 ∷ [])) s
five_words at w0 w1 w2 w3 w4 s e0 e1 e2 e3 e4 h =
    let p0 = one_word at w0 s e0 in
    let p1 = word_more at 8 w1 (w0 ∷ []) s refl (omega arith) p0 e1 in
    let p2 = word_more at 16 w2 (w0 ∷ w1 ∷ []) s refl (omega arith) p1 e2 in
    let p3 = word_more at 24 w3 (w0 ∷ w1 ∷ w2 ∷ []) s refl (omega arith) p2 e3 in
    word_more at 32 w4 (w0 ∷ w1 ∷ w2 ∷ w3 ∷ []) s refl (omega arith) p3 e4

pub seven_words : (at w0 w1 w2 w3 w4 w5 : ℕ) (s : List ℕ) {t0 t1 t2 t3 t4 t5 : List ℕ}
    → t0 ≡ placed at (be 8 w0) s → t1 ≡ placed (at + 8) (be 8 w1) t0 → t2 ≡ placed (at + 16) (be 8 w2) t1 → t3 ≡ placed (at + 24) (be 8 w3) t2 → t4 ≡ placed (at + 32) (be 8 w4) t3
    → t5 ≡ placed (at + 40) (be 8 w5) t4 → (w6 : ℕ) {t6 : List ℕ} → t6 ≡ placed (at + 48) (be 8 w6) t5 → at + 56 ≤ length s
    → t6 ≡ placed at (bytes_of (w0 ∷ w1 ∷ w2 ∷ w3 ∷ w4 ∷ w5 ∷ w6 ∷ [])) s
seven_words at w0 w1 w2 w3 w4 w5 s e0 e1 e2 e3 e4 e5 w6 e6 h =
    let p4 = five_words at w0 w1 w2 w3 w4 s e0 e1 e2 e3 e4 (omega arith) in
    let p5 = word_more at 40 w5 (w0 ∷ w1 ∷ w2 ∷ w3 ∷ w4 ∷ []) s refl (omega arith) p4 e5 in
    word_more at 48 w6 (w0 ∷ w1 ∷ w2 ∷ w3 ∷ w4 ∷ w5 ∷ []) s refl (omega arith) p5 e6

-- No words written, and one more after the first i of some words.
pub placed_none : (at : ℕ) (s : List ℕ) → at ≤ length s → s ≡ placed at (bytes_of []) s
unfolding bytes_of
placed_none at s h = sym (none_placed at s h)

pub word_placed : (ws : List ℕ) (at i : ℕ) (s a b : List ℕ) → i < length ws → at + 8 * length ws ≤ length s → a ≡ placed at (bytes_of (take i ws)) s → b ≡ placed (at + 8 * i) (be 8 (get_or ws i 0)) a → b ≡ placed at (bytes_of (take (i + 1) ws)) s
word_placed ws at i s a b l h p q =
    let e : 8 * i ≡ 8 * length (take i ws) = omega (arith, length-take-le i ws (omega arith)) in
    let t : take i ws ++ (get_or ws i 0 ∷ []) ≡ take (i + 1) ws = sym (ap (λ (k : ℕ). take k ws) (add-one i) ∙ take-suc ws i 0 l) in
    word_more at (8 * i) (get_or ws i 0) (take i ws) s e (omega arith) p q ∙ ap (λ (k : List ℕ). placed at (bytes_of k) s) t
