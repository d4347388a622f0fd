-- Words in bytes: reading them back, both ways.
use Prim.Native.Nat.{ℕ, zero, suc, ◌+◌, ◌-◌, ◌*◌, ◌^◌, ◌≤◌, ◌<◌}
use mathlib.Core.Path.{◌≡◌, refl, sym, ap, ap₂, ◌∙◌}
use mathlib.Core.List.{List, [], ◌∷◌, ◌++◌, append_assoc}
use native.Mathlib.Omega.{arith}
use lib.ListN.{length, take, drop, replicate, length-append, length-drop, length-replicate}
use lib.Seq.{take-add, take_at, drop_at, get_or-drop}
use Rattle.model.specs.Numbers.{be, num, Bytes}
use Rattle.model.proofs.WordLaws.{Fit, fit_nil, fit_cons, fit_append, fit_zeros}
use Rattle.model.proofs.NumberLaws.{length_be, num_be, be_num}
use Rattle.image.specs.Image.{bytes_of, words_of, padded}

-- Words -----------------------------------------------------------------------------------------------

pub length_bytes_of : (ws : List ℕ) → length (bytes_of ws) ≡ 8 * length ws
unfolding bytes_of
length_bytes_of [] = refl
length_bytes_of (w ∷ ws) = length-append (be 8 w) (bytes_of ws) ∙ omega (arith, length_be 8 w, length_bytes_of ws)

pub length_words_of : (n : ℕ) (b : List ℕ) → length (words_of n b) ≡ n
unfolding words_of
length_words_of zero b = refl
length_words_of (suc n) b = ap suc (length_words_of n (drop 8 b))

-- The first word of bytes, and the bytes after it.
first_word : (w : ℕ) (q : List ℕ) → w < 2 ^ 64 → num (take 8 (be 8 w ++ q)) ≡ w
first_word w q h = ap num (take_at (be 8 w) q 8 (length_be 8 w)) ∙ num_be 8 w h

after_word : (w : ℕ) (q : List ℕ) → drop 8 (be 8 w ++ q) ≡ q
after_word w q = drop_at (be 8 w) q 8 (length_be 8 w)

pub second_word : (v w : ℕ) (ws rest : List ℕ) → w < 2 ^ 64 → num (take 8 (drop 8 (bytes_of (v ∷ w ∷ ws) ++ rest))) ≡ w
unfolding bytes_of
second_word v w ws rest h =
    ap (λ (l : List ℕ). num (take 8 (drop 8 l))) (append_assoc (be 8 v) (be 8 w ++ bytes_of ws) rest)
    ∙ ap (λ (l : List ℕ). num (take 8 l)) (after_word v ((be 8 w ++ bytes_of ws) ++ rest) ∙ append_assoc (be 8 w) (bytes_of ws) rest)
    ∙ first_word w (bytes_of ws ++ rest) h

-- Words read back from their bytes, whatever follows.
pub words_of_bytes : {ws : List ℕ} (rest : List ℕ) → Fit ws → words_of (length ws) (bytes_of ws ++ rest) ≡ ws
unfolding bytes_of words_of
words_of_bytes rest fit_nil = refl
words_of_bytes rest (fit_cons {x = w} {xs = ws} h p) =
    let q : List ℕ = bytes_of ws ++ rest in
    ap (words_of (suc (length ws))) (append_assoc (be 8 w) (bytes_of ws) rest)
    ∙ ap₂ (λ (x : ℕ) (l : List ℕ). x ∷ words_of (length ws) l) (first_word w q h) (after_word w q)
    ∙ ap (λ (l : List ℕ). w ∷ l) (words_of_bytes rest p)

-- Bytes read back from their words.
pub bytes_of_words : (n : ℕ) (b : List ℕ) → Bytes b → 8 * n ≤ length b → bytes_of (words_of n b) ≡ take (8 * n) b
unfolding bytes_of words_of
bytes_of_words zero b f h = refl
bytes_of_words (suc n) b f h =
    let k : 8 * n ≤ length (drop 8 b) = rw length-drop (omega arith) in
    let g : Bytes (drop 8 b) = λ j. rw get_or-drop (f (8 + j)) in
    let e : 8 + 8 * n ≡ 8 * suc n = omega arith in
    ap₂ (λ (x y : List ℕ). x ++ y) (be_num b f 8 (omega arith)) (bytes_of_words n (drop 8 b) g k)
    ∙ sym (take-add 8 (8 * n) b)
    ∙ ap (λ (m : ℕ). take m b) e

-- Padding ---------------------------------------------------------------------------------------------

pub length_padded : (n : ℕ) (l : List ℕ) → length l ≤ n → length (padded n l) ≡ n
length_padded n l h = length-append l (replicate (n - length l) 0) ∙ omega (arith, length-replicate {A = ℕ} (n - length l) 0)

pub fit_padded : (n : ℕ) {l : List ℕ} → Fit l → Fit (padded n l)
fit_padded n {l} p = fit_append p (fit_zeros (n - length l))
