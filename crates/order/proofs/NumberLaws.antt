-- Words below 2^64 are compared as their number is.
use mathlib.Core.Path.{◌≡◌, refl, sym, ap, ◌∙◌}
use mathlib.Core.Bool.{not}
use mathlib.Core.List.{List, [], ◌∷◌}
use Prim.Native.Nat.{ℕ, suc, ◌+◌, ◌*◌, ◌^◌, ◌≤◌, ◌<◌}
use native.Mathlib.Nat.{pow-suc, suc-mul, mul-le-mul_right, mul_comm}
use native.Mathlib.Omega.{arith}
use lib.Dec.{leb, ltb, eqb}
use lib.ListN.{length}
use borrow.Author.Tests.{ltb-true, ltb-false, eqb-true, eqb-false, lt-ltb, le-ltb, le-leb, lt-leb, eq-eqb, ne_eqb}
use Rattle.model.specs.declared.delta_snapshot.Slot.{Slot}
use Rattle.model.specs.Slots.{slot_words, words_eqb, words_ltb, slot_eqb, slot_ltb}
use Rattle.model.proofs.SlotLaws.{split, words_eqb_true, words_ltb_total}
use Rattle.model.proofs.WordLaws.{Fit, fit_nil, fit_cons}
use Rattle.order.specs.Index.{words_number, slot_number}

-- A word more, above a number below p.
digits_below : (x p a : ℕ) → a < p → x < 2 ^ 64 → x * p + a < p * 2 ^ 64
digits_below x p a h k =
    let l : suc x ≤ 2 ^ 64 = omega arith in
    let m : suc x * p ≤ 2 ^ 64 * p = mul-le-mul_right p l in
    let e : suc x * p ≡ x * p + p = suc-mul x p in
    let f : 2 ^ 64 * p ≡ p * 2 ^ 64 = mul_comm (2 ^ 64) p in
    omega arith

pub number_below : {ws : List ℕ} → Fit ws → words_number ws < (2 ^ 64) ^ length ws
unfolding words_number
number_below fit_nil = omega arith
number_below (fit_cons {x = w} {xs = ws} h p) = rw (pow-suc (2 ^ 64) (length ws)) (digits_below w ((2 ^ 64) ^ length ws) (words_number ws) (number_below p) h)

-- The order of two numbers is that of their first words, where these differ.
head_less : (x y p a b : ℕ) → a < p → x < y → x * p + a < y * p + b
head_less x y p a b h k =
    let l : suc x ≤ y = omega arith in
    let m : suc x * p ≤ y * p = mul-le-mul_right p l in
    let e : suc x * p ≡ x * p + p = suc-mul x p in
    omega arith

-- A number after the same first word.
ltb_shift : (c a b : ℕ) → ltb (c + a) (c + b) ≡ ltb a b
ltb_shift c a b = split (ltb a b) (λ e. lt-ltb (c + a) (c + b) (omega (arith, ltb-true a b e)) ∙ sym e) (λ e. le-ltb (c + a) (c + b) (omega (arith, ltb-false a b e)) ∙ sym e)

pub words_ltb_number : (xs ys : List ℕ) → length xs ≡ length ys → Fit xs → Fit ys → words_ltb xs ys ≡ ltb (words_number xs) (words_number ys)
unfolding words_ltb words_number
words_ltb_number [] [] k p q = refl
words_ltb_number [] (y ∷ ys) k p q = absurd (omega arith)
words_ltb_number (x ∷ xs) [] k p q = absurd (omega arith)
words_ltb_number (x ∷ xs) (y ∷ ys) k (fit_cons h p) (fit_cons g q) =
    let l : length xs ≡ length ys = omega arith in
    let P : ℕ = (2 ^ 64) ^ length ys in
    let e : (2 ^ 64) ^ length xs ≡ P = ap (λ (n : ℕ). (2 ^ 64) ^ n) l in
    let a : words_number xs < P = rw l at (number_below p) in
    let b : words_number ys < P = number_below q in
    let ih : words_ltb xs ys ≡ ltb (words_number xs) (words_number ys) = words_ltb_number xs ys l p q in
    rw e
    (split (ltb x y)
    (λ d. rw (d, lt-ltb (x * P + words_number xs) (y * P + words_number ys) (head_less x y P (words_number xs) (words_number ys) a (ltb-true x y d))))
    (λ d. split (eqb x y)
    (λ f. rw (d, f, ih, eqb-true x y f) (sym (ltb_shift (y * P) (words_number xs) (words_number ys))))
    (λ f. let u : y ≤ x = ltb-false x y d in
    let v : y < x = omega (arith, eqb-false x y f) in
    let w : y * P + words_number ys < x * P + words_number xs = head_less y x P (words_number ys) (words_number xs) b v in
    rw (d, f) (sym (le-ltb (x * P + words_number xs) (y * P + words_number ys) (omega arith))))))

-- Of two lists of words that differ one comes before the other, so their numbers differ.
pub words_eqb_number : (xs ys : List ℕ) → length xs ≡ length ys → Fit xs → Fit ys → words_eqb xs ys ≡ eqb (words_number xs) (words_number ys)
words_eqb_number xs ys k p q =
    let a : ℕ = words_number xs in
    let b : ℕ = words_number ys in
    split (words_eqb xs ys)
    (λ e. e ∙ sym (eq-eqb a b (ap words_number (words_eqb_true xs ys e))))
    (λ e. split (words_ltb ys xs)
    (λ d. let l : b < a = ltb-true b a (sym (words_ltb_number ys xs (sym k) q p) ∙ d) in e ∙ sym (ne_eqb a b (λ f. omega arith)))
    (λ d. let l : a < b = ltb-true a b (sym (words_ltb_number xs ys k p q) ∙ words_ltb_total xs ys k e d) in e ∙ sym (ne_eqb a b (λ f. omega arith))))

-- Slots are compared as their numbers are.
pub slot_ltb_number : (s t : Slot) → Fit (slot_words s) → Fit (slot_words t) → slot_ltb s t ≡ ltb (slot_number s) (slot_number t)
unfolding slot_ltb slot_number
slot_ltb_number s t p q = words_ltb_number (slot_words s) (slot_words t) refl p q

pub slot_eqb_number : (s t : Slot) → Fit (slot_words s) → Fit (slot_words t) → slot_eqb s t ≡ eqb (slot_number s) (slot_number t)
unfolding slot_eqb slot_number
slot_eqb_number s t p q = words_eqb_number (slot_words s) (slot_words t) refl p q

not_ltb : (a b : ℕ) → not (ltb b a) ≡ leb a b
not_ltb a b = split (ltb b a) (λ e. rw e (sym (lt-leb a b (ltb-true b a e)))) (λ e. rw e (sym (le-leb a b (ltb-false b a e))))

pub not_after_number : (s t : Slot) → Fit (slot_words s) → Fit (slot_words t) → not (slot_ltb t s) ≡ leb (slot_number s) (slot_number t)
not_after_number s t p q = ap not (slot_ltb_number t s q p) ∙ not_ltb (slot_number s) (slot_number t)
