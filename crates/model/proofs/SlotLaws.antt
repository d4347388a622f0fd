-- Laws of Bools, and of the tests of words, values, slots and anchors.
use Rattle.std.specs.Prelude.{None, Option, Some}
use Prim.Native.Nat.{ℕ, ◌+◌, ◌≤◌}
use mathlib.Core.Path.{◌≡◌, refl, sym, ap, ◌∙◌}
use mathlib.Core.Bool.{Bool, true, false, ◌&&◌, ◌||◌, true≢false}
use mathlib.Core.List.{List, [], ◌∷◌}
use native.Mathlib.Omega.{arith}
use lib.Dec.{eqb, ltb}
use lib.ListN.{length, get_or}
use borrow.Author.Tests.{eqb-true, eqb-false, eq-eqb, ltb-true, ltb-false, lt-ltb, le-ltb}
use Rattle.model.specs.Slots.{U256, u256_words, u256_eqb, Hash, Slot, slot_words, slot_eqb, slot_ltb, words_eqb, words_ltb, hash_eqb, ReadAnchor, anchor_eqb}

-- Bools ----------------------------------------------------------------------------------------------

-- Case analysis on a Bool, with the equation that holds in each case.
pub split {ℓ} : {P : Type ℓ} (b : Bool) → (b ≡ true → P) → (b ≡ false → P) → P
split true y n = y refl
split false y n = n refl

-- No Bool is both.
pub not_both {ℓ} : {P : Type ℓ} {b : Bool} → b ≡ true → b ≡ false → P
not_both y n = absurd (true≢false (sym y ∙ n))

pub and_left : (a b : Bool) → (a && b) ≡ true → a ≡ true
and_left true b e = refl
and_left false b e = e

pub and_right : (a b : Bool) → (a && b) ≡ true → b ≡ true
and_right true b e = e
and_right false b e = cc

pub and_intro : (a b : Bool) → a ≡ true → b ≡ true → (a && b) ≡ true
and_intro a b p q = rw (p, q)

pub and_true : (a : Bool) → (a && true) ≡ a
and_true true = refl
and_true false = refl

pub and_false : (a : Bool) → (a && false) ≡ false
and_false true = refl
and_false false = refl

pub or_left : (a b : Bool) → a ≡ true → (a || b) ≡ true
or_left a b e = rw e

pub or_right : (a b : Bool) → b ≡ true → (a || b) ≡ true
or_right true b e = refl
or_right false b e = e

pub or_false_left : (a b : Bool) → (a || b) ≡ false → a ≡ false
or_false_left true b e = e
or_false_left false b e = refl

pub or_false_right : (a b : Bool) → (a || b) ≡ false → b ≡ false
or_false_right true b e = cc
or_false_right false b e = e

-- Words ----------------------------------------------------------------------------------------------

pub words_eqb_true : (xs ys : List ℕ) → words_eqb xs ys ≡ true → xs ≡ ys
unfolding words_eqb
words_eqb_true [] [] e = refl
words_eqb_true [] (y ∷ ys) e = not_both e refl
words_eqb_true (x ∷ xs) [] e = not_both e refl
words_eqb_true (x ∷ xs) (y ∷ ys) e =
    cc (eqb-true x y (and_left (eqb x y) (words_eqb xs ys) e), words_eqb_true xs ys (and_right (eqb x y) (words_eqb xs ys) e))

pub words_eqb_refl : (xs : List ℕ) → words_eqb xs xs ≡ true
unfolding words_eqb
words_eqb_refl [] = refl
words_eqb_refl (x ∷ xs) = rw (eq-eqb x x refl) (words_eqb_refl xs)

pub words_ltb_irrefl : (xs : List ℕ) → words_ltb xs xs ≡ false
unfolding words_ltb
words_ltb_irrefl [] = refl
words_ltb_irrefl (x ∷ xs) = rw (le-ltb x x (omega arith), eq-eqb x x refl) (words_ltb_irrefl xs)

-- Of two different numbers of as many words, one comes before the other.
pub words_ltb_total : (xs ys : List ℕ) → length xs ≡ length ys → words_eqb xs ys ≡ false → words_ltb ys xs ≡ false → words_ltb xs ys ≡ true
unfolding words_eqb words_ltb
words_ltb_total [] [] k d l = not_both refl d
words_ltb_total [] (y ∷ ys) k d l = absurd (omega arith)
words_ltb_total (x ∷ xs) [] k d l = absurd (omega arith)
words_ltb_total (x ∷ xs) (y ∷ ys) k d l =
    let a : x ≤ y = ltb-false y x (or_false_left (ltb y x) (eqb y x && words_ltb ys xs) l) in
    let b : (eqb y x && words_ltb ys xs) ≡ false = or_false_right (ltb y x) (eqb y x && words_ltb ys xs) l in
    split (eqb x y)
    (λ e. rw e (or_right (ltb x y) (words_ltb xs ys) (words_ltb_total xs ys (omega arith) (rw e at d) (rw (eq-eqb y x (sym (eqb-true x y e))) at b))))
    (λ e. rw (lt-ltb x y (omega (arith, eqb-false x y e))))

-- The first words of a number that comes before another: no higher than the other's, and where they are no lower the rest comes before.
words_ltb_head : (x y : ℕ) (xs ys : List ℕ) → words_ltb (x ∷ xs) (y ∷ ys) ≡ true → x ≤ y
unfolding words_ltb
words_ltb_head x y xs ys p =
    split (ltb x y)
    (λ e. omega (arith, ltb-true x y e))
    (λ e. omega (arith, eqb-true x y (and_left (eqb x y) (words_ltb xs ys) (rw e at p))))

words_ltb_tail : (x y : ℕ) (xs ys : List ℕ) → words_ltb (x ∷ xs) (y ∷ ys) ≡ true → y ≤ x → words_ltb xs ys ≡ true
unfolding words_ltb
words_ltb_tail x y xs ys p h = and_right (eqb x y) (words_ltb xs ys) (rw (le-ltb x y h) at p)

pub words_ltb_trans : (xs ys zs : List ℕ) → words_ltb xs ys ≡ true → words_ltb ys zs ≡ true → words_ltb xs zs ≡ true
unfolding words_ltb
words_ltb_trans [] ys zs p q = not_both p refl
words_ltb_trans (x ∷ xs) [] zs p q = not_both p refl
words_ltb_trans (x ∷ xs) (y ∷ ys) [] p q = not_both q refl
words_ltb_trans (x ∷ xs) (y ∷ ys) (z ∷ zs) p q =
    let a : x ≤ y = words_ltb_head x y xs ys p in
    let b : y ≤ z = words_ltb_head y z ys zs q in
    split (ltb x z)
    (λ e. rw e)
    (λ e. let c : z ≤ x = ltb-false x z e in
    rw (e, eq-eqb x z (omega arith)) (words_ltb_trans xs ys zs (words_ltb_tail x y xs ys p (omega arith)) (words_ltb_tail y z ys zs q (omega arith))))

-- Values, slots and anchors --------------------------------------------------------------------------

-- The 32-byte number, and the slot, of given words.
abbrev u256_of_words : ℕ → List ℕ → U256
u256_of_words i ws = record { w0 = get_or ws i 0; w1 = get_or ws (i + 1) 0; w2 = get_or ws (i + 2) 0; w3 = get_or ws (i + 3) 0 }

abbrev slot_of_words : List ℕ → Slot
slot_of_words ws = record { address = record { w0 = get_or ws 0 0; w1 = get_or ws 1 0; w2 = get_or ws 2 0 }; index = u256_of_words 3 ws }

pub u256_eqb_true : (x y : U256) → u256_eqb x y ≡ true → x ≡ y
unfolding u256_eqb
u256_eqb_true x y e = ap (u256_of_words 0) (words_eqb_true (u256_words x) (u256_words y) e)

pub u256_eqb_refl : (x : U256) → u256_eqb x x ≡ true
unfolding u256_eqb
u256_eqb_refl x = words_eqb_refl (u256_words x)

pub u256_eqb_false : (x y : U256) → u256_eqb x y ≡ false → x ≡ y → ⊥
u256_eqb_false x y e p = not_both (u256_eqb_refl y) (rw p at e)

pub slot_eqb_true : (s t : Slot) → slot_eqb s t ≡ true → s ≡ t
unfolding slot_eqb
slot_eqb_true s t e = ap slot_of_words (words_eqb_true (slot_words s) (slot_words t) e)

pub slot_eqb_refl : (s : Slot) → slot_eqb s s ≡ true
unfolding slot_eqb
slot_eqb_refl s = words_eqb_refl (slot_words s)

pub slot_eqb_false : (s t : Slot) → slot_eqb s t ≡ false → s ≡ t → ⊥
slot_eqb_false s t e p = not_both (slot_eqb_refl t) (rw p at e)

pub slot_eqb_sym : (s t : Slot) → slot_eqb s t ≡ slot_eqb t s
slot_eqb_sym s t =
    split (slot_eqb s t)
    (λ e. rw (slot_eqb_true s t e))
    (λ e. split (slot_eqb t s) (λ f. absurd (slot_eqb_false s t e (sym (slot_eqb_true t s f)))) (λ f. cc))

-- A slot that equals one of two different slots differs from the other.
pub slot_eqb_apart : (s t r : Slot) → slot_eqb s t ≡ true → slot_eqb s r ≡ false → slot_eqb t r ≡ false
slot_eqb_apart s t r e f = rw (slot_eqb_true s t e) at f

pub slot_ltb_irrefl : (s : Slot) → slot_ltb s s ≡ false
unfolding slot_ltb
slot_ltb_irrefl s = words_ltb_irrefl (slot_words s)

pub slot_ltb_total : (r s : Slot) → slot_eqb r s ≡ false → slot_ltb s r ≡ false → slot_ltb r s ≡ true
unfolding slot_eqb slot_ltb
slot_ltb_total r s d l = words_ltb_total (slot_words r) (slot_words s) refl d l

pub slot_ltb_trans : (r s t : Slot) → slot_ltb r s ≡ true → slot_ltb s t ≡ true → slot_ltb r t ≡ true
unfolding slot_ltb
slot_ltb_trans r s t p q = words_ltb_trans (slot_words r) (slot_words s) (slot_words t) p q

pub slot_ltb_eqb : (s t : Slot) → slot_ltb s t ≡ true → slot_eqb s t ≡ false
slot_ltb_eqb s t l = split (slot_eqb s t) (λ e. not_both (rw (slot_eqb_true s t e) at l) (slot_ltb_irrefl t)) (λ e. e)

pub hash_eqb_true : (h k : Option Hash) → hash_eqb h k ≡ true → h ≡ k
hash_eqb_true None None e = refl
hash_eqb_true None (Some k) e = not_both e refl
hash_eqb_true (Some h) None e = not_both e refl
hash_eqb_true (Some h) (Some k) e = ap Some (u256_eqb_true h k e)

pub anchor_eqb_true : (a b : ReadAnchor) → anchor_eqb a b ≡ true → a ≡ b
unfolding anchor_eqb
anchor_eqb_true a b e =
    let x : Bool = eqb a.number b.number in
    let y : Bool = hash_eqb a.hash b.hash in
    let p : a.number ≡ b.number = eqb-true a.number b.number (and_left x y e) in
    let q : a.hash ≡ b.hash = hash_eqb_true a.hash b.hash (and_right x y e) in
    λ i. record { number = p i; hash = q i }
