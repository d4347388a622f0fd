-- Counting the distinct members of a list that pass a test.
use mathlib.Core.Path.{◌≡◌, refl, sym, ap, ◌∙◌}
use mathlib.Core.Bool.{Bool, true, false, cond, not, ◌&&◌, ◌||◌, true≢false}
use mathlib.Core.List.{List, [], ◌∷◌}
use Prim.Native.Nat.{ℕ, suc}
use native.Mathlib.Omega.{arith}
use lib.Dec.{eqb}
use borrow.Author.Tests.{eqb-true, eqb-false, eq-eqb, ne_eqb}
use Rattle.model.proofs.SlotLaws.{split, and_left, and_right, and_true, and_false, or_right, or_false_left, or_false_right}

-- Whether a list has a number.
unfoldable pub mem : ℕ → List ℕ → Bool
mem v [] = false
mem v (x ∷ l) = eqb x v || mem v l

-- How many distinct members pass p.
unfoldable pub count : (ℕ → Bool) → List ℕ → ℕ
count p [] = 0
count p (v ∷ l) = cond (p v && not (mem v l)) (suc (count p l)) (count p l)

pub eqb_sym : (x y : ℕ) → eqb x y ≡ eqb y x
eqb_sym x y = split (eqb x y) (λ e. e ∙ sym (eq-eqb y x (sym (eqb-true x y e)))) (λ e. e ∙ sym (ne_eqb y x (λ p. eqb-false x y e (sym p))))

-- The test without one number.
abbrev but : ℕ → (ℕ → Bool) → ℕ → Bool
but x p s = p s && not (eqb x s)

count_out : (p : ℕ → Bool) (x : ℕ) (l : List ℕ) → mem x l ≡ false → count (but x p) l ≡ count p l
unfolding mem count
count_out p x [] e = refl
count_out p x (s ∷ l) e =
    let a : eqb x s ≡ false = eqb_sym x s ∙ or_false_left (eqb s x) (mem x l) e in
    let b : count (but x p) l ≡ count p l = count_out p x l (or_false_right (eqb s x) (mem x l) e) in
    rw (a, and_true, b)

count_in : (p : ℕ → Bool) (x : ℕ) (l : List ℕ) → p x ≡ true → mem x l ≡ true → count p l ≡ suc (count (but x p) l)
unfolding mem count
count_in p x [] px e = absurd (true≢false (sym e))
count_in p x (s ∷ l) px e =
    split (eqb s x)
    (λ y. rw (eqb-true s x y) (split (mem x l)
    (λ m. rw (m, and_false (p x), and_false (p x && not (eqb x x))) (count_in p x l px m))
    (λ m. rw (m, px, eq-eqb x x refl) (ap suc (sym (count_out p x l m))))))
    (λ y. let ih : count p l ≡ suc (count (but x p) l) = count_in p x l px (rw y at e) in
    rw (eqb_sym x s, y, and_true) (split (p s && not (mem s l)) (λ z. rw (z, ih)) (λ z. rw (z, ih))))

pub count_none : (p : ℕ → Bool) (l : List ℕ) → ((s : ℕ) → p s ≡ true → ⊥) → count p l ≡ 0
unfolding count
count_none p [] f = refl
count_none p (s ∷ l) f = split (p s) (λ e. absurd (f s e)) (λ e. rw e (count_none p l f))

but_apart : (p : ℕ → Bool) (x s : ℕ) → but x p s ≡ true → eqb x s ≡ false
but_apart p x s e = split (eqb x s) (λ y. absurd (true≢false (sym e ∙ rw (y, and_false)))) (λ y. y)

mem_tail : (x s : ℕ) (xs : List ℕ) → mem s (x ∷ xs) ≡ true → eqb x s ≡ false → mem s xs ≡ true
unfolding mem
mem_tail x s xs e y = rw y at e

pub count_same : (p : ℕ → Bool) (xs ys : List ℕ) → ((s : ℕ) → p s ≡ true → mem s xs ≡ true) → ((s : ℕ) → p s ≡ true → mem s ys ≡ true) → count p xs ≡ count p ys
unfolding mem count
count_same p [] ys f g = sym (count_none p ys (λ s e. true≢false (sym (f s e))))
count_same p (x ∷ xs) ys f g =
    split (mem x xs)
    (λ m. rw (m, and_false) (count_same p xs ys (λ s e. split (eqb x s) (λ y. rw (eqb-true x s y) at m) (λ y. mem_tail x s xs (f s e) y)) g))
    (λ m. split (p x)
    (λ px. rw (m, px)
    (ap suc (sym (count_out p x xs m))
    ∙ ap suc (count_same (but x p) xs ys
    (λ s e. mem_tail x s xs (f s (and_left (p s) (not (eqb x s)) e)) (but_apart p x s e))
    (λ s e. g s (and_left (p s) (not (eqb x s)) e)))
    ∙ sym (count_in p x ys px (g x px))))
    (λ px. rw (px) (count_same p xs ys
    (λ s e. mem_tail x s xs (f s e) (split (eqb x s) (λ y. absurd (true≢false (sym e ∙ rw (← eqb-true x s y, px)))) (λ y. y))) g)))

-- A test may change where no member is.
pub count_ext : (p q : ℕ → Bool) (l : List ℕ) → ((v : ℕ) → mem v l ≡ true → p v ≡ q v) → count p l ≡ count q l
unfolding count mem
count_ext p q [] h = refl
count_ext p q (v ∷ l) h =
    let e : p v ≡ q v = h v (rw (eq-eqb v v refl)) in
    let ih : count p l ≡ count q l = count_ext p q l (λ w m. h w (or_right (eqb v w) (mem w l) m)) in
    rw (e, ih)

-- Lists with the same members.
pub count_mems : (p : ℕ → Bool) (xs ys : List ℕ) → ((v : ℕ) → mem v xs ≡ mem v ys) → count p xs ≡ count p ys
count_mems p xs ys h =
    let q : ℕ → Bool = λ v. p v && mem v xs in
    count_ext p q xs (λ v m. sym (ap (λ (k : Bool). p v && k) m ∙ and_true (p v)))
    ∙ count_same q xs ys (λ v e. and_right (p v) (mem v xs) e) (λ v e. sym (h v) ∙ and_right (p v) (mem v xs) e)
    ∙ count_ext q p ys (λ v m. ap (λ (k : Bool). p v && k) (h v ∙ m) ∙ and_true (p v))

-- Where none is counted, no member passes.
pub count_zero : (p : ℕ → Bool) (l : List ℕ) → count p l ≡ 0 → (v : ℕ) → mem v l ≡ true → p v ≡ false
unfolding count mem
count_zero p [] e v m = absurd (true≢false (sym m))
count_zero p (x ∷ l) e v m =
    split (p x && not (mem x l))
    (λ d. let z : suc (count p l) ≡ 0 = rw d at e in absurd (omega arith))
    (λ d. let z : count p l ≡ 0 = rw d at e in
    split (eqb x v)
    (λ q. split (mem v l) (λ y. count_zero p l z v y) (λ y. rw (eqb-true x v q, y, and_true (p v)) at d))
    (λ q. count_zero p l z v (rw q at m)))
