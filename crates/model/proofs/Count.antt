-- Counting the distinct slots that pass a test: two lists that both have every slot that passes give the same count.
use Prim.Native.Nat.{suc}
use mathlib.Core.Path.{◌≡◌, refl, sym, ap, ◌∙◌}
use mathlib.Core.Bool.{Bool, true, false, not, ◌&&◌}
use mathlib.Core.List.{List, [], ◌∷◌}
use Rattle.model.specs.Slots.{Slot, slot_eqb, mem}
use Rattle.model.specs.Layers.{count_distinct}
use Rattle.model.proofs.SlotLaws.{split, not_both, and_left, and_true, and_false, or_left, or_right, or_false_left, or_false_right, slot_eqb_true, slot_eqb_refl, slot_eqb_sym}

-- The test without one slot.
abbrev excluding : Slot → (Slot → Bool) → Slot → Bool
excluding x p s = p s && not (slot_eqb x s)

-- Without a slot, the count is the same where the list does not have it, and one less where it has it and it passes.
count_excluding_absent : (p : Slot → Bool) (x : Slot) (l : List Slot) → mem x l ≡ false → count_distinct (excluding x p) l ≡ count_distinct p l
unfolding mem count_distinct
count_excluding_absent p x [] e = refl
count_excluding_absent p x (s ∷ l) e =
    let a : slot_eqb x s ≡ false = slot_eqb_sym x s ∙ or_false_left (slot_eqb s x) (mem x l) e in
    let b : count_distinct (excluding x p) l ≡ count_distinct p l = count_excluding_absent p x l (or_false_right (slot_eqb s x) (mem x l) e) in
    rw (a, and_true, b)

count_excluding_present : (p : Slot → Bool) (x : Slot) (l : List Slot) → p x ≡ true → mem x l ≡ true → count_distinct p l ≡ suc (count_distinct (excluding x p) l)
unfolding mem count_distinct
count_excluding_present p x [] px e = not_both e refl
count_excluding_present p x (s ∷ l) px e =
    split (slot_eqb s x)
    (λ y. rw (slot_eqb_true s x y) (split (mem x l)
    (λ m. rw (m, and_false (p x), and_false) (count_excluding_present p x l px m))
    (λ m. rw (m, px, slot_eqb_refl x) (ap suc (sym (count_excluding_absent p x l m))))))
    (λ y. let ih : count_distinct p l ≡ suc (count_distinct (excluding x p) l) = count_excluding_present p x l px (rw y at e) in
    rw (slot_eqb_sym x s, y, and_true) (split (p s && not (mem s l)) (λ z. rw (z, ih)) (λ z. rw (z, ih))))

count_none : (p : Slot → Bool) (l : List Slot) → ((s : Slot) → p s ≡ true → ⊥) → count_distinct p l ≡ 0
unfolding count_distinct
count_none p [] f = refl
count_none p (s ∷ l) f = split (p s) (λ e. absurd (f s e)) (λ e. rw e (count_none p l f))

-- A slot that passes the test without x is not x.
excluding_apart : (p : Slot → Bool) (x s : Slot) → excluding x p s ≡ true → slot_eqb x s ≡ false
excluding_apart p x s e = split (slot_eqb x s) (λ y. not_both e (rw (y, and_false))) (λ y. y)

-- A member of x ∷ xs other than x is one of xs.
mem_tail : (x s : Slot) (xs : List Slot) → mem s (x ∷ xs) ≡ true → slot_eqb x s ≡ false → mem s xs ≡ true
unfolding mem
mem_tail x s xs e y = rw y at e

pub count_same : (p : Slot → Bool) (xs ys : List Slot) → ((s : Slot) → p s ≡ true → mem s xs ≡ true) → ((s : Slot) → p s ≡ true → mem s ys ≡ true) → count_distinct p xs ≡ count_distinct p ys
unfolding mem count_distinct
count_same p [] ys f g = sym (count_none p ys (λ s e. not_both (f s e) refl))
count_same p (x ∷ xs) ys f g =
    split (mem x xs)
    (λ m. rw (m, and_false) (count_same p xs ys (λ s e. split (slot_eqb x s) (λ y. rw (slot_eqb_true x s y) at m) (λ y. mem_tail x s xs (f s e) y)) g))
    (λ m. split (p x)
    (λ px. rw (m, px)
    (ap suc (sym (count_excluding_absent p x xs m))
    ∙ ap suc (count_same (excluding x p) xs ys
    (λ s e. mem_tail x s xs (f s (and_left (p s) (not (slot_eqb x s)) e)) (excluding_apart p x s e))
    (λ s e. g s (and_left (p s) (not (slot_eqb x s)) e)))
    ∙ sym (count_excluding_present p x ys px (g x px))))
    (λ px. rw px (count_same p xs ys
    (λ s e. mem_tail x s xs (f s e) (split (slot_eqb x s) (λ y. not_both e (rw (← slot_eqb_true x s y, px))) (λ y. y))) g)))

-- Two tests that agree on a list's slots.
pub count_agree : (p q : Slot → Bool) (l : List Slot) → ((s : Slot) → mem s l ≡ true → p s ≡ q s) → count_distinct p l ≡ count_distinct q l
unfolding mem count_distinct
count_agree p q [] f = refl
count_agree p q (s ∷ l) f =
    rw (f s (or_left (slot_eqb s s) (mem s l) (slot_eqb_refl s)), count_agree p q l (λ t e. f t (or_right (slot_eqb s t) (mem t l) e)))
