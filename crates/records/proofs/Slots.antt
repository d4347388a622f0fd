-- Words read out of bytes, and the order of slots word by word.
use Prim.Native.Nat.{ℕ, zero, suc, ◌+◌, ◌*◌, ◌≤◌, ◌<◌}
use mathlib.Core.Path.{◌≡◌, refl, sym, ap, ap₂, ◌∙◌}
use mathlib.Core.Bool.{false}
use mathlib.Core.List.{List, [], ◌∷◌}
use native.Mathlib.Nat.{add_assoc, zero-add, suc-add}
use native.Mathlib.Omega.{arith}
use lib.Dec.{eqb, ltb}
use lib.ListN.{length, take, drop, get_or}
use Rattle.std.proofs.lemmas.List.{drop_more, drop_all}
use lib.Seq.{drop-drop}
use borrow.Author.Tests.{eq-eqb, ne_eqb, le-ltb}
use Rattle.layout.specs.Layout.{record_size, slot_width, value_index, value_offset}
use Rattle.model.specs.declared.delta_snapshot.Slot.{Slot}
use Rattle.model.specs.Numbers.{num}
use Rattle.model.specs.Slots.{slot_words, words_eqb, words_ltb, slot_eqb, slot_ltb, read_u256}
use Rattle.model.specs.Entries.{u256_at}
use Rattle.model.proofs.SlotLaws.{split}
use Rattle.words.specs.Parts.{part}
use Rattle.image.specs.Image.{words_of, read_slot}
use Rattle.std.specs.declared.cmp.Ordering.{Ordering}
use Rattle.std.specs.Ordering.{nat_cmp}
use Rattle.std.specs.declared.cmp.Ordering.TheVariants.{Equal}
use Rattle.records.specs.Records.{words_order, slot_order, words_at}

-- Word i of the words from place `at` on.
pub word_at : (n i at : ℕ) (s : List ℕ) → i < n → get_or (words_of n (drop at s)) i 0 ≡ num (part (at + 8 * i) 8 s)
unfolding words_of
word_at zero i at s h = absurd (omega arith)
word_at (suc n) zero at s h = let e : at ≡ at + 8 * 0 = omega arith in ap (λ (k : ℕ). num (part k 8 s)) e
word_at (suc n) (suc i) at s h =
    let e : at + 8 + 8 * i ≡ at + 8 * suc i = omega arith in
    ap (λ (l : List ℕ). get_or (words_of n l) i 0) (drop-drop 8 at s) ∙ word_at n i (at + 8) s (omega arith) ∙ ap (λ (k : ℕ). num (part k 8 s)) e

-- The seven words of the slot at a place.
abbrev pub words_from : ℕ → List ℕ → List ℕ
words_from at s =
    num (part at 8 s) ∷ num (part (at + 8) 8 s) ∷ num (part (at + 16) 8 s) ∷ num (part (at + 24) 8 s) ∷ num (part (at + 32) 8 s) ∷ num (part (at + 40) 8 s)
    ∷ num (part (at + 48) 8 s) ∷ []

pub slot_read : (at : ℕ) (s : List ℕ) → words_of slot_width (drop at s) ≡ words_from at s
unfolding words_of
slot_read at s = simp (drop-drop, add_assoc)

five_words : (at : ℕ) (s : List ℕ) → words_of 5 (drop at s) ≡ num (part at 8 s) ∷ num (part (at + 8) 8 s) ∷ num (part (at + 16) 8 s) ∷ num (part (at + 24) 8 s) ∷ num (part (at + 32) 8 s) ∷ []
unfolding words_of
five_words at s = simp (drop-drop, add_assoc)

-- The first k of some words, and those after them.
pub words_take : (k n : ℕ) (b : List ℕ) → take k (words_of (k + n) b) ≡ words_of k b
unfolding words_of
words_take zero n b = refl
words_take (suc k) n b = rw suc-add (ap (λ (l : List ℕ). num (take 8 b) ∷ l) (words_take k n (drop 8 b)))

pub words_drop : (k n : ℕ) (b : List ℕ) → drop k (words_of (k + n) b) ≡ words_of n (drop (8 * k) b)
unfolding words_of
words_drop zero n b = rw zero-add
words_drop (suc k) n b =
    let e : 8 + 8 * k ≡ 8 * suc k = omega arith in
    rw suc-add (words_drop k n (drop 8 b) ∙ ap (words_of n) (drop-drop (8 * k) 8 b ∙ ap (λ (m : ℕ). drop m b) e))

-- From the value on: its four words, and one more.
value_words : (i : ℕ) (s : List ℕ) → words_of 5 (drop (i * record_size + value_offset) s) ≡ drop value_index (words_at i s)
value_words i s = ap (words_of 5) (sym (drop-drop value_offset (i * record_size) s)) ∙ sym (words_drop value_index 5 (drop (i * record_size) s))

pub slot_order_words : (at : ℕ) (s : List ℕ) (t : Slot) → words_order (words_of slot_width (drop at s)) (slot_words t) ≡ slot_order (read_slot (words_of slot_width (drop at s))) t
unfolding words_order slot_order slot_eqb slot_ltb words_of
slot_order_words at s t = refl

-- The first words differ and decide; or they are equal and the rest decides. The first words are read as a and b.
pub words_differ : {a b x y : ℕ} (xs ys : List ℕ) {r : Ordering} → r ≡ nat_cmp a b → a ≡ x → b ≡ y → (a ≡ b → ⊥) → r ≡ words_order (x ∷ xs) (y ∷ ys)
unfolding words_order words_eqb words_ltb
words_differ {a} {b} {x} {y} xs ys p e f d =
    let g : eqb x y ≡ false = ne_eqb x y (λ q. d (e ∙ q ∙ sym f)) in
    let h : eqb a b ≡ false = ne_eqb a b d in
    rw (g, ← e, ← f) (p ∙ split (ltb a b) (λ q. rw q) (λ q. rw (q, h)))

pub words_same : {a x y : ℕ} (xs ys : List ℕ) → a ≡ x → a ≡ y → words_order xs ys ≡ words_order (x ∷ xs) (y ∷ ys)
unfolding words_order words_eqb words_ltb
words_same {a} {x} {y} xs ys e f = rw (eq-eqb x y (sym e ∙ f), le-ltb x y (omega arith))

-- Two lists of words from word k on: it decides, or leaves it to those after it; past the end they are equal.
module _ (xs ys : List ℕ) (k : ℕ) {x y : ℕ} (h : k < length xs) (l : k < length ys) (ex : x ≡ get_or xs k 0) (ey : y ≡ get_or ys k 0) where
  both_more : words_order (drop k xs) (drop k ys) ≡ words_order (get_or xs k 0 ∷ drop (k + 1) xs) (get_or ys k 0 ∷ drop (k + 1) ys)
  both_more = ap₂ (λ (v w : List ℕ). words_order v w) (drop_more xs k 0 h) (drop_more ys k 0 l)

  pub rest_differs : {r : Ordering} → r ≡ nat_cmp x y → (x ≡ y → ⊥) → r ≡ words_order (drop k xs) (drop k ys)
  rest_differs p d = words_differ (drop (k + 1) xs) (drop (k + 1) ys) p ex ey d ∙ sym both_more

  pub rest_same : x ≡ y → words_order (drop k xs) (drop k ys) ≡ words_order (drop (k + 1) xs) (drop (k + 1) ys)
  rest_same e = both_more ∙ sym (words_same (drop (k + 1) xs) (drop (k + 1) ys) ex (e ∙ ey))

pub rest_equal : (xs ys : List ℕ) (k : ℕ) → length xs ≤ k → length ys ≤ k → words_order (drop k xs) (drop k ys) ≡ Equal
unfolding words_order words_eqb
rest_equal xs ys k h l = rw (drop_all k xs h, drop_all k ys l)

-- A slot of words read one by one.
pub slot_taken : (at : ℕ) (s : List ℕ) {a0 a1 a2 a3 a4 a5 a6 : ℕ}
    → a0 ≡ num (part at 8 s) → a1 ≡ num (part (at + 8) 8 s) → a2 ≡ num (part (at + 16) 8 s) → a3 ≡ num (part (at + 24) 8 s) → a4 ≡ num (part (at + 32) 8 s)
    → a5 ≡ num (part (at + 40) 8 s) → a6 ≡ num (part (at + 48) 8 s) → read_slot (a0 ∷ a1 ∷ a2 ∷ a3 ∷ a4 ∷ a5 ∷ a6 ∷ []) ≡ read_slot (words_of slot_width (drop at s))
slot_taken at s e0 e1 e2 e3 e4 e5 e6 = (λ i. read_slot (e0 i ∷ e1 i ∷ e2 i ∷ e3 i ∷ e4 i ∷ e5 i ∷ e6 i ∷ [])) ∙ ap read_slot (sym (slot_read at s))

-- The value of record i, read at its place.
pub value_at : (i : ℕ) (s : List ℕ) → u256_at (i * record_size + value_offset) s ≡ read_u256 (drop value_index (words_at i s))
value_at i s =
    let at = i * record_size + value_offset in
    let f : words_of 5 (drop at s) ≡ drop value_index (words_at i s) = value_words i s in
    let g : words_of 5 (drop at s) ≡ num (part at 8 s) ∷ num (part (at + 8) 8 s) ∷ num (part (at + 16) 8 s) ∷ num (part (at + 24) 8 s) ∷ num (part (at + 32) 8 s) ∷ [] = five_words at s in
    ap read_u256 (sym g ∙ f)
