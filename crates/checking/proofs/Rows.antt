-- Words and entries in bytes: where each stands.
use Prim.Native.Nat.{ℕ, zero, suc, ◌+◌, ◌-◌, ◌*◌, ◌^◌, ◌≤◌, ◌<◌}
use mathlib.Core.Path.{◌≡◌, refl, sym, ap, ap₂, ◌∙◌}
use mathlib.Core.Bool.{Bool, ◌&&◌}
use mathlib.Core.List.{List, [], ◌∷◌, ◌++◌, map}
use native.Mathlib.Omega.{arith}
use lib.Dec.{eqb}
use Rattle.std.specs.List.{list_all, range_with_len}
use lib.ListN.{length, take, drop, length-drop}
use lib.Seq.{drop-drop, take-add, get_or-drop, take_at, drop_at}
use borrow.Author.Tests.{ne_eqb}
use Rattle.layout.specs.Layout.{awaiting_size, awaiting_width, record_size, record_width, slot_width}
use Rattle.model.specs.declared.delta_snapshot.Slot.{Slot}
use Rattle.model.specs.Slots.{slot_ltb}
use Rattle.model.specs.Numbers.{num_from, num, Bytes}
use Rattle.model.proofs.SlotLaws.{and_true}
use Rattle.words.proofs.Numbers.{num_below}
use Rattle.image.specs.Image.{words_of, read_slot, entries}
use Rattle.model.proofs.WordLaws.{Fit, fit_nil, fit_cons}
use Rattle.image.proofs.Words.{length_words_of}
use Rattle.checking.specs.Checks.{all_zero, all_of, entries_rise_from, entries_rise, rows, slots_of, slots_rise}
use Rattle.checking.proofs.Bools.{and_assoc}

-- Words -----------------------------------------------------------------------------------------------

-- Words before others.
pub words_add : (m n : ℕ) (s : List ℕ) → words_of (m + n) s ≡ words_of m s ++ words_of n (drop (8 * m) s)
unfolding words_of
words_add zero n s = let e : zero + n ≡ n = omega arith in ap (λ (k : ℕ). words_of k s) e
words_add (suc m) n s =
    let e : suc m + n ≡ suc (m + n) = omega arith in
    let d : 8 + 8 * m ≡ 8 * suc m = omega arith in
    ap (λ (k : ℕ). words_of k s) e
    ∙ ap (λ (l : List ℕ). num (take 8 s) ∷ l) (words_add m n (drop 8 s))
    ∙ ap (λ (l : List ℕ). num (take 8 s) ∷ (words_of m (drop 8 s) ++ words_of n l)) (drop-drop (8 * m) 8 s ∙ ap (λ (k : ℕ). drop k s) d)

pub take_words : (m n : ℕ) (s : List ℕ) → take m (words_of (m + n) s) ≡ words_of m s
take_words m n s = ap (take m) (words_add m n s) ∙ take_at (words_of m s) _ m (length_words_of m s)

pub drop_words : (m n : ℕ) (s : List ℕ) → drop m (words_of (m + n) s) ≡ words_of n (drop (8 * m) s)
drop_words m n s = ap (drop m) (words_add m n s) ∙ drop_at (words_of m s) _ m (length_words_of m s)

-- Words of bytes fit.
pub fit_words : (n : ℕ) (b : List ℕ) → Bytes b → 8 * n ≤ length b → Fit (words_of n b)
unfolding words_of
fit_words zero b f h = fit_nil
fit_words (suc n) b f h =
    let k : length (drop 8 b) ≡ length b - 8 = length-drop 8 b in
    let x : num (take 8 b) < 2 ^ 64 = num_below 0 8 b f (omega arith) in
    fit_cons x (fit_words n (drop 8 b) (λ j. rw get_or-drop (f (8 + j))) (omega arith))

-- Zeros -----------------------------------------------------------------------------------------------

all_zero_append : (a b : List ℕ) → all_zero (a ++ b) ≡ (all_zero a && all_zero b)
unfolding all_zero
all_zero_append [] b = refl
all_zero_append (x ∷ a) b = ap (λ (t : Bool). eqb x 0 && t) (all_zero_append a b) ∙ sym (and_assoc (eqb x 0) (all_zero a) (all_zero b))

zero_digits : (a x : ℕ) → eqb (a * 256 + x) 0 ≡ (eqb a 0 && eqb x 0)
zero_digits zero zero = refl
zero_digits zero (suc x) = ne_eqb (zero * 256 + suc x) 0 (λ e. omega arith) ∙ sym (ne_eqb (suc x) 0 (λ e. omega arith))
zero_digits (suc a) x = ne_eqb (suc a * 256 + x) 0 (λ e. omega arith) ∙ sym (ap (λ (t : Bool). t && eqb x 0) (ne_eqb (suc a) 0 (λ e. omega arith)))

num_zero : (a : ℕ) (l : List ℕ) → eqb (num_from a l) 0 ≡ (eqb a 0 && all_zero l)
unfolding num_from all_zero
num_zero a [] = sym (and_true (eqb a 0))
num_zero a (x ∷ l) = num_zero (a * 256 + x) l ∙ ap (λ (t : Bool). t && all_zero l) (zero_digits a x) ∙ and_assoc (eqb a 0) (eqb x 0) (all_zero l)

-- Words are 0 exactly when their bytes are.
pub zero_words : (n : ℕ) (s : List ℕ) → all_zero (words_of n s) ≡ all_zero (take (8 * n) s)
unfolding words_of all_zero
zero_words zero s = refl
zero_words (suc n) s =
    let e : 8 * suc n ≡ 8 + 8 * n = omega arith in
    ap₂ (λ (a b : Bool). a && b) (num_zero 0 (take 8 s)) (zero_words n (drop 8 s))
    ∙ sym (all_zero_append (take 8 s) (take (8 * n) (drop 8 s)))
    ∙ ap all_zero (sym (take-add 8 (8 * n) s) ∙ ap (λ (k : ℕ). take k s) (sym e))

-- Entries ---------------------------------------------------------------------------------------------

pub rows_are : (w n k : ℕ) (s : List ℕ) → entries w n (words_of (w * n + k) s) ≡ rows w n s
unfolding entries rows
rows_are w zero k s = refl
rows_are w (suc n) k s =
    let e : w * suc n + k ≡ w + (w * n + k) = omega arith in
    ap (λ (x : ℕ). entries w (suc n) (words_of x s)) e
    ∙ ap₂ (λ (x y : List ℕ). x ∷ entries w n y) (take_words w (w * n + k) s) (drop_words w (w * n + k) s)
    ∙ ap (λ (l : List (List ℕ)). words_of w s ∷ l) (rows_are w n k (drop (8 * w) s))

pub length_rows : (w n : ℕ) (s : List ℕ) → length (rows w n s) ≡ n
unfolding rows
length_rows w zero s = refl
length_rows w (suc n) s = ap suc (length_rows w n (drop (8 * w) s))

-- The first of more entries.
pub take_rows : (w n k : ℕ) (s : List ℕ) → take n (rows w (n + k) s) ≡ rows w n s
unfolding rows
take_rows w zero k s = refl
take_rows w (suc n) k s =
    let e : suc n + k ≡ suc (n + k) = omega arith in
    ap (λ (x : ℕ). take (suc n) (rows w x s)) e ∙ ap (λ (l : List (List ℕ)). words_of w s ∷ l) (take_rows w n k (drop (8 * w) s))

-- A test of every entry from place `at` on, by the numbers of the entries.
all_numbered_from : (p : List ℕ → Bool) (w n at i : ℕ) (s : List ℕ) → list_all (λ k. p (words_of w (drop (at + 8 * w * k) s))) (range_with_len i n) ≡ all_of p (rows w n (drop (at + 8 * w * i) s))
unfolding all_of rows
all_numbered_from p w zero at i s = refl
all_numbered_from p w (suc n) at i s =
    let e : at + 8 * w * i + 8 * w ≡ at + 8 * w * (i + 1) = omega arith in
    ap (λ (t : Bool). p (words_of w (drop (at + 8 * w * i) s)) && t) (all_numbered_from p w n at (i + 1) s ∙ ap (λ (l : List ℕ). all_of p (rows w n l)) (sym (drop-drop (8 * w) (at + 8 * w * i) s ∙ ap (λ (k : ℕ). drop k s) e)))

pub all_numbered : (p : List ℕ → Bool) (w n at : ℕ) (s : List ℕ) → list_all (λ k. p (words_of w (drop (at + 8 * w * k) s))) (range_with_len 0 n) ≡ all_of p (rows w n (drop at s))
all_numbered p w n at s = let e : at + 8 * w * 0 ≡ at = omega arith in all_numbered_from p w n at 0 s ∙ ap (λ (k : ℕ). all_of p (rows w n (drop k s))) e

-- Slots -----------------------------------------------------------------------------------------------

pub length_slots : (wide n : ℕ) (s : List ℕ) → length (slots_of wide n s) ≡ n
unfolding slots_of
length_slots wide zero s = refl
length_slots wide (suc n) s = ap suc (length_slots wide n (drop wide s))

pub slots_records : (n : ℕ) (s : List ℕ) → slots_of record_size n s ≡ map read_slot (rows record_width n s)
unfolding slots_of rows words_of
slots_records zero s = refl
slots_records (suc n) s = ap (λ (l : List Slot). read_slot (words_of slot_width s) ∷ l) (slots_records n (drop record_size s))

pub slots_awaiting : (n : ℕ) (s : List ℕ) → slots_of awaiting_size n s ≡ map read_slot (rows awaiting_width n s)
unfolding slots_of rows words_of
slots_awaiting zero s = refl
slots_awaiting (suc n) s = ap (λ (l : List Slot). read_slot (words_of slot_width s) ∷ l) (slots_awaiting n (drop awaiting_size s))

slots_rise_from : (e : List ℕ) (es : List (List ℕ)) → slots_rise (map read_slot (e ∷ es)) ≡ entries_rise_from e es
unfolding slots_rise entries_rise_from
slots_rise_from e [] = refl
slots_rise_from e (f ∷ es) = ap (λ (t : Bool). slot_ltb (read_slot e) (read_slot f) && t) (slots_rise_from f es)

pub slots_entries : (es : List (List ℕ)) → slots_rise (map read_slot es) ≡ entries_rise es
unfolding slots_rise
slots_entries [] = refl
slots_entries (e ∷ es) = slots_rise_from e es
