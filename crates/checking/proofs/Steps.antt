-- Bytes, entries and ends as the checks go through them, one after the other.
use Prim.Native.Nat.{ℕ, zero, suc, ◌+◌, ◌-◌, ◌*◌, ◌^◌, ◌≤◌, ◌<◌}
use mathlib.Core.Path.{◌≡◌, refl, sym, ap, ap₂, ◌∙◌}
use mathlib.Core.Bool.{Bool, true, ◌&&◌}
use mathlib.Core.List.{List, [], ◌∷◌}
use native.Mathlib.Omega.{arith}
use native.Mathlib.Numerals.{add-one}
use native.Mathlib.Nat.{mul-le-mul_right}
use lib.Bits.{bit_or}
use Rattle.std.specs.List.{list_all, range_with_len, sum_by}
use Rattle.std.proofs.lemmas.List.Sums.{sum_by-cons}
use lib.Dec.{eqb, leb, ltb}
use lib.ListN.{length, take, drop, get_or, length-drop, length-take, drop_of_length-le}
use lib.Seq.{drop-drop, drop-cons, take-add, get_or-take, drop_at, length-take-le, take_all}
use Rattle.std.specs.Int.Bits.{or_zero_l}
use Rattle.std.proofs.lemmas.Nat.{le_or_l, le_or_r}
use Rattle.std.proofs.lemmas.Bool.Decides.{nat_tests}
use borrow.Author.Tests.{leb-true}
use Rattle.layout.specs.Layout.{awaiting_offset, awaiting_size, awaiting_width, record_size, record_width, slot_width, waiters_index}
use Rattle.model.specs.declared.delta_snapshot.Slot.{Slot}
use Rattle.model.specs.Slots.{slot_ltb}
use Rattle.model.proofs.SlotLaws.{and_left, and_right, and_true}
use Rattle.image.specs.Image.{words_of, read_slot}
use Rattle.checking.specs.Checks.{all_zero, all_of, ends_rise, awaiting_right, waiters_sum, entries_rise, layers_rise, rows, slots_of, slots_rise}
use Rattle.checking.proofs.Bools.{drop_map, and_assoc}
use Rattle.checking.proofs.Rows.{drop_words, zero_words, length_rows, take_rows, length_slots, slots_records, slots_entries}
use Rattle.checking.proofs.Cuts.{ends_rise_le}

-- Zeros -----------------------------------------------------------------------------------------------

-- Two bytes have no bit exactly when both are 0.
or_zero : (x y : ℕ) → eqb (bit_or x y) 0 ≡ (eqb x 0 && eqb y 0)
or_zero x y = grind (arith, nat_tests, le_or_l x y, le_or_r x y, or_zero_l y)

pub zero_next : (l : List ℕ) (m i : ℕ) → i < length l → (eqb m 0 && all_zero (drop i l)) ≡ (eqb (bit_or m (get_or l i 0)) 0 && all_zero (drop (i + 1) l))
unfolding all_zero
zero_next l m i h = rw (add-one, drop-cons l i 0 h, or_zero m (get_or l i 0)) (sym (and_assoc (eqb m 0) (eqb (get_or l i 0) 0) (all_zero (drop (suc i) l))))

pub zero_end : (l : List ℕ) (m i : ℕ) → length l ≤ i → (eqb m 0 && all_zero (drop i l)) ≡ eqb m 0
unfolding all_zero
zero_end l m i h = rw (drop_of_length-le l h) (and_true (eqb m 0))

-- The bytes of the words from number m on.
pub drop_take : {A : Type 0} (from m : ℕ) (s : List A) → from ≤ length s → drop from (take (from + m) s) ≡ take m (drop from s)
drop_take from m s h = ap (drop from) (take-add from m s) ∙ drop_at (take from s) (take m (drop from s)) from (length-take-le from s h)

pub zero_range : (n from to : ℕ) (s : List ℕ) → to ≡ from + 8 * n → to ≤ length s → all_zero (drop from (take to s)) ≡ all_zero (words_of n (drop from s))
zero_range n from to s e h =
    ap (λ (k : ℕ). all_zero (drop from (take k s))) e ∙ ap all_zero (drop_take from (8 * n) s (omega arith)) ∙ sym (zero_words n (drop from s))

pub zero_tail : (m n base from to : ℕ) (s : List ℕ) → from ≡ base + 8 * m → to ≡ from + 8 * n → to ≤ length s → all_zero (drop from (take to s)) ≡ all_zero (drop m (words_of (m + n) (drop base s)))
zero_tail m n base from to s d e h =
    zero_range n from to s e h
    ∙ ap (λ (k : ℕ). all_zero (words_of n (drop k s))) d
    ∙ ap (λ (l : List ℕ). all_zero (words_of n l)) (sym (drop-drop (8 * m) base s))
    ∙ ap all_zero (sym (drop_words m n (drop base s)))

-- Slots -----------------------------------------------------------------------------------------------

-- The slot of entry i, and those after it.
slot_next : (wide n i : ℕ) (s : List ℕ) → i < n → drop i (slots_of wide n s) ≡ read_slot (words_of slot_width (drop (i * wide) s)) ∷ drop (suc i) (slots_of wide n s)
unfolding slots_of
slot_next wide zero i s h = absurd (omega arith)
slot_next wide (suc n) zero s h = let e : 0 ≡ zero * wide = omega arith in ap (λ (k : ℕ). read_slot (words_of slot_width (drop k s)) ∷ slots_of wide n (drop wide s)) e
slot_next wide (suc n) (suc i) s h =
    let e : wide + i * wide ≡ suc i * wide = omega arith in
    slot_next wide n i (drop wide s) (omega arith)
    ∙ ap (λ (l : List ℕ). read_slot (words_of slot_width l) ∷ drop (suc i) (slots_of wide n (drop wide s))) (drop-drop (i * wide) wide s ∙ ap (λ (k : ℕ). drop k s) e)

-- The slot of entry k.
abbrev pub slot_at : ℕ → List ℕ → ℕ → Slot
slot_at wide s k = read_slot (words_of slot_width (drop (k * wide) s))

rise_next : (wide n i : ℕ) (s : List ℕ) → i + 1 < n → slots_rise (drop i (slots_of wide n s)) ≡ (slot_ltb (slot_at wide s i) (slot_at wide s (i + 1)) && slots_rise (drop (i + 1) (slots_of wide n s)))
unfolding slots_rise
rise_next wide n i s h =
    let p : drop i (slots_of wide n s) ≡ slot_at wide s i ∷ drop (i + 1) (slots_of wide n s) = slot_next wide n i s (omega arith) ∙ rw add-one in
    let q : drop (i + 1) (slots_of wide n s) ≡ slot_at wide s (i + 1) ∷ drop (suc (i + 1)) (slots_of wide n s) = slot_next wide n (i + 1) s h in
    let a : Slot = slot_at wide s i in
    let b : Slot = slot_at wide s (i + 1) in
    ap slots_rise (p ∙ ap (λ (l : List Slot). a ∷ l) q) ∙ ap (λ (l : List Slot). slot_ltb a b && slots_rise l) (sym q)

few_rise : (l : List Slot) → length l ≤ 1 → slots_rise l ≡ true
unfolding slots_rise
few_rise [] h = refl
few_rise (a ∷ []) h = refl
few_rise (a ∷ b ∷ l) h = absurd (omega arith)

rise_end : (wide n i : ℕ) (s : List ℕ) → n ≤ i + 1 → slots_rise (drop i (slots_of wide n s)) ≡ true
rise_end wide n i s h = few_rise (drop i (slots_of wide n s)) (omega (arith, length-drop i (slots_of wide n s), length_slots wide n s))

-- Slots rise exactly when each of them but the last comes before the next one.
pub rise_numbered : (wide n m i : ℕ) (s : List ℕ) → n - 1 - i ≡ m → list_all (λ k. slot_ltb (slot_at wide s k) (slot_at wide s (k + 1))) (range_with_len i m) ≡ slots_rise (drop i (slots_of wide n s))
rise_numbered wide n zero i s e = sym (rise_end wide n i s (omega arith))
rise_numbered wide n (suc m) i s e = ap (λ (t : Bool). slot_ltb (slot_at wide s i) (slot_at wide s (i + 1)) && t) (rise_numbered wide n m (i + 1) s (omega arith)) ∙ sym (rise_next wide n i s (omega arith))

-- An entry stands within the bytes of all.
pub entry_room : (wide n i : ℕ) → i < n → i * wide + wide ≤ n * wide
entry_room wide n i h =
    let k : suc i ≤ n = h in
    let p : suc i * wide ≤ n * wide = mul-le-mul_right wide k in
    let e : suc i * wide ≡ i * wide + wide = omega arith in
    omega arith

pub entries_few : (wide n : ℕ) → 0 < wide → n ≤ n * wide
entries_few wide zero h = omega arith
entries_few wide (suc n) h =
    let e : suc n * wide ≡ n * wide + wide = omega arith in
    omega (arith, entries_few wide n h)

-- Ends ------------------------------------------------------------------------------------------------

pub ends_next : (n from k d : ℕ) (l : List ℕ) → k ≤ d → d < length l → ends_rise n from (drop k (take (suc d) l)) ≡ (leb from (get_or l k 0) && ends_rise n (get_or l k 0) (drop (k + 1) (take (suc d) l)))
unfolding ends_rise
ends_next n from k d l h j =
    let p : k < length (take (suc d) l) = omega (arith, length-take-le (suc d) l (omega arith)) in
    rw (add-one, drop-cons (take (suc d) l) k 0 p, get_or-take (suc d) l k 0 (omega arith))

pub ends_end : (n from k d : ℕ) (l : List ℕ) → suc d ≤ k → ends_rise n from (drop k (take (suc d) l)) ≡ leb from n
unfolding ends_rise
ends_end n from k d l h =
    let p : length (take (suc d) l) ≤ k = simp length-take (omega arith) in
    rw (drop_of_length-le (take (suc d) l) p)

-- Entries ---------------------------------------------------------------------------------------------

-- The waiters of a store's awaiting slot k, and of all slots by their numbers.
abbrev pub waiters_at : List ℕ → ℕ → ℕ
waiters_at s k = get_or (words_of awaiting_width (drop (awaiting_offset + awaiting_size * k) s)) waiters_index 0

waiters_from : (n i : ℕ) (s : List ℕ) → sum_by (waiters_at s) (range_with_len i n) ≡ waiters_sum (rows awaiting_width n (drop (awaiting_offset + awaiting_size * i) s))
unfolding waiters_sum rows
waiters_from zero i s = refl
waiters_from (suc n) i s =
    let e : awaiting_offset + awaiting_size * i + awaiting_size ≡ awaiting_offset + awaiting_size * (i + 1) = omega arith in
    sum_by-cons (waiters_at s) i (range_with_len (i + 1) n)
    ∙ ap (λ (w : ℕ). waiters_at s i + w) (waiters_from n (i + 1) s ∙ ap (λ (l : List ℕ). waiters_sum (rows awaiting_width n l)) (sym (drop-drop awaiting_size (awaiting_offset + awaiting_size * i) s ∙ ap (λ (k : ℕ). drop k s) e)))

pub waiters_numbered : (n : ℕ) (s : List ℕ) → sum_by (waiters_at s) (range_with_len 0 n) ≡ waiters_sum (rows awaiting_width n (drop awaiting_offset s))
waiters_numbered n s = let e : awaiting_offset + awaiting_size * 0 ≡ awaiting_offset = omega arith in waiters_from n 0 s ∙ ap (λ (k : ℕ). waiters_sum (rows awaiting_width n (drop k s))) e

-- Right awaiting slots have few waiters.
pub waiters_few : (es : List (List ℕ)) → all_of awaiting_right es ≡ true → waiters_sum es ≤ 4294967295 * length es
unfolding awaiting_right all_of waiters_sum
waiters_few [] a = omega arith
waiters_few (e ∷ es) a =
    let p : awaiting_right e ≡ true = and_left (awaiting_right e) _ a in
    let q : leb (get_or e waiters_index 0) 4294967295 ≡ true = and_left (leb (get_or e waiters_index 0) 4294967295) _ (and_right (ltb 0 (get_or e waiters_index 0)) _ (and_right (ltb (get_or e 0 0) (2 ^ 32)) _ p)) in
    omega (arith, leb-true (get_or e waiters_index 0) 4294967295 q, waiters_few es (and_right (awaiting_right e) _ a))

-- Layers ----------------------------------------------------------------------------------------------

-- The records from number `from` to number `to` rise.
run_rises : (n from to : ℕ) (s : List ℕ) → from ≤ to → to ≤ n → entries_rise (take (to - from) (drop from (rows record_width n s))) ≡ slots_rise (drop from (slots_of record_size to s))
run_rises n from to s h k =
    let e : to + (n - to) ≡ n = omega arith in
    let d : from + (to - from) ≡ to = omega arith in
    ap entries_rise
    (sym (drop_take from (to - from) (rows record_width n s) (omega (arith, length_rows record_width n s)))
    ∙ ap (λ (m : ℕ). drop from (take m (rows record_width n s))) d
    ∙ ap (λ (m : ℕ). drop from (take to (rows record_width m s))) (sym e)
    ∙ ap (drop from) (take_rows record_width to (n - to) s))
    ∙ sym (slots_entries (drop from (rows record_width to s)))
    ∙ ap slots_rise (sym (drop_map read_slot from (rows record_width to s)) ∙ ap (drop from) (sym (slots_records to s)))

pub layers_next : (n from k d : ℕ) (l s : List ℕ) → k ≤ d → d < length l → from ≤ get_or l k 0 → get_or l k 0 ≤ n →
    layers_rise from (drop k (take (suc d) l)) (drop from (rows record_width n s)) ≡ (slots_rise (drop from (slots_of record_size (get_or l k 0) s)) && layers_rise (get_or l k 0) (drop (k + 1) (take (suc d) l)) (drop (get_or l k 0) (rows record_width n s)))
unfolding layers_rise
layers_next n from k d l s h j a b =
    let x = get_or l k 0 in
    let p : k < length (take (suc d) l) = omega (arith, length-take-le (suc d) l (omega arith)) in
    let c : drop k (take (suc d) l) ≡ x ∷ drop (k + 1) (take (suc d) l) = rw (add-one, drop-cons (take (suc d) l) k 0 p, get_or-take (suc d) l k 0 (omega arith)) in
    let m : from + (x - from) ≡ x = omega arith in
    ap (λ (es : List ℕ). layers_rise from es (drop from (rows record_width n s))) c
    ∙ ap₂ (λ (t : Bool) (es : List (List ℕ)). t && layers_rise x (drop (k + 1) (take (suc d) l)) es) (run_rises n from x s a b) (drop-drop (x - from) from (rows record_width n s) ∙ ap (λ (i : ℕ). drop i (rows record_width n s)) m)

pub layers_end : (n from k d : ℕ) (l s : List ℕ) → suc d ≤ k → from ≤ n → layers_rise from (drop k (take (suc d) l)) (drop from (rows record_width n s)) ≡ slots_rise (drop from (slots_of record_size n s))
unfolding layers_rise
layers_end n from k d l s h a =
    let p : length (take (suc d) l) ≤ k = simp length-take (omega arith) in
    let q : length (drop from (rows record_width n s)) ≤ n - from = omega (arith, length-drop from (rows record_width n s), length_rows record_width n s) in
    rw (drop_of_length-le (take (suc d) l) p) (ap entries_rise (sym (take_all (n - from) (drop from (rows record_width n s)) q)) ∙ run_rises n from n s a (omega arith))

-- An end that was read, of ends that rise.
pub record Next (n from x : ℕ) (es : List ℕ) : Type 0 where
  pub up : from ≤ x
  pub low : x ≤ n
  pub later : ends_rise n x es ≡ true

pub next_end : (n from k d : ℕ) (l : List ℕ) → k ≤ d → d < length l → ends_rise n from (drop k (take (suc d) l)) ≡ true → Next n from (get_or l k 0) (drop (k + 1) (take (suc d) l))
next_end n from k d l h j r =
    let x = get_or l k 0 in
    let p : (leb from x && ends_rise n x (drop (k + 1) (take (suc d) l))) ≡ true = sym (ends_next n from k d l h j) ∙ r in
    let q : ends_rise n x (drop (k + 1) (take (suc d) l)) ≡ true = and_right (leb from x) _ p in
    record { up = leb-true from x (and_left (leb from x) _ p); low = ends_rise_le n x _ q; later = q }
