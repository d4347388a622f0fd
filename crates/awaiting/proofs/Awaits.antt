-- The awaiting slots that bytes begin with, one by one.
use Prim.Native.Nat.{ℕ, zero, suc, ◌+◌, ◌*◌, ◌≤◌, ◌<◌}
use mathlib.Core.Path.{◌≡◌, refl, sym, ap, ap₂, ◌∙◌}
use mathlib.Core.Bool.{not}
use mathlib.Core.List.{List, [], ◌∷◌, map}
use native.Mathlib.Numerals.{add-one}
use native.Mathlib.Omega.{arith}
use lib.Dec.{eqb}
use lib.ListN.{length, drop, drop_of_length-le, length-map}
use lib.Seq.{drop-drop, drop-cons}
use Rattle.layout.specs.Layout.{awaiting_size, awaiting_width, slot_width, taken_index, taken_offset, waiters_index, waiters_offset}
use Rattle.model.specs.Numbers.{num}
use Rattle.model.specs.Contents.{use_only}
use Rattle.model.specs.Reads.{Pending}
use Rattle.records.specs.Records.{record_at}
use Rattle.words.specs.Parts.{part}
use Rattle.image.specs.Image.{words_of, entries, read_slot, read_pending}
use Rattle.image.specs.Area.{pending_of}
use Rattle.records.proofs.Slots.{words_take, words_drop, word_at}
use Rattle.awaiting.specs.Awaiting.{entry_at, as_records}
use Rattle.awaiting.proofs.Places.{pending_at, slot_as}

-- The first awaiting slot, and those after it.
pub pending_more : (n : ℕ) (s : List ℕ) → pending_of (suc n) s ≡ read_pending (words_of awaiting_width s) ∷ pending_of n (drop awaiting_size s)
unfolding pending_of entries
pending_more n s =
    let e : awaiting_width * suc n ≡ awaiting_width + awaiting_width * n = omega arith in
    ap (λ (k : ℕ). map read_pending (entries awaiting_width (suc n) (words_of k s))) e
    ∙ ap₂ (λ (x y : List ℕ). read_pending x ∷ map read_pending (entries awaiting_width n y)) (words_take awaiting_width (awaiting_width * n) s) (words_drop awaiting_width (awaiting_width * n) s)

pending_none : (s : List ℕ) → pending_of 0 s ≡ []
unfolding pending_of entries
pending_none s = refl

pub length_pending_of : (n : ℕ) (s : List ℕ) → length (pending_of n s) ≡ n
length_pending_of zero s = ap length (pending_none s)
length_pending_of (suc n) s = ap length (pending_more n s) ∙ ap suc (length_pending_of n (drop awaiting_size s))

-- Awaiting slot i is the one in its nine words.
pub pending_is : (n i : ℕ) (s : List ℕ) → i < n → pending_at i (pending_of n s) ≡ entry_at i s
pending_is zero i s h = absurd (omega arith)
pending_is (suc n) zero s h = ap (pending_at 0) (pending_more n s)
pending_is (suc n) (suc i) s h =
    let e : awaiting_size + i * awaiting_size ≡ suc i * awaiting_size = omega arith in
    ap (pending_at (suc i)) (pending_more n s) ∙ pending_is n i (drop awaiting_size s) (omega arith) ∙ ap (λ (l : List ℕ). read_pending (words_of awaiting_width l)) (drop-drop (i * awaiting_size) awaiting_size s ∙ ap (λ (k : ℕ). drop k s) e)

-- The awaiting slots from place i on.
pub pending_from : (n i : ℕ) (s : List ℕ) → i < n → drop i (pending_of n s) ≡ entry_at i s ∷ drop (i + 1) (pending_of n s)
pending_from n i s h =
    let q = pending_of n s in
    let k : i < length q = omega (arith, length_pending_of n s) in
    rw add-one (drop-cons q i (read_pending []) k ∙ ap (λ (w : Pending). w ∷ drop (suc i) q) (pending_is n i s h))

pub pending_end : (n i : ℕ) (s : List ℕ) → n ≤ i → drop i (pending_of n s) ≡ []
pending_end n i s h = drop_of_length-le (pending_of n s) {i = i} (omega (arith, length_pending_of n s))

-- The parts of awaiting slot i, read out of the bytes.
pub entry_slot : (i : ℕ) (s : List ℕ) → read_slot (words_of slot_width (drop (i * awaiting_size) s)) ≡ (entry_at i s).slot
unfolding words_of
entry_slot i s = refl

pub entry_waiters : (i : ℕ) (s : List ℕ) → num (part (i * awaiting_size + waiters_offset) 8 s) ≡ (entry_at i s).waiters
entry_waiters i s = sym (word_at awaiting_width waiters_index (i * awaiting_size) s (omega arith))

pub entry_taken : (i : ℕ) (s : List ℕ) → not (eqb (num (part (i * awaiting_size + taken_offset) 8 s)) 0) ≡ (entry_at i s).taken
entry_taken i s = ap (λ (x : ℕ). not (eqb x 0)) (sym (word_at awaiting_width taken_index (i * awaiting_size) s (omega arith)))

-- The same of the awaiting slots as records.
pub count_as : (n : ℕ) (s : List ℕ) → length (as_records (pending_of n s)) ≡ n
count_as n s = length-map (pending_of n s) (λ (w : Pending). record { slot = w.slot; content = use_only 0 }) ∙ length_pending_of n s

pub slot_as_read : (n i : ℕ) (s : List ℕ) → i < n → read_slot (words_of slot_width (drop (i * awaiting_size) s)) ≡ (record_at i (as_records (pending_of n s))).slot
slot_as_read n i s h = entry_slot i s ∙ ap (λ (w : Pending). w.slot) (sym (pending_is n i s h)) ∙ sym (slot_as (pending_of n s) i)
