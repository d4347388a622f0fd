-- The records that bytes begin with, one by one.
use Rattle.std.specs.Prelude.{None, Some}
use Prim.Native.Nat.{ℕ, zero, suc, ◌+◌, ◌*◌, ◌<◌}
use mathlib.Core.Path.{◌≡◌, refl, sym, ap, ap₂, ◌∙◌}
use mathlib.Core.Bool.{true, false, not}
use mathlib.Core.List.{List, [], ◌∷◌, map}
use native.Mathlib.Omega.{arith}
use lib.Dec.{eqb}
use lib.ListN.{length, drop, get_or}
use lib.Seq.{drop-drop}
use Rattle.layout.specs.Layout.{has_index, last_use_index, record_size, record_width, slot_width, value_index}
use Rattle.model.specs.Numbers.{num}
use Rattle.model.specs.Contents.{use_of, has_value}
use Rattle.model.specs.Slots.{read_u256}
use Rattle.model.specs.Layers.{Record}
use Rattle.model.proofs.SlotLaws.{split, not_both}
use Rattle.model.proofs.ContentLaws.{has_value_read}
use Rattle.words.specs.Parts.{part}
use Rattle.image.specs.Image.{words_of, entries, read_slot, read_record}
use Rattle.image.specs.Area.{records_of}
use Rattle.records.specs.Records.{words_at, record_at}
use Rattle.records.proofs.Slots.{words_take, words_drop}

-- The first record, and those after it.
pub records_more : (n : ℕ) (s : List ℕ) → records_of (suc n) s ≡ read_record (words_of record_width s) ∷ records_of n (drop record_size s)
unfolding records_of entries
records_more n s =
    let e : record_width * suc n ≡ record_width + record_width * n = omega arith in
    ap (λ (k : ℕ). map read_record (entries record_width (suc n) (words_of k s))) e
    ∙ ap₂ (λ (x y : List ℕ). read_record x ∷ map read_record (entries record_width n y)) (words_take record_width (record_width * n) s) (words_drop record_width (record_width * n) s)

pub records_none : (s : List ℕ) → records_of 0 s ≡ []
unfolding records_of entries
records_none s = refl

pub records_length : (n : ℕ) (s : List ℕ) → length (records_of n s) ≡ n
records_length zero s = ap length (records_none s)
records_length (suc n) s = ap length (records_more n s) ∙ ap suc (records_length n (drop record_size s))

-- Record i is the one in its words.
pub record_words_at : (n i : ℕ) (s : List ℕ) → i < n → record_at i (records_of n s) ≡ read_record (words_at i s)
record_words_at zero i s h = absurd (omega arith)
record_words_at (suc n) zero s h = ap (record_at 0) (records_more n s)
record_words_at (suc n) (suc i) s h =
    let e : record_size + i * record_size ≡ suc i * record_size = omega arith in
    ap (record_at (suc i)) (records_more n s) ∙ record_words_at n i (drop record_size s) (omega arith) ∙ ap (λ (l : List ℕ). read_record (words_of record_width l)) (drop-drop (i * record_size) record_size s ∙ ap (λ (k : ℕ). drop k s) e)

-- A slot takes the first seven words.
pub slot_of_record : (b : List ℕ) → read_slot (words_of slot_width b) ≡ read_slot (words_of record_width b)
unfolding words_of
slot_of_record b = refl

pub slot_at_place : (n i : ℕ) (s : List ℕ) → i < n → read_slot (words_of slot_width (drop (i * record_size) s)) ≡ (record_at i (records_of n s)).slot
slot_at_place n i s h = slot_of_record (drop (i * record_size) s) ∙ ap (λ (r : Record). r.slot) (sym (record_words_at n i s h))

-- Its first word, which `slot_at` asks to fit 32 bits.
pub first_word_at : (n i : ℕ) (s : List ℕ) → i < n → num (part (i * record_size) 8 s) ≡ (record_at i (records_of n s)).slot.address.w0
unfolding words_of
first_word_at n i s h = ap (λ (r : Record). r.slot.address.w0) (sym (record_words_at n i s h))

-- The content of record i: its last use, and its value or none.
pub use_at : (i : ℕ) (s : List ℕ) → get_or (words_at i s) last_use_index 0 ≡ use_of (read_record (words_at i s)).content
unfolding words_of
use_at i s = refl

pub has_value_at : (i : ℕ) (s : List ℕ) → not (eqb (get_or (words_at i s) has_index 0) 0) ≡ has_value (read_record (words_at i s)).content
unfolding words_of
has_value_at i s = sym (has_value_read (drop slot_width (words_at i s)))

pub held_none : (i : ℕ) (s : List ℕ) → not (eqb (get_or (words_at i s) has_index 0) 0) ≡ false → None ≡ (read_record (words_at i s)).content.held
unfolding words_of
held_none i s e = split (eqb (get_or (words_at i s) has_index 0) 0) (λ q. rw q) (λ q. not_both (rw q) e)

pub held_value : (i : ℕ) (s : List ℕ) → not (eqb (get_or (words_at i s) has_index 0) 0) ≡ true → Some (read_u256 (drop value_index (words_at i s))) ≡ (read_record (words_at i s)).content.held
unfolding words_of
held_value i s e = split (eqb (get_or (words_at i s) has_index 0) 0) (λ q. not_both e (rw q)) (λ q. rw q)
