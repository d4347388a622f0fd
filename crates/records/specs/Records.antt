-- What the functions over a run of records say: the order of two slots, the place of a slot, a record's words.
use Rattle.std.specs.Prelude.{ℕ, suc, ◌+◌, ◌*◌, ◌≤◌, ◌<◌, ◌≡◌, true, cond, List, [], ◌∷◌, length, drop, get_or, Err, Ok}
use Rattle.layout.specs.Layout.{record_size, record_width, slot_width}
use Rattle.model.specs.declared.delta_snapshot.Slot.{Slot}
use Rattle.model.specs.Slots.{words_eqb, words_ltb, slot_eqb, slot_ltb}
use Rattle.model.specs.Layers.{LayerOf, Record, Layer}
use Rattle.image.specs.Image.{words_of, read_slot, read_record}
use Rattle.image.specs.WellFormed.{rising}
use Rattle.image.specs.Area.{records_of, with_records}
use Rattle.std.specs.declared.result.Result.{Result}
use Rattle.std.specs.declared.cmp.Ordering.{Ordering}
use Rattle.std.specs.declared.cmp.Ordering.TheVariants.{Less, Equal, Greater}

-- How a list of words stands to another of as many, the highest first.
unfoldable pub words_order : List ℕ → List ℕ → Ordering
words_order xs ys = cond (words_eqb xs ys) Equal (cond (words_ltb xs ys) Less Greater)

-- How a slot stands to another.
unfoldable pub slot_order : Slot → Slot → Ordering
slot_order a b = cond (slot_eqb a b) Equal (cond (slot_ltb a b) Less Greater)

-- The place of a slot's record, or as the error where it would go.
abbrev pub Found : Type 0
Found = Result ℕ ℕ

-- The place of a slot among records that rise and stand from place i on: where its record is, or where it would go.
unfoldable pub place_from : {A : Type 0} → ℕ → Slot → LayerOf A → Found
place_from i s [] = Err i
place_from i s (r ∷ l) = cond (slot_eqb r.slot s) (Ok i) (cond (slot_ltb s r.slot) (Err i) (place_from (suc i) s l))

-- The same for records that stand from place 0 on.
abbrev pub place_in : {A : Type 0} → Slot → LayerOf A → Found
place_in s l = place_from 0 s l

-- The number of records, of n before, after a record is set at a place.
abbrev pub count_after : Found → ℕ → ℕ
count_after (Ok i) n = n
count_after (Err i) n = n + 1

-- Records whose slots stand in bytes, each at the beginning of an entry of `wide` bytes, and rise.
pub record Entries (wide n : ℕ) (s : List ℕ) (l : Layer) : Type 0 where
  pub count_is : length l ≡ n
  pub slots_are : (i : ℕ) → i < n → read_slot (words_of slot_width (drop (i * wide) s)) ≡ (get_or l i (read_record [])).slot
  pub rises : rising l ≡ true

-- The words of record i.
abbrev pub words_at : ℕ → List ℕ → List ℕ
words_at i s = words_of record_width (drop (i * record_size) s)

-- Record i of a list. Past its end there is none, and every word is 0.
abbrev pub record_at : ℕ → Layer → Record
record_at i l = get_or l i (read_record [])

-- What setting a record asks: the n records that the bytes begin with rise, the place is the slot's among them, there is room, and the bytes are exactly those of the records read.
pub record Ready (place : Found) (t : Slot) (n : ℕ) (s : List ℕ) : Type 0 where
  pub rises : rising (records_of n s) ≡ true
  pub place_is : place ≡ place_in t (records_of n s)
  pub room : count_after place n * record_size ≤ length s
  pub exact : with_records (records_of n s) s ≡ s

-- What it leaves: the number of the records, and the bytes, which begin with them.
pub record Holds (n : ℕ) (b : List ℕ) (l : Layer) (s : List ℕ) : Type 0 where
  pub count_is : n ≡ length l
  pub bytes_are : b ≡ with_records l s
