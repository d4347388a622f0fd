-- Records in bytes, apart from the rest of a store: what the functions over a part of the record area say.
use Rattle.std.specs.Prelude.{ℕ, ◌-◌, ◌*◌, max, List, ◌++◌, map, length, drop, replicate}
use Rattle.layout.specs.Layout.{awaiting_size, awaiting_width, record_size, record_width}
use Rattle.model.specs.Layers.{LayerOf, Layer}
use Rattle.model.specs.Reads.{Pending}
use Rattle.image.specs.Image.{bytes_of, words_of, all_record_words, all_pending_words, read_record, read_pending, entries}

-- The n records that bytes begin with.
unfoldable pub records_of : ℕ → List ℕ → Layer
records_of n s = map read_record (entries record_width n (words_of (record_width * n) s))

-- The bytes with the given records at their beginning; what follows is as it was.
unfoldable pub with_records : Layer → List ℕ → List ℕ
with_records l s = bytes_of (all_record_words l) ++ drop (record_size * length l) s

-- The lowest k of some layers (the newest first): those of the numbers below k.
abbrev pub layers_below : {A : Type 0} → ℕ → List (LayerOf A) → List (LayerOf A)
layers_below k b = drop (length b - k) b

-- The n awaiting slots that bytes begin with.
unfoldable pub pending_of : ℕ → List ℕ → List Pending
pending_of n s = map read_pending (entries awaiting_width n (words_of (awaiting_width * n) s))

-- The bytes with the given awaiting slots at their beginning, where n stood: the bytes that they leave free are 0, and what follows is as it was.
unfoldable pub with_pending : ℕ → List Pending → List ℕ → List ℕ
with_pending n q s = bytes_of (all_pending_words q) ++ (replicate (awaiting_size * (n - length q)) 0 ++ drop (awaiting_size * max n (length q)) s)
