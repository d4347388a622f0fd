-- The words of a record's slot: its bucket.
use mathlib.Core.Path.{◌≡◌, sym, ap, ap₂, ◌∙◌}
use mathlib.Core.List.{List}
use Prim.Native.Nat.{ℕ, ◌+◌, ◌*◌, ◌<◌}
use lib.Dec.{lit<}
use lib.ListN.{get_or}
use Rattle.layout.specs.Layout.{record_size, slot_width}
use Rattle.model.specs.declared.delta_snapshot.Slot.{Slot}
use Rattle.model.specs.Numbers.{num}
use Rattle.model.specs.Slots.{slot_words}
use Rattle.words.specs.Parts.{part}
use Rattle.order.specs.Index.{slot_at}
use Rattle.order.proofs.RecordLaws.{word_at, slot_words_at}
use Rattle.chains.specs.Chains.{mixed, bucket_at}

-- Word k of the slot of record i.
pub slot_word : (i k : ℕ) (s : List ℕ) → k < slot_width → num (part (i * record_size + k * 8) 8 s) ≡ get_or (slot_words (slot_at i s)) k 0
slot_word i k s h = sym (ap (λ (l : List ℕ). get_or l k 0) (slot_words_at i s) ∙ word_at slot_width k (i * record_size) s h)

-- The bucket by the two words that are read.
pub bucket_words : (i : ℕ) (s : List ℕ) → mixed (num (part (i * record_size + 16) 8 s)) (num (part (i * record_size + 48) 8 s)) ≡ bucket_at i s
unfolding bucket_at
bucket_words i s = ap₂ mixed (slot_word i 2 s (lit< tt)) (slot_word i 6 s (lit< tt))

-- Records of one slot are in one bucket.
pub one_bucket : (i j : ℕ) (s : List ℕ) → slot_at i s ≡ slot_at j s → bucket_at i s ≡ bucket_at j s
unfolding bucket_at
one_bucket i j s e = ap (λ (t : Slot). mixed t.address.w2 t.index.w3) e
