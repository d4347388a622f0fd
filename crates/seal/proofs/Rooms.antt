-- Room for a store's records, by the word of its capacity; the layers and records of a generation in numbers.
use Prim.Native.Nat.{ℕ, ◌+◌, ◌*◌, ◌≤◌}
use mathlib.Core.Path.{◌≡◌}
use mathlib.Core.List.{List}
use native.Mathlib.Omega.{arith}
use lib.ListN.{length}
use Rattle.layout.specs.Layout.{capacity_offset, record_size, records_offset}
use Rattle.model.specs.Layers.{record_count}
use Rattle.model.specs.Refusals.{store_size}
use Rattle.image.specs.Lent.{store_of, generation_of, IsStore, Installed}
use Rattle.image.proofs.Areas.{word, StoreBytes, GenerationBytes}
use Rattle.image.proofs.Lent.{store_in, generation_in}

-- Of the store itself, and of a work area that is long enough.
pub store_room : (s : List ℕ) (n : ℕ) → IsStore s → n ≡ word capacity_offset s → records_offset + record_size * n ≤ length s
store_room s n e c = let z : StoreBytes s (store_of s) = store_in s e in omega (arith, z.capacity_word, z.long)

pub work_room : (s w : List ℕ) (n : ℕ) → IsStore s → n ≡ word capacity_offset s → store_size (store_of s).config.capacity ≤ length w → records_offset + record_size * n ≤ length w
work_room s w n e c h = let z : StoreBytes s (store_of s) = store_in s e in omega (arith, z.capacity_word)

-- The base's records stand in the store.
pub base_room : (s : List ℕ) (x : ℕ) → Installed s → x ≡ record_count (generation_of s).base → records_offset + record_size * x ≤ length s
base_room s x h e = let w : GenerationBytes s (store_of s) (generation_of s) = generation_in s h in omega (arith, w.top.room)

-- The records of base and top are within the capacity, and so is the top over no more records than the base's.
pub top_fits : (s : List ℕ) (left x n capacity : ℕ) → Installed s → left ≤ record_count (generation_of s).base → x ≡ record_count (generation_of s).base → n ≡ length (generation_of s).top → capacity ≡ word capacity_offset s
    → (left ≤ x) × (x + n ≤ capacity) × (records_offset + record_size * capacity ≤ length s)
unfolding record_count
top_fits s left x n capacity h el ex en ec =
    let w : GenerationBytes s (store_of s) (generation_of s) = generation_in s h in
    let few : length (generation_of s).top + record_count (generation_of s).base ≤ (store_of s).config.capacity = w.facts.few_records in
    (omega arith, omega (arith, w.store.capacity_word), store_room s capacity h.is_store ec)
