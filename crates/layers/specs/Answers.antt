-- What the answers of a search for a use mean.
use Rattle.std.specs.Prelude.{ℕ, ◌+◌, ◌*◌, ◌≤◌, ◌<◌, ◌≡◌, true, List, length, drop, Option, Some, None}
use Rattle.layout.specs.Layout.{record_size, records_offset}
use Rattle.model.specs.declared.delta_snapshot.Slot.{Slot}
use Rattle.model.specs.declared.delta_snapshot.Content.{Content}
use Rattle.model.specs.Slots.{Value}
use Rattle.model.specs.Contents.{use_of, own_value, has_value, or_else}
use Rattle.model.specs.Layers.{Layer, held_value, freshest_use}
use Rattle.image.specs.Image.{read_record}
use Rattle.image.specs.Area.{layers_below}
use Rattle.image.specs.Lent.{generation_of}
use Rattle.records.specs.Records.{Found}
use Rattle.records.specs.Records.{place_in, words_at}
use Rattle.layers.specs.declared.Row.{Row}

-- A place in a layer is that of some slot.
pub record PlaceOf (place : Found) (l : Layer) : Type 0 where
  pub slot : Slot
  pub place_is : place ≡ place_in slot l

-- The content of record i of all records of a store.
abbrev pub row_content : ℕ → List ℕ → Content
row_content i b = (read_record (words_at i (drop records_offset b))).content

-- A slot's highest record in some layers is record `row` of the store, and k is the number of its layer: its use is the freshest there, and its value, or else that of the layers below k, is the held one.
pub record First (t : Slot) (ls : List Layer) (k row : ℕ) (b : List ℕ) : Type 0 where
  pub room : records_offset + record_size * (row + 1) ≤ length b
  pub few : k ≤ length (generation_of b).base
  pub use_is : Some (use_of (row_content row b)) ≡ freshest_use t ls
  pub value_is : or_else (own_value (row_content row b)) (held_value t (layers_below k (generation_of b).base)) ≡ held_value t ls

-- What a search of the layers below k answers: that record, or none where no layer has a record of the slot.
abbrev pub HighestIn : Option Row → Slot → ℕ → List ℕ → Type 0
HighestIn None t k b = (freshest_use t (layers_below k (generation_of b).base) ≡ None) × (held_value t (layers_below k (generation_of b).base) ≡ None)
HighestIn (Some r) t k b = (r.layer < k) × First t (layers_below k (generation_of b).base) r.layer r.row b

-- The value of record `row`, one of the store's, is the answer.
pub record ValueIn (row : ℕ) (o : Option Value) (b : List ℕ) : Type 0 where
  pub room : records_offset + record_size * (row + 1) ≤ length b
  pub has : has_value (row_content row b) ≡ true
  pub value_is : own_value (row_content row b) ≡ o

-- An answer by the number of the record that holds its value, or none where there is no value.
abbrev pub ValueAt : Option ℕ → Option Value → List ℕ → Type 0
ValueAt None o b = None ≡ o
ValueAt (Some row) o b = ValueIn row o b
