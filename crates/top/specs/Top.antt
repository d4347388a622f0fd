-- The store with another top, and what setting a record asks.
use Rattle.std.specs.Prelude.{ℕ, ◌≤◌, ◌≡◌, List, Some}
use Rattle.model.specs.declared.delta_snapshot.Slot.{Slot}
use Rattle.model.specs.Layers.{Layer, record_count}
use Rattle.model.specs.Store.{Config, Generation, Memory, chain, with_top}
use Rattle.image.specs.Lent.{store_of, generation_of, Installed}
use Rattle.records.specs.Records.{Found}
use Rattle.records.specs.Records.{place_in, count_after}

-- A store with another top of its generation.
abbrev pub topped : Config → Generation → Layer → Memory
topped cfg g t = Some (record { config = cfg; installed = Some (with_top g t) })

-- The place of a slot among the top's records, and that there is room for its record.
pub record Placed (place : Found) (s : Slot) (b : List ℕ) : Type 0 where
  pub installed : Installed b
  pub place_is : place ≡ place_in s (generation_of b).top
  pub room : count_after place (record_count (chain (generation_of b))) ≤ (store_of b).config.capacity
