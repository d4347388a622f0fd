-- The fold, over the records of a base as they stand: the lowest layer's first.
use Rattle.std.specs.Prelude.{ℕ, List, [], ◌∷◌}
use Rattle.model.specs.declared.delta_snapshot.Slot.{Slot}
use Rattle.model.specs.declared.delta_snapshot.Retention.{Retention}
use Rattle.model.specs.Layers.{Layer, slots, count_distinct}
use Rattle.model.specs.Advance.{compact_slot, lapsed}
use Rattle.rules.specs.Rules.{group, newest_value, freshest}

-- The one layer that a fold makes of the listed slots: of each whose freshest use serves, its newest value and that use.
unfoldable pub folded_slots : Retention → ℕ → Layer → List Slot → Layer
folded_slots R now rs [] = []
folded_slots R now rs (s ∷ ss) = compact_slot R now s (freshest (group s rs)) (newest_value (group s rs)) (folded_slots R now rs ss)

-- The one layer that a fold makes of all records (`compact`).
unfoldable pub folded : Retention → ℕ → Layer → Layer
folded R now rs = folded_slots R now rs (slots rs)

-- The number of slots that a fold drops: the distinct slots whose freshest use no longer serves.
unfoldable pub dropped_in : Retention → ℕ → Layer → ℕ
dropped_in R now rs = count_distinct (λ s. lapsed R now (freshest (group s rs))) (slots rs)
