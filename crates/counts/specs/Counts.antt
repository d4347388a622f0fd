-- Held and live, over the records as they stand: the lowest layer's first, the top's last.
use Rattle.std.specs.Prelude.{ℕ, is_some}
use Rattle.model.specs.declared.delta_snapshot.Retention.{Retention}
use Rattle.model.specs.Layers.{Layer, slots, resolved_through_policy, count_distinct}
use Rattle.rules.specs.Rules.{group, newest_value, freshest}

-- Held (`snapshot_len`): the number of distinct slots with a value.
unfoldable pub held_in : Layer → ℕ
held_in rs = count_distinct (λ s. is_some (newest_value (group s rs))) (slots rs)

-- Live (`live_len`): the number of distinct slots served at `now`.
unfoldable pub live_in : Retention → ℕ → Layer → ℕ
live_in R now rs = count_distinct (λ s. is_some (resolved_through_policy R now (freshest (group s rs)) (newest_value (group s rs)))) (slots rs)
