-- How many looks were counted.
use Rattle.std.specs.Prelude.{ℕ, ◌+◌}
use Rattle.gate_store_damaged.specs.declared.Tally.{Tally}

abbrev pub total : Tally → ℕ
total t = t.broken + t.same + t.another + t.nothing + t.refused
