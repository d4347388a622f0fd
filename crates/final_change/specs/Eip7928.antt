-- EIP-7928 numbers the changes of a slot by their place in the block: its value after the block is that of the change with the highest index.
use Rattle.std.specs.Prelude.{◌≡◌, Bool, true, ◌&&◌, cond, List, [], ◌∷◌, ltb, None, Option, Some}
use Rattle.model.specs.declared.storage_memo.U256.{U256}
use Rattle.final_change.specs.Changes.{StorageChange, final_change}

-- Whether the indices of changes strictly rise, as the public text lists them.
unfoldable pub rising : List StorageChange → Bool
rising [] = true
rising (c ∷ []) = true
rising (c ∷ (d ∷ cs)) = ltb c.index d.index && rising (d ∷ cs)

-- The change with the highest index; of equal indices the later listed counts.
abbrev pub higher : StorageChange → Option StorageChange → StorageChange
higher c None = c
higher c (Some d) = cond (ltb d.index c.index) c d

unfoldable pub highest_change : List StorageChange → Option StorageChange
highest_change [] = None
highest_change (c ∷ cs) = Some (higher c (highest_change cs))

abbrev pub value_of : Option StorageChange → Option U256
value_of None = None
value_of (Some c) = Some c.value

-- Of changes whose indices strictly rise, the last listed is the one with the highest index.
abbrev pub FinalIsHighest : Type 0
FinalIsHighest = (cs : List StorageChange) → rising cs ≡ true → final_change cs ≡ value_of (highest_change cs)
