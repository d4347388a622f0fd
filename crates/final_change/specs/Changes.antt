-- The changes of a slot in a block, the final one, and lists of changes in bytes.
use Rattle.std.specs.Prelude.{ℕ, List, [], ◌∷◌, drop, None, Option, Some}
use Rattle.model.specs.declared.storage_memo.U256.{U256}
use Rattle.model.specs.Entries.{number_at, u256_at}
use Rattle.entries.specs.Lists.{all_entries}

-- A change of a slot: its index in the block, and the slot's value after it.
pub record StorageChange : Type 0 where
  pub index : ℕ
  pub value : U256

-- The value of a slot's last listed change, or none. EIP-7928: a slot's value after the block is that of its change with the highest index,
-- and changes are listed by rising index.
unfoldable pub final_change : List StorageChange → Option U256
final_change [] = None
final_change (c ∷ []) = Some c.value
final_change (c ∷ (d ∷ cs)) = final_change (d ∷ cs)

-- A change has 40 bytes: its index in the block and its value. A list of changes has all whole entries of its bytes.
abbrev pub read_change : List ℕ → StorageChange
read_change l = record { index = number_at 0 8 l; value = u256_at 0 (drop 8 l) }

abbrev pub changes_in : List ℕ → List StorageChange
changes_in b = all_entries read_change 40 b
