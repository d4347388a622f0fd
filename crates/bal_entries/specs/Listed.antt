-- Listed slots with their changes, the writes that they give, and the bytes that slots and reads are lent in.
use Rattle.std.specs.Prelude.{ℕ, ◌+◌, List, [], ◌∷◌, take, drop, None, Option, Some}
use Rattle.model.specs.declared.storage_memo.Address.{Address}
use Rattle.model.specs.declared.storage_memo.U256.{U256}
use Rattle.model.specs.Advance.{Write}
use Rattle.model.specs.Entries.{number_at, u256_at}
use Rattle.entries.specs.Lists.{all_entries}
use Rattle.final_change.specs.Changes.{StorageChange, final_change}

-- A listed slot with its changes.
pub record SlotChanges : Type 0 where
  pub slot : U256
  pub changes : List StorageChange

-- What is lent for each slot: its index and its number of changes.
pub record LentSlot : Type 0 where
  pub slot : U256
  pub change_count : ℕ

-- The sum of a list of counts.
unfoldable pub sum : List ℕ → ℕ
sum [] = 0
sum (n ∷ ns) = n + sum ns

-- The listed slots that the lent lists give: each takes its changes from the front.
unfoldable pub group_slots : List LentSlot → List StorageChange → List SlotChanges
group_slots [] cs = []
group_slots (s ∷ ss) cs = record { slot = s.slot; changes = take s.change_count cs } ∷ group_slots ss (drop s.change_count cs)

-- An account's changed slots (`storage_post_states`): each listed slot that has a change, in list order.
abbrev pub add_write : Address → U256 → Option U256 → List Write → List Write
add_write a i None ws = ws
add_write a i (Some v) ws = record { slot = record { address = a; index = i }; value = v } ∷ ws

unfoldable pub post_states : Address → List SlotChanges → List Write
post_states a [] = []
post_states a (s ∷ ss) = add_write a s.slot (final_change s.changes) (post_states a ss)

-- A slot has 40 bytes: its index and its number of changes. A read has the 32 bytes of its index.
abbrev pub read_slot : List ℕ → LentSlot
read_slot l = record { slot = u256_at 0 l; change_count = number_at 32 8 l }

abbrev pub slots_in : List ℕ → List LentSlot
slots_in b = all_entries read_slot 40 b

abbrev pub reads_in : List ℕ → List U256
reads_in b = all_entries (u256_at 0) 32 b
