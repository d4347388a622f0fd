-- Final writes (`seed_from_accounts` with `BalPlan`), over lists that are lent flat.
use Rattle.std.specs.Prelude.{ℕ, ◌+◌, ◌-◌, Bool, not, ◌||◌, List, [], ◌∷◌, map, eqb, ltb, length, take, None, Option, Some}
use Rattle.model.specs.declared.storage_memo.U256.{U256}
use Rattle.model.specs.declared.delta_snapshot.Slot.{Slot}
use Rattle.model.specs.Advance.{Write}
use Rattle.model.specs.Refusals.{condition, first_that_holds}
use Rattle.final_change.specs.Changes.{StorageChange}
use Rattle.bal_plan.specs.Plan.{BalPlan, within_cap}
use Rattle.bal_entries.specs.Listed.{LentSlot, sum, group_slots}
use Rattle.bal_accounts.specs.declared.LentAccount.{LentAccount}
use Rattle.bal_accounts.specs.Accounts.{AccountChanges, group_accounts, admitted_writes, admitted_reads, filtered_entries}

-- What is lent: for each account its address and its numbers of slots and reads; for each slot of all accounts its index and its number of changes;
-- all changes; all reads.
pub record LentLists : Type 0 where
  pub accounts : List LentAccount
  pub slots : List LentSlot
  pub changes : List StorageChange
  pub reads : List U256

-- The accounts that the lent lists give.
abbrev pub accounts_of : LentLists → List AccountChanges
accounts_of l = group_accounts l.accounts (group_slots l.slots l.changes) l.reads

-- What the lists give under the plan (`BalSeed`): writes and reads up to their caps, filtered and capped entries.
pub record BalSeed : Type 0 where
  pub writes : List Write
  pub reads : List Slot
  pub filtered : ℕ
  pub capped : ℕ

unfoldable pub seed_from_accounts : BalPlan → List AccountChanges → BalSeed
seed_from_accounts p l =
    let ws : List Write = admitted_writes p l in
    let rs : List Slot = admitted_reads p l in
    let w : ℕ = within_cap p.max_write_seeds (length ws) in
    let r : ℕ = within_cap p.max_read_prefetches (length rs) in
    record { writes = take w ws; reads = take r rs; filtered = filtered_entries p l; capped = (length ws - w) + (length rs - r) }

-- 10: the counts of slots, changes or reads don't sum to the lengths lent.
unfoldable pub counts_differ : LentLists → Bool
counts_differ l =
    not (eqb (sum (map (λ a. a.slots) l.accounts)) (length l.slots))
    || (not (eqb (sum (map (λ s. s.change_count) l.slots)) (length l.changes))
    || not (eqb (sum (map (λ a. a.reads) l.accounts)) (length l.reads)))

-- 9: an output of fewer entries than the listed slots or than the listed reads.
unfoldable pub outputs_too_short : LentLists → ℕ → ℕ → Bool
outputs_too_short l write_entries read_entries = ltb write_entries (length l.slots) || ltb read_entries (length l.reads)

-- The refusals of final writes in document 01's order.
unfoldable pub final_writes_refusal : LentLists → ℕ → ℕ → Option ℕ
final_writes_refusal l write_entries read_entries =
    first_that_holds (condition 10 (counts_differ l) ∷ condition 9 (outputs_too_short l write_entries read_entries) ∷ [])

-- What final writes answer: a refusal's number, or the seed.
pub data FinalWrites : Type 0 where
  refuse : ℕ → FinalWrites
  seeded : BalSeed → FinalWrites

abbrev pub conclude : Option ℕ → BalSeed → FinalWrites
conclude None s = seeded s
conclude (Some n) s = refuse n

unfoldable pub final_writes : BalPlan → LentLists → ℕ → ℕ → FinalWrites
final_writes p l write_entries read_entries = conclude (final_writes_refusal l write_entries read_entries) (seed_from_accounts p (accounts_of l))
