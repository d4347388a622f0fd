-- Accounts with their listed slots and reads, what a plan admits of them, and the bytes that accounts are lent in.
use Rattle.std.specs.Prelude.{ℕ, ◌+◌, Bool, cond, List, [], ◌∷◌, ◌++◌, map, length, take, drop}
use Rattle.model.specs.declared.storage_memo.Address.{Address}
use Rattle.model.specs.declared.storage_memo.U256.{U256}
use Rattle.model.specs.declared.delta_snapshot.Slot.{Slot}
use Rattle.model.specs.Advance.{Write}
use Rattle.model.specs.Entries.{number_at, address_of}
use Rattle.entries.specs.Lists.{all_entries}
use Rattle.bal_plan.specs.Plan.{BalPlan, admits_from}
use Rattle.bal_entries.specs.Listed.{SlotChanges, post_states}
use Rattle.bal_accounts.specs.declared.LentAccount.{LentAccount}

-- An account with its listed slots and its listed reads.
pub record AccountChanges : Type 0 where
  pub address : Address
  pub storage_changes : List SlotChanges
  pub storage_reads : List U256

-- The accounts that the lent lists give: each takes its slots and reads from the front.
unfoldable pub group_accounts : List LentAccount → List SlotChanges → List U256 → List AccountChanges
group_accounts [] ss rs = []
group_accounts (a ∷ l) ss rs =
    record { address = a.address; storage_changes = take a.slots ss; storage_reads = take a.reads rs }
    ∷ group_accounts l (drop a.slots ss) (drop a.reads rs)

-- An account's writes, one for each changed slot, and its reads.
abbrev pub account_writes : AccountChanges → List Write
account_writes a = post_states a.address a.storage_changes

abbrev pub account_reads : AccountChanges → List Slot
account_reads a = map (λ i. record { address = a.address; index = i }) a.storage_reads

-- Whether a plan admits an account (`admits`).
abbrev pub admits : BalPlan → AccountChanges → Bool
admits p a = admits_from p.addresses a.address

-- The writes and the reads of the admitted accounts in list order, and the number of entries of the others
-- (document 01's term: a changed slot or a listed read).
unfoldable pub admitted_writes : BalPlan → List AccountChanges → List Write
admitted_writes p [] = []
admitted_writes p (a ∷ l) = cond (admits p a) (account_writes a ++ admitted_writes p l) (admitted_writes p l)

unfoldable pub admitted_reads : BalPlan → List AccountChanges → List Slot
admitted_reads p [] = []
admitted_reads p (a ∷ l) = cond (admits p a) (account_reads a ++ admitted_reads p l) (admitted_reads p l)

unfoldable pub filtered_entries : BalPlan → List AccountChanges → ℕ
filtered_entries p [] = 0
filtered_entries p (a ∷ l) = cond (admits p a) (filtered_entries p l) (length (account_writes a) + length (account_reads a) + filtered_entries p l)

-- An account has 36 bytes: its address and its numbers of slots and reads.
abbrev pub read_account : List ℕ → LentAccount
read_account l = record { address = address_of l; slots = number_at 20 8 l; reads = number_at 28 8 l }

abbrev pub accounts_in : List ℕ → List LentAccount
accounts_in b = all_entries read_account 36 b
