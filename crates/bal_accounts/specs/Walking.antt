-- The walk over accounts: what it asks for, and what it has done.
use Rattle.std.specs.Prelude.{◌≡◌, List, map, ℕ, ◌+◌, ◌/◌, ◌≤◌, length, take, drop}
use Rattle.model.specs.Entries.{slot_bytes}
use Rattle.entries.specs.Bytes.{write_bytes}
use Rattle.bal_plan.specs.Plan.{BalPlan}
use Rattle.bal_entries.specs.Listed.{sum, reads_in}
use Rattle.bal_entries.specs.Filling.{fill}
use Rattle.bal_entries.specs.Walking.{slots_left, ChangesLeft}
use Rattle.bal_accounts.specs.declared.Walk.{Walk}
use Rattle.bal_accounts.specs.Accounts.{AccountChanges, group_accounts, admitted_writes, admitted_reads, filtered_entries, accounts_in}

-- Where the walk over accounts begins.
abbrev pub start : Walk
start = record { slot = 0; change = 0; read = 0; writes = 0; reads = 0; filtered = 0 }

-- The accounts that are left from the ith on.
abbrev pub accounts_left : List ℕ → List ℕ → List ℕ → List ℕ → ℕ → Walk → List AccountChanges
accounts_left accounts slots changes reads i w =
    group_accounts (drop i (accounts_in accounts)) (slots_left slots changes w.slot w.change) (drop w.read (reads_in reads))

-- The slots, changes and reads of the accounts left are those left; no more was found than was walked.
pub record WalkFits (accounts slots changes reads : List ℕ) (i : ℕ) (w : Walk) : Type 0 where
  pub slots_are : w.slot + sum (map (λ a. a.slots) (drop i (accounts_in accounts))) ≡ length slots / 40
  pub changes_are : ChangesLeft slots changes w.slot w.change
  pub reads_are : w.read + sum (map (λ a. a.reads) (drop i (accounts_in accounts))) ≡ length reads / 32
  pub few_writes : w.writes ≤ w.slot
  pub few_reads : w.reads ≤ w.read
  pub few_filtered : w.filtered ≤ w.slot + w.read

-- From walk v at account i to walk w the next n accounts were walked under a plan.
pub record AccountsSeeded (p : BalPlan) (accounts slots changes reads : List ℕ) (max_writes max_reads i n : ℕ)
    (v : Walk) (wo ro : List ℕ) (w : Walk) (wo' ro' : List ℕ) : Type 0 where
  pub left_is : accounts_left accounts slots changes reads (i + n) w ≡ drop n (accounts_left accounts slots changes reads i v)
  pub fits : WalkFits accounts slots changes reads (i + n) w
  pub writes_filled : record { found = w.writes; out = wo' }
      ≡ fill 84 max_writes (map write_bytes (admitted_writes p (take n (accounts_left accounts slots changes reads i v))))
      (record { found = v.writes; out = wo })
  pub reads_filled : record { found = w.reads; out = ro' }
      ≡ fill 52 max_reads (map slot_bytes (admitted_reads p (take n (accounts_left accounts slots changes reads i v))))
      (record { found = v.reads; out = ro })
  pub filtered_is : w.filtered ≡ v.filtered + filtered_entries p (take n (accounts_left accounts slots changes reads i v))
