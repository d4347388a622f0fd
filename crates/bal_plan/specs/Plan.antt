-- The plan of final writes: the accounts that it admits, its caps, and the bytes and caps that give it.
use Rattle.std.specs.Prelude.{ℕ, Bool, true, cond, List, [], ◌∷◌, ltb, None, Option, Some}
use Rattle.model.specs.declared.storage_memo.Address.{Address}
use Rattle.model.specs.Advance.{relevant}
use Rattle.model.specs.Entries.{addresses_of}

-- The plan (`BalPlan`): the addresses that it names, and a cap on writes and on reads or none. No address admits every account.
pub record BalPlan : Type 0 where
  pub addresses : List Address
  pub max_write_seeds : Option ℕ
  pub max_read_prefetches : Option ℕ

-- Whether the addresses that a plan names admit an account: there are none, or its own is one of them.
abbrev pub admits_from : List Address → Address → Bool
admits_from [] a = true
admits_from (b ∷ bs) a = relevant (b ∷ bs) a

-- The number of entries within a cap.
abbrev pub within_cap : Option ℕ → ℕ → ℕ
within_cap None n = n
within_cap (Some c) n = cond (ltb c n) c n

-- The plan that a lent list of addresses and two caps give.
abbrev pub plan_of : List ℕ → Option ℕ → Option ℕ → BalPlan
plan_of addresses max_writes max_reads =
    record { addresses = addresses_of addresses; max_write_seeds = max_writes; max_read_prefetches = max_reads }

-- The largest number of entries that a cap lets through: no list has as many as 2^64 − 1.
abbrev pub limit_of : Option ℕ → ℕ
limit_of None = 18446744073709551615
limit_of (Some n) = n
