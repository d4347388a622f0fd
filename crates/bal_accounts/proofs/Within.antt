-- An account's slots and reads are in the lists. Assumes nothing.
use mathlib.Core.Path.{◌≡◌}
use Prim.Native.Nat.{ℕ, ◌+◌, ◌*◌, ◌/◌, ◌≤◌}
use native.Mathlib.Omega.{arith}
use lib.ListN.{length, drop}
use Rattle.bal_accounts.specs.declared.AccountAt.{AccountAt}
use Rattle.bal_accounts.specs.declared.LentAccount.{LentAccount}
use Rattle.bal_accounts.specs.Accounts.{read_account}
use Rattle.bal_accounts.proofs.AccountWalk.{slots_within, reads_within}

module _ (s : AccountAt) (lent : LentAccount) (is : lent ≡ read_account (drop (s.i * 36) s.lists.accounts.now)) where
  pub slots_here : s.walk.slot + lent.slots ≤ length s.lists.slots.now / 40
  slots_here = slots_within s.lists.accounts.now s.lists.slots.now s.lists.changes.now s.lists.reads.now s.i s.walk lent is s.here s.fits

  pub reads_here : s.walk.read + lent.reads ≤ length s.lists.reads.now / 32
  reads_here = reads_within s.lists.accounts.now s.lists.slots.now s.lists.changes.now s.lists.reads.now s.i s.walk lent is s.here s.fits

  -- So many entries of it, filtered beside those before, are no more than are listed.
  pub filtered_here : (n : ℕ) → n ≤ 0 + lent.slots → s.walk.filtered + n + lent.reads ≤ length s.lists.slots.now / 40 + length s.lists.reads.now / 32
  filtered_here n h = omega (arith, h, slots_here, reads_here, s.fits.few_filtered)
