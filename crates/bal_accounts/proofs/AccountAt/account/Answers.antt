-- `bal_accounts::AccountAt::account` meets its contract. Assumes nothing.
use mathlib.Core.Path.{◌∙◌}
use Prim.Native.Nat.{◌*◌}
use Rattle.entries.proofs.Numbers.{number_in}
use Rattle.bal_accounts.proofs.AccountAt.account.Goals as goal

pub returns : goal.returns
returns c =
    let s = c.args.self in
    let p = c.read_address.ensures in
    let q = c.read_u64.ensures ∙ number_in 20 (s.i * 36) 8 s.lists.accounts.now in
    let r = c.read_u64-2.ensures ∙ number_in 28 (s.i * 36) 8 s.lists.accounts.now in
    λ j. record { address = p j; slots = q j; reads = r j }
