-- `seed::Relevance::contains` meets its contract. Assumes nothing.
use mathlib.Core.Path.{sym, ap, ◌∙◌}
use Prim.Native.Nat.{ℕ, ◌-◌}
use native.Mathlib.Omega.{arith}
use lib.ListN.{get_or}
use Rattle.seed.proofs.Rising.{not_noted, found_at}
use Rattle.seed.proofs.Relevance.contains.Goals as goal

pub returns-then-k-eq0 : goal.returns-then-k-eq0
returns-then-k-eq0 c =
    let r = c.args.self in
    not_noted r.addresses.now c.args.address r.table.now r.indexed.noted (ap (λ (k : ℕ). get_or r.table.now k 0) (sym c.bucket.ensures) ∙ sym c.from-k.ensures ∙ c.if-k-eq0.true)

pub returns-then-is_address : goal.returns-then-is_address
returns-then-is_address c =
    let r = c.args.self in
    found_at r.addresses.now c.args.address (c.from-k.result - 1) (omega (arith, c.if-k-self.true, c.if-k-eq0.false)) (sym c.is_address.ensures ∙ c.if-is_address.true)
