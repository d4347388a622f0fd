-- `bal_accounts::BalLists::seed_from_accounts` meets its contract. Assumes nothing.
use mathlib.Core.Path.{◌≡◌}
use Rattle.bal_plan.specs.Plan.{limit_of}
use Rattle.bal_plan.specs.Lent.{lent_plan}
use Rattle.bal_accounts.specs.Walking.{start}
use Rattle.bal_accounts.proofs.AccountWalk.{no_accounts, more_accounts}
use Rattle.bal_accounts.proofs.BalLists.seed_from_accounts.Goals as goal

pub loop-i-init : goal.loop-i-init
loop-i-init c =
    let a = c.args in
    let b = a.self in
    let h = c.default-walk.ensures in
    let e : c.default-walk.result ≡ start = λ i. record { slot = h.0 i; change = h.1.0 i; read = h.1.1.0 i; writes = h.1.1.1.0 i; reads = h.1.1.1.1.0 i; filtered = h.1.1.1.1.1 i } in
    rw e (no_accounts (lent_plan a.plan) b.accounts.now b.slots.now b.changes.now b.reads.now (limit_of a.plan.max_writes) (limit_of a.plan.max_reads) start a.writes_out.now a.reads_out.now b.fit)

pub loop-i-preserved : goal.loop-i-preserved
loop-i-preserved c =
    let a = c.args in
    let b = a.self in
    let l = c.loop-i in
    more_accounts (lent_plan a.plan) b.accounts.now b.slots.now b.changes.now b.reads.now (limit_of a.plan.max_writes) (limit_of a.plan.max_reads)
    l.i 1 start l.walk c.seed-walk.result a.writes_out.now a.reads_out.now l.writes_out l.reads_out _ _ l.invariant c.seed-walk.ensures
