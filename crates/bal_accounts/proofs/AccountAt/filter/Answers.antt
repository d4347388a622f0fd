-- `bal_accounts::AccountAt::filter` meets its contract. Assumes nothing.
use native.Mathlib.Omega.{arith}
use Rattle.bal_plan.specs.Plan.{limit_of}
use Rattle.bal_plan.specs.Lent.{lent_plan}
use Rattle.bal_accounts.proofs.AccountWalk.{filtered_seeded}
use Rattle.bal_accounts.proofs.Within.{slots_here, reads_here, filtered_here}
use Rattle.bal_accounts.proofs.AccountAt.filter.Goals as goal

pub seed_slots-spot-requires : goal.seed_slots-spot-requires
seed_slots-spot-requires c =
    let s = c.args.self in
    record { slots_left = slots_here s _ c.account-account.ensures; changes_left = s.fits.changes_are; found_before = omega arith; room = c.requires }

pub overflow_add-result : goal.overflow_add-result
overflow_add-result c = omega (arith, reads_here c.args.self _ c.account-account.ensures)

pub overflow_add-result-2 : goal.overflow_add-result-2
overflow_add-result-2 c = omega (arith, filtered_here c.args.self _ c.account-account.ensures _ c.seed_slots-spot.ensures.few_found)

pub overflow_add-result-3 : goal.overflow_add-result-3
overflow_add-result-3 c = omega (arith, filtered_here c.args.self _ c.account-account.ensures _ c.seed_slots-spot.ensures.few_found)

pub returns : goal.returns
returns c =
    λ plan ro e.
    let s = c.args.self in
    filtered_seeded s.lists.accounts.now s.lists.slots.now s.lists.changes.now s.lists.reads.now s.i s.walk _ c.account-account.ensures s.here s.fits
    (lent_plan plan) (limit_of plan.max_writes) (limit_of plan.max_reads) c.seed_slots-spot.result c.args.writes_out.now _ ro e c.seed_slots-spot.ensures
