-- `bal_accounts::AccountAt::admit` meets its contract. Assumes nothing.
use native.Mathlib.Omega.{arith}
use Rattle.bal_plan.specs.Lent.{lent_plan}
use Rattle.bal_accounts.proofs.AccountWalk.{limits_are, admitted_seeded}
use Rattle.bal_accounts.proofs.Within.{slots_here, reads_here}
use Rattle.bal_accounts.proofs.AccountAt.admit.Goals as goal

pub seed_slots-spot-requires : goal.seed_slots-spot-requires
seed_slots-spot-requires c =
    let s = c.args.self in
    record { slots_left = slots_here s _ c.account-account.ensures; changes_left = s.fits.changes_are; found_before = s.fits.few_writes; room = c.requires.room.0 }

pub seed_reads-requires : goal.seed_reads-requires
seed_reads-requires c =
    let s = c.args.self in
    (reads_here s _ c.account-account.ensures, s.fits.few_reads, c.requires.room.1)

pub overflow_add-result : goal.overflow_add-result
overflow_add-result c = omega (arith, reads_here c.args.self _ c.account-account.ensures)

pub overflow_add-result-2 : goal.overflow_add-result-2
overflow_add-result-2 c = omega (arith, reads_here c.args.self _ c.account-account.ensures, c.args.self.fits.few_reads)

pub returns : goal.returns
returns c =
    let s = c.args.self in
    limits_are c.limit.ensures c.limit-2.ensures
    (admitted_seeded s.lists.accounts.now s.lists.slots.now s.lists.changes.now s.lists.reads.now s.i s.walk _ c.account-account.ensures s.here s.fits
    (lent_plan c.args.plan) _ _ c.seed_slots-spot.result c.args.writes_out.now _ c.args.reads_out.now _ c.requires.admitted c.seed_slots-spot.ensures c.seed_reads.ensures)
