-- `final_writes::counts_agree` meets its contract. Assumes nothing.
use native.Mathlib.Omega.{arith}
use Rattle.std.proofs.lemmas.Grind.{common_steps}
use Rattle.final_writes.proofs.Agreeing.{agree_is}
use Rattle.final_writes.proofs.counts_agree.Goals as goal

pub returns-then-counts_sum-2 : goal.returns-then-counts_sum-2
returns-then-counts_sum-2 c =
    let a = c.args in grind (arith, common_steps, agree_is a.accounts.now a.slots.now a.changes.now a.reads.now)

pub returns-else-counts_sum-2 : goal.returns-else-counts_sum-2
returns-else-counts_sum-2 c =
    let a = c.args in grind (arith, common_steps, agree_is a.accounts.now a.slots.now a.changes.now a.reads.now)
