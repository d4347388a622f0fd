-- The plan that a lent one gives.
use Rattle.bal_plan.specs.declared.Plan.{Plan}
use Rattle.bal_plan.specs.Plan.{BalPlan, plan_of}

abbrev pub lent_plan : Plan → BalPlan
lent_plan p = plan_of p.addresses.now p.max_writes p.max_reads
