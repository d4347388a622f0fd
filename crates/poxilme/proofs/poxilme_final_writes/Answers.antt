-- `poxilme::poxilme_final_writes` meets its contract: 9, or what `final_writes::final_writes` does. Assumes nothing.
use Rattle.bal_plan.specs.Plan.{plan_of}
use Rattle.std.specs.Prelude.{ℕ, Option}
use Rattle.final_writes.specs.Lent.{lent_lists, lent_final_writes}
use Rattle.lent_calls.proofs.Giving.{given_by, seed_given}
use Rattle.lent_calls.proofs.Joining.{fit, exported_final, answers_as}
use Rattle.lent_calls.specs.Arguments.{reply_enough}
use mathlib.Core.Path.{ap₂}
use Rattle.poxilme.proofs.poxilme_final_writes.Goals as goal

pub returns : goal.returns
returns c =
    let a = c.args in
    let k = c.final_writes-r in
    let e = ap₂ (λ (m r : Option ℕ). lent_final_writes (plan_of a.plan_addresses.now m r) (lent_lists a.accounts.now a.slots.now a.changes.now a.reads.now) a.writes_out.now a.reads_out.now) c.cap-most_writes.ensures c.cap-most_reads.ensures in
    exported_final a.reply.now a.writes_out.now a.reads_out.now _ {fits = reply_enough a.reply.now} (fit c.reply_enough.ensures c.if-not-reply_enough.false) k.result (answers_as e k.ensures) (given_by (seed_given k.result _ _) c.write_reply.ensures)
