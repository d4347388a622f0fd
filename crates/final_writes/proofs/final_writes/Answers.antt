-- `final_writes::final_writes` meets its contract. Assumes nothing.
use mathlib.Core.Path.{◌≡◌, sym, ap₂, subst, ◌∙◌}
use mathlib.Core.Bool.{true, false, ◌||◌}
use mathlib.Core.List.{List}
use Prim.Native.Nat.{ℕ, ◌/◌}
use native.Mathlib.Omega.{arith}
use lib.Dec.{ltb}
use lib.ListN.{length}
use borrow.Author.Tests.{not-true, not-false}
use Rattle.std.specs.Prelude.{Ok}
use Rattle.std.proofs.lemmas.Grind.{common_steps}
use Rattle.final_writes.specs.declared.SeedCounts.{SeedCounts}
use Rattle.final_writes.specs.FinalWrites.{counts_differ}
use Rattle.bal_plan.specs.Plan.{plan_of}
use Rattle.final_writes.specs.Lent.{lent_lists, lent_final_writes, Answers}
use Rattle.final_writes.specs.Counts.{counts_of}
use Rattle.final_writes.proofs.Outcomes.{start_fits, counts_refused, outputs_refused, accepted}
use Rattle.final_writes.proofs.final_writes.Goals as goal

pub returns-then-not-counts_agree : goal.returns-then-not-counts_agree
returns-then-not-counts_agree c =
    let a = c.args in
    counts_refused a.accounts.now a.slots.now a.changes.now a.reads.now a.plan_addresses.now a.writes_out.now a.reads_out.now a.max_writes a.max_reads (not-false _ (sym c.counts_agree.ensures ∙ c.if-not-counts_agree.true))

pub returns-then-writes_out-slots : goal.returns-then-writes_out-slots
returns-then-writes_out-slots c =
    let a = c.args in
    let short : (ltb (length a.writes_out.now / 84) (length a.slots.now / 40) || ltb (length a.reads_out.now / 52) (length a.reads.now / 32)) ≡ true = grind (arith, common_steps) in
    outputs_refused a.accounts.now a.slots.now a.changes.now a.reads.now a.plan_addresses.now a.writes_out.now a.reads_out.now a.max_writes a.max_reads (not-true _ (sym c.counts_agree.ensures ∙ c.if-not-counts_agree.false)) short

pub invariant_of-lists : goal.invariant_of-lists
invariant_of-lists c =
    let a = c.args in
    let alike : counts_differ (lent_lists a.accounts.now a.slots.now a.changes.now a.reads.now) ≡ false = not-true _ (sym c.counts_agree.ensures ∙ c.if-not-counts_agree.false) in
    record { fit = start_fits a.accounts.now a.slots.now a.changes.now a.reads.now a.plan_addresses.now a.writes_out.now a.reads_out.now a.max_writes a.max_reads alike }

pub returns : goal.returns
returns c =
    let a = c.args in
    let alike : counts_differ (lent_lists a.accounts.now a.slots.now a.changes.now a.reads.now) ≡ false = not-true _ (sym c.counts_agree.ensures ∙ c.if-not-counts_agree.false) in
    let w = c.seed_from_accounts-w.result in
    let wo' : List ℕ = c.seed_from_accounts-w.new.writes_out in
    let ro' : List ℕ = c.seed_from_accounts-w.new.reads_out in
    subst (λ (x : SeedCounts). Answers (Ok x) wo' ro' (lent_final_writes (plan_of a.plan_addresses.now a.max_writes a.max_reads) (lent_lists a.accounts.now a.slots.now a.changes.now a.reads.now) a.writes_out.now a.reads_out.now) a.writes_out.now a.reads_out.now)
    (sym (c.counts_of.ensures ∙ ap₂ (counts_of w) c.limit.ensures c.limit-2.ensures))
    (accepted a.accounts.now a.slots.now a.changes.now a.reads.now a.plan_addresses.now a.writes_out.now a.reads_out.now a.max_writes a.max_reads w wo' ro' alike c.if-writes_out-slots.false c.if-reads_out-reads.false (λ j. (c.type_inv.accounts j).fits) (λ j. (c.type_inv.slots j).fits) (λ j. (c.type_inv.changes j).fits) (λ j. (c.type_inv.reads j).fits) (omega arith) (omega arith) c.seed_from_accounts-w.ensures)
