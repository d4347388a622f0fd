-- `unchecked_advance::advance` meets its contract. Assumes nothing.
use mathlib.Core.Path.{sym, ◌∙◌}
use Rattle.std.proofs.lemmas.Result.{err_from_is_err_and}
use native.Mathlib.Omega.{arith}
use Rattle.unchecked_advance.proofs.Decided.{skip_in, capacity_fits, entries_fit, refused_6, refused_7, refused_9_work, refused_9_output, answered_by}
use Rattle.unchecked_advance.proofs.advance.Goals as goal

pub returns-then-n-ne0 : goal.returns-then-n-ne0
returns-then-n-ne0 c =
    let a = c.args in
    refused_6 a.s.now a.child a.parent_hash a.skip a.addresses.now a.writes.now a.work.now a.out.now c.requires c.if-skip-ne0.true c.if-n-ne0.true

pub returns-in_err-bal : goal.returns-in_err-bal
returns-in_err-bal c =
    let a = c.args in
    let p = err_from_is_err_and c.from_residual.result c.from_residual.ensures.1 in
    rw (p.1, p.2) (refused_7 a.s.now a.child a.parent_hash a.skip a.addresses.now a.writes.now a.work.now a.out.now c.requires c.else-skip-ne0.either _ (sym c.try_from.ensures ∙ c.in_err-bal.was))

pub overflow_mul-read_u64 : goal.overflow_mul-read_u64
overflow_mul-read_u64 c = omega (arith, capacity_fits c.args.s.now _ c.requires c.read_u64.ensures)

pub overflow_add-read_u64 : goal.overflow_add-read_u64
overflow_add-read_u64 c = omega (arith, capacity_fits c.args.s.now _ c.requires c.read_u64.ensures)

pub returns-then-work-read_u64 : goal.returns-then-work-read_u64
returns-then-work-read_u64 c =
    let a = c.args in
    refused_9_work a.s.now a.child a.parent_hash a.skip a.addresses.now a.writes.now a.work.now a.out.now c.requires c.else-skip-ne0.either _ (sym c.try_from.ensures ∙ c.in_ok-bal.was) _ c.read_u64.ensures c.if-work-read_u64.true

pub returns-then-out-n : goal.returns-then-out-n
returns-then-out-n c =
    let a = c.args in
    refused_9_output a.s.now a.child a.parent_hash a.skip a.addresses.now a.writes.now a.work.now a.out.now c.requires c.else-skip-ne0.either _ (sym c.try_from.ensures ∙ c.in_ok-bal.was) c.if-out-n.true

pub proceed-requires : goal.proceed-requires
proceed-requires c =
    let a = c.args in
    (c.requires, omega (arith, capacity_fits a.s.now _ c.requires c.read_u64.ensures, c.if-work-read_u64.false), entries_fit a.writes.now a.out.now c.if-out-n.false)

pub returns : goal.returns
returns c =
    let a = c.args in
    let read = sym c.try_from.ensures ∙ c.in_ok-bal.was in
    answered_by a.s.now a.child a.parent_hash a.skip a.addresses.now a.writes.now a.work.now a.out.now c.requires c.else-skip-ne0.either _ read _ _ _
    (omega (arith, capacity_fits a.s.now _ c.requires c.read_u64.ensures, c.if-work-read_u64.false)) c.if-out-n.false (c.proceed.ensures a.skip (skip_in _ _ read).1)
