-- `unchecked_reads::take` meets its contract.
use Rattle.std.proofs.lemmas.Result.{err_from_is_err_and}
use borrow.Author.Rules.{rules}
use Prim.Native.Nat.{◌/◌}
use mathlib.Core.Path.{sym, ◌∙◌}
use native.Mathlib.Omega.{arith}
use lib.ListN.{length}
use Rattle.model.specs.Store.{take}
use Rattle.image.proofs.Lent.{decoded_some, generation_in}
use Rattle.header.proofs.Guards.{Here, past_guard}
use Rattle.unchecked_reads.proofs.Queue.{queued_fit}
use Rattle.unchecked_reads.proofs.Said.{took_none, took, by_guard, said_27, said_take, none_twice}
use Rattle.unchecked_reads.proofs.take.Goals as goal

pub returns-in_err-guard : goal.returns-in_err-guard
returns-in_err-guard c =
    let a = c.args in
    let p = err_from_is_err_and c.from_residual.result c.from_residual.ensures.1 in
    rw (p.1, p.2) (took_none (by_guard a.s.now a.anchor take (length a.out.now / 52) none_twice (decoded_some _ c.requires) _ (sym c.guard.ensures ∙ c.in_err-guard.was)))

pub returns-then-out-queue_len : goal.returns-then-out-queue_len
returns-then-out-queue_len c =
    let a = c.args in
    took_none (said_27 a.s.now a.anchor (search (rules, past_guard, decoded_some)) (length a.out.now / 52) (omega (arith, rw c.awaiting_in-awaiting.ensures.slots_are at c.queue_len.ensures, c.if-out-queue_len.true)))

pub returns : goal.returns
returns c =
    let a = c.args in
    let h : Here a.s.now a.anchor = search (rules, past_guard, decoded_some) in
    let t = c.take_queued.ensures in
    took (said_take a.s.now a.anchor h (length a.out.now / 52) (omega (arith, rw c.awaiting_in-awaiting.ensures.slots_are at c.queue_len.ensures, c.if-out-queue_len.false)))
    (queued_fit _ (generation_in a.s.now h.has).facts.pending_right) t.0.count_is t.1 t.0.output_is
