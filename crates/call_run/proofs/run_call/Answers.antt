-- `call_run::run_call` meets its contract. Assumes nothing.
use borrow.Author.Rules.{rules}
use Prim.Native.Nat.{◌/◌}
use mathlib.Core.Path.{refl}
use native.Mathlib.Omega.{arith}
use lib.ListN.{length}
use Rattle.header.proofs.Segments.{known_bytes}
use Rattle.listing.proofs.Lengths.{refusal_line_length}
use Rattle.reader.specs.declared.Fault.{Fault}
use Rattle.call_progress.specs.declared.Progress.{Progress}
use Rattle.call_progress.specs.Progress.{called_at, broken_at}
use Rattle.call_run.proofs.Read.{read_within, read_parse, fault_at}
use Rattle.call_run.proofs.Room.{slots_held}
use Rattle.call_run.proofs.Running.{not_ended, ran_call, ran_fault, ran_to}
use Rattle.call_run.proofs.run_call.Goals as goal

pub answer_lines-requires : goal.answer_lines-requires
answer_lines-requires c =
    let m = slots_held (length c.args.work.now) c.args.entries.now c.args.s.now _ c.step-reply.result _ _ c.step-reply.ensures in
    (omega (arith, m.1, c.step-reply.auto.entries), omega (arith, m.0, c.requires.2))

pub refusal_line-requires : goal.refusal_line-requires
refusal_line-requires c = omega (arith, refusal_line_length c.from.result, c.requires.2)

pub returns-in-Ok-clause-run : goal.returns-in-Ok-clause-run
returns-in-Ok-clause-run c =
    let a = c.args in
    let h = c.in-Ok.ensures.reading in
    let q : Progress = called_at a.list.now a.t c.step-reply.result c.read_call.new.from.at c.answer_lines.new.out.at in
    ran_to {q = q} c.after_call.ensures
    (ran_call (length a.work.now) a.entries.now a.list.now a.s.now a.out.now a.t _ _ q _ c.step-reply.result _
    (known_bytes a.list.now c.type_inv.list) c.requires.0 c.requires.2
    (read_parse h) (c.in-Ok.ensures.progress, read_within h) c.step-reply.ensures (search rules) c.answer_lines.ensures.next_place refl refl refl)

pub returns-in-Err-clause-run : goal.returns-in-Err-clause-run
returns-in-Err-clause-run c =
    let a = c.args in
    let f : Fault = record { kind = c.in-Err.kind; place = record { at = c.read_call.new.from.at } } in
    let q : Progress = broken_at a.list.now a.t f c.refusal_line.new.out.at in
    let k = fault_at c.in-Err.ensures.reading (not_ended a.list.now a.s.now a.out.now a.t c.requires.0 c.requires.1) in
    ran_to {q = q} c.after_fault.ensures
    (ran_fault (length a.work.now) (length a.entries.now / 52) a.list.now a.s.now a.out.now a.t _ f c.refusal_line.new.out.at c.from.result
    c.requires.0 c.requires.2 k c.from.ensures (search rules) c.refusal_line.ensures.next_place)
