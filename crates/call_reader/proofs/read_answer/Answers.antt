-- `call_reader::read_answer` meets its contract. Assumes nothing.
use mathlib.Core.Path.{refl}
use Rattle.model.specs.Entries.{slot_of}
use Rattle.reader.proofs.Chain.{reads_then, reads_map, reads_stop}
use Rattle.reader.proofs.Runs.{reads_list, reads_members}
use Rattle.call_reader.proofs.read_answer.Goals as goal

pub returns-in_err-read_entries-clause-reading : goal.returns-in_err-read_entries-clause-reading
returns-in_err-read_entries-clause-reading c =
    let form = rw c.if-branch.true at c.in_ok-read_form.ensures in
    reads_then _ form (reads_stop _ c.from_residual-in_err-read_entries.result c.from_residual-in_err-read_entries.ensures.1 (reads_list slot_of 52 form.same_list c.in_err-read_entries.ensures.reading))

pub returns-in_err-read_members-clause-reading : goal.returns-in_err-read_members-clause-reading
returns-in_err-read_members-clause-reading c =
    let form = rw c.if-branch.false at c.in_ok-read_form.ensures in
    reads_then _ form (reads_stop _ c.from_residual-in_err-read_members.result c.from_residual-in_err-read_members.ensures.1 (reads_members form.same_list c.in_err-read_members.ensures.reading))

pub returns-in_ok-read_entries-clause-reading : goal.returns-in_ok-read_entries-clause-reading
returns-in_ok-read_entries-clause-reading c =
    let form = rw c.if-branch.true at c.in_ok-read_form.ensures in
    reads_then _ form (reads_map _ refl (reads_list slot_of 52 form.same_list c.in_ok-read_entries.ensures.reading))

pub returns-in_ok-read_members-clause-reading : goal.returns-in_ok-read_members-clause-reading
returns-in_ok-read_members-clause-reading c =
    let form = rw c.if-branch.false at c.in_ok-read_form.ensures in
    reads_then _ form (reads_map _ refl (reads_members form.same_list c.in_ok-read_members.ensures.reading))
