-- `call_reader::read_prepared` meets its contract. Assumes nothing.
use mathlib.Core.Path.{refl}
use Rattle.model.specs.Entries.{address_of}
use Rattle.reader.specs.Answers.{write_of}
use Rattle.reader.proofs.Chain.{reads_then, reads_map, reads_stop}
use Rattle.reader.proofs.Runs.{reads_list}
use Rattle.call_reader.proofs.read_prepared.Goals as goal

pub returns-in_err-relevance-clause-reading : goal.returns-in_err-relevance-clause-reading
returns-in_err-relevance-clause-reading c = reads_stop _ c.from_residual.result c.from_residual.ensures.1 (reads_list address_of 20 refl c.in_err-relevance.ensures.reading)

pub returns-in_err-writes-clause-reading : goal.returns-in_err-writes-clause-reading
returns-in_err-writes-clause-reading c =
    let relevance = c.in_ok-relevance.ensures.reading in
    reads_then _ (reads_list address_of 20 refl relevance)
    (reads_stop _ c.from_residual-in_err-writes.result c.from_residual-in_err-writes.ensures.1 (reads_list write_of 84 relevance.same_list c.in_err-writes.ensures.reading))

pub returns-clause-reading : goal.returns-clause-reading
returns-clause-reading c =
    let relevance = c.in_ok-relevance.ensures.reading in
    reads_then _ (reads_list address_of 20 refl relevance) (reads_map _ refl (reads_list write_of 84 relevance.same_list c.in_ok-writes.ensures.reading))
