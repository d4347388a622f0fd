-- `fold::settle` meets its contract.
use borrow.Author.Rules.{rules}
use mathlib.Core.Path.{sym, ap}
use lib.ListN.{get_or}
use Rattle.model.specs.Layers.{Record}
use Rattle.image.specs.Image.{record_words, read_record}
use Rattle.image.specs.Area.{records_of}
use Rattle.records.specs.Records.{words_at}
use Rattle.order.specs.Index.{no_record}
use Rattle.order.proofs.RecordLaws.{record_at}
use Rattle.fold.specs.Stored.{renewed}
use Rattle.fold.proofs.StoredLaws.{settled_yes, settled_no}
use Rattle.fold.proofs.settle.Goals as goal

pub returns-then-keep : goal.returns-then-keep
returns-then-keep c =
    let a = c.args in
    settled_yes a.keep a.used a.c (get_or (records_of a.records.count a.records.bytes.now) a.i no_record) (record_words (renewed a.used (read_record (words_at a.i a.records.bytes.now)))) a.out.now c.if-keep.true
    (ap (λ (r : Record). record_words (renewed a.used r)) (sym (record_at a.records.count a.i a.records.bytes.now (search rules)))) c.write_record.ensures

pub returns-else-keep : goal.returns-else-keep
returns-else-keep c =
    let a = c.args in
    settled_no a.keep a.used a.c (get_or (records_of a.records.count a.records.bytes.now) a.i no_record) a.out.now c.if-keep.false
