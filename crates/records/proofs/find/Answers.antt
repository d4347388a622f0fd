-- `records::find` meets its contract. Assumes nothing.
use Rattle.image.specs.Area.{records_of}
use Rattle.records.proofs.RecordsAt.{records_length, slot_at_place}
use Rattle.records.proofs.find.Goals as goal

pub returns : goal.returns
returns c =
    let a = c.args in
    let s = a.s.now in
    c.search.ensures (records_of a.n s) (record { count_is = records_length a.n s; slots_are = λ i h. slot_at_place a.n i s h; rises = c.requires.1 })
