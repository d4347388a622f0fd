-- `unchecked_reads::serve` meets its contract.
use Rattle.unchecked_reads.proofs.Reading.{read_full, served_counts, read_served}
use Rattle.unchecked_reads.proofs.serve.Goals as goal

pub returns-then-not-has_room : goal.returns-then-not-has_room
returns-then-not-has_room c = read_full c.requires.0 c.args.slot c.requires.2 c.has_room.ensures c.args.v c.requires.1 c.if-not-has_room.true

pub record_read-requires : goal.record_read-requires
record_read-requires c = served_counts c.requires.0 c.args.slot c.requires.2 c.has_room.ensures c.if-not-has_room.false c.touch_top.ensures

pub returns : goal.returns
returns c = read_served c.requires.0 c.args.slot c.requires.2 c.has_room.ensures c.if-not-has_room.false c.touch_top.ensures c.args.v c.requires.1 c.record_read.ensures
