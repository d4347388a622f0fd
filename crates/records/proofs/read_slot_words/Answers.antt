-- `records::read_slot_words` meets its contract.
use mathlib.Core.Path.{sym}
use Rattle.records.proofs.Slots.{slot_read}
use Rattle.records.proofs.read_slot_words.Goals as goal

pub returns : goal.returns
returns c = rw (c.read_u64.ensures, c.read_u64-2.ensures, c.read_u64-3.ensures, c.read_u64-4.ensures, c.read_u64-5.ensures, c.read_u64-6.ensures, c.read_u64-7.ensures) (sym (slot_read c.args.at c.args.s.now))
