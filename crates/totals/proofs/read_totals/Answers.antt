-- `totals::read_totals` meets its contract. Assumes nothing.
use Rattle.totals.proofs.Places.{words_read}
use Rattle.totals.proofs.read_totals.Goals as goal

pub returns : goal.returns
returns c = words_read c.args.s.now c.read_u64.ensures c.read_u64-2.ensures c.read_u64-3.ensures c.read_u64-4.ensures c.read_u64-5.ensures c.read_u64-6.ensures c.read_u64-7.ensures c.read_u64-8.ensures c.read_u64-9.ensures
