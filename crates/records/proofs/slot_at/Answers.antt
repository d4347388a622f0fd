-- `records::slot_at` meets its contract. Assumes nothing.
use Rattle.records.proofs.Slots.{slot_taken}
use Rattle.records.proofs.slot_at.Goals as goal

pub returns : goal.returns
returns c =
    let a = c.args in
    slot_taken a.at a.s.now c.read_u64.ensures c.read_u64-2.ensures c.read_u64-3.ensures c.read_u64-4.ensures
    c.read_u64-5.ensures c.read_u64-6.ensures c.read_u64-7.ensures
