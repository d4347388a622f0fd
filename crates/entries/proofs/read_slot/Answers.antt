-- `entries::read_slot` meets its contract. Assumes nothing.
use Rattle.entries.proofs.Numbers.{slot_read}
use Rattle.entries.proofs.read_slot.Goals as goal

pub returns : goal.returns
returns c =
    let a = c.args in
    slot_read a.at _ _ a.s.now c.read_address.ensures c.read_u256.ensures
