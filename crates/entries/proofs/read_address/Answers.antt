-- `entries::read_address` meets its contract. Assumes nothing.
use Rattle.entries.proofs.Numbers.{address_read}
use Rattle.entries.proofs.read_address.Goals as goal

pub returns : goal.returns
returns c =
    let a = c.args in
    address_read a.at _ _ _ a.s.now c.read_u32.ensures c.read_u64.ensures c.read_u64-2.ensures
