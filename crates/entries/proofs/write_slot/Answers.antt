-- `entries::write_slot` meets its contract. Assumes nothing.
use native.Mathlib.Omega.{arith}
use Rattle.entries.proofs.Placing.{placed_slot}
use Rattle.entries.proofs.write_slot.Goals as goal

pub returns : goal.returns
returns c =
    let a = c.args in
    placed_slot a.at a.slot a.s.now _ _ (omega arith) c.write_address.ensures c.write_u256.ensures
