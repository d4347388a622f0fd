-- `entries::write_write` meets its contract. Assumes nothing.
use native.Mathlib.Omega.{arith}
use Rattle.entries.proofs.Placing.{placed_write}
use Rattle.entries.proofs.write_write.Goals as goal

pub returns : goal.returns
returns c =
    let a = c.args in
    placed_write a.at (record { slot = a.slot; value = a.value }) a.s.now _ _ (omega arith) c.write_slot.ensures c.write_u256.ensures
