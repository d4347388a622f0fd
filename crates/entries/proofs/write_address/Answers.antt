-- `entries::write_address` meets its contract. Assumes nothing.
use native.Mathlib.Omega.{arith}
use Rattle.entries.proofs.Placing.{placed_address}
use Rattle.entries.proofs.write_address.Goals as goal

pub returns : goal.returns
returns c =
    let a = c.args in
    placed_address a.at a.a a.s.now _ _ _ (omega arith) c.write_u32.ensures c.write_u64.ensures c.write_u64-2.ensures
