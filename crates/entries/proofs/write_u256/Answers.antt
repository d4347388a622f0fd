-- `entries::write_u256` meets its contract. Assumes nothing.
use native.Mathlib.Omega.{arith}
use Rattle.entries.proofs.Placing.{placed_u256}
use Rattle.entries.proofs.write_u256.Goals as goal

pub returns : goal.returns
returns c =
    let a = c.args in
    placed_u256 a.at a.x a.s.now _ _ _ _ (omega arith) c.write_u64.ensures c.write_u64-2.ensures c.write_u64-3.ensures c.write_u64-4.ensures
