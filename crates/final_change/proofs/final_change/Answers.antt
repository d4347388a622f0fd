-- `final_change::final_change` meets its contract. Assumes nothing.
use native.Mathlib.Omega.{arith}
use Rattle.final_change.proofs.Last.{final_none, final_last}
use Rattle.final_change.proofs.final_change.Goals as goal

pub returns-then-count-eq0 : goal.returns-then-count-eq0
returns-then-count-eq0 c = let a = c.args in final_none a.from a.count a.changes.now c.if-count-eq0.true

pub returns : goal.returns
returns c =
    let a = c.args in
    final_last a.from a.count c.read_u256.result a.changes.now (omega arith) (omega arith) c.read_u256.ensures
