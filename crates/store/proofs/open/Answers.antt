-- `store::open` meets its contract: 1, 2, 9, or what `unchecked_calls::open` does. Assumes nothing.
use native.Mathlib.Omega.{arith}
use Rattle.unchecked_calls.proofs.Said.{said_1_none, said_1, said_2, said_9}
use Rattle.store.proofs.open.Goals as goal

pub returns-then-capacity-eq0 : goal.returns-then-capacity-eq0
returns-then-capacity-eq0 c =
    let a = c.args in
    said_1_none a.s.now a.capacity a.max_depth a.retention c.if-capacity-eq0.true

pub returns-then-capacity-gt4096 : goal.returns-then-capacity-gt4096
returns-then-capacity-gt4096 c =
    let a = c.args in
    said_1 a.s.now a.capacity a.max_depth a.retention c.if-capacity-gt4096.true

pub returns-then-max_depth-gt255 : goal.returns-then-max_depth-gt255
returns-then-max_depth-gt255 c =
    let a = c.args in
    said_2 a.s.now a.capacity a.max_depth a.retention c.if-capacity-eq0.false c.if-capacity-gt4096.false c.if-max_depth-gt255.true

pub returns-then-s-n : goal.returns-then-s-n
returns-then-s-n c =
    let a = c.args in
    said_9 a.s.now a.capacity a.max_depth a.retention c.if-capacity-eq0.false c.if-capacity-gt4096.false c.if-max_depth-gt255.false (omega (arith, c.if-s-n.true))
