-- `unchecked_calls::open` meets its contract. Assumes nothing.
use native.Mathlib.Omega.{arith}
use Rattle.unchecked_calls.proofs.Said.{with_bytes, said_open}
use Rattle.unchecked_calls.proofs.open.Goals as goal

pub returns : goal.returns
returns c =
    let a = c.args in
    with_bytes c.start.ensures (said_open a.s.now a.capacity a.max_depth a.retention (λ z. omega (arith, z, c.requires.0)) c.requires.1 c.requires.2 c.requires.3)
