-- `awaiting::remove_at` meets its contract.
use Rattle.awaiting.proofs.Shifts.{closed_up}
use Rattle.awaiting.proofs.remove_at.Goals as goal

pub returns : goal.returns
returns c =
    let a = c.args in
    closed_up a.i a.n a.s.now c.requires.0 c.requires.1 c.move_down.ensures c.clear.ensures
