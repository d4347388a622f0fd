-- `call_steps::open` meets its contract. Assumes nothing.
use mathlib.Core.Path.{refl}
use Rattle.call_steps.proofs.Said.{plain_open, silent_opened, refused_as, stepped_as}
use Rattle.call_steps.proofs.open.Goals as goal

pub returns-in_err-open : goal.returns-in_err-open
returns-in_err-open c d w e = refused_as _ c.args.s.now w e refl (plain_open _ _ _) c.from_residual.ensures.1 c.in_err-open.ensures

pub returns : goal.returns
returns c d w e = stepped_as c.args.s.now w e refl (plain_open _ _ _) silent_opened refl c.in_ok-open.ensures
