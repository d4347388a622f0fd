-- `call_steps::open_default` meets its contract: the constants are the limits of an open of byte 0. Assumes nothing.
use Rattle.call_list.specs.Meaning.{default_limits}
use Rattle.call_steps.proofs.open_default.Goals as goal

pub returns : goal.returns
returns c w e = c.«open».ensures default_limits w e
