-- `call_run::lines_fit` meets its contract: the lines of every call fit in the room that a run asks for.
use Rattle.call_run.proofs.Room.{lines_fit}
use Rattle.call_run.proofs.lines_fit.Goals as goal

pub returns : goal.returns
returns c = lines_fit
