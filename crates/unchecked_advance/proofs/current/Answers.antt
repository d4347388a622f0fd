-- `unchecked_advance::current` meets its contract. Assumes nothing.
use Rattle.unchecked_advance.proofs.Begun.{current_is}
use Rattle.unchecked_advance.proofs.current.Goals as goal

pub returns : goal.returns
returns c = current_is c.args.generation.bytes.now _ c.counts_of-counted.ensures
