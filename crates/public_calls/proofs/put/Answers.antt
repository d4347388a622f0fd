-- `public_calls::put` meets its contract: what `store::put` ensures, and the ranges of the arguments. Assumes nothing.
use borrow.Author.Rules.{rules}
use Rattle.unchecked_advance.proofs.Ranges.{u256_range}
use Rattle.public_calls.proofs.Ranges.{slot_range}
use Rattle.public_calls.proofs.put.Goals as goal

pub returns : goal.returns
returns c = (slot_range c.args.slot _ c.well_formed.1.1.0, u256_range c.args.value _ c.well_formed.1.1.1.0, search rules)
