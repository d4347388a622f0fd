-- `public_calls::look` meets its contract: what `store::look` ensures, and the ranges of the arguments. Assumes nothing.
use borrow.Author.Rules.{rules}
use Rattle.public_calls.proofs.Ranges.{slot_range}
use Rattle.public_calls.proofs.look.Goals as goal

pub returns : goal.returns
returns c = (slot_range c.args.slot _ c.well_formed.1.1.0, search rules)
