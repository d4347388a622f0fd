-- `public_calls::install` meets its contract: what `store::install` ensures, and the ranges of the arguments. Assumes nothing.
use borrow.Author.Rules.{rules}
use Rattle.unchecked_advance.proofs.Ranges.{anchor_range}
use Rattle.public_calls.proofs.install.Goals as goal

pub returns : goal.returns
returns c = (anchor_range c.args.anchor _ c.well_formed.1.0, search rules)
