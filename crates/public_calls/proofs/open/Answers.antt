-- `public_calls::open` meets its contract: what `store::open` ensures, and the ranges of the arguments. Assumes nothing.
use borrow.Author.Rules.{rules}
use Rattle.public_calls.proofs.Ranges.{retention_range}
use Rattle.public_calls.proofs.open.Goals as goal

pub returns : goal.returns
returns c = (retention_range c.args.retention _ c.well_formed.1.1.1.0, search rules)
