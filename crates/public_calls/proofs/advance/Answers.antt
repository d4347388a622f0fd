-- `public_calls::advance` meets its contract: what `store::advance` ensures, and the ranges of the arguments. Assumes nothing.
use borrow.Author.Rules.{rules}
use Rattle.header.proofs.Segments.{known_bytes}
use Rattle.unchecked_advance.proofs.Ranges.{anchor_range}
use Rattle.public_calls.proofs.advance.Goals as goal

pub returns : goal.returns
returns c = (anchor_range c.args.child _ c.well_formed.1.0, known_bytes c.args.writes.now c.type_inv.writes, search rules)
