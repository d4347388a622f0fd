-- `public_calls::answer` meets its contract: what `store::answer` ensures, and the ranges of the arguments. Assumes nothing.
use borrow.Author.Rules.{rules}
use Rattle.header.proofs.Segments.{known_bytes}
use Rattle.public_calls.proofs.answer.Goals as goal

pub returns : goal.returns
returns c = (known_bytes c.args.members.now c.type_inv.members, search rules)
