-- `unchecked_calls::install` meets its contract.
use borrow.Author.Rules.{rules}
use mathlib.Core.Path.{sym, ◌∙◌}
use Rattle.image.proofs.Lent.{decoded_some}
use Rattle.header.proofs.Guards.{past_guard, not_here}
use Rattle.header.proofs.Segments.{known_bytes}
use Rattle.unchecked_calls.proofs.Here.{same_here}
use Rattle.unchecked_calls.proofs.Said.{with_bytes, said_fresh}
use Rattle.unchecked_calls.proofs.install.Goals as goal

pub returns-in-Ok : goal.returns-in-Ok
returns-in-Ok c = same_here (known_bytes _ (search rules)) (search (rules, past_guard, decoded_some))

pub returns : goal.returns
returns c = with_bytes c.begin.ensures (said_fresh _ _ _ (decoded_some _ c.requires) (not_here _ _ _ (sym c.guard.ensures ∙ c.in_default.is)))
