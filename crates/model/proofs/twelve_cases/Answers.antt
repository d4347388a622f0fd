-- `model::twelve_cases` meets its contract, which is the table of the twelve cases.
use mathlib.Core.Path.{sym}
use Rattle.model.proofs.CasesHold.{twelve_cases}
use Rattle.model.proofs.twelve_cases.Goals as goal

pub returns : goal.returns
returns c = (twelve_cases, sym twelve_cases.twelve)
