-- `records::content` meets its contract. Assumes nothing.
use Rattle.records.proofs.content.Goals as goal

pub returns : goal.returns
returns c = λ j. record { used = c.last_use.ensures j; held = c.held.ensures j }
