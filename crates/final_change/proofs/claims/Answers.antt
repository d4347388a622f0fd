-- `final_change::claims` meets its contract. Assumes nothing.
use Rattle.final_change.proofs.Highest.{final_is_highest}
use Rattle.final_change.proofs.claims.Goals as goal

pub returns : goal.returns
returns c = final_is_highest
