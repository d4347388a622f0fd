-- `public_calls::demand_3` meets its contract: demand 3 over any list of public calls.
use Rattle.public_calls.proofs.Joined.{demand_for_calls}
use Rattle.public_calls.proofs.demand_3.Goals as goal

pub returns : goal.returns
returns c = demand_for_calls
