-- `model::demand_3` meets its contract, which is demand 3.
use Rattle.model.proofs.Run.{demand_3}
use Rattle.model.proofs.WitnessHolds.{witness}
use Rattle.model.proofs.demand_3.Goals as goal

pub returns : goal.returns
returns c = (demand_3, witness)
