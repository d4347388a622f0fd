-- `layers::LentGeneration::row_has` meets its contract.
use Rattle.model.specs.Contents.{has_value}
use Rattle.layers.proofs.Search.{row_read}
use Rattle.layers.proofs.LentGeneration.row_has.Goals as goal

pub returns : goal.returns
returns c = let a = c.args in row_read has_value a.row a.self.bytes.now c.has_value.ensures
