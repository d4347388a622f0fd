-- `layers::LentGeneration::row_use` meets its contract.
use Rattle.model.specs.Contents.{use_of}
use Rattle.layers.proofs.Search.{row_read}
use Rattle.layers.proofs.LentGeneration.row_use.Goals as goal

pub returns : goal.returns
returns c = let a = c.args in row_read use_of a.row a.self.bytes.now c.last_use.ensures
