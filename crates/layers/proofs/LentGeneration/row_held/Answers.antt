-- `layers::LentGeneration::row_held` meets its contract.
use Rattle.model.specs.declared.delta_snapshot.Content.{Content}
use Rattle.layers.proofs.Search.{row_read}
use Rattle.layers.proofs.LentGeneration.row_held.Goals as goal

pub returns : goal.returns
returns c = let a = c.args in row_read (λ (x : Content). x.held) a.row a.self.bytes.now c.held.ensures
