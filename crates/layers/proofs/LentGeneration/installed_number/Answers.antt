-- `layers::LentGeneration::installed_number` meets its contract.
use native.Mathlib.Omega.{arith}
use mathlib.Core.Path.{◌∙◌}
use Rattle.image.proofs.Lent.{generation_in}
use Rattle.layers.proofs.Header.{header_room}
use Rattle.layers.proofs.LentGeneration.installed_number.Goals as goal

pub read_u64-requires : goal.read_u64-requires
read_u64-requires c = omega (arith, header_room _ c.args.self.installed.is_store)

pub returns : goal.returns
returns c = c.read_u64.ensures ∙ (generation_in _ c.args.self.installed).number_word
