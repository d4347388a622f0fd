-- `layers::LentGeneration::layers` meets its contract.
use native.Mathlib.Omega.{arith}
use Rattle.layers.proofs.Header.{header_room, layers_limit, layers_are}
use Rattle.layers.proofs.LentGeneration.layers.Goals as goal

pub read_u64-requires : goal.read_u64-requires
read_u64-requires c = omega (arith, header_room _ c.args.self.installed.is_store)

pub overflow_add-result : goal.overflow_add-result
overflow_add-result c = omega (arith, layers_are _ _ c.args.self.installed c.read_u64.ensures, layers_limit _ c.args.self.installed)

pub returns : goal.returns
returns c = layers_are _ _ c.args.self.installed c.read_u64.ensures
