-- `layers::LentGeneration::top_count` meets its contract.
use native.Mathlib.Omega.{arith}
use Rattle.layers.proofs.Header.{header_room, top_is}
use Rattle.layers.proofs.LentGeneration.top_count.Goals as goal

pub read_u64-requires : goal.read_u64-requires
read_u64-requires c = omega (arith, header_room _ c.args.self.installed.is_store)

pub overflow_sub-result : goal.overflow_sub-result
overflow_sub-result c = omega (arith, top_is _ _ c.args.self.installed c.read_u64.ensures, c.top_start.ensures)

pub returns : goal.returns
returns c = omega (arith, top_is _ _ c.args.self.installed c.read_u64.ensures, c.top_start.ensures)
