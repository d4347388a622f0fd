-- `layers::LentGeneration::layer_start` meets its contract.
use native.Mathlib.Omega.{arith}
use mathlib.Core.Path.{◌∙◌}
use Rattle.layers.proofs.Header.{header_room, layers_limit, start_zero, start_word}
use Rattle.layers.proofs.LentGeneration.layer_start.Goals as goal

pub returns-then-k-eq0 : goal.returns-then-k-eq0
returns-then-k-eq0 c = start_zero _ _ c.args.self.installed c.if-k-eq0.true

pub overflow_mul-k : goal.overflow_mul-k
overflow_mul-k c = omega (arith, layers_limit _ c.args.self.installed)

pub overflow_add-k : goal.overflow_add-k
overflow_add-k c = omega (arith, layers_limit _ c.args.self.installed)

pub read_u64-requires : goal.read_u64-requires
read_u64-requires c = omega (arith, layers_limit _ c.args.self.installed, header_room _ c.args.self.installed.is_store)

pub returns : goal.returns
returns c = c.read_u64.ensures ∙ start_word _ _ c.args.self.installed c.if-k-eq0.false c.requires
