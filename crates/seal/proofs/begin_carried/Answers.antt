-- `seal::begin_carried` meets its contract. Assumes nothing.
use mathlib.Core.Path.{refl}
use Rattle.seal.proofs.Compacted.{sealed_due, sealed_not_due, layers_few}
use Rattle.seal.proofs.begin_carried.Goals as goal

pub returns-then-limit-layers : goal.returns-then-limit-layers
returns-then-limit-layers c = sealed_due c.args.generation.bytes.now c.read_u64-limit.result c.layers.result c.args.generation.installed c.read_u64-limit.ensures c.layers.ensures c.args.child c.if-limit-layers.true c.seal_folded.ensures

pub seal_layers-requires : goal.seal_layers-requires
seal_layers-requires c = (c.args.generation.installed, layers_few c.args.generation.bytes.now c.read_u64-limit.result c.layers.result c.args.generation.installed c.read_u64-limit.ensures c.layers.ensures c.if-limit-layers.false, c.requires)

pub returns : goal.returns
returns c = sealed_not_due c.args.generation.bytes.now c.read_u64-limit.result c.layers.result c.args.generation.installed c.read_u64-limit.ensures c.layers.ensures c.args.child c.if-limit-layers.false c.seal_layers.ensures refl
