-- `seed::base_kind` meets its contract. Assumes nothing.
use Rattle.image.specs.Lent.{generation_of}
use Rattle.seed.proofs.Doing.{kind_unused, kind_served, kind_stale}
use Rattle.seed.proofs.base_kind.Goals as goal

pub returns-in_default : goal.returns-in_default
returns-in_default c = kind_unused _ _ _ (generation_of c.args.generation.bytes.now).base _ _ _ c.layers.ensures c.freshest_use-used.ensures _ c.in_default.is c.unserved.ensures

pub returns-then-serves : goal.returns-then-serves
returns-then-serves c =
    kind_served _ _ _ (generation_of c.args.generation.bytes.now).base _ _ _ c.layers.ensures c.freshest_use-used.ensures
    _ _ _ _ c.in-Some.is c.retention-retention.ensures c.installed_number.ensures c.serves.ensures c.if-serves.true

pub returns : goal.returns
returns c =
    kind_stale _ _ _ (generation_of c.args.generation.bytes.now).base _ _ _ c.layers.ensures c.freshest_use-used.ensures
    _ _ _ _ c.in-Some.is c.retention-retention.ensures c.installed_number.ensures c.serves.ensures _ c.if-serves.false c.unserved-2.ensures
