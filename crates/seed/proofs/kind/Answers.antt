-- `seed::kind` meets its contract. Assumes nothing.
use mathlib.Core.Path.{◌≡◌}
use Rattle.model.specs.Contents.{valued_use}
use Rattle.model.specs.Layers.{find}
use Rattle.image.specs.Lent.{generation_of}
use Rattle.seed.proofs.Doing.{kind_unwritten, kind_written}
use Rattle.seed.proofs.kind.Goals as goal

pub top_valued_use-requires : goal.top_valued_use-requires
top_valued_use-requires c = record { slot = c.args.slot; place_is = c.requires }

pub returns-in-None : goal.returns-in-None
returns-in-None c =
    let said : let a = c.args in c.top_valued_use.result ≡ valued_use (find a.slot (generation_of a.generation.bytes.now).top) = c.top_valued_use.ensures c.args.slot c.requires in
    kind_unwritten _ _ _ _ _ _ said _ c.in-None.is c.base_kind.ensures

pub returns-in-Some : goal.returns-in-Some
returns-in-Some c =
    let said : let a = c.args in c.top_valued_use.result ≡ valued_use (find a.slot (generation_of a.generation.bytes.now).top) = c.top_valued_use.ensures c.args.slot c.requires in
    kind_written _ _ _ _ _ _ said _ c.in-Some.is
