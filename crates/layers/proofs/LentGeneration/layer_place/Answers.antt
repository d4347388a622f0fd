-- `layers::LentGeneration::layer_place` meets its contract.
use native.Mathlib.Omega.{arith}
use Rattle.image.specs.Lent.{generation_of, layer_of}
use Rattle.layers.proofs.Search.{layer_area, layer_count, layer_length, area_asks, area_finds, empty_place}
use Rattle.layers.proofs.LentGeneration.layer_place.Goals as goal

pub returns-then-start-end : goal.returns-then-start-end
returns-then-start-end c =
    let a = c.args in
    let h = layer_count a.self.bytes.now a.k a.start a.end c.args.self.installed c.requires.0 c.requires.1 c.requires.2 in
    empty_place (layer_of a.k (generation_of a.self.bytes.now).base) a.slot (omega (arith, h, c.if-start-end.true))

pub overflow_sub-end : goal.overflow_sub-end
overflow_sub-end c =
    let a = c.args in
    omega (arith, layer_count a.self.bytes.now a.k a.start a.end c.args.self.installed c.requires.0 c.requires.1 c.requires.2)

pub place_from-requires : goal.place_from-requires
place_from-requires c =
    let a = c.args in
    area_asks a.self.bytes.now _ _ (layer_area a.self.bytes.now a.k c.args.self.installed c.requires.0) a.start _ c.requires.1 (layer_length a.self.bytes.now a.k a.start a.end c.args.self.installed c.requires.0 c.requires.1 c.requires.2)

pub returns : goal.returns
returns c =
    let a = c.args in
    area_finds a.self.bytes.now _ _ (layer_area a.self.bytes.now a.k c.args.self.installed c.requires.0) a.start _ c.requires.1 (layer_length a.self.bytes.now a.k a.start a.end c.args.self.installed c.requires.0 c.requires.1 c.requires.2) a.slot _ c.place_from.ensures
