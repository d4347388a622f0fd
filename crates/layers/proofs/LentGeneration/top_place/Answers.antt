-- `layers::LentGeneration::top_place` meets its contract.
use Rattle.layers.proofs.Search.{top_area, area_asks, area_finds}
use Rattle.layers.proofs.LentGeneration.top_place.Goals as goal

pub place_from-requires : goal.place_from-requires
place_from-requires c = let b = c.args.self.bytes.now in area_asks b _ _ (top_area b c.args.self.installed) _ _ c.top_start.ensures c.top_count-n.ensures

pub returns : goal.returns
returns c = let b = c.args.self.bytes.now in area_finds b _ _ (top_area b c.args.self.installed) _ _ c.top_start.ensures c.top_count-n.ensures c.args.slot _ c.place_from.ensures
