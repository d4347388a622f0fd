-- `unchecked_advance::in_top` meets its contract. Assumes nothing.
use mathlib.Core.Path.{◌∙◌}
use Rattle.image.specs.Lent.{generation_of}
use Rattle.layers.proofs.Search.{top_area}
use Rattle.unchecked_advance.proofs.Outputs.{found_in}
use Rattle.unchecked_advance.proofs.in_top.Goals as goal

pub returns : goal.returns
returns c =
    let g = c.args.generation in
    c.is_ok.ensures.value ∙ found_in (generation_of g.bytes.now).top c.args.slot _ (top_area _ g.installed).rises c.top_place.ensures
