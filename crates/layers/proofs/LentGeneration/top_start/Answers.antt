-- `layers::LentGeneration::top_start` meets its contract.
use Prim.Native.Nat.{ℕ}
use mathlib.Core.Path.{ap, ◌∙◌}
use Rattle.model.specs.Layers.{record_count}
use Rattle.image.specs.Area.{layers_below}
use Rattle.image.specs.Lent.{generation_of}
use Rattle.image.proofs.Areas.{below_all}
use Rattle.layers.proofs.LentGeneration.top_start.Goals as goal

pub returns : goal.returns
returns c = c.layer_start.ensures ∙ ap (λ (k : ℕ). record_count (layers_below k (generation_of c.args.self.bytes.now).base)) c.layers.ensures ∙ ap record_count (below_all _)
