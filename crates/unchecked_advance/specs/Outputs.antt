-- The slots that an advance puts to its output.
use Rattle.std.specs.Prelude.{cond, List, [], ◌∷◌, is_some}
use Rattle.model.specs.declared.delta_snapshot.Slot.{Slot}
use Rattle.model.specs.Layers.{Layer, find}
use Rattle.model.specs.Advance.{Write}

-- The slots of the writes that a top has a record of, in order.
unfoldable pub applied_in : Layer → List Write → List Slot
applied_in t [] = []
applied_in t (w ∷ ws) = cond (is_some (find w.slot t)) (w.slot ∷ applied_in t ws) (applied_in t ws)
