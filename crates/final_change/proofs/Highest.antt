-- Of changes whose indices strictly rise, the last listed is the one with the highest index. Assumes nothing.
use Rattle.std.specs.Prelude.{None, Option, Some}
use mathlib.Core.Path.{◌≡◌, refl, sym, ap, ◌∙◌}
use mathlib.Core.Bool.{Bool, cond}
use mathlib.Core.List.{[], ◌∷◌}
use Prim.Native.Nat.{◌≤◌, ◌<◌}
use native.Mathlib.Omega.{arith}
use lib.Dec.{ltb}
use borrow.Author.Tests.{ltb-true, ltb-false, le-ltb}
use Rattle.model.proofs.SlotLaws.{split, and_left, and_right}
use Rattle.final_change.specs.Changes.{StorageChange, final_change}
use Rattle.final_change.specs.Eip7928.{rising, higher, highest_change, FinalIsHighest}

not_lower : (c : StorageChange) (o : Option StorageChange) → c.index ≤ (higher c o).index
not_lower c None = omega arith
not_lower c (Some d) =
    split (ltb d.index c.index)
    (λ e. rw e (omega arith))
    (λ e. rw e (ltb-false d.index c.index e))

pub final_is_highest : FinalIsHighest
unfolding final_change rising highest_change
final_is_highest [] e = refl
final_is_highest (c ∷ []) e = refl
final_is_highest (c ∷ (d ∷ cs)) e =
    let h : StorageChange = higher d (highest_change cs) in
    let below : c.index < d.index = ltb-true c.index d.index (and_left (ltb c.index d.index) (rising (d ∷ cs)) e) in
    let above : ltb h.index c.index ≡ _ = le-ltb h.index c.index (omega (arith, not_lower d (highest_change cs))) in
    final_is_highest (d ∷ cs) (and_right (ltb c.index d.index) (rising (d ∷ cs)) e)
    ∙ sym (ap (λ (t : Bool). Some (cond t c h).value) above)
