-- `chains::same_slot` meets its contract.
use mathlib.Core.Path.{sym, ap₂, ◌∙◌}
use Rattle.model.specs.declared.delta_snapshot.Slot.{Slot}
use Rattle.model.specs.Slots.{slot_eqb}
use Rattle.order.proofs.RecordLaws.{slot_at_words, equal_says}
use Rattle.chains.proofs.same_slot.Goals as goal

pub returns : goal.returns
returns c =
    let a = c.args in
    c.is_eq.ensures ∙ equal_says _ _ c.compare.ensures ∙ sym (ap₂ (λ (x y : Slot). slot_eqb x y) (slot_at_words a.i a.s.now) (slot_at_words a.j a.s.now))
