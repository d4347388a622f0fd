-- What the counts over records as they stand are for layers that rise.
use Rattle.std.specs.Prelude.{Option, is_some}
use mathlib.Core.Path.{◌≡◌, refl, sym, ap, ap₂, ◌∙◌}
use mathlib.Core.Bool.{Bool, true, ◌||◌}
use mathlib.Core.List.{List, [], ◌∷◌, ◌++◌}
use Prim.Native.Nat.{ℕ}
use Rattle.model.specs.declared.delta_snapshot.Slot.{Slot}
use Rattle.model.specs.declared.delta_snapshot.Retention.{Retention}
use Rattle.model.specs.Slots.{Value, LastUse, mem}
use Rattle.model.specs.Layers.{Layer, slots, all_slots, resolved_through_policy, held_value, freshest_use, held_count, live_count, count_distinct}
use Rattle.model.proofs.SlotLaws.{and_left}
use Rattle.model.proofs.LayerLaws.{mem_append}
use Rattle.image.specs.WellFormed.{chain_ok}
use Rattle.image.specs.Image.{flat_records}
use Rattle.rules.specs.Rules.{group, newest_value, freshest, all_rising}
use Rattle.rules.proofs.GroupLaws.{or_comm}
use Rattle.rules.proofs.LayerLaws.{newest_held, freshest_held, chain_parts}
use Rattle.counts.specs.Counts.{held_in, live_in}
use Rattle.counts.proofs.SlotCounts.{count_ext, count_mems}

slots_append : (k l : Layer) → slots (k ++ l) ≡ slots k ++ slots l
unfolding slots
slots_append [] l = refl
slots_append (r ∷ k) l = ap (λ (x : List Slot). r.slot ∷ x) (slots_append k l)

-- The records of layers have the layers' slots.
pub flat_members : (s : Slot) (ls : List Layer) → mem s (slots (flat_records ls)) ≡ mem s (all_slots ls)
unfolding flat_records all_slots slots
flat_members s [] = refl
flat_members s (l ∷ ls) =
    ap (mem s) (slots_append (flat_records ls) l) ∙ mem_append s (slots (flat_records ls)) (slots l)
    ∙ ap (λ (b : Bool). b || mem s (slots l)) (flat_members s ls) ∙ or_comm (mem s (all_slots ls)) (mem s (slots l)) ∙ rw mem_append

-- THE LAWS: of the records of layers that rise, the counts are the model's.
module _ (rs : Layer) (ls : List Layer) (q : rs ≡ flat_records ls) (e : all_rising ls ≡ true) where
  pub held_is : held_in rs ≡ held_count ls
  unfolding held_in held_count
  held_is =
      let fs : Layer = flat_records ls in
      let p : Slot → Bool = λ s. is_some (held_value s ls) in
      ap (λ (x : Layer). count_distinct (λ s. is_some (newest_value (group s x))) (slots x)) q
      ∙ count_ext (λ s. is_some (newest_value (group s fs))) p (slots fs) (λ s m. ap is_some (newest_held s ls e))
      ∙ count_mems p (slots fs) (all_slots ls) (λ s. flat_members s ls)

  pub live_is : (R : Retention) (now : ℕ) → live_in R now rs ≡ live_count R now ls
  unfolding live_in live_count
  live_is R now =
      let fs : Layer = flat_records ls in
      let p : Slot → Bool = λ s. is_some (resolved_through_policy R now (freshest_use s ls) (held_value s ls)) in
      ap (λ (x : Layer). count_distinct (λ s. is_some (resolved_through_policy R now (freshest (group s x)) (newest_value (group s x)))) (slots x)) q
      ∙ count_ext (λ s. is_some (resolved_through_policy R now (freshest (group s fs)) (newest_value (group s fs)))) p (slots fs)
      (λ s m. ap₂ (λ (u : Option LastUse) (v : Option Value). is_some (resolved_through_policy R now u v)) (freshest_held s ls e) (newest_held s ls e))
      ∙ count_mems p (slots fs) (all_slots ls) (λ s. flat_members s ls)

-- Every layer of a right chain rises.
pub chain_rises : (now : ℕ) (ls : List Layer) → chain_ok now ls ≡ true → all_rising ls ≡ true
chain_rises now ls e = and_left (all_rising ls) _ (sym (chain_parts now ls) ∙ e)
