-- The fold over records: it rises, and what a search finds in it. So it does not hang on the order of the slots, and for layers it is the model's.
use Rattle.std.specs.Prelude.{None, Option, Some}
use mathlib.Core.Path.{◌≡◌, refl, sym, ap, ◌∙◌}
use mathlib.Core.Bool.{Bool, true, false, cond}
use mathlib.Core.List.{List, [], ◌∷◌}
use Prim.Native.Nat.{ℕ}
use lib.ListN.{length}
use Rattle.model.specs.declared.delta_snapshot.Slot.{Slot}
use Rattle.model.specs.declared.delta_snapshot.Retention.{Retention}
use Rattle.model.specs.Slots.{Value, LastUse, slot_eqb, mem, serves}
use Rattle.model.specs.Contents.{valued}
use Rattle.model.specs.Layers.{Layer, find, slots, all_slots, freshest_use, count_distinct}
use Rattle.model.specs.Advance.{compact_slot, compact_slots, lapsed, compact}
use Rattle.model.proofs.SlotLaws.{split, slot_eqb_true}
use Rattle.model.proofs.SlotRelation.{compacted_content}
use Rattle.model.proofs.LayerLaws.{find_insert}
use Rattle.image.specs.WellFormed.{rising}
use Rattle.image.specs.Image.{flat_records}
use Rattle.image.proofs.RecordsOk.{rising_insert}
use Rattle.rules.specs.Rules.{group, newest_value, freshest, all_rising}
use Rattle.rules.proofs.LayerLaws.{newest_held, freshest_held}
use Rattle.counts.proofs.SlotCounts.{count_ext, count_mems}
use Rattle.counts.proofs.LayerCounts.{flat_members}
use Rattle.fold.specs.Fold.{folded_slots, folded, dropped_in}
use Rattle.fold.proofs.RisingLaws.{rising_same}

-- One slot's part ------------------------------------------------------------------------------------------------------

rising_slot : (R : Retention) (now : ℕ) (s : Slot) (f : Option LastUse) (h : Option Value) (l : Layer) → rising l ≡ true → rising (compact_slot R now s f h l) ≡ true
rising_slot R now s None h l e = e
rising_slot R now s (Some u) None l e = e
rising_slot R now s (Some u) (Some v) l e = split (serves R u now) (λ y. rw y (rising_insert s (valued u v) l e)) (λ y. rw y e)

-- What a search finds of the slot itself, where the layer has of it that or nothing; and of another.
find_same : (R : Retention) (now : ℕ) (s : Slot) (f : Option LastUse) (h : Option Value) (l : Layer) (b : Bool) → slot_eqb s s ≡ true → find s l ≡ cond b (compacted_content R now f h) None → find s (compact_slot R now s f h l) ≡ compacted_content R now f h
find_same R now s None h l true y e = e
find_same R now s None h l false y e = e
find_same R now s (Some u) None l true y e = e
find_same R now s (Some u) None l false y e = e
find_same R now s (Some u) (Some v) l b y e =
    split (serves R u now)
    (λ d. rw d (find_insert s s (valued u v) l ∙ rw y))
    (λ d. rw d (e ∙ split b (λ z. rw (z, d)) (λ z. rw z)))

find_other : (R : Retention) (now : ℕ) (t s : Slot) (f : Option LastUse) (h : Option Value) (l : Layer) → slot_eqb t s ≡ false → find s (compact_slot R now t f h l) ≡ find s l
find_other R now t s None h l e = refl
find_other R now t s (Some u) None l e = refl
find_other R now t s (Some u) (Some v) l e = split (serves R u now) (λ d. rw d (find_insert t s (valued u v) l ∙ rw e)) (λ d. rw d)

-- All slots ------------------------------------------------------------------------------------------------------------

module _ (R : Retention) (now : ℕ) (rs : Layer) where
  pub rising_folded : (ss : List Slot) → rising (folded_slots R now rs ss) ≡ true
  unfolding folded_slots
  rising_folded [] = refl
  rising_folded (s ∷ ss) = rising_slot R now s (freshest (group s rs)) (newest_value (group s rs)) (folded_slots R now rs ss) (rising_folded ss)

  find_folded : (s : Slot) (ss : List Slot) → find s (folded_slots R now rs ss) ≡ cond (mem s ss) (compacted_content R now (freshest (group s rs)) (newest_value (group s rs))) None
  unfolding folded_slots mem find
  find_folded s [] = refl
  find_folded s (t ∷ ss) =
      split (slot_eqb t s)
      (λ e. let z : t ≡ s = slot_eqb_true t s e in
      rw (e, z) (find_same R now s (freshest (group s rs)) (newest_value (group s rs)) (folded_slots R now rs ss) (mem s ss) (rw z at e) (find_folded s ss)))
      (λ e. rw e (find_other R now t s (freshest (group t rs)) (newest_value (group t rs)) (folded_slots R now rs ss) e ∙ find_folded s ss))

  -- Lists with the same members.
  pub folded_same : (xs ys : List Slot) → ((s : Slot) → mem s xs ≡ mem s ys) → folded_slots R now rs xs ≡ folded_slots R now rs ys
  folded_same xs ys h =
      rising_same (folded_slots R now rs xs) (folded_slots R now rs ys) (rising_folded xs) (rising_folded ys)
      (λ s. find_folded s xs ∙ ap (λ (b : Bool). cond b (compacted_content R now (freshest (group s rs)) (newest_value (group s rs))) None) (h s) ∙ sym (find_folded s ys))

-- For layers -----------------------------------------------------------------------------------------------------------

module _ (R : Retention) (now : ℕ) (ls : List Layer) (e : all_rising ls ≡ true) where
  compact_same : (ss : List Slot) → folded_slots R now (flat_records ls) ss ≡ compact_slots R now ls ss
  unfolding folded_slots compact_slots
  compact_same [] = refl
  compact_same (s ∷ ss) = rw (freshest_held s ls e, newest_held s ls e, compact_same ss)

module _ (R : Retention) (now : ℕ) (rs : Layer) (ls : List Layer) (q : rs ≡ flat_records ls) (e : all_rising ls ≡ true) where
  -- THE LAWS: of the records of layers that rise, the fold's layer, and the slots that it drops, are the model's.
  pub folded_is : folded R now rs ≡ compact_slots R now ls (all_slots ls)
  unfolding folded
  folded_is =
      ap (λ (x : Layer). folded_slots R now x (slots x)) q
      ∙ folded_same R now (flat_records ls) (slots (flat_records ls)) (all_slots ls) (λ s. flat_members s ls)
      ∙ compact_same R now ls e (all_slots ls)

  pub dropped_is : dropped_in R now rs ≡ count_distinct (λ s. lapsed R now (freshest_use s ls)) (all_slots ls)
  unfolding dropped_in
  dropped_is =
      let p : Slot → Bool = λ s. lapsed R now (freshest_use s ls) in
      ap (λ (x : Layer). count_distinct (λ s. lapsed R now (freshest (group s x))) (slots x)) q
      ∙ count_ext (λ s. lapsed R now (freshest (group s (flat_records ls)))) p (slots (flat_records ls)) (λ s m. ap (lapsed R now) (freshest_held s ls e))
      ∙ count_mems p (slots (flat_records ls)) (all_slots ls) (λ s. flat_members s ls)

  -- The fold of the layers, and its report.
  pub compact_is : compact R now ls ≡ record { base = folded R now rs ∷ []; report = record { merged = length ls; left = length (folded R now rs); dropped = dropped_in R now rs } }
  unfolding compact
  compact_is = λ i. record { base = sym folded_is i ∷ []; report = record { merged = length ls; left = length (sym folded_is i); dropped = sym dropped_is i } }
