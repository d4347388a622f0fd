-- A layer that rises, over any content, is known by what a search finds in it for each slot.
use Rattle.std.specs.Prelude.{None, Some}
use Rattle.std.proofs.lemmas.Option.{none-some, same_Some}
use mathlib.Core.Path.{◌≡◌, refl, sym, ap, ap₂, ◌∙◌}
use mathlib.Core.Bool.{true, false}
use mathlib.Core.List.{[], ◌∷◌}
use Rattle.model.specs.declared.delta_snapshot.Slot.{Slot}
use Rattle.model.specs.Slots.{slot_eqb, slot_ltb}
use Rattle.model.specs.Layers.{RecordOf, LayerOf, find, insert}
use Rattle.model.proofs.SlotLaws.{split, and_left, and_right, and_intro, slot_eqb_true, slot_eqb_refl, slot_eqb_sym, slot_ltb_total, slot_ltb_eqb}
use Rattle.image.specs.WellFormed.{rising_from, rising}
use Rattle.image.proofs.RecordsOk.{rising_insert}
use Rattle.records.proofs.Places.{slot_ltb_asym}
use Rattle.rules.proofs.LayerLaws.{rising_lower, rising_rest}

module _ {A : Type 0} where
  -- A slot that comes before all of a layer's has no record in it.
  none_from : (s : Slot) (l : LayerOf A) → rising_from s l ≡ true → find s l ≡ None
  unfolding rising_from find
  none_from s [] e = refl
  none_from s (r ∷ l) e =
      let h : slot_ltb s r.slot ≡ true = and_left (slot_ltb s r.slot) _ e in
      rw (slot_eqb_sym r.slot s, slot_ltb_eqb s r.slot h) (none_from s l (rising_lower s r.slot l h (and_right (slot_ltb s r.slot) _ e)))

  -- A slot before a layer's first is not found.
  before_first : (s : Slot) (r : RecordOf A) (l : LayerOf A) → slot_ltb s r.slot ≡ true → rising (r ∷ l) ≡ true → find s (r ∷ l) ≡ None
  unfolding rising_from
  before_first s r l h e = none_from s (r ∷ l) (and_intro (slot_ltb s r.slot) _ h e)

  found_first : (r : RecordOf A) (l : LayerOf A) → find r.slot (r ∷ l) ≡ Some r.content
  unfolding find
  found_first r l = rw (slot_eqb_refl r.slot)

  nothing : (s : Slot) → None ≡ find {A = A} s []
  unfolding find
  nothing s = refl

  -- Past its first record.
  find_past : (s : Slot) (r : RecordOf A) (l : LayerOf A) → slot_eqb r.slot s ≡ false → find s (r ∷ l) ≡ find s l
  unfolding find
  find_past s r l e = rw e

  pub rising_same : (k l : LayerOf A) → rising k ≡ true → rising l ≡ true → ((s : Slot) → find s k ≡ find s l) → k ≡ l
  rising_same [] [] p q h = refl
  rising_same [] (r ∷ l) p q h = absurd (none-some r.content (nothing r.slot ∙ h r.slot ∙ found_first r l))
  rising_same (t ∷ k) [] p q h = absurd (none-some t.content (nothing t.slot ∙ sym (h t.slot) ∙ found_first t k))
  rising_same (t ∷ k) (r ∷ l) p q h =
      split (slot_eqb t.slot r.slot)
      (λ e. let z : t.slot ≡ r.slot = slot_eqb_true t.slot r.slot e in
      let c : t.content ≡ r.content = same_Some t.content r.content (sym (found_first t k) ∙ h t.slot ∙ ap (λ (s : Slot). find s (r ∷ l)) z ∙ found_first r l) in
      let w : (s : Slot) → find s k ≡ find s l = λ s. split (slot_eqb t.slot s)
      (λ d. let y : t.slot ≡ s = slot_eqb_true t.slot s d in
      none_from s k (rw y at p) ∙ sym (none_from s l (rw (sym z ∙ y) at q)))
      (λ d. sym (find_past s t k d) ∙ h s ∙ find_past s r l (rw z at d)) in
      let f : t ≡ r = λ i. record { slot = z i; content = c i } in
      ap₂ (λ (x : RecordOf A) (y : LayerOf A). x ∷ y) f (rising_same k l (rising_rest t.slot k p) (rising_rest r.slot l q) w))
      (λ e. split (slot_ltb r.slot t.slot)
      (λ d. absurd (none-some r.content (sym (before_first r.slot t k d p) ∙ h r.slot ∙ found_first r l)))
      (λ d. absurd (none-some t.content (sym (before_first t.slot r l (slot_ltb_total t.slot r.slot e d) q) ∙ sym (h t.slot) ∙ found_first t k))))

  insert_past : (s : Slot) (c : A) (r : RecordOf A) (l : LayerOf A) → slot_ltb r.slot s ≡ true → insert s c (r ∷ l) ≡ r ∷ insert s c l
  unfolding insert
  insert_past s c r l h = rw (slot_ltb_eqb r.slot s h, slot_ltb_asym r.slot s h)

  -- An insert of a later slot leaves a layer after the given one.
  pub insert_from : (a s : Slot) (c : A) (l : LayerOf A) → slot_ltb a s ≡ true → rising_from a l ≡ true → rising_from a (insert s c l) ≡ true
  insert_from a s c l h e =
      let r : RecordOf A = record { slot = a; content = c } in
      sym (ap rising (insert_past s c r l h)) ∙ rising_insert s c (r ∷ l) e

  -- An insert of a slot before a layer's first goes in front.
  pub insert_front : (s : Slot) (c : A) (l : LayerOf A) → rising_from s l ≡ true → insert s c l ≡ record { slot = s; content = c } ∷ l
  unfolding insert rising_from
  insert_front s c [] e = refl
  insert_front s c (r ∷ l) e =
      let h : slot_ltb s r.slot ≡ true = and_left (slot_ltb s r.slot) _ e in
      rw (slot_eqb_sym r.slot s, slot_ltb_eqb s r.slot h, h)

  -- An insert made twice.
  pub insert_twice : (s : Slot) (c : A) (l : LayerOf A) → insert s c (insert s c l) ≡ insert s c l
  unfolding insert
  insert_twice s c [] = rw (slot_eqb_refl s)
  insert_twice s c (r ∷ l) =
      split (slot_eqb r.slot s)
      (λ e. rw (e, slot_eqb_refl s))
      (λ e. split (slot_ltb s r.slot) (λ f. rw (e, f, slot_eqb_refl s)) (λ f. rw (e, f) (rw (e, f) (ap (λ (x : LayerOf A). r ∷ x) (insert_twice s c l)))))
