-- Laws of the ledger's maps from slots.
use Rattle.std.specs.Prelude.{None, Some}
use mathlib.Core.Path.{◌≡◌, refl, ◌∙◌}
use mathlib.Core.Bool.{false, cond}
use mathlib.Core.List.{List, [], ◌∷◌}
use Rattle.model.specs.Slots.{Slot, slot_eqb, mem}
use Rattle.model.specs.Reads.{has_duplicate}
use Rattle.model.specs.FlatLedger.{SlotMap, lookup, without, set}
use Rattle.model.proofs.SlotLaws.{split, or_false_left, or_false_right, slot_eqb_true, slot_eqb_sym, slot_eqb_refl}

-- A list names no slot twice.
abbrev pub Distinct : List Slot → Type 0
Distinct [] = Unit {0}
Distinct (s ∷ ss) = (mem s ss ≡ false) × Distinct ss

pub distinct : (ss : List Slot) → has_duplicate ss ≡ false → Distinct ss
unfolding has_duplicate
distinct [] e = tt
distinct (s ∷ ss) e = (or_false_left (mem s ss) (has_duplicate ss) e, distinct ss (or_false_right (mem s ss) (has_duplicate ss) e))

-- The slots that a map has entries of.
unfoldable pub keys : {A : Type 0} → SlotMap A → List Slot
keys [] = []
keys (e ∷ m) = e.slot ∷ keys m

pub mem_one : (s t : Slot) → mem t (s ∷ []) ≡ slot_eqb s t
unfolding mem
mem_one s t = split (slot_eqb s t) (λ y. rw y) (λ y. rw y)

module _ {A : Type 0} where
  -- A slot without an entry.
  pub lookup_none : (s : Slot) (m : SlotMap A) → mem s (keys m) ≡ false → lookup s m ≡ None
  unfolding mem keys lookup
  lookup_none s [] e = refl
  lookup_none s (x ∷ m) e = rw (or_false_left (slot_eqb x.slot s) (mem s (keys m)) e) (lookup_none s m (or_false_right (slot_eqb x.slot s) (mem s (keys m)) e))

  -- What a map without some slots has of a slot.
  pub lookup_without : (ss : List Slot) (s : Slot) (m : SlotMap A) → lookup s (without ss m) ≡ cond (mem s ss) None (lookup s m)
  unfolding lookup without
  lookup_without ss s [] = split (mem s ss) (λ y. rw y) (λ y. rw y)
  lookup_without ss s (e ∷ m) =
      split (slot_eqb e.slot s)
      (λ y. rw (y, slot_eqb_true e.slot s y) (split (mem s ss) (λ z. rw z (lookup_without ss s m ∙ rw z)) (λ z. rw (z, slot_eqb_refl s))))
      (λ y. rw y (split (mem e.slot ss) (λ z. rw z (lookup_without ss s m)) (λ z. rw (z, y) (lookup_without ss s m))))

  -- What a map with a slot set has of a slot.
  pub lookup_set : (s t : Slot) (x : A) (m : SlotMap A) → lookup t (set s x m) ≡ cond (slot_eqb s t) (Some x) (lookup t m)
  unfolding lookup
  lookup_set s t x m = split (slot_eqb s t) (λ y. rw y) (λ y. rw y (lookup_without (s ∷ []) t m ∙ rw (mem_one s t, y)))

  -- One entry a slot.
  mem_keys_without : (ss : List Slot) (s : Slot) (m : SlotMap A) → mem s (keys m) ≡ false → mem s (keys (without ss m)) ≡ false
  unfolding mem keys without
  mem_keys_without ss s [] e = e
  mem_keys_without ss s (x ∷ m) e =
      let a : slot_eqb x.slot s ≡ false = or_false_left (slot_eqb x.slot s) (mem s (keys m)) e in
      let b : mem s (keys (without ss m)) ≡ false = mem_keys_without ss s m (or_false_right (slot_eqb x.slot s) (mem s (keys m)) e) in
      split (mem x.slot ss) (λ z. rw z b) (λ z. rw (z, a) b)

  pub distinct_without : (ss : List Slot) (m : SlotMap A) → Distinct (keys m) → Distinct (keys (without ss m))
  unfolding keys without
  distinct_without ss [] d = d
  distinct_without ss (x ∷ m) d =
      split (mem x.slot ss) (λ z. rw z (distinct_without ss m d.1)) (λ z. rw z (mem_keys_without ss x.slot m d.0, distinct_without ss m d.1))

  -- A slot that is taken out is not there.
  mem_keys_out : (s : Slot) (m : SlotMap A) → mem s (keys (without (s ∷ []) m)) ≡ false
  unfolding mem keys without
  mem_keys_out s [] = refl
  mem_keys_out s (x ∷ m) = split (slot_eqb s x.slot) (λ z. rw z (mem_keys_out s m)) (λ z. rw (z, slot_eqb_sym x.slot s, z) (mem_keys_out s m))

  pub distinct_set : (s : Slot) (x : A) (m : SlotMap A) → Distinct (keys m) → Distinct (keys (set s x m))
  unfolding keys
  distinct_set s x m d = (mem_keys_out s m, distinct_without (s ∷ []) m d)
