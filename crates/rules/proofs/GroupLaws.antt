-- The laws of `group`, `newest_value` and `freshest`: one record more, and a layer more.
use Rattle.std.specs.Prelude.{None, Option, Some, is_some}
use mathlib.Core.Path.{◌≡◌, refl, sym, ap, ◌∙◌}
use mathlib.Core.Bool.{Bool, true, false, ◌||◌, cond, true≢false}
use mathlib.Core.List.{[], ◌∷◌, ◌++◌, append-nil}
use Prim.Native.Nat.{ℕ, zero, suc, ◌+◌, ◌≤◌, ◌<◌, max}
use lib.ListN.{length, take, get_or}
use lib.Seq.{take-suc}
use native.Mathlib.Omega.{arith}
use Rattle.model.specs.declared.delta_snapshot.Slot.{Slot}
use Rattle.model.specs.Slots.{Value, slot_eqb}
use Rattle.model.specs.Contents.{last_use_of, value_of, own_value, use_of, has_value, or_else, max_option}
use Rattle.model.specs.Layers.{LayerOf, Record, Layer}
use Rattle.model.proofs.SlotLaws.{split}
use Rattle.order.specs.Index.{no_record}
use Rattle.order.proofs.WalkLaws.{along}
use Rattle.rules.specs.Rules.{group, newest_value, freshest}

pub group_append : {A : Type 0} (s : Slot) (rs qs : LayerOf A) → group s (rs ++ qs) ≡ group s rs ++ group s qs
unfolding group
group_append s [] qs = refl
group_append s (r ∷ rs) qs = split (slot_eqb r.slot s) (λ e. rw (e, group_append s rs qs)) (λ e. rw (e, group_append s rs qs))

-- One record more of those that a list begins with.
pub group_more : (rs : Layer) (s : Slot) (k : ℕ) → k < length rs → (b : Bool) → slot_eqb (get_or rs k no_record).slot s ≡ b
    → group s (take (suc k) rs) ≡ cond b (group s (take k rs) ++ (get_or rs k no_record ∷ [])) (group s (take k rs))
unfolding group
group_more rs s k h true e = ap (group s) (take-suc rs k no_record h) ∙ group_append s (take k rs) (get_or rs k no_record ∷ []) ∙ rw e
group_more rs s k h false e = ap (group s) (take-suc rs k no_record h) ∙ group_append s (take k rs) (get_or rs k no_record ∷ []) ∙ rw e (append-nil (group s (take k rs)))

-- Records of other slots leave the group as it was: those from record p on, of which there are m.
pub group_others : (rs : Layer) (s : Slot) (p m : ℕ) → p + m ≤ length rs → ((k : ℕ) → p ≤ k → k < p + m → slot_eqb (get_or rs k no_record).slot s ≡ false) → group s (take (p + m) rs) ≡ group s (take p rs)
group_others rs s p zero h f = let z : p + 0 ≡ p = omega arith in ap (λ (k : ℕ). group s (take k rs)) z
group_others rs s p (suc m) h f =
    let z : p + suc m ≡ suc (p + m) = omega arith in
    ap (λ (k : ℕ). group s (take k rs)) z
    ∙ group_more rs s (p + m) (omega arith) false (f (p + m) (omega arith) (omega arith))
    ∙ group_others rs s p m (omega arith) (λ k g l. f k g (omega arith))

-- Bools ------------------------------------------------------------------------------------------------------------

or_false : (a : Bool) → (a || false) ≡ a
or_false true = refl
or_false false = refl

or_assoc : (a b c : Bool) → (a || b || c) ≡ (a || (b || c))
or_assoc true b c = refl
or_assoc false b c = refl

pub or_comm : (a b : Bool) → (a || b) ≡ (b || a)
or_comm true true = refl
or_comm true false = refl
or_comm false b = sym (or_false b)

-- What may be missing ---------------------------------------------------------------------------------------------

pub or_else_assoc : (a b c : Option Value) → or_else (or_else a b) c ≡ or_else a (or_else b c)
or_else_assoc None b c = refl
or_else_assoc (Some a) b c = refl

pub max_option_assoc : (a b c : Option ℕ) → max_option (max_option a b) c ≡ max_option a (max_option b c)
max_option_assoc None b c = refl
max_option_assoc (Some a) None c = refl
max_option_assoc (Some a) (Some b) None = refl
max_option_assoc (Some a) (Some b) (Some c) = ap Some (omega arith)

pub or_else_none : (a : Option Value) → or_else a None ≡ a
or_else_none None = refl
or_else_none (Some a) = refl

max_option_none : (a : Option ℕ) → max_option a None ≡ a
max_option_none None = refl
max_option_none (Some a) = refl

-- Whether something of two is there.
pub is_some_or_else : (a b : Option Value) → is_some (or_else a b) ≡ (is_some a || is_some b)
is_some_or_else None b = refl
is_some_or_else (Some a) b = refl

pub is_some_max : (o : Option ℕ) (u : ℕ) → is_some (max_option o (Some u)) ≡ true
is_some_max None u = refl
is_some_max (Some a) u = refl

-- A use, or 0 for none.
abbrev pub or_zero : Option ℕ → ℕ
or_zero None = 0
or_zero (Some u) = u

pub or_zero_max : (a b : Option ℕ) → or_zero (max_option a b) ≡ max (or_zero a) (or_zero b)
or_zero_max None b = omega arith
or_zero_max (Some a) None = omega arith
or_zero_max (Some a) (Some b) = refl

-- One record more ---------------------------------------------------------------------------------------------------

-- A newer record.
pub newest_snoc : (g : Layer) (r : Record) → newest_value (g ++ (r ∷ [])) ≡ or_else (value_of (Some r.content)) (newest_value g)
unfolding newest_value
newest_snoc [] r = sym (or_else_none (value_of (Some r.content)))
newest_snoc (q ∷ g) r =
    ap (λ (o : Option Value). or_else o (value_of (Some q.content))) (newest_snoc g r)
    ∙ or_else_assoc (value_of (Some r.content)) (newest_value g) (value_of (Some q.content))

pub freshest_snoc : (g : Layer) (r : Record) → freshest (g ++ (r ∷ [])) ≡ max_option (last_use_of (Some r.content)) (freshest g)
unfolding freshest
freshest_snoc [] r = sym (max_option_none (last_use_of (Some r.content)))
freshest_snoc (q ∷ g) r =
    ap (λ (o : Option ℕ). max_option o (last_use_of (Some q.content))) (freshest_snoc g r)
    ∙ max_option_assoc (last_use_of (Some r.content)) (freshest g) (last_use_of (Some q.content))

-- Records with a value have a use.
pub use_of_valued : (g : Layer) → is_some (newest_value g) ≡ true → is_some (freshest g) ≡ true
unfolding newest_value freshest
use_of_valued [] e = absurd (true≢false (sym e))
use_of_valued (r ∷ g) e = is_some_max (freshest g) (use_of r.content)

-- A walk over a slot's records ----------------------------------------------------------------------------------------

-- What a walk gathers along records, where each step adds whether the record has a value, and where each takes the larger use.
module _ {A : Type 0} (f : A → Record → A) where
  pub along_any : (any : A → Bool) → ((a : A) (r : Record) → any (f a r) ≡ (any a || has_value r.content)) → (a : A) (g : Layer) → any (along f a g) ≡ (any a || is_some (newest_value g))
  unfolding along newest_value
  along_any any step a [] = sym (or_false (any a))
  along_any any step a (r ∷ g) =
      along_any any step (f a r) g ∙ ap (λ (b : Bool). b || is_some (newest_value g)) (step a r)
      ∙ or_assoc (any a) (has_value r.content) (is_some (newest_value g))
      ∙ ap (λ (b : Bool). any a || b) (or_comm (has_value r.content) (is_some (newest_value g)) ∙ sym (is_some_or_else (newest_value g) (own_value r.content)))

  pub along_low : (low : A → ℕ) → ((a : A) (r : Record) → low (f a r) ≡ max (low a) (use_of r.content)) → (a : A) (g : Layer) → low (along f a g) ≡ max (low a) (or_zero (freshest g))
  unfolding along freshest
  along_low low step a [] = omega arith
  along_low low step a (r ∷ g) = omega (arith, along_low low step (f a r) g, step a r, or_zero_max (freshest g) (last_use_of (Some r.content)))
