-- What a search finds after an insert, a fold and a seal.
use Rattle.std.specs.Prelude.{None, Option, Some}
use Prim.Native.Nat.{ℕ}
use mathlib.Core.Path.{◌≡◌, refl}
use mathlib.Core.Bool.{Bool, true, false, ◌||◌, cond}
use mathlib.Core.List.{List, [], ◌∷◌, ◌++◌}
use Rattle.model.specs.Slots.{Value, LastUse, Slot, slot_eqb, slot_ltb, mem, Retention, serves}
use Rattle.model.specs.Contents.{valued, or_else}
use Rattle.model.specs.Layers.{LayerOf, Layer, find, insert, held_value, freshest_use, slots, all_slots}
use Rattle.model.specs.Advance.{compact_slots, compact_slot, is_void}
use Rattle.model.proofs.SlotLaws.{split, or_false_left, or_false_right, slot_eqb_true, slot_eqb_sym, slot_eqb_apart}
use Rattle.model.proofs.SlotRelation.{compacted_content}

-- A search after an insert: the new content for that slot, and as before for any other.
pub find_insert : {A : Type 0} (s t : Slot) (c : A) (l : LayerOf A) → find t (insert s c l) ≡ cond (slot_eqb s t) (Some c) (find t l)
unfolding find insert
find_insert s t c [] = refl
find_insert s t c (r ∷ l) =
    split (slot_eqb r.slot s)
    (λ e. rw e (split (slot_eqb s t) (λ f. rw f) (λ f. rw (f, slot_eqb_apart s r.slot t (rw slot_eqb_sym e) f))))
    (λ e. rw e (split (slot_ltb s r.slot) (λ f. rw f) (λ f. rw f
    (split (slot_eqb r.slot t) (λ g. rw (g, slot_eqb_sym s t, slot_eqb_apart r.slot t s g e)) (λ g. rw g (find_insert s t c l))))))

pub mem_append : (s : Slot) (a b : List Slot) → mem s (a ++ b) ≡ (mem s a || mem s b)
unfolding mem
mem_append s [] b = refl
mem_append s (t ∷ a) b = split (slot_eqb t s) (λ e. rw e) (λ e. rw e (mem_append s a b))

-- A slot with no record in a layer, and in a chain.
pub find_none : {A : Type 0} (s : Slot) (l : LayerOf A) → mem s (slots l) ≡ false → find s l ≡ None
unfolding mem slots find
find_none s [] e = refl
find_none s (r ∷ l) e = rw (or_false_left (slot_eqb r.slot s) (mem s (slots l)) e) (find_none s l (or_false_right (slot_eqb r.slot s) (mem s (slots l)) e))

pub freshest_use_none : (s : Slot) (b : List Layer) → mem s (all_slots b) ≡ false → freshest_use s b ≡ None
unfolding all_slots freshest_use
freshest_use_none s [] e = refl
freshest_use_none s (l ∷ ls) e =
    let f : (mem s (slots l) || mem s (all_slots ls)) ≡ false = rw mem_append at e in
    rw (find_none s l (or_false_left (mem s (slots l)) (mem s (all_slots ls)) f)) (freshest_use_none s ls (or_false_right (mem s (slots l)) (mem s (all_slots ls)) f))

-- Folds --------------------------------------------------------------------------------------------

-- A search after one slot's part of a fold, and after those of a list of slots.
find_compact_slot : (R : Retention) (n : ℕ) (t s : Slot) (f : Option LastUse) (h : Option Value) (l : Layer) → find s (compact_slot R n t f h l) ≡ cond (slot_eqb t s) (or_else (compacted_content R n f h) (find s l)) (find s l)
find_compact_slot R n t s None h l = split (slot_eqb t s) (λ e. rw e) (λ e. rw e)
find_compact_slot R n t s (Some u) None l = split (slot_eqb t s) (λ e. rw e) (λ e. rw e)
find_compact_slot R n t s (Some u) (Some v) l =
    split (serves R u n) (λ e. rw (e, find_insert t s (valued u v) l)) (λ e. rw e (split (slot_eqb t s) (λ y. rw y) (λ y. rw y)))

or_else_same : {A : Type 0} (c : Option A) (b : Bool) → or_else c (cond b c None) ≡ c
or_else_same None true = refl
or_else_same None false = refl
or_else_same (Some c) b = refl

find_compact_slots : (R : Retention) (n : ℕ) (b : List Layer) (s : Slot) (ss : List Slot) → find s (compact_slots R n b ss) ≡ cond (mem s ss) (compacted_content R n (freshest_use s b) (held_value s b)) None
unfolding compact_slots mem find
find_compact_slots R n b s [] = refl
find_compact_slots R n b s (t ∷ ss) =
    rw (find_compact_slot R n t s (freshest_use t b) (held_value t b) (compact_slots R n b ss), find_compact_slots R n b s ss)
    (split (slot_eqb t s)
    (λ e. rw (e, slot_eqb_true t s e) (or_else_same (compacted_content R n (freshest_use s b) (held_value s b)) (mem s ss)))
    (λ e. rw e))

-- The content of a slot's record in the one layer that a fold leaves.
pub find_compact : (R : Retention) (n : ℕ) (b : List Layer) (s : Slot) → find s (compact_slots R n b (all_slots b)) ≡ compacted_content R n (freshest_use s b) (held_value s b)
find_compact R n b s =
    split (mem s (all_slots b))
    (λ e. rw (find_compact_slots R n b s (all_slots b), e))
    (λ e. rw (find_compact_slots R n b s (all_slots b), e, freshest_use_none s b e))

-- A void base has nothing, so that to leave it out changes no search.
pub freshest_use_void : (s : Slot) (b : List Layer) → freshest_use s (cond (is_void b) [] b) ≡ freshest_use s b
unfolding freshest_use is_void find
freshest_use_void s [] = refl
freshest_use_void s ([] ∷ []) = refl
freshest_use_void s ([] ∷ (l ∷ ls)) = refl
freshest_use_void s ((r ∷ l) ∷ ls) = refl

pub held_value_void : (s : Slot) (b : List Layer) → held_value s (cond (is_void b) [] b) ≡ held_value s b
unfolding held_value is_void find
held_value_void s [] = refl
held_value_void s ([] ∷ []) = refl
held_value_void s ([] ∷ (l ∷ ls)) = refl
held_value_void s ((r ∷ l) ∷ ls) = refl
