-- Layers, over any content: searching them, storing in the top, and counting.
use Rattle.std.specs.Prelude.{ℕ, suc, ◌+◌, Bool, not, ◌&&◌, cond, List, [], ◌∷◌, ◌++◌, length, None, Option, Some, is_some}
use Rattle.model.specs.Slots.{Value, LastUse, Slot, slot_eqb, slot_ltb, mem, Retention, serves}
use Rattle.model.specs.Contents.{Content, valued, last_use_of, value_of, or_else, max_option}

-- A record (document 01's term): one slot's entry in one layer or in the top.
pub record RecordOf (A : Type 0) : Type 0 where
  pub slot : Slot
  pub content : A

abbrev pub Record : Type 0
Record = RecordOf Content

-- A layer, or the top: its records, which rise by slot.
abbrev pub LayerOf : Type 0 → Type 0
LayerOf A = List (RecordOf A)

abbrev pub Layer : Type 0
Layer = LayerOf Content

-- The content of a slot's record in a layer, or none.
unfoldable pub find : {A : Type 0} → Slot → LayerOf A → Option A
find s [] = None
find s (r ∷ l) = cond (slot_eqb r.slot s) (Some r.content) (find s l)

-- The held value (`held_value`), searched from the newest layer down, each step passing the search to the layer below.
unfoldable pub held_value : Slot → List Layer → Option Value
held_value s [] = None
held_value s (l ∷ ls) = or_else (value_of (find s l)) (held_value s ls)

-- The freshest use (`freshest_use`): the largest last use on the way down.
unfoldable pub freshest_use : Slot → List Layer → Option LastUse
freshest_use s [] = None
freshest_use s (l ∷ ls) = max_option (last_use_of (find s l)) (freshest_use s ls)

-- What a look answers, of a freshest use and a held value (`resolved_through_policy`): the value if the use serves. Served in this sense, with a value, is what looks, reads and the live count ask; a write asks of the freshest use alone (`write_kind`), which is the same on a well-formed store, where every slot with a record has a value.
abbrev pub resolved_through_policy : Retention → ℕ → Option LastUse → Option Value → Option Value
resolved_through_policy R now None h = None
resolved_through_policy R now (Some u) h = cond (serves R u now) h None

-- Sets a slot's record in a layer, whose slots rise.
unfoldable pub insert : {A : Type 0} → Slot → A → LayerOf A → LayerOf A
insert s c [] = record { slot = s; content = c } ∷ []
insert s c (r ∷ l) =
    cond (slot_eqb r.slot s) (record { slot = s; content = c } ∷ l)
    (cond (slot_ltb s r.slot) (record { slot = s; content = c } ∷ r ∷ l) (r ∷ insert s c l))

-- A layer after a put (`settle`): the slot gets the value and the last use `now`.
abbrev pub settle : ℕ → Slot → Value → Layer → Layer
settle now s v l = insert s (valued now v) l

-- The number of distinct slots of a list that pass a test.
unfoldable pub count_distinct : (Slot → Bool) → List Slot → ℕ
count_distinct p [] = 0
count_distinct p (s ∷ l) = cond (p s && not (mem s l)) (suc (count_distinct p l)) (count_distinct p l)

-- The slots of a layer's records, and of all records of several layers.
unfoldable pub slots : {A : Type 0} → LayerOf A → List Slot
slots [] = []
slots (r ∷ l) = r.slot ∷ slots l

unfoldable pub all_slots : {A : Type 0} → List (LayerOf A) → List Slot
all_slots [] = []
all_slots (l ∷ ls) = slots l ++ all_slots ls

-- The number of records of several layers.
unfoldable pub record_count : {A : Type 0} → List (LayerOf A) → ℕ
record_count [] = 0
record_count (l ∷ ls) = length l + record_count ls

-- The number of distinct slots with a value (`snapshot_len`, `entries`).
unfoldable pub held_count : List Layer → ℕ
held_count ls = count_distinct (λ s. is_some (held_value s ls)) (all_slots ls)

-- The number of distinct slots that are served at `now` (`live_len`).
unfoldable pub live_count : Retention → ℕ → List Layer → ℕ
live_count R now ls = count_distinct (λ s. is_some (resolved_through_policy R now (freshest_use s ls) (held_value s ls))) (all_slots ls)
