-- The rules across layers of document 01's well-formed store, over its records as they stand: the lowest layer's first, the top's last.
use Rattle.std.specs.Prelude.{ℕ, zero, suc, ◌-◌, Bool, true, false, not, ◌&&◌, ◌||◌, cond, List, [], ◌∷◌, ◌++◌, leb, ltb, length, get_or, None, Option, Some}
use Rattle.model.specs.declared.delta_snapshot.Slot.{Slot}
use Rattle.model.specs.declared.delta_snapshot.Retention.{Retention}
use Rattle.model.specs.declared.delta_snapshot.Retention.TheVariants.{Unbounded, IdleBlocks}
use Rattle.model.specs.Slots.{Value, LastUse, slot_eqb}
use Rattle.model.specs.Contents.{last_use_of, value_of, or_else, max_option, content_ok, top_content_ok, use_of, has_value}
use Rattle.model.specs.Layers.{LayerOf, Record, Layer, held_value, freshest_use}
use Rattle.image.specs.WellFormed.{every, rising}
use Rattle.order.specs.Index.{no_record}

-- The records of a slot, in their order: the lowest layer's first.
unfoldable pub group : {A : Type 0} → Slot → LayerOf A → LayerOf A
group s [] = []
group s (r ∷ rs) = cond (slot_eqb r.slot s) (r ∷ group s rs) (group s rs)

-- The newest value of some records of one slot, and their freshest use.
unfoldable pub newest_value : Layer → Option Value
newest_value [] = None
newest_value (r ∷ g) = or_else (newest_value g) (value_of (Some r.content))

unfoldable pub freshest : Layer → Option LastUse
freshest [] = None
freshest (r ∷ g) = max_option (freshest g) (last_use_of (Some r.content))

-- A record's rules, over the records below it: without a value it has a valued one of its slot below, and in the top the freshest use below serves; no use below is above its own, which does not exceed the installed number.
unfoldable pub rule : Retention → ℕ → Bool → Layer → Record → Bool
rule R now in_top below r =
    content_ok now (newest_value (group r.slot below)) (freshest (group r.slot below)) r.content
    && (not in_top || top_content_ok R now (freshest (group r.slot below)) r.content)

-- The rules of records that stand above others. The top begins at record `top`.
unfoldable pub rules_from : Retention → ℕ → ℕ → Layer → Layer → Bool
rules_from R now top below [] = true
rules_from R now top below (r ∷ rs) = rule R now (leb top (length below)) below r && rules_from R now top (below ++ (r ∷ [])) rs

-- The rules of all records.
unfoldable pub cross_rules : Retention → ℕ → ℕ → Layer → Bool
cross_rules R now top rs = rules_from R now top [] rs

-- What the rules mean for layers -----------------------------------------------------------------------------

-- Every layer rises.
unfoldable pub all_rising : {A : Type 0} → List (LayerOf A) → Bool
all_rising [] = true
all_rising (l ∷ ls) = rising l && all_rising ls

-- Every record of every layer is right over the layers below.
unfoldable pub all_content_ok : ℕ → List Layer → Bool
all_content_ok now [] = true
all_content_ok now (l ∷ ls) = every (λ s c. content_ok now (held_value s ls) (freshest_use s ls) c) l && all_content_ok now ls

-- How a record is held against them --------------------------------------------------------------------------

-- The oldest last use that serves at `now`.
abbrev pub oldest_use : Retention → ℕ → ℕ
oldest_use Unbounded now = 0
oldest_use (IdleBlocks n) now = now - n

-- Whether a record breaks its rules: of the oldest use that serves, the installed number, whether it is in the top and has a value, whether a record of its slot below has one, their freshest use (0 for none), its own use.
abbrev pub broken : ℕ → ℕ → Bool → Bool → Bool → ℕ → ℕ → Bool
broken oldest now in_top has any low u = ltb u low || (ltb now u || (not has && (not any || (in_top && ltb low oldest))))

-- The same of record i of rs, where every record below is right and p says which is the last one of its slot below: one more than its number, or 0 for none.
abbrev pub broken_over : ℕ → ℕ → Bool → Layer → ℕ → ℕ → Bool
broken_over oldest now in_top rs i zero = broken oldest now in_top (has_value (get_or rs i no_record).content) false 0 (use_of (get_or rs i no_record).content)
broken_over oldest now in_top rs i (suc k) = broken oldest now in_top (has_value (get_or rs i no_record).content) true (use_of (get_or rs k no_record).content) (use_of (get_or rs i no_record).content)
