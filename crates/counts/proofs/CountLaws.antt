-- What the walk gathers of a slot: whether it has a value, and its freshest use.
use Rattle.std.specs.Prelude.{None, Option, Some, is_some}
use mathlib.Core.Path.{◌≡◌, refl, sym, ap₂, ◌∙◌}
use mathlib.Core.Bool.{Bool, true, false, not, ◌&&◌, ◌||◌, true≢false}
use mathlib.Core.List.{List}
use Prim.Native.Nat.{ℕ, ◌*◌, ◌≤◌, max}
use native.Mathlib.Omega.{arith}
use lib.Dec.{ltb}
use lib.ListN.{length, get_or}
use Rattle.layout.specs.Layout.{record_size}
use Rattle.model.specs.declared.delta_snapshot.Retention.{Retention}
use Rattle.model.specs.Slots.{Value, LastUse, serves}
use Rattle.model.specs.Contents.{use_of, has_value}
use Rattle.model.specs.Layers.{Record, Layer, resolved_through_policy}
use Rattle.model.proofs.SlotLaws.{split}
use Rattle.image.specs.Area.{records_of}
use Rattle.order.specs.Index.{numbers, no_record, up_from, Ordered}
use Rattle.order.proofs.RecordLaws.{Bytes}
use Rattle.rules.specs.Rules.{group, newest_value, freshest, oldest_use}
use Rattle.order.proofs.WalkLaws.{along, walk}
use Rattle.rules.proofs.GroupLaws.{or_zero, use_of_valued, along_any, along_low}
use Rattle.rules.proofs.RuleLaws.{serves_oldest}
use Rattle.counts.specs.Counts.{held_in, live_in}
use Rattle.counts.proofs.SlotCounts.{walk_slots}

-- Of the records met of a slot: whether one has a value, and the largest use.
pub record Seen : Type 0 where
  pub any : Bool
  pub low : ℕ

abbrev pub unseen : Seen
unseen = record { any = false; low = 0 }

abbrev pub see : Seen → Record → Seen
see a r = record { any = a.any || has_value r.content; low = max a.low (use_of r.content) }

abbrev pub sees : Layer → Seen → ℕ → Seen
sees rs a i = see a (get_or rs i no_record)

-- It is whether a slot's records have a value, and their freshest use.
seen_any : (a : Seen) (g : Layer) → (along see a g).any ≡ (a.any || is_some (newest_value g))
seen_any = along_any see (λ a. a.any) (λ a r. refl)

seen_low : (a : Seen) (g : Layer) → (along see a g).low ≡ max a.low (or_zero (freshest g))
seen_low = along_low see (λ a. a.low) (λ a r. refl)

-- Whether a slot is served: of the oldest use that serves, whether it has a value, and its freshest use.
abbrev pub served : ℕ → Bool → ℕ → Bool
served least any low = any && not (ltb low least)

pub served_is : (R : Retention) (now : ℕ) (f : Option LastUse) (h : Option Value) → (is_some h ≡ true → is_some f ≡ true) → served (oldest_use R now) (is_some h) (or_zero f) ≡ is_some (resolved_through_policy R now f h)
served_is R now None None q = refl
served_is R now None (Some v) q = absurd (true≢false (sym (q refl)))
served_is R now (Some u) None q = split (serves R u now) (λ e. rw e) (λ e. rw e)
served_is R now (Some u) (Some v) q = sym (serves_oldest R u now) ∙ split (serves R u now) (λ e. rw e) (λ e. rw e)

-- The two walks.
module _ (n : ℕ) (s ix : List ℕ) (b : Bytes s) (h : n * record_size ≤ length s) (o : Ordered (numbers n s) (up_from 0 n) ix) where
  pub held_say : walk (sees (records_of n s)) unseen (λ a. a.any) (numbers n s) unseen ix ≡ held_in (records_of n s)
  unfolding held_in
  held_say =
      let rs : Layer = records_of n s in
      walk_slots see unseen (λ a. a.any) (λ u. is_some (newest_value (group u rs))) n s ix b h o (λ u m. seen_any unseen (group u rs))

  pub live_say : (R : Retention) (now : ℕ) → walk (sees (records_of n s)) unseen (λ a. served (oldest_use R now) a.any a.low) (numbers n s) unseen ix ≡ live_in R now (records_of n s)
  unfolding live_in
  live_say R now =
      let rs : Layer = records_of n s in
      let w : ℕ = oldest_use R now in
      walk_slots see unseen (λ a. served w a.any a.low) (λ u. is_some (resolved_through_policy R now (freshest (group u rs)) (newest_value (group u rs)))) n s ix b h o
      (λ u m. let g : Layer = group u rs in
      let z : max 0 (or_zero (freshest g)) ≡ or_zero (freshest g) = omega arith in
      ap₂ (λ (x : Bool) (y : ℕ). served w x y) (seen_any unseen g) (seen_low unseen g ∙ z) ∙ served_is R now (freshest g) (newest_value g) (use_of_valued g))
