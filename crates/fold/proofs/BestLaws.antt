-- What the fold's walk gathers of a slot, and what it gives of it.
use Rattle.std.specs.Prelude.{None, Option, Some, is_some}
use mathlib.Core.Path.{◌≡◌, refl, sym, ap, ap₂, ◌∙◌}
use mathlib.Core.Bool.{Bool, true, false, not, ◌||◌, cond, true≢false}
use mathlib.Core.List.{[], ◌∷◌}
use Prim.Native.Nat.{ℕ, max}
use native.Mathlib.Omega.{arith}
use lib.Dec.{ltb}
use lib.ListN.{get_or}
use Rattle.model.specs.declared.delta_snapshot.Slot.{Slot}
use Rattle.model.specs.declared.delta_snapshot.Retention.{Retention}
use Rattle.model.specs.Slots.{Value, LastUse, slot_eqb, mem, serves}
use Rattle.model.specs.declared.delta_snapshot.Content.{Content}
use Rattle.model.specs.Contents.{or_else, value_of, use_of, own_value, has_value}
use Rattle.model.specs.Layers.{Record, Layer, insert, slots}
use Rattle.model.specs.Advance.{compact_slot, lapsed}
use Rattle.model.proofs.SlotLaws.{split, not_both, slot_eqb_true}
use Rattle.model.proofs.ContentLaws.{touch_valued}
use Rattle.order.specs.Index.{no_record}
use Rattle.rules.specs.Rules.{group, newest_value, freshest, oldest_use}
use Rattle.order.proofs.WalkLaws.{along}
use Rattle.rules.proofs.GroupLaws.{or_else_assoc, or_else_none, is_some_max, or_zero, use_of_valued, along_any, along_low}
use Rattle.rules.proofs.RuleLaws.{serves_oldest}
use Rattle.counts.proofs.CountLaws.{served}
use Rattle.fold.specs.Stored.{kept}

-- Of the records met of a slot: whether one has a value, the largest use, and the newest with a value.
pub record Best : Type 0 where
  pub any : Bool
  pub low : ℕ
  pub best : Record

abbrev pub begin : Layer → Best
begin rs = record { any = false; low = 0; best = get_or rs 0 no_record }

abbrev pub better : Best → Record → Best
better a r = record { any = a.any || has_value r.content; low = max a.low (use_of r.content); best = cond (has_value r.content) r a.best }

abbrev pub betters : Layer → Best → ℕ → Best
betters rs a i = better a (get_or rs i no_record)

-- What the walk gives of a slot, of the oldest use that serves; and whether the slot is dropped.
abbrev pub gives : ℕ → Best → Layer
gives least a = kept (served least a.any a.low) a.low a.best

abbrev pub drops : ℕ → Best → Bool
drops least a = ltb a.low least

best_any : (a : Best) (g : Layer) → (along better a g).any ≡ (a.any || is_some (newest_value g))
best_any = along_any better (λ a. a.any) (λ a r. refl)

best_low : (a : Best) (g : Layer) → (along better a g).low ≡ max a.low (or_zero (freshest g))
best_low = along_low better (λ a. a.low) (λ a r. refl)

-- A record is of the slot and has the value, if there is one.
data Has (s : Slot) (r : Record) : Option Value → Type 0 where
  no_value : Has s r None
  value : {v : Value} → r.slot ≡ s → own_value r.content ≡ Some v → Has s r (Some v)

has_more : (s : Slot) (r b : Record) (h : Option Value) → r.slot ≡ s → Has s b h → Has s (cond (has_value r.content) r b) (or_else (own_value r.content) h)
has_more s r b h e k = go (own_value r.content) refl
  where
    go : (o : Option Value) → own_value r.content ≡ o → Has s (cond (is_some o) r b) (or_else o h)
    go None q = k
    go (Some v) q = value e q

best_has : (s : Slot) (rs : Layer) (a : Best) (h : Option Value) → Has s a.best h → Has s (along better a (group s rs)).best (or_else (newest_value (group s rs)) h)
unfolding along group newest_value
best_has s [] a h k = k
best_has s (r ∷ rs) a h k =
    split (slot_eqb r.slot s)
    (λ e. rw (e, or_else_assoc (newest_value (group s rs)) (value_of (Some r.content)) h)
    (best_has s rs (better a r) (or_else (value_of (Some r.content)) h) (has_more s r a.best h (slot_eqb_true r.slot s e) k)))
    (λ e. rw e (best_has s rs a h k))

-- One slot: what is given is what a fold leaves of it.
kept_is : (R : Retention) (now : ℕ) (s : Slot) (r : Record) (f : Option LastUse) {h : Option Value} → (is_some h ≡ true → is_some f ≡ true) → Has s r h
    → kept (served (oldest_use R now) (is_some h) (or_zero f)) (or_zero f) r ≡ compact_slot R now s f h []
unfolding insert
kept_is R now s r None q no_value = refl
kept_is R now s r None q (value e g) = absurd (true≢false (sym (q refl)))
kept_is R now s r (Some w) q no_value = refl
kept_is R now s r (Some w) q (value {v = v} e g) =
    ap (λ (b : Bool). kept b w r) (sym (serves_oldest R w now))
    ∙ ap₂ (λ (t : Slot) (c : Content). cond (serves R w now) (record { slot = t; content = c } ∷ []) []) e (touch_valued w r.content v g)

pub gives_is : (R : Retention) (now : ℕ) (rs : Layer) (s : Slot) → gives (oldest_use R now) (along better (begin rs) (group s rs)) ≡ compact_slot R now s (freshest (group s rs)) (newest_value (group s rs)) []
gives_is R now rs s =
    let g : Layer = group s rs in
    let a : Best = along better (begin rs) g in
    let z : max 0 (or_zero (freshest g)) ≡ or_zero (freshest g) = omega arith in
    let k : Has s a.best (newest_value g) = rw (or_else_none (newest_value g)) at (best_has s rs (begin rs) None no_value) in
    ap₂ (λ (x : Bool) (y : ℕ). kept (served (oldest_use R now) x y) y a.best) (best_any (begin rs) g) (best_low (begin rs) g ∙ z)
    ∙ kept_is R now s a.best (freshest g) (use_of_valued g) k

-- A slot with a record has a use.
use_of_member : (s : Slot) (rs : Layer) → mem s (slots rs) ≡ true → is_some (freshest (group s rs)) ≡ true
unfolding mem slots group freshest
use_of_member s [] m = not_both m refl
use_of_member s (r ∷ rs) m = split (slot_eqb r.slot s) (λ e. rw e (is_some_max (freshest (group s rs)) (use_of r.content))) (λ e. rw e (use_of_member s rs (rw e at m)))

not_not : (a : Bool) → a ≡ not (not a)
not_not true = refl
not_not false = refl

lapsed_is : (R : Retention) (now : ℕ) (f : Option LastUse) → is_some f ≡ true → ltb (or_zero f) (oldest_use R now) ≡ lapsed R now f
lapsed_is R now None e = absurd (true≢false (sym e))
lapsed_is R now (Some u) e = not_not (ltb u (oldest_use R now)) ∙ ap not (sym (serves_oldest R u now))

pub drops_is : (R : Retention) (now : ℕ) (rs : Layer) (s : Slot) → mem s (slots rs) ≡ true → drops (oldest_use R now) (along better (begin rs) (group s rs)) ≡ lapsed R now (freshest (group s rs))
drops_is R now rs s m =
    let g : Layer = group s rs in
    let z : max 0 (or_zero (freshest g)) ≡ or_zero (freshest g) = omega arith in
    ap (λ (y : ℕ). ltb y (oldest_use R now)) (best_low (begin rs) g ∙ z) ∙ lapsed_is R now (freshest g) (use_of_member s rs m)
