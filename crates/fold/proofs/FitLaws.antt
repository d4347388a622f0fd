-- What the fold writes reads back: its layer's words are below 2^64. It has no more records than there were.
use Rattle.std.specs.Prelude.{None, Option, Some}
use mathlib.Core.Path.{◌≡◌, refl, ap}
use mathlib.Core.List.{List, [], ◌∷◌, ◌++◌}
use Prim.Native.Nat.{ℕ, suc, ◌*◌, ◌^◌, ◌≤◌, ◌<◌, max}
use native.Mathlib.Omega.{arith}
use lib.ListN.{length}
use Rattle.layout.specs.Layout.{record_size}
use Rattle.model.specs.declared.delta_snapshot.Slot.{Slot}
use Rattle.model.specs.declared.delta_snapshot.Retention.{Retention}
use Rattle.model.specs.Slots.{Value, LastUse, slot_words, u256_words, slot_eqb, slot_ltb, serves}
use Rattle.model.specs.declared.delta_snapshot.Content.{Content}
use Rattle.model.specs.Contents.{valued, use_of, own_value, last_use_of, value_of, or_else, max_option, content_words}
use Rattle.model.specs.Layers.{Record, Layer, insert, slots}
use Rattle.model.specs.Advance.{compact_slot}
use Rattle.model.specs.Numbers.{Bytes}
use Rattle.model.proofs.SlotLaws.{split}
use Rattle.image.specs.Image.{record_words, all_record_words}
use Rattle.image.specs.Area.{records_of, with_records}
use Rattle.model.proofs.WordLaws.{Fit, fit_nil, fit_cons, fit_append, fit_left}
use Rattle.model.proofs.ContentLaws.{use_fits, own_value_fits, fit_valued}
use Rattle.records.proofs.Again.{fit_read, fit_insert, records_back}
use Rattle.rules.specs.Rules.{group, newest_value, freshest}
use Rattle.counts.proofs.SlotCounts.{AllFit, fit_none, fit_more}
use Rattle.fold.specs.Fold.{folded_slots, folded}

fit_right : (xs ys : List ℕ) → Fit (xs ++ ys) → Fit ys
fit_right [] ys f = f
fit_right (x ∷ xs) ys (fit_cons h f) = fit_right xs ys f

-- Records that fit, a use and a value that do.
data RecordsFit : Layer → Type 0 where
  no_records : RecordsFit []
  and_record : {r : Record} {l : Layer} → Fit (record_words r) → RecordsFit l → RecordsFit (r ∷ l)

data UseFits : Option LastUse → Type 0 where
  no_use : UseFits None
  with_use : {u : LastUse} → u < 2 ^ 64 → UseFits (Some u)

data ValueFits : Option Value → Type 0 where
  no_value : ValueFits None
  with_value : {v : Value} → Fit (u256_words v) → ValueFits (Some v)

each_fits : (l : Layer) → Fit (all_record_words l) → RecordsFit l
unfolding all_record_words
each_fits [] f = no_records
each_fits (r ∷ l) f = and_record (fit_left (record_words r) (all_record_words l) f) (each_fits l (fit_right (record_words r) (all_record_words l) f))

slots_fit : {l : Layer} → RecordsFit l → AllFit (slots l)
unfolding slots
slots_fit no_records = fit_none
slots_fit (and_record {r = r} p f) = fit_more (fit_left (slot_words r.slot) (content_words r.content) p) (slots_fit f)

group_fits : (s : Slot) (l : Layer) → RecordsFit l → RecordsFit (group s l)
unfolding group
group_fits s [] f = no_records
group_fits s (r ∷ l) (and_record p f) = split (slot_eqb r.slot s) (λ e. rw e (and_record p (group_fits s l f))) (λ e. rw e (group_fits s l f))

use_more : (c : Content) {o : Option LastUse} → Fit (content_words c) → UseFits o → UseFits (max_option o (last_use_of (Some c)))
use_more c f no_use = with_use (use_fits c f)
use_more c f (with_use {u = w} k) = with_use {u = max w (use_of c)} (omega (arith, use_fits c f))

value_more : (c : Content) {o : Option Value} → Fit (content_words c) → ValueFits o → ValueFits (or_else o (value_of (Some c)))
value_more c f (with_value k) = with_value k
value_more c f no_value = go (own_value c) refl
  where
    go : (o : Option Value) → own_value c ≡ o → ValueFits o
    go None q = no_value
    go (Some v) q = with_value (own_value_fits c v q f)

freshest_fits : {g : Layer} → RecordsFit g → UseFits (freshest g)
unfolding freshest
freshest_fits no_records = no_use
freshest_fits (and_record {r = r} p f) = use_more r.content (fit_right (slot_words r.slot) (content_words r.content) p) (freshest_fits f)

newest_fits : {g : Layer} → RecordsFit g → ValueFits (newest_value g)
unfolding newest_value
newest_fits no_records = no_value
newest_fits (and_record {r = r} p f) = value_more r.content (fit_right (slot_words r.slot) (content_words r.content) p) (newest_fits f)

module _ (R : Retention) (now : ℕ) where
  slot_fit : (s : Slot) (l : Layer) {f : Option LastUse} {h : Option Value} → Fit (slot_words s) → UseFits f → ValueFits h → Fit (all_record_words l) → Fit (all_record_words (compact_slot R now s f h l))
  slot_fit s l p no_use b k = k
  slot_fit s l p (with_use a) no_value k = k
  slot_fit s l p (with_use {u = u} a) (with_value {v = v} b) k =
      split (serves R u now)
      (λ e. rw e (fit_insert s (valued u v) l (fit_append p (fit_valued u v a b)) k))
      (λ e. rw e k)

  slots_folded_fit : (rs : Layer) (ss : List Slot) → RecordsFit rs → AllFit ss → Fit (all_record_words (folded_slots R now rs ss))
  unfolding folded_slots all_record_words
  slots_folded_fit rs [] f a = fit_nil
  slots_folded_fit rs (s ∷ ss) f (fit_more p a) =
      slot_fit s (folded_slots R now rs ss) p (freshest_fits (group_fits s rs f)) (newest_fits (group_fits s rs f)) (slots_folded_fit rs ss f a)

  pub folded_fit : (rs : Layer) → Fit (all_record_words rs) → Fit (all_record_words (folded R now rs))
  unfolding folded
  folded_fit rs f = let g : RecordsFit rs = each_fits rs f in slots_folded_fit rs (slots rs) g (slots_fit g)

  -- The records written are the fold's layer.
  pub folded_back : (n : ℕ) (s out : List ℕ) → Bytes s → n * record_size ≤ length s
      → records_of (length (folded R now (records_of n s))) (with_records (folded R now (records_of n s)) out) ≡ folded R now (records_of n s)
  folded_back n s out b h = records_back (folded R now (records_of n s)) out (folded_fit (records_of n s) (fit_read n s b h))

-- How many there are -------------------------------------------------------------------------------------------------------

insert_short : (s : Slot) (c : Content) (l : Layer) → length (insert s c l) ≤ suc (length l)
unfolding insert
insert_short s c [] = omega arith
insert_short s c (r ∷ l) =
    split (slot_eqb r.slot s)
    (λ e. rw e (omega arith))
    (λ e. rw e (split (slot_ltb s r.slot) (λ f. rw f (omega arith)) (λ f. rw f (let h : length (insert s c l) ≤ suc (length l) = insert_short s c l in omega arith))))

slot_short : (R : Retention) (now : ℕ) (s : Slot) (f : Option LastUse) (h : Option Value) (l : Layer) → length (compact_slot R now s f h l) ≤ suc (length l)
slot_short R now s None h l = omega arith
slot_short R now s (Some u) None l = omega arith
slot_short R now s (Some u) (Some v) l = split (serves R u now) (λ e. rw e (insert_short s (valued u v) l)) (λ e. rw e (omega arith))

slots_short : (R : Retention) (now : ℕ) (rs : Layer) (ss : List Slot) → length (folded_slots R now rs ss) ≤ length ss
unfolding folded_slots
slots_short R now rs [] = omega arith
slots_short R now rs (s ∷ ss) =
    let a : length (folded_slots R now rs ss) ≤ length ss = slots_short R now rs ss in
    let b : length (compact_slot R now s (freshest (group s rs)) (newest_value (group s rs)) (folded_slots R now rs ss)) ≤ suc (length (folded_slots R now rs ss)) = slot_short R now s (freshest (group s rs)) (newest_value (group s rs)) (folded_slots R now rs ss) in
    omega arith

length_slots : (rs : Layer) → length (slots rs) ≡ length rs
unfolding slots
length_slots [] = refl
length_slots (r ∷ rs) = ap suc (length_slots rs)

pub folded_short : (R : Retention) (now : ℕ) (rs : Layer) → length (folded R now rs) ≤ length rs
unfolding folded
folded_short R now rs = omega (arith, slots_short R now rs (slots rs), length_slots rs)
