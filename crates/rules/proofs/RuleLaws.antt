-- The walk that holds each record against its rules finds none broken exactly where the rules hold.
use Rattle.std.specs.Prelude.{None, Option, Some, is_some}
use mathlib.Core.Path.{◌≡◌, refl, sym, ap, ap₂, subst, ◌∙◌}
use mathlib.Core.Bool.{Bool, true, false, not, ◌&&◌, ◌||◌, cond, true≢false}
use mathlib.Core.List.{List, [], ◌∷◌, ◌++◌, map}
use Prim.Native.Nat.{ℕ, zero, suc, ◌+◌, ◌*◌, ◌≤◌, ◌<◌, ◌-◌, max}
use native.Mathlib.Omega.{arith}
use lib.Dec.{leb, ltb, eqb}
use lib.ListN.{length, take, drop, get_or, length-map, get_or-map}
use lib.Seq.{take-suc, drop-cons, drop-length, length-take-le}
use borrow.Author.Tests.{eqb-true, eq-eqb, ltb-true, ltb-false, le-leb, lt-leb, le-ltb, not-true}
use Rattle.layout.specs.Layout.{record_size, record_width}
use Rattle.model.specs.declared.delta_snapshot.Slot.{Slot}
use Rattle.model.specs.declared.delta_snapshot.Retention.{Retention}
use Rattle.model.specs.declared.delta_snapshot.Retention.TheVariants.{Unbounded, IdleBlocks}
use Rattle.model.specs.Slots.{Value, LastUse, slot_words, slot_eqb, serves}
use Rattle.model.specs.declared.delta_snapshot.Content.{Content}
use Rattle.model.specs.Contents.{last_use_of, own_value, at_most, content_ok, use_serves, top_content_ok, use_of, has_value}
use Rattle.model.specs.Layers.{Record, Layer}
use Rattle.model.proofs.SlotLaws.{split, and_left, and_right, or_right}
use Rattle.image.specs.Area.{records_of}
use Rattle.model.proofs.WordLaws.{Fit}
use Rattle.order.specs.Index.{number_of, slot_number, numbers, no_record, pick, up_from, Ordered, words_number}
use Rattle.order.proofs.IndexLaws.{up_more, pick_append}
use Rattle.order.proofs.NumberLaws.{slot_eqb_number}
use Rattle.order.proofs.RecordLaws.{Bytes, length_records_of, record_at, fit_slot_at}
use Rattle.image.specs.Image.{words_of, read_record}
use Rattle.order.specs.Index.{slot_at}
use Rattle.rules.specs.Rules.{group, newest_value, freshest, rule, rules_from, cross_rules, oldest_use, broken}
use Rattle.order.proofs.CountLaws.{mem, count, count_none, count_zero}
use Rattle.order.proofs.WalkLaws.{along, walk, walk_says}
use Rattle.rules.proofs.GroupLaws.{or_comm, or_zero, or_zero_max, is_some_or_else, newest_snoc, freshest_snoc, use_of_valued, group_more}

-- One record ------------------------------------------------------------------------------------------------------

leb_not : (a b : ℕ) → leb a b ≡ not (ltb b a)
leb_not a b = split (ltb b a) (λ e. lt-leb a b (ltb-true b a e) ∙ sym (rw e)) (λ e. le-leb a b (ltb-false b a e) ∙ sym (rw e))

-- A use serves exactly if it is not older than the oldest that does.
pub serves_oldest : (R : Retention) (u now : ℕ) → serves R u now ≡ not (ltb u (oldest_use R now))
serves_oldest Unbounded u now = sym (ap not (le-ltb u 0 (omega arith)))
serves_oldest (IdleBlocks n) u now =
    split (ltb u (now - n))
    (λ e. lt-leb (now - u) n (omega (arith, ltb-true u (now - n) e)) ∙ sym (rw e))
    (λ e. le-leb (now - u) n (omega (arith, ltb-false u (now - n) e)) ∙ sym (rw e))

-- Two tests of use, and a third in the top.
three : (a b t c : Bool) → (not a && not b && (not t || not c)) ≡ not (a || (b || (t && c)))
three true b t c = refl
three false true t c = refl
three false false true c = refl
three false false false c = refl

two : (a b t : Bool) → (not a && not b && (not t || true)) ≡ not (a || (b || false))
two true b t = refl
two false true t = refl
two false false true = refl
two false false false = refl

none_valued : (a b : Bool) → false ≡ not (a || (b || true))
none_valued true b = refl
none_valued false true = refl
none_valued false false = refl

-- The rules of a content over records of its slot with held value h and freshest use f, and the test that is made.
pub content_broken : (R : Retention) (now : ℕ) (t : Bool) (c : Content) (h : Option Value) (f : Option LastUse) → (is_some h ≡ true → is_some f ≡ true)
    → (content_ok now h f c && (not t || top_content_ok R now f c)) ≡ not (broken (oldest_use R now) now t (has_value c) (is_some h) (or_zero f) (use_of c))
content_broken R now t c h f q = go (has_value c) (use_of c) h f q
  where
    go : (has : Bool) (u : LastUse) (h : Option Value) (f : Option LastUse) → (is_some h ≡ true → is_some f ≡ true)
        → ((has || is_some h) && (at_most f u && leb u now) && (not t || (has || use_serves R now f))) ≡ not (broken (oldest_use R now) now t has (is_some h) (or_zero f) u)
    go false u None f q = none_valued (ltb u (or_zero f)) (ltb now u)
    go false u (Some v) None q = absurd (true≢false (sym (q refl)))
    go false u (Some v) (Some w) q = rw (leb_not w u, leb_not u now, serves_oldest R w now) (three (ltb u w) (ltb now u) t (ltb w (oldest_use R now)))
    go true u h None q = rw (leb_not u now, le-ltb u 0 (omega arith)) (two false (ltb now u) t)
    go true u h (Some w) q = rw (leb_not w u, leb_not u now) (two (ltb u w) (ltb now u) t)

-- What is known of a slot's records ---------------------------------------------------------------------------------

-- Of the records met of a slot: whether one has a value, the largest use, whether one broke its rules.
pub record Met : Type 0 where
  pub any : Bool
  pub low : ℕ
  pub bad : Bool

abbrev pub unmet : Met
unmet = record { any = false; low = 0; bad = false }

abbrev pub meet : ℕ → ℕ → Bool → Met → Content → Met
meet o now t m c = record { any = m.any || has_value c; low = max m.low (use_of c); bad = m.bad || broken o now t (has_value c) m.any m.low (use_of c) }

abbrev pub meets : ℕ → ℕ → ℕ → Layer → Met → ℕ → Met
meets o now top rs m i = meet o now (leb top i) m (get_or rs i no_record).content

-- What is known of slot v after the first k records.
abbrev after : ℕ → ℕ → ℕ → Layer → ℕ → ℕ → Met
after o now top rs v k = along (meets o now top rs) unmet (pick (map number_of rs) v (up_from 0 k))

-- It is what the slot's records say.
record Knows (m : Met) (g : Layer) : Type 0 where
  any_is : m.any ≡ is_some (newest_value g)
  low_is : m.low ≡ or_zero (freshest g)

knows_more : (o now : ℕ) (t : Bool) (m : Met) (g : Layer) (r : Record) → Knows m g → Knows (meet o now t m r.content) (g ++ (r ∷ []))
knows_more o now t m g r k = record {
  any_is = ap (λ (a : Bool). a || has_value r.content) k.any_is ∙ or_comm (is_some (newest_value g)) (has_value r.content) ∙ sym (is_some_or_else (own_value r.content) (newest_value g)) ∙ ap is_some (sym (newest_snoc g r));
  low_is = omega (arith, k.low_is, or_zero_max (last_use_of (Some r.content)) (freshest g)) ∙ ap or_zero (sym (freshest_snoc g r));
}

along_append : {A B : Type 0} (f : A → B → A) (a : A) (xs ys : List B) → along f a (xs ++ ys) ≡ along f (along f a xs) ys
unfolding along
along_append f a [] ys = refl
along_append f a (x ∷ xs) ys = along_append f (f a x) xs ys

along_pick : {A : Type 0} (f : A → ℕ → A) (a : A) (ss : List ℕ) (v k : ℕ) (b : Bool) → eqb (get_or ss k 0) v ≡ b → along f a (pick ss v (k ∷ [])) ≡ cond b (f a k) a
unfolding along pick
along_pick f a ss v k true e = rw e
along_pick f a ss v k false e = rw e

mem_at : (ss : List ℕ) (k : ℕ) → k < length ss → mem (get_or ss k 0) ss ≡ true
unfolding mem
mem_at [] k h = absurd (omega arith)
mem_at (x ∷ ss) zero h = rw (eq-eqb x x refl)
mem_at (x ∷ ss) (suc k) h = or_right (eqb x (get_or ss k 0)) (mem (get_or ss k 0) ss) (mem_at ss k (omega arith))

-- The rules from record k on: its own, and those from the next on.
pub rules_step : (R : Retention) (now top : ℕ) (rs : Layer) (k : ℕ) → k < length rs
    → rules_from R now top (take k rs) (drop k rs) ≡ (rule R now (leb top k) (take k rs) (get_or rs k no_record) && rules_from R now top (take (suc k) rs) (drop (suc k) rs))
unfolding rules_from
rules_step R now top rs k h =
    let r : Record = get_or rs k no_record in
    let e : length (take k rs) ≡ k = length-take-le k rs (omega arith) in
    ap (rules_from R now top (take k rs)) (drop-cons rs k no_record h)
    ∙ ap₂ (λ (i : ℕ) (l : Layer). rule R now (leb top i) (take k rs) r && rules_from R now top l (drop (suc k) rs)) e (sym (take-suc rs k no_record h))

-- All records ---------------------------------------------------------------------------------------------------------

module _ (R : Retention) (now top : ℕ) (rs : Layer) (fit : (k : ℕ) → k < length rs → Fit (slot_words (get_or rs k no_record).slot)) where
  number_is : (k : ℕ) → get_or (map number_of rs) k 0 ≡ number_of (get_or rs k no_record)
  unfolding slot_number words_number
  number_is k = get_or-map number_of rs k no_record

  -- one record more
  after_more : (v k : ℕ) (b : Bool) → eqb (get_or (map number_of rs) k 0) v ≡ b
      → after (oldest_use R now) now top rs v (suc k) ≡ cond b (meets (oldest_use R now) now top rs (after (oldest_use R now) now top rs v k) k) (after (oldest_use R now) now top rs v k)
  after_more v k b e =
      let ss : List ℕ = map number_of rs in
      let f : Met → ℕ → Met = meets (oldest_use R now) now top rs in
      let z : 0 + k ≡ k = omega arith in
      let p : up_from 0 (suc k) ≡ up_from 0 k ++ (k ∷ []) = up_more 0 k ∙ ap (λ (i : ℕ). up_from 0 k ++ (i ∷ [])) z in
      ap (λ (l : List ℕ). along f unmet (pick ss v l)) p
      ∙ ap (along f unmet) (pick_append ss v (up_from 0 k) (k ∷ []))
      ∙ along_append f unmet (pick ss v (up_from 0 k)) (pick ss v (k ∷ []))
      ∙ along_pick f (along f unmet (pick ss v (up_from 0 k))) ss v k b e

  knows : (s : Slot) → Fit (slot_words s) → (k : ℕ) → k ≤ length rs → Knows (after (oldest_use R now) now top rs (slot_number s) k) (group s (take k rs))
  unfolding along pick up_from group newest_value freshest
  knows s fs zero h = record { any_is = refl; low_is = refl }
  knows s fs (suc k) h =
      let r : Record = get_or rs k no_record in
      let v : ℕ = slot_number s in
      let o : ℕ = oldest_use R now in
      let l : k < length rs = omega arith in
      let ih : Knows (after o now top rs v k) (group s (take k rs)) = knows s fs k (omega arith) in
      let q : eqb (get_or (map number_of rs) k 0) v ≡ slot_eqb r.slot s = ap (λ (x : ℕ). eqb x v) (number_is k) ∙ sym (slot_eqb_number r.slot s (fit k l) fs) in
      split (slot_eqb r.slot s)
      (λ e. subst (λ (m : Met). Knows m (group s (take (suc k) rs))) (sym (after_more v k true (q ∙ e)))
      (subst (λ (g : Layer). Knows (meets o now top rs (after o now top rs v k) k) g) (sym (group_more rs s k l true e)) (knows_more o now (leb top k) (after o now top rs v k) (group s (take k rs)) r ih)))
      (λ e. subst (λ (m : Met). Knows m (group s (take (suc k) rs))) (sym (after_more v k false (q ∙ e)))
      (subst (λ (g : Layer). Knows (after o now top rs v k) g) (sym (group_more rs s k l false e)) ih))

  -- whether record k breaks its rules, by what is known of its slot before it
  breaks_at : ℕ → Bool
  breaks_at k =
      let m : Met = after (oldest_use R now) now top rs (number_of (get_or rs k no_record)) k in
      broken (oldest_use R now) now (leb top k) (has_value (get_or rs k no_record).content) m.any m.low (use_of (get_or rs k no_record).content)

  rule_at : (k : ℕ) → k < length rs → rule R now (leb top k) (take k rs) (get_or rs k no_record) ≡ not (breaks_at k)
  unfolding rule breaks_at along
  rule_at k h =
      let r : Record = get_or rs k no_record in
      let g : Layer = group r.slot (take k rs) in
      let n : Knows (after (oldest_use R now) now top rs (number_of r) k) g = knows r.slot (fit k h) k (omega arith) in
      content_broken R now (leb top k) r.content (newest_value g) (freshest g) (use_of_valued g)
      ∙ ap₂ (λ (a : Bool) (l : ℕ). not (broken (oldest_use R now) now (leb top k) (has_value r.content) a l (use_of r.content))) (sym n.any_is) (sym n.low_is)

  -- the rules from record k on
  rules_at : ℕ → Bool
  rules_at k = rules_from R now top (take k rs) (drop k rs)

  rules_more : (k : ℕ) → k < length rs → rules_at k ≡ (not (breaks_at k) && rules_at (suc k))
  unfolding rules_at
  rules_more k h = rules_step R now top rs k h ∙ ap (λ (b : Bool). b && rules_at (suc k)) (rule_at k h)

  -- rules that hold leave no slot bad
  none_bad : (j k : ℕ) → k + j ≡ length rs → rules_at k ≡ true → ((v : ℕ) → (after (oldest_use R now) now top rs v k).bad ≡ false)
      → (v : ℕ) → (after (oldest_use R now) now top rs v (length rs)).bad ≡ false
  unfolding breaks_at
  none_bad zero k h e f v = let z : k ≡ length rs = omega arith in rw (← z) (f v)
  none_bad (suc j) k h e f v =
      let o : ℕ = oldest_use R now in
      let l : k < length rs = omega arith in
      let d : (not (breaks_at k) && rules_at (suc k)) ≡ true = sym (rules_more k l) ∙ e in
      let q : breaks_at k ≡ false = not-true (breaks_at k) (and_left (not (breaks_at k)) (rules_at (suc k)) d) in
      let step : (w : ℕ) → (after o now top rs w (suc k)).bad ≡ false = λ w. split (eqb (get_or (map number_of rs) k 0) w)
      (λ y. let n : number_of (get_or rs k no_record) ≡ w = sym (number_is k) ∙ eqb-true (get_or (map number_of rs) k 0) w y in
      ap (λ (m : Met). m.bad) (after_more w k true y) ∙ rw (← n) (ap₂ (λ (a b : Bool). a || b) (f (number_of (get_or rs k no_record))) q))
      (λ y. ap (λ (m : Met). m.bad) (after_more w k false y) ∙ f w) in
      none_bad j (suc k) (omega arith) (and_right (not (breaks_at k)) (rules_at (suc k)) d) step v

  bad_stays : (v k j : ℕ) → (after (oldest_use R now) now top rs v k).bad ≡ true → (after (oldest_use R now) now top rs v (k + j)).bad ≡ true
  bad_stays v k zero e = let z : k + 0 ≡ k = omega arith in rw z e
  bad_stays v k (suc j) e =
      let o : ℕ = oldest_use R now in
      let z : k + suc j ≡ suc (k + j) = omega arith in
      let ih : (after o now top rs v (k + j)).bad ≡ true = bad_stays v k j e in
      ap (λ (i : ℕ). (after o now top rs v i).bad) z
      ∙ split (eqb (get_or (map number_of rs) (k + j) 0) v)
      (λ y. ap (λ (m : Met). m.bad) (after_more v (k + j) true y) ∙ rw ih)
      (λ y. ap (λ (m : Met). m.bad) (after_more v (k + j) false y) ∙ ih)

  -- where no record's slot is bad, the rules hold
  all_ruled : (j k : ℕ) → k + j ≡ length rs → ((i : ℕ) → i < length rs → (after (oldest_use R now) now top rs (number_of (get_or rs i no_record)) (length rs)).bad ≡ false) → rules_at k ≡ true
  unfolding rules_from rules_at breaks_at
  all_ruled zero k h f =
      let z : k ≡ length rs = omega arith in
      ap rules_at z ∙ ap (rules_from R now top (take (length rs) rs)) (drop-length rs)
  all_ruled (suc j) k h f =
      let o : ℕ = oldest_use R now in
      let v : ℕ = number_of (get_or rs k no_record) in
      let l : k < length rs = omega arith in
      let z : suc k + j ≡ length rs = omega arith in
      let q : breaks_at k ≡ false = split (breaks_at k)
      (λ d. let g : (after o now top rs v (suc k)).bad ≡ true = ap (λ (m : Met). m.bad) (after_more v k true (eq-eqb (get_or (map number_of rs) k 0) v (number_is k))) ∙ or_right (after o now top rs v k).bad (breaks_at k) d in
      absurd (true≢false (sym (rw z at (bad_stays v (suc k) j g)) ∙ f k l)))
      (λ d. d) in
      rules_more k l ∙ ap₂ (λ (a b : Bool). not a && b) q (all_ruled j (suc k) z f)

  none_yet : (v : ℕ) → (after (oldest_use R now) now top rs v 0).bad ≡ false
  unfolding along pick up_from
  none_yet v = refl

  rules_count : eqb (count (λ v. (after (oldest_use R now) now top rs v (length rs)).bad) (map number_of rs)) 0 ≡ cross_rules R now top rs
  unfolding cross_rules rules_at
  rules_count =
      let ss : List ℕ = map number_of rs in
      let p : ℕ → Bool = λ v. (after (oldest_use R now) now top rs v (length rs)).bad in
      let m : length ss ≡ length rs = length-map rs number_of in
      split (rules_at 0)
      (λ e. ap (λ (k : ℕ). eqb k 0) (count_none p ss (λ v y. true≢false (sym y ∙ none_bad (length rs) 0 (omega arith) e none_yet v))) ∙ sym e)
      (λ e. split (eqb (count p ss) 0)
      (λ d. let z : count p ss ≡ 0 = eqb-true (count p ss) 0 d in
      let f : (i : ℕ) → i < length rs → p (number_of (get_or rs i no_record)) ≡ false = λ i h. count_zero p ss z (number_of (get_or rs i no_record)) (rw (← number_is i) (mem_at ss i (omega arith))) in
      absurd (true≢false (sym (all_ruled (length rs) 0 (omega arith) f) ∙ e)))
      (λ d. d ∙ sym e))

pub fit_record : (k : ℕ) (s : List ℕ) → Bytes s → k * record_size + record_size ≤ length s → Fit (slot_words (read_record (words_of record_width (drop (k * record_size) s))).slot)
unfolding slot_at
fit_record k s b h = fit_slot_at k s b h

-- The walk over an index of the records that bytes begin with.
pub rules_say : (R : Retention) (now top n : ℕ) (s ix : List ℕ) → Bytes s → n * record_size ≤ length s → Ordered (numbers n s) (up_from 0 n) ix
    → eqb (walk (meets (oldest_use R now) now top (records_of n s)) unmet (λ m. m.bad) (numbers n s) unmet ix) 0 ≡ cross_rules R now top (records_of n s)
unfolding numbers
rules_say R now top n s ix b h o =
    let rs : Layer = records_of n s in
    let ss : List ℕ = map number_of rs in
    let f : Met → ℕ → Met = meets (oldest_use R now) now top rs in
    let l : length rs ≡ n = length_records_of n s in
    let m : length ss ≡ length rs = length-map rs number_of in
    ap (λ (k : ℕ). eqb k 0) (walk_says f unmet (λ m. m.bad) ss ix (subst (λ (k : ℕ). Ordered ss (up_from 0 k) ix) (sym (m ∙ l)) o)
    ∙ ap (λ (k : ℕ). count (λ v. (along f unmet (pick ss v (up_from 0 k))).bad) ss) m)
    ∙ rules_count R now top rs (λ k g. let i : k < n = omega arith in rw (record_at n k s i) (fit_record k s b (omega arith)))
