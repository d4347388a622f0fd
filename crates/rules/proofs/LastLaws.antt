-- A record's rules by the last record of its slot below: where that one is right, its use is the freshest, and there is a value.
use Rattle.std.specs.Prelude.{None, Option, Some, is_some}
use mathlib.Core.Path.{◌≡◌, refl, sym, ap, ap₂, subst, ◌∙◌}
use mathlib.Core.Bool.{Bool, true, false, not, ◌&&◌, ◌||◌}
use mathlib.Core.List.{List, [], ◌∷◌, ◌++◌}
use Prim.Native.Nat.{ℕ, zero, suc, ◌+◌, ◌-◌, ◌≤◌, ◌<◌}
use native.Mathlib.Omega.{arith}
use lib.Dec.{leb, eqb}
use lib.ListN.{length, take, drop, get_or}
use lib.Seq.{drop-length}
use borrow.Author.Tests.{leb-true, eqb-true, eqb-false}
use Rattle.model.specs.declared.delta_snapshot.Slot.{Slot}
use Rattle.model.specs.declared.delta_snapshot.Retention.{Retention}
use Rattle.model.specs.Slots.{LastUse, slot_eqb}
use Rattle.model.specs.Contents.{last_use_of, own_value, at_most, content_ok, top_content_ok, use_of, has_value}
use Rattle.model.specs.Layers.{Record, Layer}
use Rattle.model.proofs.SlotLaws.{split, and_left, and_right, slot_eqb_refl, slot_eqb_true}
use Rattle.image.specs.Area.{records_of}
use Rattle.order.specs.Index.{no_record}
use Rattle.order.proofs.RecordLaws.{length_records_of, record_slot}
use Rattle.chains.specs.Chains.{Last, LastOfSlot}
use Rattle.rules.specs.Rules.{group, newest_value, freshest, rule, rules_from, cross_rules, oldest_use, broken, broken_over}
use Rattle.rules.proofs.GroupLaws.{or_zero, or_zero_max, is_some_or_else, group_more, group_others, newest_snoc, freshest_snoc, use_of_valued}
use Rattle.rules.proofs.RuleLaws.{content_broken, rules_step}

-- What a slot's records say: whether one has a value, and the freshest use.
record Say (g : Layer) (any : Bool) (low : ℕ) : Type 0 where
  any_is : is_some (newest_value g) ≡ any
  low_is : or_zero (freshest g) ≡ low

low_most : (f : Option LastUse) (u : ℕ) → at_most f u ≡ true → or_zero f ≤ u
low_most None u e = omega arith
low_most (Some w) u e = leb-true w u e

-- A right record, over those of its slot below: with it there is a value, and its use is the freshest.
right_says : (now : ℕ) (g : Layer) (r : Record) → content_ok now (newest_value g) (freshest g) r.content ≡ true → Say (g ++ (r ∷ [])) true (use_of r.content)
right_says now g r e =
    let a : (has_value r.content || is_some (newest_value g)) ≡ true = and_left _ (at_most (freshest g) (use_of r.content) && leb (use_of r.content) now) e in
    let b : (at_most (freshest g) (use_of r.content) && leb (use_of r.content) now) ≡ true = and_right (has_value r.content || is_some (newest_value g)) _ e in
    let c : at_most (freshest g) (use_of r.content) ≡ true = and_left _ (leb (use_of r.content) now) b in
    record {
      any_is = ap is_some (newest_snoc g r) ∙ is_some_or_else (own_value r.content) (newest_value g) ∙ a;
      low_is = ap or_zero (freshest_snoc g r) ∙ omega (arith, or_zero_max (last_use_of (Some r.content)) (freshest g), low_most (freshest g) (use_of r.content) c);
    }

-- The records below record k are right.
pub record Ruled (R : Retention) (now top : ℕ) (rs : Layer) (k : ℕ) : Type 0 where
  pub right : (j : ℕ) → j < k → rule R now (leb top j) (take j rs) (get_or rs j no_record) ≡ true
  pub rest : rules_from R now top (take k rs) (drop k rs) ≡ cross_rules R now top rs

module _ (R : Retention) (now top : ℕ) (rs : Layer) where
  -- What the last record of its slot below says for record i.
  said_none : (i : ℕ) → i < length rs → ((k : ℕ) → 0 ≤ k → k < i → slot_eqb (get_or rs k no_record).slot (get_or rs i no_record).slot ≡ false) → Say (group (get_or rs i no_record).slot (take i rs)) false 0
  unfolding group newest_value freshest
  said_none i h f =
      let z : 0 + i ≡ i = omega arith in
      let e : group (get_or rs i no_record).slot (take i rs) ≡ [] = ap (λ (k : ℕ). group (get_or rs i no_record).slot (take k rs)) (sym z) ∙ group_others rs (get_or rs i no_record).slot 0 i (omega arith) (λ k g l. f k g (omega arith)) in
      subst (λ (g : Layer). Say g false 0) (sym e) (record { any_is = refl; low_is = refl })

  said_last : (i k : ℕ) → i < length rs → k < i → (get_or rs k no_record).slot ≡ (get_or rs i no_record).slot
      → ((j : ℕ) → suc k ≤ j → j < i → slot_eqb (get_or rs j no_record).slot (get_or rs i no_record).slot ≡ false)
      → rule R now (leb top k) (take k rs) (get_or rs k no_record) ≡ true → Say (group (get_or rs i no_record).slot (take i rs)) true (use_of (get_or rs k no_record).content)
  unfolding rule
  said_last i k h l e f q =
      let x : Slot = (get_or rs k no_record).slot in
      let y : Slot = (get_or rs i no_record).slot in
      let m : ℕ = i - suc k in
      let z : suc k + m ≡ i = omega arith in
      let d : group y (take i rs) ≡ group y (take (suc k) rs) = ap (λ (j : ℕ). group y (take j rs)) (sym z) ∙ group_others rs y (suc k) m (omega arith) (λ j g n. f j g (omega arith)) in
      let w : group x (take (suc k) rs) ≡ group x (take k rs) ++ (get_or rs k no_record ∷ []) = group_more rs x k (omega arith) true (slot_eqb_refl x) in
      let c : content_ok now (newest_value (group x (take k rs))) (freshest (group x (take k rs))) (get_or rs k no_record).content ≡ true =
      and_left _ (not (leb top k) || top_content_ok R now (freshest (group x (take k rs))) (get_or rs k no_record).content) q in
      subst (λ (g : Layer). Say g true (use_of (get_or rs k no_record).content)) (sym (d ∙ ap (λ (t : Slot). group t (take (suc k) rs)) (sym e) ∙ w)) (right_says now (group x (take k rs)) (get_or rs k no_record) c)

  -- A record's rule, by what the records of its slot below say.
  rule_said : (i : ℕ) (any : Bool) (low : ℕ) → Say (group (get_or rs i no_record).slot (take i rs)) any low
      → rule R now (leb top i) (take i rs) (get_or rs i no_record) ≡ not (broken (oldest_use R now) now (leb top i) (has_value (get_or rs i no_record).content) any low (use_of (get_or rs i no_record).content))
  unfolding rule
  rule_said i any low s =
      let r : Record = get_or rs i no_record in
      let g : Layer = group r.slot (take i rs) in
      content_broken R now (leb top i) r.content (newest_value g) (freshest g) (use_of_valued g)
      ∙ ap₂ (λ (a : Bool) (l : ℕ). not (broken (oldest_use R now) now (leb top i) (has_value r.content) a l (use_of r.content))) s.any_is s.low_is

  -- The test of record i by the last record of its slot below is its rule.
  pub rule_over : (i p : ℕ) → i < length rs → Last (λ k. (get_or rs k no_record).slot ≡ (get_or rs i no_record).slot) i p → Ruled R now top rs i
      → rule R now (leb top i) (take i rs) (get_or rs i no_record) ≡ not (broken_over (oldest_use R now) now (leb top i) rs i p)
  rule_over i zero h l q = rule_said i false 0 (said_none i h (λ k g m. others l k g m))
    where
      others : Last (λ k. (get_or rs k no_record).slot ≡ (get_or rs i no_record).slot) i 0 → (k : ℕ) → 0 ≤ k → k < i → slot_eqb (get_or rs k no_record).slot (get_or rs i no_record).slot ≡ false
      others l k g m = split (slot_eqb (get_or rs k no_record).slot (get_or rs i no_record).slot) (λ t. absurd (l.later k g m (slot_eqb_true _ _ t))) (λ f. f)
  rule_over i (suc p) h l q =
      rule_said i true (use_of (get_or rs p no_record).content)
      (said_last i p h (omega (arith, l.low)) (l.has p refl)
      (λ k g m. split (slot_eqb (get_or rs k no_record).slot (get_or rs i no_record).slot) (λ t. absurd (l.later k g m (slot_eqb_true _ _ t))) (λ f. f))
      (q.right p (omega (arith, l.low))))

-- A pass over the records ------------------------------------------------------------------------------------

pub ruled_start : (R : Retention) (now top : ℕ) (rs : Layer) → Ruled R now top rs 0
unfolding cross_rules
ruled_start R now top rs = record { right = λ j h. absurd (omega arith); rest = refl }

pub ruled_end : (R : Retention) (now top k : ℕ) (rs : Layer) → k ≡ length rs → Ruled R now top rs k → cross_rules R now top rs ≡ true
unfolding rules_from
ruled_end R now top k rs e q = sym q.rest ∙ ap (λ (j : ℕ). rules_from R now top (take j rs) (drop j rs)) e ∙ ap (rules_from R now top (take (length rs) rs)) (drop-length rs)

-- One record more, right or not.
ruled_more : (R : Retention) (now top i : ℕ) (rs : Layer) → i < length rs → rule R now (leb top i) (take i rs) (get_or rs i no_record) ≡ true → Ruled R now top rs i → Ruled R now top rs (i + 1)
ruled_more R now top i rs h e q =
    let z : suc i ≡ i + 1 = omega arith in
    record {
      right = λ j l. split (eqb j i) (λ t. rw (eqb-true j i t) e) (λ f. q.right j (omega (arith, eqb-false j i f)));
      rest = subst (λ (k : ℕ). rules_from R now top (take k rs) (drop k rs) ≡ cross_rules R now top rs) z (sym (rules_step R now top rs i h ∙ rw e) ∙ q.rest);
    }

ruled_less : (R : Retention) (now top i : ℕ) (rs : Layer) → i < length rs → rule R now (leb top i) (take i rs) (get_or rs i no_record) ≡ false → Ruled R now top rs i → cross_rules R now top rs ≡ false
ruled_less R now top i rs h e q = sym q.rest ∙ rules_step R now top rs i h ∙ rw e

-- The records that bytes begin with.
last_record : (n i p : ℕ) (s : List ℕ) → i < n → LastOfSlot s i p → Last (λ k. (get_or (records_of n s) k no_record).slot ≡ (get_or (records_of n s) i no_record).slot) i p
last_record n i p s h l = record {
  low = l.low;
  has = λ k e. record_slot n k s (omega (arith, l.low)) ∙ l.has k e ∙ sym (record_slot n i s h);
  later = λ k g m e. l.later k g m (sym (record_slot n k s (omega arith)) ∙ e ∙ record_slot n i s h);
}

-- The test of record i came to b, with o the oldest use that serves.
module _ (R : Retention) (now top n i p o : ℕ) (b : Bool) (s : List ℕ) (h : i < n) (l : LastOfSlot s i p) (q : Ruled R now top (records_of n s) i) (e : o ≡ oldest_use R now) (t : b ≡ broken_over o now (leb top i) (records_of n s) i p) where
  here : i < length (records_of n s)
  here = omega (arith, length_records_of n s)

  tested : rule R now (leb top i) (take i (records_of n s)) (get_or (records_of n s) i no_record) ≡ not b
  tested = rule_over R now top (records_of n s) i p here (last_record n i p s h l) q ∙ ap not (sym (rw e at t))

  pub ruled_on : b ≡ false → Ruled R now top (records_of n s) (i + 1)
  ruled_on f = ruled_more R now top i (records_of n s) here (tested ∙ ap not f) q

  pub ruled_broken : b ≡ true → cross_rules R now top (records_of n s) ≡ false
  ruled_broken f = ruled_less R now top i (records_of n s) here (tested ∙ ap not f) q
