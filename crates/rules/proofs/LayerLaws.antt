-- What the rules mean for layers that rise: each record is right over the layers below, and in the top its freshest use in the base serves.
use Rattle.std.specs.Prelude.{None, Option, Some}
use mathlib.Core.Path.{◌≡◌, refl, sym, ap, ap₂, ◌∙◌}
use mathlib.Core.Bool.{Bool, true, false, not, ◌&&◌, ◌||◌}
use mathlib.Core.List.{List, [], ◌∷◌, ◌++◌, append_assoc, append-nil}
use Prim.Native.Nat.{ℕ, suc, ◌+◌, ◌≤◌, ◌<◌}
use native.Mathlib.Omega.{arith}
use lib.Dec.{leb}
use lib.ListN.{length, length-append}
use borrow.Author.Tests.{le-leb, lt-leb}
use Rattle.model.specs.declared.delta_snapshot.Slot.{Slot}
use Rattle.model.specs.declared.delta_snapshot.Retention.{Retention}
use Rattle.model.specs.Slots.{Value, LastUse, slot_eqb, slot_ltb}
use Rattle.model.specs.declared.delta_snapshot.Content.{Content}
use Rattle.model.specs.Contents.{last_use_of, value_of, or_else, max_option, content_fits, content_ok, top_content_ok}
use Rattle.model.specs.Layers.{RecordOf, LayerOf, Record, Layer, find, held_value, freshest_use, record_count}
use Rattle.model.proofs.SlotLaws.{split, and_left, and_right, and_intro, and_true, and_false, slot_eqb_true, slot_eqb_sym, slot_ltb_trans, slot_ltb_eqb}
use Rattle.model.specs.Store.{Generation, chain}
use Rattle.image.specs.WellFormed.{slot_fits, every, rising_from, rising, chain_ok, records_ok}
use Rattle.image.specs.Image.{flat_records}
use Rattle.image.proofs.Entries.{length_flat}
use Rattle.rules.specs.Rules.{group, newest_value, freshest, rule, rules_from, cross_rules, all_rising, all_content_ok}
use Rattle.rules.proofs.GroupLaws.{group_append, newest_snoc, freshest_snoc}

-- A slot in a layer that rises -----------------------------------------------------------------------------------------

apart : (s t : Slot) → slot_ltb s t ≡ true → slot_eqb t s ≡ false
apart s t l = slot_eqb_sym t s ∙ slot_ltb_eqb s t l

pub rising_lower : {A : Type 0} (a b : Slot) (l : LayerOf A) → slot_ltb a b ≡ true → rising_from b l ≡ true → rising_from a l ≡ true
unfolding rising_from
rising_lower a b [] h e = refl
rising_lower a b (r ∷ l) h e =
    and_intro (slot_ltb a r.slot) (rising_from r.slot l) (slot_ltb_trans a b r.slot h (and_left (slot_ltb b r.slot) _ e)) (and_right (slot_ltb b r.slot) _ e)

pub rising_rest : {A : Type 0} (a : Slot) (l : LayerOf A) → rising_from a l ≡ true → rising l ≡ true
unfolding rising_from
rising_rest a [] e = refl
rising_rest a (r ∷ l) e = and_right (slot_ltb a r.slot) _ e

-- A layer that rises from a slot has no record of it.
none_after : {A : Type 0} (s : Slot) (l : LayerOf A) → rising_from s l ≡ true → group s l ≡ []
unfolding rising_from group
none_after s [] e = refl
none_after s (r ∷ l) e =
    let h : slot_ltb s r.slot ≡ true = and_left (slot_ltb s r.slot) _ e in
    rw (apart s r.slot h) (none_after s l (rising_lower s r.slot l h (and_right (slot_ltb s r.slot) _ e)))

-- A slot's records in such a layer are the one that a search finds, or none.
data Found {A : Type 0} : LayerOf A → Option A → Type 0 where
  nothing : Found [] None
  one : (r : RecordOf A) → Found (r ∷ []) (Some r.content)

found : {A : Type 0} (s : Slot) (l : LayerOf A) → rising l ≡ true → Found (group s l) (find s l)
unfolding group find
found s [] e = nothing
found s (r ∷ l) e =
    split (slot_eqb r.slot s)
    (λ y. let n : group s l ≡ [] = none_after s l (rw (slot_eqb_true r.slot s y) at e) in rw (y, n) (one r))
    (λ y. rw y (found s l (rising_rest r.slot l e)))

-- Layer by layer -------------------------------------------------------------------------------------------------------

newest_over : (g : Layer) {k : Layer} {o : Option Content} → Found k o → newest_value (g ++ k) ≡ or_else (value_of o) (newest_value g)
newest_over g nothing = ap newest_value (append-nil g)
newest_over g (one r) = newest_snoc g r

freshest_over : (g : Layer) {k : Layer} {o : Option Content} → Found k o → freshest (g ++ k) ≡ max_option (last_use_of o) (freshest g)
freshest_over g nothing = ap freshest (append-nil g)
freshest_over g (one r) = freshest_snoc g r

-- The held value and the freshest use of a slot are those of its records as they stand.
pub newest_held : (s : Slot) (ls : List Layer) → all_rising ls ≡ true → newest_value (group s (flat_records ls)) ≡ held_value s ls
unfolding all_rising flat_records held_value group newest_value
newest_held s [] e = refl
newest_held s (l ∷ ls) e =
    ap newest_value (group_append s (flat_records ls) l)
    ∙ newest_over (group s (flat_records ls)) (found s l (and_left (rising l) _ e))
    ∙ ap (or_else (value_of (find s l))) (newest_held s ls (and_right (rising l) _ e))

pub freshest_held : (s : Slot) (ls : List Layer) → all_rising ls ≡ true → freshest (group s (flat_records ls)) ≡ freshest_use s ls
unfolding all_rising flat_records freshest_use group freshest
freshest_held s [] e = refl
freshest_held s (l ∷ ls) e =
    ap freshest (group_append s (flat_records ls) l)
    ∙ freshest_over (group s (flat_records ls)) (found s l (and_left (rising l) _ e))
    ∙ ap (max_option (last_use_of (find s l))) (freshest_held s ls (and_right (rising l) _ e))

-- The rules of one layer -----------------------------------------------------------------------------------------------

-- No record of the layer has its slot among the records before it.
data Apart {A : Type 0} (before : LayerOf A) : LayerOf A → Type 0 where
  no_more : Apart before []
  and_one : {r : RecordOf A} {l : LayerOf A} → group r.slot before ≡ [] → Apart before l → Apart before (r ∷ l)

apart_none : {A : Type 0} (l : LayerOf A) → Apart [] l
unfolding group
apart_none [] = no_more
apart_none (r ∷ l) = and_one refl (apart_none l)

apart_more : {A : Type 0} (before : LayerOf A) (r : RecordOf A) (l : LayerOf A) → rising_from r.slot l ≡ true → Apart before l → Apart (before ++ (r ∷ [])) l
unfolding rising_from group
apart_more before r [] e no_more = no_more
apart_more before r (q ∷ l) e (and_one p a) =
    let h : slot_ltb r.slot q.slot ≡ true = and_left (slot_ltb r.slot q.slot) _ e in
    let d : slot_eqb r.slot q.slot ≡ false = slot_ltb_eqb r.slot q.slot h in
    and_one (group_append q.slot before (r ∷ []) ∙ rw (p, d)) (apart_more before r l (rising_lower r.slot q.slot l h (and_right (slot_ltb r.slot q.slot) _ e)) a)

and_assoc : (a b c : Bool) → (a && b && c) ≡ (a && (b && c))
and_assoc true b c = refl
and_assoc false b c = refl

and_comm : (a b : Bool) → (a && b) ≡ (b && a)
and_comm true b = sym (and_true b)
and_comm false true = refl
and_comm false false = refl

and_swap : (a b c d : Bool) → (a && b && (c && d)) ≡ (a && c && (b && d))
and_swap true true c d = refl
and_swap true false true d = refl
and_swap true false false d = refl
and_swap false b c d = refl

every_same : {A : Type 0} (p q : Slot → A → Bool) (l : LayerOf A) → ((s : Slot) (c : A) → p s c ≡ q s c) → every p l ≡ every q l
unfolding every
every_same p q [] f = refl
every_same p q (r ∷ l) f = ap₂ (λ (x y : Bool). x && y) (f r.slot r.content) (every_same p q l f)

every_both : {A : Type 0} (p q : Slot → A → Bool) (l : LayerOf A) → every (λ s c. p s c && q s c) l ≡ (every p l && every q l)
unfolding every
every_both p q [] = refl
every_both p q (r ∷ l) =
    ap (λ (x : Bool). p r.slot r.content && q r.slot r.content && x) (every_both p q l)
    ∙ and_swap (p r.slot r.content) (q r.slot r.content) (every p l) (every q l)

-- A record of a layer over the records of the layers below.
abbrev over : Retention → ℕ → Bool → Layer → Slot → Content → Bool
over R now t below s c =
    content_ok now (newest_value (group s below)) (freshest (group s below)) c && (not t || top_content_ok R now (freshest (group s below)) c)

module _ (R : Retention) (now top : ℕ) where
  rule_over : (t : Bool) (below before : Layer) (r : Record) → group r.slot before ≡ [] → rule R now t (below ++ before) r ≡ over R now t below r.slot r.content
  unfolding rule
  rule_over t below before r e =
      ap (λ (g : Layer). content_ok now (newest_value g) (freshest g) r.content && (not t || top_content_ok R now (freshest g) r.content))
      (group_append r.slot below before ∙ ap (λ (g : Layer). group r.slot below ++ g) e ∙ append-nil (group r.slot below))

  rules_layer : (t : Bool) (below before l : Layer) → Apart before l → rising l ≡ true → ((k : ℕ) → k < length l → leb top (length (below ++ before) + k) ≡ t)
      → rules_from R now top (below ++ before) l ≡ every (over R now t below) l
  unfolding rules_from every
  rules_layer t below before [] a e f = refl
  rules_layer t below before (r ∷ l) (and_one p a) e f =
      let z : length (below ++ before) ≡ length (below ++ before) + 0 = omega arith in
      let b : leb top (length (below ++ before)) ≡ t = ap (leb top) z ∙ f 0 (omega arith) in
      let g : below ++ before ++ (r ∷ []) ≡ below ++ (before ++ (r ∷ [])) = append_assoc below before (r ∷ []) in
      let n : length (below ++ (before ++ (r ∷ []))) ≡ length (below ++ before) + 1 = ap length (sym g) ∙ length-append (below ++ before) (r ∷ []) in
      let h : (k : ℕ) → k < length l → leb top (length (below ++ (before ++ (r ∷ []))) + k) ≡ t = λ k i. let m : length (below ++ (before ++ (r ∷ []))) + k ≡ length (below ++ before) + suc k = omega arith in ap (leb top) m ∙ f (suc k) (omega arith) in
      ap₂ (λ (x y : Bool). x && y)
      (ap (λ (x : Bool). rule R now x (below ++ before) r) b ∙ rule_over t below before r p)
      (ap (λ (k : Layer). rules_from R now top k l) g ∙ rules_layer t below (before ++ (r ∷ [])) l (apart_more before r l e a) (rising_rest r.slot l e) h)

  rules_append : (below xs ys : Layer) → rules_from R now top below (xs ++ ys) ≡ (rules_from R now top below xs && rules_from R now top (below ++ xs) ys)
  unfolding rules_from
  rules_append below [] ys = ap (λ (k : Layer). rules_from R now top k ys) (sym (append-nil below))
  rules_append below (r ∷ xs) ys =
      ap (λ (x : Bool). rule R now (leb top (length below)) below r && x) (rules_append (below ++ (r ∷ [])) xs ys)
      ∙ sym (and_assoc (rule R now (leb top (length below)) below r) (rules_from R now top (below ++ (r ∷ [])) xs) (rules_from R now top (below ++ (r ∷ []) ++ xs) ys))
      ∙ ap (λ (k : Layer). rules_from R now top below (r ∷ xs) && rules_from R now top k ys) (append_assoc below (r ∷ []) xs)

  -- the rules of a layer on others
  rules_on : (t : Bool) (l : Layer) (ls : List Layer) → rising l ≡ true → ((k : ℕ) → k < length l → leb top (record_count ls + k) ≡ t)
      → rules_from R now top (flat_records ls) l ≡ every (over R now t (flat_records ls)) l
  rules_on t l ls e f =
      let n : length (flat_records ls ++ []) ≡ record_count ls = ap length (append-nil (flat_records ls)) ∙ length_flat ls in
      ap (λ (k : Layer). rules_from R now top k l) (sym (append-nil (flat_records ls)))
      ∙ rules_layer t (flat_records ls) [] l (apart_none l) e (λ k h. ap (λ (i : ℕ). leb top (i + k)) n ∙ f k h)

  -- the rules of the layers below the top
  rules_base : (ls : List Layer) → all_rising ls ≡ true → record_count ls ≤ top → rules_from R now top [] (flat_records ls) ≡ all_content_ok now ls
  unfolding all_rising flat_records record_count all_content_ok rules_from
  rules_base [] e h = refl
  rules_base (l ∷ ls) e h =
      let b : all_rising ls ≡ true = and_right (rising l) _ e in
      rules_append [] (flat_records ls) l
      ∙ ap₂ (λ (x y : Bool). x && y) (rules_base ls b (omega arith))
      (rules_on false l ls (and_left (rising l) _ e) (λ k i. lt-leb top (record_count ls + k) (omega arith))
      ∙ every_same _ (λ s c. content_ok now (held_value s ls) (freshest_use s ls) c) l (λ s c.
      and_true (content_ok now (newest_value (group s (flat_records ls))) (freshest (group s (flat_records ls))) c)
      ∙ ap₂ (λ (v : Option Value) (u : Option LastUse). content_ok now v u c) (newest_held s ls b) (freshest_held s ls b)))
      ∙ and_comm (all_content_ok now ls) (every (λ s c. content_ok now (held_value s ls) (freshest_use s ls) c) l)

-- THE LAW: the rules of the records of a top on a base, as they stand, are that every record is right over the layers below, and each of the top's has its use served in the base.
pub rules_mean : (R : Retention) (now : ℕ) (top : Layer) (base : List Layer) → rising top ≡ true → all_rising base ≡ true
    → cross_rules R now (record_count base) (flat_records (top ∷ base)) ≡ (all_content_ok now (top ∷ base) && every (λ s c. top_content_ok R now (freshest_use s base) c) top)
unfolding cross_rules flat_records all_content_ok
rules_mean R now top base e b =
    let n : ℕ = record_count base in
    let p : Slot → Content → Bool = λ s c. content_ok now (held_value s base) (freshest_use s base) c in
    let q : Slot → Content → Bool = λ s c. top_content_ok R now (freshest_use s base) c in
    rules_append R now n [] (flat_records base) top
    ∙ ap₂ (λ (x y : Bool). x && y) (rules_base R now n base b (omega arith))
    (rules_on R now n true top base e (λ k i. le-leb n (n + k) (omega arith))
    ∙ every_same _ (λ s c. p s c && q s c) top (λ s c.
    ap₂ (λ (v : Option Value) (u : Option LastUse). content_ok now v u c && top_content_ok R now u c) (newest_held s base b) (freshest_held s base b))
    ∙ every_both p q top)
    ∙ sym (and_assoc (all_content_ok now base) (every p top) (every q top))
    ∙ ap (λ (x : Bool). x && every q top) (and_comm (all_content_ok now base) (every p top))

-- The records of a store ---------------------------------------------------------------------------------------------------

pub every_append : {A : Type 0} (p : Slot → A → Bool) (k l : LayerOf A) → every p (k ++ l) ≡ (every p k && every p l)
unfolding every
every_append p [] l = refl
every_append p (r ∷ k) l = ap (λ (x : Bool). p r.slot r.content && x) (every_append p k l) ∙ sym (and_assoc (p r.slot r.content) (every p k) (every p l))

rises_first : (l : Layer) (ls : List Layer) → all_rising (l ∷ ls) ≡ true → rising l ≡ true
unfolding all_rising
rises_first l ls e = and_left (rising l) _ e

rises_below : (l : Layer) (ls : List Layer) → all_rising (l ∷ ls) ≡ true → all_rising ls ≡ true
unfolding all_rising
rises_below l ls e = and_right (rising l) _ e

-- The parts of a layer, and those of the layers below.
gather_parts : (r c f r' c' f' : Bool) → (r && (c && (f && (r' && (c' && f'))))) ≡ (r && r' && (c && c' && (f' && f)))
gather_parts true true true r' c' f' = rw (and_true f')
gather_parts true true false r' c' f' = sym (rw (and_false f', and_false c', and_false r'))
gather_parts true false f r' c' f' = sym (and_false r')
gather_parts false c f r' c' f' = refl

abbrev record_fits : Slot → Content → Bool
record_fits s c = slot_fits s && content_fits c

-- A chain is right: every layer rises, every record is right over the layers below, and every record fits.
pub chain_parts : (now : ℕ) (ls : List Layer) → chain_ok now ls ≡ (all_rising ls && (all_content_ok now ls && every (λ s c. slot_fits s && content_fits c) (flat_records ls)))
unfolding chain_ok all_rising all_content_ok flat_records every
chain_parts now [] = refl
chain_parts now (l ∷ ls) =
    let c : Bool = every (λ s c. content_ok now (held_value s ls) (freshest_use s ls) c) l in
    let f : Bool = every record_fits l in
    ap (λ (x : Bool). rising l && (c && (f && x))) (chain_parts now ls)
    ∙ gather_parts (rising l) c f (all_rising ls) (all_content_ok now ls) (every record_fits (flat_records ls))
    ∙ ap (λ (x : Bool). rising l && all_rising ls && (c && all_content_ok now ls && x)) (sym (every_append record_fits (flat_records ls) l))

-- The records of a generation are right: every layer rises, every record fits, and the rules hold.
pub records_parts : (R : Retention) (g : Generation)
    → records_ok R g ≡ (all_rising (chain g) && (every (λ s c. slot_fits s && content_fits c) (flat_records (chain g)) && cross_rules R g.anchor.number (record_count g.base) (flat_records (chain g))))
unfolding records_ok
records_parts R g =
    let now : ℕ = g.anchor.number in
    let c : Bool = all_content_ok now (chain g) in
    let f : Bool = every record_fits (flat_records (chain g)) in
    let t : Bool = every (λ s c. top_content_ok R now (freshest_use s g.base) c) g.top in
    ap (λ (x : Bool). x && t) (chain_parts now (chain g))
    ∙ split (all_rising (chain g))
    (λ e. let m : cross_rules R now (record_count g.base) (flat_records (chain g)) ≡ (c && t) = rules_mean R now g.top g.base (rises_first g.top g.base e) (rises_below g.top g.base e) in
    rw (e, m) (ap (λ (x : Bool). x && t) (and_comm c f) ∙ and_assoc f c t))
    (λ e. rw e)
