-- Laws of contents: their words, and how a use, a write and a fold keep their rules. Over any content: no other file splits one.
use Rattle.std.specs.Prelude.{None, Option, Some, is_some}
use Rattle.std.proofs.lemmas.Option.{none-some, same_Some}
use Prim.Native.Nat.{ℕ, suc, ◌+◌, ◌-◌, ◌^◌, ◌≤◌, ◌<◌, max}
use native.Mathlib.Omega.{arith}
use mathlib.Core.Path.{◌≡◌, refl, ap, subst}
use mathlib.Core.Bool.{Bool, true, false, not, ◌&&◌, ◌||◌, cond}
use mathlib.Core.List.{List, [], ◌∷◌, ◌++◌}
use lib.Dec.{eqb, leb, lit<}
use lib.ListN.{length, drop, get_or}
use lib.Seq.{get_or-drop}
use borrow.Author.Tests.{leb-true, le-leb, ltb-true, lt-ltb, eq-eqb}
use Rattle.layout.specs.Layout.{record_width, slot_width}
use Rattle.model.specs.Slots.{Value, LastUse, u256_words, words_eqb, fits_64, u256_fits, Retention, serves}
use Rattle.model.specs.Contents.{Content, or_else, max_option, valued, use_of, own_value, has_value, last_use_of, value_of, valued_use, touch, value_fits, content_fits, at_most, content_ok, top_content_ok, value_words, content_words, read_content, content_right}
use Rattle.model.specs.Layers.{resolved_through_policy}
use Rattle.model.proofs.SlotLaws.{split, not_both, and_left, and_right, and_intro, and_true}
use Rattle.model.proofs.WordLaws.{Fit, fit_cons, fit_append, fit_left, fit_zeros, fit_and, fit_u256}
use Rattle.model.proofs.SlotRelation.{compacted_content}

-- Words -----------------------------------------------------------------------------------------------

-- A content's words are so many, and read as it.
pub content_wide : (c : Content) → length (content_words c) ≡ record_width - slot_width
content_wide c = go (own_value c)
  where
    go : (o : Option Value) → length (use_of c ∷ (value_words o ++ (0 ∷ []))) ≡ record_width - slot_width
    go None = refl
    go (Some v) = refl

pub content_back : (c : Content) → read_content (content_words c) ≡ c
content_back c = go c.used c.held
  where
    go : (u : LastUse) (h : Option Value) → read_content (content_words (record { used = u; held = h })) ≡ record { used = u; held = h }
    go u None = refl
    go u (Some v) = refl

-- Whether words that are read have a value: their flag is not 0.
pub has_value_read : (l : List ℕ) → has_value (read_content l) ≡ not (eqb (get_or l 1 0) 0)
has_value_read l = split (eqb (get_or l 1 0) 0) (λ e. rw e) (λ e. rw e)

-- What is read of words that fit, fits.
pub content_fits_read : (l : List ℕ) → ((i : ℕ) → get_or l i 0 < 2 ^ 64) → content_fits (read_content l) ≡ true
content_fits_read l f =
    and_intro _ _ (lt-ltb _ _ (f 0))
    (split (eqb (get_or l 1 0) 0) (λ e. rw e) (λ e. rw e (and_intro _ _ (word 0) (and_intro _ _ (word 1) (and_intro _ _ (word 2) (word 3))))))
  where
    word : (i : ℕ) → fits_64 (get_or (drop 2 l) i 0) ≡ true
    word i = lt-ltb (get_or (drop 2 l) i 0) (2 ^ 64) (rw get_or-drop (f (2 + i)))

-- The words of a content that fits, fit; and what fitting words say of its use and its value.
pub fit_content : (c : Content) → content_fits c ≡ true → Fit (content_words c)
fit_content c e = fit_and (use_of c) _ e (λ d. fit_append (go (own_value c) d) (fit_zeros 1))
  where
    go : (o : Option Value) → value_fits o ≡ true → Fit (value_words o)
    go None d = fit_zeros 5
    go (Some v) d = fit_cons (lit< tt) (fit_u256 v d)

pub use_fits : (c : Content) → Fit (content_words c) → use_of c < 2 ^ 64
use_fits c (fit_cons h p) = h

pub own_value_fits : (c : Content) (v : Value) → own_value c ≡ Some v → Fit (content_words c) → Fit (u256_words v)
own_value_fits c v e (fit_cons h p) = go (own_value c) e p
  where
    go : (o : Option Value) → o ≡ Some v → Fit (value_words o ++ (0 ∷ [])) → Fit (u256_words v)
    go None q p = absurd (none-some v q)
    go (Some w) q (fit_cons h p) = subst (λ (x : Value). Fit (u256_words x)) (same_Some w v q) (fit_left (u256_words w) (0 ∷ []) p)

pub fit_valued : (u : LastUse) (v : Value) → u < 2 ^ 64 → Fit (u256_words v) → Fit (content_words (valued u v))
fit_valued u v h p = fit_cons h (fit_cons (lit< tt) (fit_append p (fit_zeros 1)))

-- Fitting ---------------------------------------------------------------------------------------------

-- A content with a value, of its parts, and a content after a use.
pub content_fits_valued : (n u : ℕ) (v : Value) → fits_64 n ≡ true → u ≤ n → u256_fits v ≡ true → content_fits (valued u v) ≡ true
content_fits_valued n u v e h b = and_intro _ _ (lt-ltb u (2 ^ 64) (omega (arith, ltb-true n (2 ^ 64) e))) b

pub content_fits_touch : (n : ℕ) (t : Option Content) → fits_64 n ≡ true → ((c : Content) → t ≡ Some c → content_fits c ≡ true) → content_fits (touch n t) ≡ true
content_fits_touch n None e d = and_intro _ _ e refl
content_fits_touch n (Some c) e d = and_intro _ _ e (and_right (fits_64 (use_of c)) _ (d c refl))

-- The rule over the layers below ----------------------------------------------------------------------

-- The rule's parts.
pub record ContentOk (n : ℕ) (h : Option Value) (f : Option LastUse) (c : Content) : Type 0 where
  pub some_value : (has_value c || is_some h) ≡ true
  pub use_over : at_most f (use_of c) ≡ true
  pub use_within : use_of c ≤ n

-- From the test to its parts, and back.
pub content_parts : (n : ℕ) (h : Option Value) (f : Option LastUse) (c : Content) → content_ok n h f c ≡ true → ContentOk n h f c
content_parts n h f c e =
    let p : (at_most f (use_of c) && leb (use_of c) n) ≡ true = and_right (has_value c || is_some h) _ e in
    record { some_value = and_left _ _ e; use_over = and_left _ _ p; use_within = leb-true _ _ (and_right (at_most f (use_of c)) _ p) }

pub content_ok_parts : (n : ℕ) (h : Option Value) (f : Option LastUse) (c : Content) → ContentOk n h f c → content_ok n h f c ≡ true
content_ok_parts n h f c k = and_intro _ _ k.some_value (and_intro _ _ k.use_over (le-leb _ _ k.use_within))

-- Its last use is the freshest of its own and those below.
use_over_at_most : (f : Option LastUse) (u : LastUse) → at_most f u ≡ true → max_option (Some u) f ≡ Some u
use_over_at_most None u e = refl
use_over_at_most (Some w) u e = let h : max u w ≡ u = omega (arith, leb-true w u e) in ap Some h

pub use_over_all : (n : ℕ) (h : Option Value) (f : Option LastUse) (c : Content) → content_ok n h f c ≡ true → max_option (Some (use_of c)) f ≡ Some (use_of c)
use_over_all n h f c e = use_over_at_most f (use_of c) (content_parts n h f c e).use_over

-- One number later.
pub content_ok_later : (n : ℕ) (c : Content) (f : Option LastUse) (h : Option Value) → content_ok n h f c ≡ true → content_ok (suc n) h f c ≡ true
content_ok_later n c f h e =
    let k : ContentOk n h f c = content_parts n h f c e in
    content_ok_parts (suc n) h f c (record { some_value = k.some_value; use_over = k.use_over; use_within = omega (arith, k.use_within) })

-- A slot of a right chain --------------------------------------------------------------------------------

-- It has both a use and a value, or neither; `slot_fit` says whether its slot fits.
pub data UseWithValue (n : ℕ) (slot_fit : Bool) : Option LastUse → Option Value → Type 0 where
  neither : UseWithValue n slot_fit None None
  both : (u : LastUse) (v : Value) → u ≤ n → slot_fit ≡ true → u256_fits v ≡ true → UseWithValue n slot_fit (Some u) (Some v)

-- What holds of a slot's content in a layer, if it has a record there.
abbrev pub Holds : (Content → Bool) → Option Content → Type 0
Holds p t = (c : Content) → t ≡ Some c → p c ≡ true

module _ {n : ℕ} {slot_fit : Bool} where
  -- A use and a value or none, over a slot's.
  over_slot : (u : LastUse) (o : Option Value) {f : Option LastUse} {h : Option Value} → UseWithValue n slot_fit f h → u ≤ n → slot_fit ≡ true → (is_some o || is_some h) ≡ true → value_fits o ≡ true → UseWithValue n slot_fit (max_option (Some u) f) (or_else o h)
  over_slot u None neither p a e d = not_both e refl
  over_slot u None (both w x r b g) p a e d = both (max u w) x (omega arith) b g
  over_slot u (Some v) neither p a e d = both u v p a d
  over_slot u (Some v) (both w x r b g) p a e d = both (max u w) v (omega arith) a d

  -- A right record, if there is one, over a slot's.
  pub use_with_value_at : (t : Option Content) {f : Option LastUse} {h : Option Value} → UseWithValue n slot_fit f h → Holds (content_ok n h f) t → Holds (λ c. slot_fit && content_fits c) t → UseWithValue n slot_fit (max_option (last_use_of t) f) (or_else (value_of t) h)
  use_with_value_at None k e d = k
  use_with_value_at (Some c) {f} {h} k e d =
      let p : ContentOk n h f c = content_parts n h f c (e c refl) in
      over_slot (use_of c) (own_value c) k p.use_within (and_left _ _ (d c refl)) p.some_value (and_right (fits_64 (use_of c)) _ (and_right slot_fit _ (d c refl)))

  -- A use at the number is over a slot's.
  at_most_now : {f : Option LastUse} {h : Option Value} → UseWithValue n slot_fit f h → at_most f n ≡ true
  at_most_now neither = refl
  at_most_now (both u v p a b) = le-leb u n p

  -- A put.
  pub content_ok_settle : (v : Value) {f : Option LastUse} {h : Option Value} → UseWithValue n slot_fit f h → content_ok n h f (valued n v) ≡ true
  content_ok_settle v {f} {h} k = content_ok_parts n h f (valued n v) (record { some_value = refl; use_over = at_most_now k; use_within = omega arith })

  -- A write over the base's freshest use, and one over a value that the top has.
  pub content_ok_overwrite : (u : LastUse) (x : Value) {f : Option LastUse} {h : Option Value} → UseWithValue n slot_fit f h → f ≡ Some u → content_ok n h f (valued u x) ≡ true
  content_ok_overwrite u x neither q = absurd (none-some u q)
  content_ok_overwrite u x (both w v p a b) q = let z : w ≡ u = same_Some w u q in and_intro _ _ (le-leb w u (omega arith)) (le-leb u n (omega arith))

  -- A use of a served slot.
  pub content_ok_touch : (R : Retention) (x : Value) (t : Option Content) {f : Option LastUse} {h : Option Value} → UseWithValue n slot_fit f h
      → Holds (content_ok n h f) t → Holds (top_content_ok R n f) t
      → resolved_through_policy R n (max_option (last_use_of t) f) (or_else (value_of t) h) ≡ Some x
      → (content_ok n h f (touch n t) ≡ true) × (top_content_ok R n f (touch n t) ≡ true)
  content_ok_touch R x None neither e d q = absurd (none-some x q)
  content_ok_touch R x None (both u v p a b) e d q = (
    and_intro _ _ (le-leb u n p) (le-leb n n (omega arith)),
    split (serves R u n) (λ y. y) (λ y. absurd (none-some x (rw y at q))),
  )
  content_ok_touch R x (Some c) {f} {h} k e d q = (
    content_ok_parts n h f (touch n (Some c)) (record { some_value = (content_parts n h f c (e c refl)).some_value; use_over = at_most_now k; use_within = omega arith }),
    d c refl,
  )

  -- A record of the top over a folded base.
  pub content_ok_compact : (R : Retention) (c : Content) {f : Option LastUse} {h : Option Value} → UseWithValue n slot_fit f h → (content_ok n h f c && top_content_ok R n f c) ≡ true
      → content_ok n (or_else (value_of (compacted_content R n f h)) None) (max_option (last_use_of (compacted_content R n f h)) None) c ≡ true
  content_ok_compact R c neither e = and_left (content_ok n None None c) _ e
  content_ok_compact R c (both w v p a b) e =
      let d : content_ok n (Some v) (Some w) c ≡ true = and_left _ _ e in
      let k : ContentOk n (Some v) (Some w) c = content_parts n (Some v) (Some w) c d in
      split (serves R w n)
      (λ y. rw y d)
      (λ y. rw y (content_ok_parts n None None c (record { some_value = rw y at (and_right (content_ok n (Some v) (Some w) c) _ e); use_over = refl; use_within = k.use_within })))

-- A write over the use of a value that the top has.
pub content_ok_again : (n : ℕ) (h : Option Value) (f : Option LastUse) (t : Option Content) (u : LastUse) (x : Value) → valued_use t ≡ Some u → Holds (content_ok n h f) t → content_ok n h f (valued u x) ≡ true
content_ok_again n h f None u x q e = absurd (none-some u q)
content_ok_again n h f (Some c) u x q e =
    let k : ContentOk n h f c = content_parts n h f c (e c refl) in
    split (has_value c)
    (λ y. let z : use_of c ≡ u = same_Some (use_of c) u (rw y at q) in
    rw (← z) (content_ok_parts n h f (valued (use_of c) x) (record { some_value = refl; use_over = k.use_over; use_within = k.use_within })))
    (λ y. absurd (none-some u (rw y at q)))

-- Read words, and a use ---------------------------------------------------------------------------------

-- The last use of words that are read is the first of them.
pub use_read : (l : List ℕ) → use_of (read_content l) ≡ get_or l 0 0
use_read l = refl

-- Seven words are those of a content: a flag of 0 with zeros or of 1, and no second use.
pub content_right_words : (u f a b c d z : ℕ) → content_right (u ∷ f ∷ a ∷ b ∷ c ∷ d ∷ z ∷ []) ≡ (cond (eqb f 0) (words_eqb (a ∷ b ∷ c ∷ d ∷ []) (0 ∷ 0 ∷ 0 ∷ 0 ∷ [])) (eqb f 1) && eqb z 0)
unfolding words_eqb
content_right_words u f a b c d z = split (eqb f 0) (λ e. simp (e, eqb_same, and_true, and_assoc)) (λ e. simp (e, eqb_same, and_true))
  where
    eqb_same : (n : ℕ) → eqb n n ≡ true
    eqb_same n = eq-eqb n n refl

    and_assoc : (x y w : Bool) → ((x && y) && w) ≡ (x && (y && w))
    and_assoc true y w = refl
    and_assoc false y w = refl

-- A content of a value, used at a number, is that value with that use.
pub touch_valued : (u : LastUse) (c : Content) (v : Value) → own_value c ≡ Some v → touch u (Some c) ≡ valued u v
touch_valued u c v e = go c.held e
  where
    go : (h : Option Value) → h ≡ Some v → record { used = u; held = h } ≡ valued u v
    go None q = absurd (none-some v q)
    go (Some w) q = ap (valued u) (same_Some w v q)
