-- A walk over an index that gives a record at the end of a slot's group gives the fold's layer.
use Rattle.std.specs.Prelude.{None, Option, Some}
use mathlib.Core.Path.{◌≡◌, refl, sym, ap, ap₂, subst, ◌∙◌}
use mathlib.Core.Bool.{true, false, cond, true≢false}
use mathlib.Core.List.{List, [], ◌∷◌, ◌++◌, map}
use Prim.Native.Nat.{ℕ, suc, ◌+◌, ◌*◌, ◌≤◌, ◌<◌}
use native.Mathlib.Omega.{arith}
use native.Mathlib.Numerals.{add-one}
use lib.Dec.{eqb}
use lib.ListN.{length, drop, get_or, length-map, drop_of_length-le, get_or-map}
use lib.Seq.{drop-cons}
use borrow.Author.Tests.{eq-eqb, ne_eqb, lt-ltb}
use Rattle.layout.specs.Layout.{record_size}
use Rattle.model.specs.declared.delta_snapshot.Slot.{Slot}
use Rattle.model.specs.declared.delta_snapshot.Retention.{Retention}
use Rattle.model.specs.Slots.{Value, LastUse, slot_words, slot_ltb, mem, serves}
use Rattle.model.specs.Contents.{valued}
use Rattle.model.specs.Layers.{Record, Layer, slots, insert}
use Rattle.model.specs.Advance.{compact_slot}
use Rattle.model.proofs.SlotLaws.{split, slot_eqb_true}
use Rattle.image.specs.WellFormed.{rising_from}
use Rattle.image.specs.Area.{records_of}
use Rattle.model.proofs.WordLaws.{Fit}
use Rattle.order.specs.Index.{All, Rises, Names, pick, Ordered, up_from, number_of, slot_number, words_number, numbers, no_record}
use Rattle.order.specs.Index.All.{nil, add}
use Rattle.order.specs.Index.Rises.{rise}
use Rattle.order.proofs.IndexLaws.{all_more, names_up}
use Rattle.order.proofs.MergeLaws.{pick_above, all_ordered}
use Rattle.order.proofs.NumberLaws.{slot_eqb_number, slot_ltb_number}
use Rattle.order.proofs.RecordLaws.{Bytes, length_records_of, record_at}
use Rattle.rules.specs.Rules.{group, newest_value, freshest}
use Rattle.order.specs.Walk.{last_of}
use Rattle.order.proofs.CountLaws as by_number
use Rattle.order.proofs.WalkLaws.{along, begun, begun_same, last_above, next_equal, same_members, number_group, pick_group, along_map}
use Rattle.rules.proofs.RuleLaws.{fit_record}
use Rattle.counts.proofs.SlotCounts.{AllFit, fit_none, fit_more, fit_member, mem_number, numbers_are, group_number, records_fit}
use Rattle.fold.specs.Fold.{folded_slots, folded}
use Rattle.fold.proofs.RisingLaws.{insert_from, insert_front, insert_twice}
use Rattle.fold.proofs.FoldedLaws.{folded_same}

-- The walk: f gathers along a group, e gives records at its end, z starts the next.
unfoldable pub emit : {A : Type 0} → (A → ℕ → A) → A → (A → Layer) → List ℕ → A → List ℕ → Layer
emit f z e ss a [] = []
emit f z e ss a (x ∷ xs) = cond (last_of ss (x ∷ xs)) (e (f a x) ++ emit f z e ss z xs) (emit f z e ss (f a x) xs)

-- By places ------------------------------------------------------------------------------------------------------------

module _ {A : Type 0} (f : A → ℕ → A) (z : A) (e : A → Layer) (ss ix : List ℕ) (a : A) (j : ℕ) (h : j < length ix) where
  pub emit_last : last_of ss (drop j ix) ≡ true → emit f z e ss a (drop j ix) ≡ e (f a (get_or ix j 0)) ++ emit f z e ss z (drop (j + 1) ix)
  unfolding emit
  emit_last q = rw (add-one j, drop-cons ix j 0 h) (rw (rw (drop-cons ix j 0 h) at q))

  pub emit_more : last_of ss (drop j ix) ≡ false → emit f z e ss a (drop j ix) ≡ emit f z e ss (f a (get_or ix j 0)) (drop (j + 1) ix)
  unfolding emit
  emit_more q = rw (add-one j, drop-cons ix j 0 h) (rw (rw (drop-cons ix j 0 h) at q))

pub emit_end : {A : Type 0} (f : A → ℕ → A) (z : A) (e : A → Layer) (ss ix : List ℕ) (a : A) (j : ℕ) → length ix ≤ j → emit f z e ss a (drop j ix) ≡ []
unfolding emit
emit_end f z e ss ix a j h = rw (drop_of_length-le ix h)

-- What a walk has gathered ----------------------------------------------------------------------------------------------

module _ {A : Type 0} (f : A → ℕ → A) (z : A) (ss : List ℕ) where
  -- one number more, of another slot
  other : (a : A) (x : ℕ) (xs : List ℕ) (v : ℕ) → eqb (get_or ss x 0) v ≡ false → along f (begun z z ss xs v) (pick ss v xs) ≡ along f (begun z a ss (x ∷ xs) v) (pick ss v (x ∷ xs))
  unfolding pick
  other a x xs v d = rw (d, begun_same z ss xs v)

  next_begun : (a : A) (x : ℕ) (xs : List ℕ) (v : ℕ) → Rises ss (x ∷ xs) → last_of ss (x ∷ xs) ≡ false → begun z a ss xs v ≡ cond (eqb (get_or ss x 0) v) a z
  unfolding last_of
  next_begun a x [] v r e = absurd (true≢false e)
  next_begun a x (y ∷ ys) v r e = rw (next_equal ss x y ys r e)

  same_begun : (a : A) (x : ℕ) (xs : List ℕ) (v : ℕ) → Rises ss (x ∷ xs) → last_of ss (x ∷ xs) ≡ false → along f (begun z (f a x) ss xs v) (pick ss v xs) ≡ along f (begun z a ss (x ∷ xs) v) (pick ss v (x ∷ xs))
  unfolding pick along
  same_begun a x xs v r e = rw (next_begun (f a x) x xs v r e) (split (eqb (get_or ss x 0) v) (λ d. rw d) (λ d. rw d))

  at_last : (a : A) (x : ℕ) (xs : List ℕ) → pick ss (get_or ss x 0) xs ≡ [] → f a x ≡ along f (begun z a ss (x ∷ xs) (get_or ss x 0)) (pick ss (get_or ss x 0) (x ∷ xs))
  unfolding pick along
  at_last a x xs q = rw (eq-eqb (get_or ss x 0) (get_or ss x 0) refl, q)

all_both : {P Q T : ℕ → Type 0} → ((x : ℕ) → P x → Q x → T x) → {xs : List ℕ} → All P xs → All Q xs → All T xs
all_both g nil nil = nil
all_both g (add p a) (add q b) = add (g _ p q) (all_both g a b)

-- One slot's part of a fold ---------------------------------------------------------------------------------------------

slot_front : (R : Retention) (now : ℕ) (s : Slot) (f : Option LastUse) (h : Option Value) (l : Layer) → rising_from s l ≡ true → compact_slot R now s f h [] ++ l ≡ compact_slot R now s f h l
unfolding insert
slot_front R now s None h l e = refl
slot_front R now s (Some u) None l e = refl
slot_front R now s (Some u) (Some v) l e = split (serves R u now) (λ y. rw (y, insert_front s (valued u v) l e)) (λ y. rw y)

slot_twice : (R : Retention) (now : ℕ) (s : Slot) (f : Option LastUse) (h : Option Value) (l : Layer) → compact_slot R now s f h (compact_slot R now s f h l) ≡ compact_slot R now s f h l
slot_twice R now s None h l = refl
slot_twice R now s (Some u) None l = refl
slot_twice R now s (Some u) (Some v) l = split (serves R u now) (λ y. rw (y, insert_twice s (valued u v) l)) (λ y. rw y)

slot_from : (R : Retention) (now : ℕ) (a s : Slot) (f : Option LastUse) (h : Option Value) (l : Layer) → slot_ltb a s ≡ true → rising_from a l ≡ true → rising_from a (compact_slot R now s f h l) ≡ true
slot_from R now a s None h l g e = e
slot_from R now a s (Some u) None l g e = e
slot_from R now a s (Some u) (Some v) l g e = split (serves R u now) (λ y. rw y (insert_from a s (valued u v) l g e)) (λ y. rw y e)

-- The walk's records -----------------------------------------------------------------------------------------------------

-- The slot of record x.
abbrev slot_of : Layer → ℕ → Slot
slot_of rs x = (get_or rs x no_record).slot

number_of_slot : (rs : Layer) (x : ℕ) → get_or (map number_of rs) x 0 ≡ slot_number (slot_of rs x)
unfolding slot_number words_number
number_of_slot rs x = get_or-map number_of rs x no_record

module _ (R : Retention) (now : ℕ) (rs : Layer) where
  -- What a fold leaves of a slot.
  abbrev pub left_of : Slot → Layer
  left_of s = compact_slot R now s (freshest (group s rs)) (newest_value (group s rs)) []

  folded_from : (s : Slot) (xs : List ℕ) → All (λ y. slot_ltb s (slot_of rs y) ≡ true) xs → rising_from s (folded_slots R now rs (map (slot_of rs) xs)) ≡ true
  unfolding folded_slots rising_from
  folded_from s [] nil = refl
  folded_from s (x ∷ xs) (add p a) =
      slot_from R now s (slot_of rs x) (freshest (group (slot_of rs x) rs)) (newest_value (group (slot_of rs x) rs)) (folded_slots R now rs (map (slot_of rs) xs)) p (folded_from s xs a)

  -- A number that is not the last of its slot adds nothing.
  next_twice : (x : ℕ) (xs : List ℕ) → Rises (map number_of rs) (x ∷ xs) → last_of (map number_of rs) (x ∷ xs) ≡ false → Fit (slot_words (slot_of rs x)) → All (λ y. Fit (slot_words (slot_of rs y))) xs
      → folded_slots R now rs (map (slot_of rs) xs) ≡ folded_slots R now rs (map (slot_of rs) (x ∷ xs))
  unfolding last_of folded_slots
  next_twice x [] r e p fs = absurd (true≢false e)
  next_twice x (y ∷ ys) r e p (add q fs) =
      let s : Slot = slot_of rs x in
      let t : Slot = slot_of rs y in
      let n : slot_number s ≡ slot_number t = sym (number_of_slot rs x) ∙ next_equal (map number_of rs) x y ys r e ∙ number_of_slot rs y in
      let z : s ≡ t = slot_eqb_true s t (slot_eqb_number s t p q ∙ eq-eqb (slot_number s) (slot_number t) n) in
      let l : Layer = folded_slots R now rs (map (slot_of rs) ys) in
      sym (slot_twice R now t (freshest (group t rs)) (newest_value (group t rs)) l)
      ∙ ap (λ (u : Slot). compact_slot R now u (freshest (group u rs)) (newest_value (group u rs)) (compact_slot R now t (freshest (group t rs)) (newest_value (group t rs)) l)) (sym z)

  module _ {A : Type 0} (f : A → ℕ → A) (z : A) (e : A → Layer) where
    -- What the walk gives at the end of the group of record x.
    abbrev Gives : A → List ℕ → ℕ → Type 0
    Gives a xs x = e (along f (begun z a (map number_of rs) xs (get_or (map number_of rs) x 0)) (pick (map number_of rs) (get_or (map number_of rs) x 0) xs)) ≡ left_of (slot_of rs x)

    emit_folds : (a : A) (xs : List ℕ) → Rises (map number_of rs) xs → All (λ x. Fit (slot_words (slot_of rs x))) xs → All (λ x. Gives a xs x) xs → emit f z e (map number_of rs) a xs ≡ folded_slots R now rs (map (slot_of rs) xs)
    unfolding emit folded_slots
    emit_folds a [] r fs gs = refl
    emit_folds a (x ∷ xs) (rise b r) (add p fs) (add q gs) =
        let ss : List ℕ = map number_of rs in
        let v : ℕ = get_or ss x 0 in
        let s : Slot = slot_of rs x in
        split (last_of ss (x ∷ xs))
        (λ y. let ab : All (λ k. suc v ≤ get_or ss k 0) xs = last_above ss x xs (rise b r) y in
        let hd : e (f a x) ≡ left_of s = ap e (at_last f z ss a x xs (pick_above ss v (suc v) (omega arith) xs ab)) ∙ q in
        let gs' : All (λ k. Gives z xs k) xs = all_both (λ k m g. ap e (other f z ss a x xs (get_or ss k 0) (ne_eqb v (get_or ss k 0) (λ d. omega arith))) ∙ g) ab gs in
        let up : All (λ k. slot_ltb s (slot_of rs k) ≡ true) xs = all_both (λ k m g.
        slot_ltb_number s (slot_of rs k) p g ∙ lt-ltb (slot_number s) (slot_number (slot_of rs k)) (omega (arith, number_of_slot rs x, number_of_slot rs k))) ab fs in
        rw y (ap₂ (λ (k l : Layer). k ++ l) hd (emit_folds z xs r fs gs') ∙ slot_front R now s (freshest (group s rs)) (newest_value (group s rs)) (folded_slots R now rs (map (slot_of rs) xs)) (folded_from s xs up)))
        (λ y. let gs' : All (λ k. Gives (f a x) xs k) xs = all_more (λ k g. ap e (same_begun f z ss a x xs (get_or ss k 0) (rise b r) y) ∙ g) gs in
        rw y (emit_folds (f a x) xs r fs gs' ∙ next_twice x xs (rise b r) y p fs))

-- The slots met ------------------------------------------------------------------------------------------------------------

-- Lists of slots that fit, with the same numbers, have the same members.
same_mems : (k l : List Slot) → AllFit k → AllFit l → ((v : ℕ) → by_number.mem v (map slot_number k) ≡ by_number.mem v (map slot_number l)) → (t : Slot) → mem t k ≡ mem t l
same_mems k l p q h t =
    let both : Fit (slot_words t) → mem t k ≡ mem t l = λ f. mem_number t k f p ∙ h (slot_number t) ∙ sym (mem_number t l f q) in
    split (mem t k)
    (λ m. both (fit_member t k p m))
    (λ m. split (mem t l) (λ n. both (fit_member t l q n)) (λ n. m ∙ sym n))

numbers_met : (rs : Layer) (xs : List ℕ) → map slot_number (map (slot_of rs) xs) ≡ map (λ y. get_or (map number_of rs) y 0) xs
numbers_met rs [] = refl
numbers_met rs (x ∷ xs) = ap₂ (λ (k : ℕ) (l : List ℕ). k ∷ l) (sym (number_of_slot rs x)) (numbers_met rs xs)

fit_met : (rs : Layer) (xs : List ℕ) → All (λ x. Fit (slot_words (slot_of rs x))) xs → AllFit (map (slot_of rs) xs)
fit_met rs [] nil = fit_none
fit_met rs (x ∷ xs) (add p a) = fit_more p (fit_met rs xs a)

-- THE LAW: a walk over an index that gives, of a slot's records as they stand, what a fold leaves of the slot, gives the fold's layer.
pub fold_says : (R : Retention) (now : ℕ) {A : Type 0} (g : A → Record → A) (z : A) (e : A → Layer) (n : ℕ) (s ix : List ℕ) → Bytes s → n * record_size ≤ length s → Ordered (numbers n s) (up_from 0 n) ix
    → ((u : Slot) → e (along g z (group u (records_of n s))) ≡ left_of R now (records_of n s) u)
    → emit (λ a i. g a (get_or (records_of n s) i no_record)) z e (numbers n s) z ix ≡ folded R now (records_of n s)
unfolding numbers folded
fold_says R now g z e n s ix b h o q =
    let rs : Layer = records_of n s in
    let ss : List ℕ = map number_of rs in
    let l : length rs ≡ n = length_records_of n s in
    let m : length ss ≡ n = length-map rs number_of ∙ l in
    let all : AllFit (slots rs) = records_fit n s b h in
    let names : Names n ix = all_ordered ss (up_from 0 n) ix o (names_up n) in
    let fs : All (λ x. Fit (slot_words (slot_of rs x))) ix = all_more (λ x i. subst (λ (r : Record). Fit (slot_words r.slot)) (sym (record_at n x s i)) (fit_record x s b (omega arith))) names in
    let o' : Ordered ss (up_from 0 (length ss)) ix = subst (λ (k : ℕ). Ordered ss (up_from 0 k) ix) (sym m) o in
    let gathers : (x : ℕ) → x < n → Fit (slot_words (slot_of rs x)) → along (λ a i. g a (get_or rs i no_record)) (begun z z ss ix (get_or ss x 0)) (pick ss (get_or ss x 0) ix) ≡ along g z (group (slot_of rs x) rs) = λ x i fx.
    let v : ℕ = get_or ss x 0 in
    ap₂ (λ a k. along (λ a i. g a (get_or rs i no_record)) a k) (begun_same z ss ix v) (o.same v)
    ∙ sym (along_map g (λ i. get_or rs i no_record) z (pick ss v (up_from 0 n)))
    ∙ ap (λ (k : ℕ). along g z (map (λ i. get_or rs i no_record) (pick ss v (up_from 0 k)))) (sym l)
    ∙ ap (along g z) (pick_group v rs ∙ ap (λ (k : ℕ). number_group k rs) (number_of_slot rs x) ∙ group_number (slot_of rs x) rs fx all) in
    let gs : All (λ x. e (along (λ a i. g a (get_or rs i no_record)) (begun z z ss ix (get_or ss x 0)) (pick ss (get_or ss x 0) ix)) ≡ left_of R now rs (slot_of rs x)) ix =
    all_both (λ x i fx. ap e (gathers x i fx) ∙ q (slot_of rs x)) names fs in
    emit_folds R now rs (λ a i. g a (get_or rs i no_record)) z e z ix o.rises fs gs
    ∙ folded_same R now rs (map (slot_of rs) ix) (slots rs) (same_mems (map (slot_of rs) ix) (slots rs) (fit_met rs ix fs) all (λ v.
    ap (by_number.mem v) (numbers_met rs ix) ∙ same_members ss ix o' v ∙ ap (by_number.mem v) (numbers_are rs)))
