-- A walk over the groups of an index says of each slot what its records say.
use mathlib.Core.Path.{◌≡◌, refl, sym, ap, ap₂, ◌∙◌}
use mathlib.Core.Bool.{Bool, true, false, cond, not, ◌&&◌, true≢false}
use mathlib.Core.List.{List, [], ◌∷◌, map}
use Prim.Native.Nat.{ℕ, zero, suc, ◌+◌, ◌≤◌, ◌<◌}
use native.Mathlib.Omega.{arith}
use native.Mathlib.Numerals.{add-one}
use lib.Dec.{leb, eqb}
use lib.ListN.{length, drop, get_or, length-map, drop_of_length-le}
use lib.Seq.{drop-cons}
use borrow.Author.Tests.{leb-true, leb-false, eqb-true, eq-eqb, ne_eqb, not-true, not-false}
use Rattle.model.specs.Layers.{Record, Layer}
use Rattle.model.proofs.SlotLaws.{split, and_true, and_false}
use Rattle.order.specs.Index.{All, Rises, pick, Ordered, up_from, number_of, no_record}
use Rattle.order.specs.Index.All.{nil, add}
use Rattle.order.specs.Index.Rises.{rise}
use Rattle.order.proofs.IndexLaws.{all_more}
use Rattle.order.proofs.MergeLaws.{pick_above}
use Rattle.std.specs.Int.{from_bool}
use Rattle.order.specs.Walk.{last_of}
use Rattle.order.proofs.CountLaws.{mem, count, count_ext, count_mems}

-- What f gathers along a list.
unfoldable pub along : {A B : Type 0} → (A → B → A) → A → List B → A
along f a [] = a
along f a (x ∷ xs) = along f (f a x) xs

-- The walk: f gathers along a group, t asks at its end, z starts the next.
unfoldable pub walk : {A : Type 0} → (A → ℕ → A) → A → (A → Bool) → List ℕ → A → List ℕ → ℕ
walk f z t ss a [] = 0
walk f z t ss a (x ∷ xs) = cond (last_of ss (x ∷ xs)) (from_bool (t (f a x)) + walk f z t ss z xs) (walk f z t ss (f a x) xs)

-- Groups of numbers ordered by slot ---------------------------------------------------------------------------

mem_above : (ss : List ℕ) (v w : ℕ) → v < w → (xs : List ℕ) → All (λ y. w ≤ get_or ss y 0) xs → mem v (map (λ y. get_or ss y 0) xs) ≡ false
unfolding mem
mem_above ss v w h [] a = refl
mem_above ss v w h (x ∷ xs) (add p a) = rw (ne_eqb (get_or ss x 0) v (λ e. omega arith)) (mem_above ss v w h xs a)

-- After the last of its slot, a slot is met no more.
pub last_above : (ss : List ℕ) (x : ℕ) (xs : List ℕ) → Rises ss (x ∷ xs) → last_of ss (x ∷ xs) ≡ true → All (λ y. suc (get_or ss x 0) ≤ get_or ss y 0) xs
unfolding last_of
last_above ss x [] r e = nil
last_above ss x (y ∷ ys) (rise (add p a) (rise b r)) e =
    let l : get_or ss x 0 < get_or ss y 0 = leb-false (get_or ss y 0) (get_or ss x 0) (not-true (leb (get_or ss y 0) (get_or ss x 0)) e) in
    add l (all_more (λ k q. omega arith) b)

-- Where it is not the last, the next has the same slot.
pub next_equal : (ss : List ℕ) (x y : ℕ) (ys : List ℕ) → Rises ss (x ∷ y ∷ ys) → last_of ss (x ∷ y ∷ ys) ≡ false → get_or ss x 0 ≡ get_or ss y 0
unfolding last_of
next_equal ss x y ys (rise (add p a) r) e =
    let l : get_or ss y 0 ≤ get_or ss x 0 = leb-true (get_or ss y 0) (get_or ss x 0) (not-false (leb (get_or ss y 0) (get_or ss x 0)) e) in
    omega arith

next_same : (ss : List ℕ) (x : ℕ) (xs : List ℕ) → Rises ss (x ∷ xs) → last_of ss (x ∷ xs) ≡ false → mem (get_or ss x 0) (map (λ y. get_or ss y 0) xs) ≡ true
unfolding mem last_of
next_same ss x [] r e = absurd (true≢false e)
next_same ss x (y ∷ ys) r e = rw (eq-eqb (get_or ss y 0) (get_or ss x 0) (sym (next_equal ss x y ys r e)))

bit_add : (b : Bool) (c : ℕ) → from_bool b + c ≡ cond b (suc c) c
bit_add true c = omega arith
bit_add false c = omega arith

-- What a walk has gathered of slot v before xs
abbrev pub begun : {A : Type 0} → A → A → List ℕ → List ℕ → ℕ → A
begun z a ss [] v = z
begun z a ss (x ∷ xs) v = cond (eqb (get_or ss x 0) v) a z

pub begun_same : {A : Type 0} (z : A) (ss xs : List ℕ) (v : ℕ) → begun z z ss xs v ≡ z
begun_same z ss [] v = refl
begun_same z ss (x ∷ xs) v = split (eqb (get_or ss x 0) v) (λ e. rw e) (λ e. rw e)

module _ {A : Type 0} (f : A → ℕ → A) (z : A) (t : A → Bool) (ss : List ℕ) where
  -- one number more, of another slot
  other : (a b : A) (x : ℕ) (xs : List ℕ) (v : ℕ) → eqb (get_or ss x 0) v ≡ false → begun z b ss xs v ≡ z → t (along f (begun z a ss (x ∷ xs) v) (pick ss v (x ∷ xs))) ≡ t (along f (begun z b ss xs v) (pick ss v xs))
  unfolding pick
  other a b x xs v e g = rw (e, g)

  next_begun : (a : A) (x : ℕ) (xs : List ℕ) (v : ℕ) → Rises ss (x ∷ xs) → last_of ss (x ∷ xs) ≡ false → begun z a ss xs v ≡ cond (eqb (get_or ss x 0) v) a z
  unfolding last_of
  next_begun a x [] v r e = absurd (true≢false e)
  next_begun a x (y ∷ ys) v r e = rw (next_equal ss x y ys r e)

  same_begun : (a : A) (x : ℕ) (xs : List ℕ) (v : ℕ) → Rises ss (x ∷ xs) → last_of ss (x ∷ xs) ≡ false → t (along f (begun z (f a x) ss xs v) (pick ss v xs)) ≡ t (along f (begun z a ss (x ∷ xs) v) (pick ss v (x ∷ xs)))
  unfolding pick along
  same_begun a x xs v r e =
      rw (next_begun (f a x) x xs v r e) (split (eqb (get_or ss x 0) v) (λ d. rw d) (λ d. rw d))

  at_last : (a : A) (x : ℕ) (xs : List ℕ) → pick ss (get_or ss x 0) xs ≡ [] → t (along f (begun z a ss (x ∷ xs) (get_or ss x 0)) (pick ss (get_or ss x 0) (x ∷ xs))) ≡ t (f a x)
  unfolding pick along
  at_last a x xs e = rw (eq-eqb (get_or ss x 0) (get_or ss x 0) refl, e)

  walk_count : (a : A) (xs : List ℕ) → Rises ss xs → walk f z t ss a xs ≡ count (λ v. t (along f (begun z a ss xs v) (pick ss v xs))) (map (λ y. get_or ss y 0) xs)
  unfolding walk count
  walk_count a [] r = refl
  walk_count a (x ∷ xs) (rise b r) = split (last_of ss (x ∷ xs)) (yes (walk_count z xs r)) (no (walk_count (f a x) xs r))
    where
      v0 : ℕ
      v0 = get_or ss x 0

      L : List ℕ
      L = map (λ y. get_or ss y 0) xs

      P : ℕ → Bool
      P v = t (along f (begun z a ss (x ∷ xs) v) (pick ss v (x ∷ xs)))

      yes : walk f z t ss z xs ≡ count (λ v. t (along f (begun z z ss xs v) (pick ss v xs))) L → last_of ss (x ∷ xs) ≡ true → walk f z t ss a (x ∷ xs) ≡ count P (v0 ∷ L)
      yes ih e =
          let ab : All (λ y. suc v0 ≤ get_or ss y 0) xs = last_above ss x xs (rise b r) e in
          let m : mem v0 L ≡ false = mem_above ss v0 (suc v0) (omega arith) xs ab in
          let test : P v0 ≡ t (f a x) = at_last a x xs (pick_above ss v0 (suc v0) (omega arith) xs ab) in
          let apart : (v : ℕ) → mem v L ≡ true → eqb v0 v ≡ false = λ v q. split (eqb v0 v) (λ d. absurd (true≢false (sym q ∙ rw (← eqb-true v0 v d) m))) (λ d. d) in
          let ext : count (λ v. t (along f (begun z z ss xs v) (pick ss v xs))) L ≡ count P L = count_ext (λ v. t (along f (begun z z ss xs v) (pick ss v xs))) P L (λ v q. sym (other a z x xs v (apart v q) (begun_same z ss xs v))) in
          ap (λ (k : Bool). cond k (from_bool (t (f a x)) + walk f z t ss z xs) (walk f z t ss (f a x) xs)) e
          ∙ ap (λ (k : ℕ). from_bool (t (f a x)) + k) (ih ∙ ext) ∙ bit_add (t (f a x)) (count P L)
          ∙ ap (λ (k : Bool). cond k (suc (count P L)) (count P L)) (sym test ∙ sym (ap (λ (k : Bool). P v0 && not k) m ∙ and_true (P v0)))

      no : walk f z t ss (f a x) xs ≡ count (λ v. t (along f (begun z (f a x) ss xs v) (pick ss v xs))) L → last_of ss (x ∷ xs) ≡ false → walk f z t ss a (x ∷ xs) ≡ count P (v0 ∷ L)
      no ih e =
          let m : mem v0 L ≡ true = next_same ss x xs (rise b r) e in
          let ext : count (λ v. t (along f (begun z (f a x) ss xs v) (pick ss v xs))) L ≡ count P L = count_ext (λ v. t (along f (begun z (f a x) ss xs v) (pick ss v xs))) P L (λ v q. same_begun a x xs v (rise b r) e) in
          ap (λ (k : Bool). cond k (from_bool (t (f a x)) + walk f z t ss z xs) (walk f z t ss (f a x) xs)) e
          ∙ ih ∙ ext ∙ ap (λ (k : Bool). cond k (suc (count P L)) (count P L)) (sym (ap (λ (k : Bool). P v0 && not k) m ∙ and_false (P v0)))

-- From the index to the records as they stand ------------------------------------------------------------------

abbrev some : List ℕ → Bool
some [] = false
some (x ∷ xs) = true

mem_pick : (ss : List ℕ) (v : ℕ) (xs : List ℕ) → mem v (map (λ y. get_or ss y 0) xs) ≡ some (pick ss v xs)
unfolding mem pick
mem_pick ss v [] = refl
mem_pick ss v (x ∷ xs) = split (eqb (get_or ss x 0) v) (λ e. rw e) (λ e. rw (e, mem_pick ss v xs))

up_suc : (k n : ℕ) → up_from (suc k) n ≡ map suc (up_from k n)
unfolding up_from
up_suc k zero = refl
up_suc k (suc n) = ap (λ (l : List ℕ). suc k ∷ l) (up_suc (suc k) n)

module _ {B : Type 0} where
  map_suc : (r d : B) (rs : List B) (xs : List ℕ) → map (λ i. get_or (r ∷ rs) i d) (map suc xs) ≡ map (λ i. get_or rs i d) xs
  map_suc r d rs [] = refl
  map_suc r d rs (x ∷ xs) = ap (λ (l : List B). get_or rs x d ∷ l) (map_suc r d rs xs)

  all_of_them : (d : B) (rs : List B) → map (λ i. get_or rs i d) (up_from 0 (length rs)) ≡ rs
  unfolding up_from
  all_of_them d [] = refl
  all_of_them d (r ∷ rs) = ap (λ (l : List B). r ∷ l) (ap (λ (l : List ℕ). map (λ i. get_or (r ∷ rs) i d) l) (up_suc 0 (length rs)) ∙ map_suc r d rs (up_from 0 (length rs)) ∙ all_of_them d rs)

pick_suc : (s v : ℕ) (ss xs : List ℕ) → pick (s ∷ ss) v (map suc xs) ≡ map suc (pick ss v xs)
unfolding pick
pick_suc s v ss [] = refl
pick_suc s v ss (x ∷ xs) = split (eqb (get_or ss x 0) v) (λ e. rw (e, pick_suc s v ss xs)) (λ e. rw (e, pick_suc s v ss xs))

pub same_members : (ss ix : List ℕ) → Ordered ss (up_from 0 (length ss)) ix → (v : ℕ) → mem v (map (λ y. get_or ss y 0) ix) ≡ mem v ss
same_members ss ix o v =
    let up : List ℕ = up_from 0 (length ss) in
    mem_pick ss v ix ∙ ap some (o.same v) ∙ sym (mem_pick ss v up) ∙ ap (mem v) (all_of_them 0 ss)

-- THE LAW: a walk over the groups of an index counts the distinct slots whose records, as they stand, pass.
pub walk_says : {A : Type 0} (f : A → ℕ → A) (z : A) (t : A → Bool) (ss ix : List ℕ)
    → Ordered ss (up_from 0 (length ss)) ix
    → walk f z t ss z ix ≡ count (λ v. t (along f z (pick ss v (up_from 0 (length ss))))) ss
walk_says f z t ss ix o =
    let up : List ℕ = up_from 0 (length ss) in
    walk_count f z t ss z ix o.rises
    ∙ count_ext _ (λ v. t (along f z (pick ss v up))) (map (λ y. get_or ss y 0) ix) (λ v q.
    ap₂ (λ b l. t (along f b l)) (begun_same z ss ix v) (o.same v))
    ∙ count_mems (λ v. t (along f z (pick ss v up))) (map (λ y. get_or ss y 0) ix) ss (same_members ss ix o)

-- The records of a slot, given by its number, in their order.
unfoldable pub number_group : ℕ → Layer → Layer
number_group v [] = []
number_group v (r ∷ rs) = cond (eqb (number_of r) v) (r ∷ number_group v rs) (number_group v rs)

-- The numbers of a slot, in the order of the records, name its group
pub pick_group : (v : ℕ) (rs : Layer) → map (λ i. get_or rs i no_record) (pick (map number_of rs) v (up_from 0 (length rs))) ≡ number_group v rs
unfolding pick number_group up_from
pick_group v [] = refl
pick_group v (r ∷ rs) =
    let p : pick (map number_of (r ∷ rs)) v (up_from 1 (length rs)) ≡ map suc (pick (map number_of rs) v (up_from 0 (length rs))) =
    ap (pick (map number_of (r ∷ rs)) v) (up_suc 0 (length rs)) ∙ pick_suc (number_of r) v (map number_of rs) (up_from 0 (length rs)) in
    let q : map (λ i. get_or (r ∷ rs) i no_record) (pick (map number_of (r ∷ rs)) v (up_from 1 (length rs))) ≡ number_group v rs =
    ap (map (λ i. get_or (r ∷ rs) i no_record)) p ∙ map_suc r no_record rs (pick (map number_of rs) v (up_from 0 (length rs))) ∙ pick_group v rs in
    split (eqb (number_of r) v) (λ e. rw e (ap (λ (l : Layer). r ∷ l) q)) (λ e. rw e q)

pub along_map : {A : Type 0} (g : A → Record → A) (h : ℕ → Record) (a : A) (xs : List ℕ) → along g a (map h xs) ≡ along (λ b i. g b (h i)) a xs
unfolding along
along_map g h a [] = refl
along_map g h a (x ∷ xs) = along_map g h (g a (h x)) xs

-- The law over the records themselves.
pub walk_groups : {A : Type 0} (g : A → Record → A) (z : A) (t : A → Bool) (rs : Layer) (ix : List ℕ)
    → Ordered (map number_of rs) (up_from 0 (length rs)) ix
    → walk (λ a i. g a (get_or rs i no_record)) z t (map number_of rs) z ix ≡ count (λ v. t (along g z (number_group v rs))) (map number_of rs)
walk_groups {A} g z t rs ix o =
    let ss : List ℕ = map number_of rs in
    let e : length ss ≡ length rs = length-map rs number_of in
    walk_says (λ a i. g a (get_or rs i no_record)) z t ss ix (rw e o)
    ∙ ap (λ (k : ℕ). count (λ v. t (along (λ a i. g a (get_or rs i no_record)) z (pick ss v (up_from 0 k)))) ss) e
    ∙ count_ext _ (λ v. t (along g z (number_group v rs))) ss (λ v q.
    ap t (sym (along_map g (λ i. get_or rs i no_record) z (pick ss v (up_from 0 (length rs)))) ∙ ap (along g z) (pick_group v rs)))

-- By places -----------------------------------------------------------------------------------------------------

pub last_end : (ss ix : List ℕ) (j : ℕ) → j + 1 ≡ length ix → true ≡ last_of ss (drop j ix)
unfolding last_of
last_end ss ix j e =
    let h : j < length ix = omega arith in
    let g : length ix ≤ suc j = omega arith in
    rw (drop-cons ix j 0 h, drop_of_length-le ix g)

pub last_next : (ss ix : List ℕ) (j : ℕ) → j + 1 < length ix → not (leb (get_or ss (get_or ix (j + 1) 0) 0) (get_or ss (get_or ix j 0) 0)) ≡ last_of ss (drop j ix)
unfolding last_of
last_next ss ix j h =
    let g : j < length ix = omega arith in
    let k : suc j < length ix = omega arith in
    rw (add-one j, drop-cons ix j 0 g, drop-cons ix (suc j) 0 k)

module _ {A : Type 0} (f : A → ℕ → A) (z : A) (t : A → Bool) (ss ix : List ℕ) (a : A) (j : ℕ) (h : j < length ix) where
  pub walk_last : last_of ss (drop j ix) ≡ true → walk f z t ss a (drop j ix) ≡ from_bool (t (f a (get_or ix j 0))) + walk f z t ss z (drop (j + 1) ix)
  unfolding walk
  walk_last e = rw (add-one j, drop-cons ix j 0 h) (rw (rw (drop-cons ix j 0 h) at e))

  pub walk_more : last_of ss (drop j ix) ≡ false → walk f z t ss a (drop j ix) ≡ walk f z t ss (f a (get_or ix j 0)) (drop (j + 1) ix)
  unfolding walk
  walk_more e = rw (add-one j, drop-cons ix j 0 h) (rw (rw (drop-cons ix j 0 h) at e))

  -- A turn of a loop that walks, with c counted
  pub turn_last : (c d w : ℕ) (a' b : A) → c + walk f z t ss a (drop j ix) ≡ w → a' ≡ f a (get_or ix j 0) → last_of ss (drop j ix) ≡ true → d ≡ c + from_bool (t a') → b ≡ z → d + walk f z t ss b (drop (j + 1) ix) ≡ w
  turn_last c d w a' b inv ea e ed eb =
      let p : walk f z t ss a (drop j ix) ≡ from_bool (t (f a (get_or ix j 0))) + walk f z t ss z (drop (j + 1) ix) = walk_last e in
      let q : walk f z t ss b (drop (j + 1) ix) ≡ walk f z t ss z (drop (j + 1) ix) = ap (λ (k : A). walk f z t ss k (drop (j + 1) ix)) eb in
      let r : from_bool (t a') ≡ from_bool (t (f a (get_or ix j 0))) = ap (λ (k : A). from_bool (t k)) ea in
      omega arith

  pub turn_more : (c d w : ℕ) (a' b : A) → c + walk f z t ss a (drop j ix) ≡ w → a' ≡ f a (get_or ix j 0) → last_of ss (drop j ix) ≡ false → d ≡ c → b ≡ a' → d + walk f z t ss b (drop (j + 1) ix) ≡ w
  turn_more c d w a' b inv ea e ed eb =
      let p : walk f z t ss a (drop j ix) ≡ walk f z t ss (f a (get_or ix j 0)) (drop (j + 1) ix) = walk_more e in
      let q : walk f z t ss b (drop (j + 1) ix) ≡ walk f z t ss (f a (get_or ix j 0)) (drop (j + 1) ix) = ap (λ (k : A). walk f z t ss k (drop (j + 1) ix)) (eb ∙ ea) in
      omega arith

pub bit_small : (b : Bool) → from_bool b ≤ 1
bit_small true = omega arith
bit_small false = omega arith

pub walk_end : {A : Type 0} (f : A → ℕ → A) (z : A) (t : A → Bool) (ss ix : List ℕ) (a : A) (j : ℕ) → length ix ≤ j → walk f z t ss a (drop j ix) ≡ 0
unfolding walk
walk_end f z t ss ix a j h = rw (drop_of_length-le ix h)
