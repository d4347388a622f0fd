-- The order of addresses, the search among those that rise, and their buckets. Assumes nothing.
use mathlib.Core.Path.{◌≡◌, refl, sym, ap, subst, ◌∙◌}
use mathlib.Core.Bool.{Bool, true, false, not, ◌||◌}
use mathlib.Core.List.{List, []}
use Prim.Native.Nat.{ℕ, zero, suc, ◌+◌, ◌-◌, ◌*◌, ◌/◌, ◌≤◌, ◌<◌}
use native.Mathlib.Numerals.{add-one}
use native.Mathlib.Omega.{arith}
use lib.Dec.{eqb, ltb}
use lib.ListN.{length, take, drop, get_or, set}
use lib.Seq.{drop-drop, get_or-set_same, get_or-set_other}
use borrow.Author.Tests.{eqb-true, eqb-false, ltb-true, ltb-false}
use Rattle.std.specs.List.{list_all, range_with_len}
use Rattle.std.specs.List.Sorted.{IsPartitionedBy, IsPartitionPoint}
use Rattle.std.specs.Simd.{first_chunks}
use Rattle.std.proofs.lemmas.Bool.{not-true}
use Rattle.std.proofs.lemmas.List.FromFn.{length-range_with_len, get_or-range_with_len}
use Rattle.std.proofs.lemmas.List.Sums.{AllPass-from_list_all}
use Rattle.model.specs.declared.storage_memo.Address.{Address}
use Rattle.model.specs.Slots.{address_words, address_eqb}
use Rattle.model.specs.Advance.{relevant}
use Rattle.model.specs.Entries.{address_of, addresses_of}
use Rattle.entries.proofs.Numbers.{address_take}
use Rattle.model.proofs.SlotLaws.{split, not_both, or_right, words_eqb_true, words_ltb_irrefl, words_ltb_total, words_ltb_trans}
use Rattle.seed.specs.Rising.{address_ltb, address_in, Rise, RiseIf, bucket_of, Noted}
use Rattle.seed.proofs.Entries.{relevant_at, relevant_end}

-- The order -------------------------------------------------------------------------------------------

abbrev of_words : List ℕ → Address
of_words ws = record { w0 = get_or ws 0 0; w1 = get_or ws 1 0; w2 = get_or ws 2 0 }

address_eqb_true : (a b : Address) → address_eqb a b ≡ true → a ≡ b
unfolding address_eqb
address_eqb_true a b e = ap of_words (words_eqb_true (address_words a) (address_words b) e)

irrefl : (a : Address) → address_ltb a a ≡ false
unfolding address_ltb
irrefl a = words_ltb_irrefl (address_words a)

total : (a b : Address) → address_eqb a b ≡ false → address_ltb b a ≡ false → address_ltb a b ≡ true
unfolding address_eqb address_ltb
total a b d l = words_ltb_total (address_words a) (address_words b) refl d l

trans : (a b c : Address) → address_ltb a b ≡ true → address_ltb b c ≡ true → address_ltb a c ≡ true
unfolding address_ltb
trans a b c p q = words_ltb_trans (address_words a) (address_words b) (address_words c) p q

less_differs : (a b : Address) → address_ltb a b ≡ true → address_eqb a b ≡ false
less_differs a b l = split (address_eqb a b) (λ e. not_both (rw (address_eqb_true a b e) at l) (irrefl b)) (λ e. e)

-- One not after another that comes before a third comes before the third.
not_after_less : (a b c : Address) → address_ltb b a ≡ false → address_ltb b c ≡ true → address_ltb a c ≡ true
not_after_less a b c p q = split (address_eqb a b) (λ e. rw (address_eqb_true a b e) q) (λ e. trans a b c (total a b e p) q)

not_after_trans : (a b c : Address) → address_ltb b a ≡ false → address_ltb c b ≡ false → address_ltb c a ≡ false
not_after_trans a b c p q = split (address_ltb c a) (λ e. not_both (not_after_less b c a q e) p) (λ e. e)

-- A list and an address ------------------------------------------------------------------------------

module _ (b : List ℕ) (a : Address) where
  -- The first k differ from a.
  past : (k : ℕ) → k ≤ length b / 20 → ((j : ℕ) → j < k → address_eqb (address_in j b) a ≡ false) → relevant (drop k (addresses_of b)) a ≡ relevant (addresses_of b) a
  past zero h f = refl
  past (suc k) h f =
      let e : relevant (drop k (addresses_of b)) a ≡ relevant (drop (k + 1) (addresses_of b)) a = relevant_at b a k false (omega arith) (f k (omega arith)) in
      subst (λ (x : ℕ). relevant (drop x (addresses_of b)) a ≡ relevant (drop k (addresses_of b)) a) (add-one k) (sym e)
      ∙ past k (omega arith) (λ j m. f j (omega arith))

  pub not_found : ((j : ℕ) → j < length b / 20 → address_eqb (address_in j b) a ≡ false) → false ≡ relevant (addresses_of b) a
  not_found f = sym (relevant_end b a (length b / 20) (omega arith)) ∙ past (length b / 20) (omega arith) f

  -- One of them is a.
  pub found_from : (k : ℕ) → k ≤ length b / 20 → relevant (drop k (addresses_of b)) a ≡ true → true ≡ relevant (addresses_of b) a
  found_from zero h e = sym e
  found_from (suc k) h e =
      let f : relevant (drop k (addresses_of b)) a ≡ (address_eqb (address_in k b) a || relevant (drop (k + 1) (addresses_of b)) a) = relevant_at b a k (address_eqb (address_in k b) a) (omega arith) refl in
      let g : relevant (drop (k + 1) (addresses_of b)) a ≡ true = subst (λ (x : ℕ). relevant (drop x (addresses_of b)) a ≡ true) (sym (add-one k)) e in
      found_from k (omega arith) (f ∙ or_right (address_eqb (address_in k b) a) _ g)

  pub found_at : (k : ℕ) → k < length b / 20 → address_eqb (address_in k b) a ≡ true → true ≡ relevant (addresses_of b) a
  found_at k h e = found_from k (omega arith) (relevant_at b a k true h e)

  -- Its bucket is empty.
  pub not_noted : (t : List ℕ) → Noted (length b / 20) t b → get_or t (bucket_of a) 0 ≡ 0 → false ≡ relevant (addresses_of b) a
  not_noted t f e = not_found (λ j h. split (address_eqb (address_in j b) a) (λ p. absurd (clash j h p)) (λ p. p))
    where
      clash : (j : ℕ) → j < length b / 20 → address_eqb (address_in j b) a ≡ true → ⊥
      clash j h p =
          let q : 1 ≤ get_or t (bucket_of a) 0 = subst (λ (x : Address). 1 ≤ get_or t (bucket_of x) 0) (address_eqb_true (address_in j b) a p) (f j h) in
          omega arith

pub note_more : (t b : List ℕ) (i m v : ℕ) → m < length t → Noted i t b → m ≡ bucket_of (address_in i b) → 1 ≤ v → Noted (i + 1) (set t m v) b
note_more t b i m v l f e h j k =
    split (eqb (bucket_of (address_in j b)) m)
    (λ p. let q : bucket_of (address_in j b) ≡ m = eqb-true (bucket_of (address_in j b)) m p in rw (q, get_or-set_same t m v 0 l) h)
    (λ p. rw (get_or-set_other t m (bucket_of (address_in j b)) v 0 (eqb-false (bucket_of (address_in j b)) m p)) (f j (before j k p)))
  where
    before : (j : ℕ) → j < i + 1 → eqb (bucket_of (address_in j b)) m ≡ false → j < i
    before j k p =
        split (eqb j i)
        (λ q. let r : j ≡ i = eqb-true j i q in absurd (eqb-false (bucket_of (address_in j b)) m p (ap (λ (x : ℕ). bucket_of (address_in x b)) r ∙ sym e)))
        (λ q. omega (arith, eqb-false j i q))

-- Addresses that rise ---------------------------------------------------------------------------------

-- Whether address i does not come before the one that it follows.
abbrev pub follows : List ℕ → ℕ → Bool
follows b i = not (address_ltb (address_in i b) (address_in (i - 1) b))

pub rise_all : (b : List ℕ) (r : Bool) → r ≡ list_all (follows b) (range_with_len 1 (length b / 20 - 1)) → RiseIf r b
rise_all b r e t i h =
    let n = length b / 20 - 1 in
    let k : i < n = omega arith in
    let at : get_or (range_with_len 1 n) i 0 ≡ suc i = get_or-range_with_len 1 n i 0 k ∙ omega arith in
    let p : follows b (suc i) ≡ true = ap (follows b) (sym at) ∙ AllPass-from_list_all (follows b) (range_with_len 1 n) (sym e ∙ t) i 0 (omega (arith, length-range_with_len 1 n)) in
    let back : suc i - 1 ≡ i = omega arith in
    sym (ap (λ (k : ℕ). address_ltb (address_in (suc i) b) (address_in k b)) back) ∙ not-true _ p

module _ (b : List ℕ) (up : Rise b) where
  rise_le : (j i : ℕ) → i ≤ j → j < length b / 20 → address_ltb (address_in j b) (address_in i b) ≡ false
  rise_le zero i h k = let q : i ≡ zero = omega arith in rw q (irrefl (address_in zero b))
  rise_le (suc j) i h k =
      split (eqb i (suc j))
      (λ p. let q : i ≡ suc j = eqb-true i (suc j) p in rw q (irrefl (address_in (suc j) b)))
      (λ p. not_after_trans (address_in i b) (address_in j b) (address_in (suc j) b) (rise_le j i (omega (arith, eqb-false i (suc j) p)) (omega arith)) (up j k))

  module _ (a : Address) where
    -- Those before one that comes before a come before a.
    below_middle : (m : ℕ) → m < length b / 20 → address_ltb (address_in m b) a ≡ true → (j : ℕ) → j < m + 1 → address_ltb (address_in j b) a ≡ true
    below_middle m h p j k = not_after_less (address_in j b) (address_in m b) a (rise_le m j (omega arith) h) p

    -- All come before a.
    all_below : (i : ℕ) → i ≡ length b / 20 → ((j : ℕ) → j < i → address_ltb (address_in j b) a ≡ true) → false ≡ relevant (addresses_of b) a
    all_below i e f = not_found b a (λ j h. less_differs (address_in j b) a (f j (omega arith)))

    -- Those before place i come before a, and that at place i does not: it decides.
    decided : (i : ℕ) (r : Bool) → i < length b / 20 → ((j : ℕ) → j < i → address_ltb (address_in j b) a ≡ true) → address_ltb (address_in i b) a ≡ false
        → r ≡ address_eqb (address_in i b) a → r ≡ relevant (addresses_of b) a
    decided i r h f g e =
        split (address_eqb (address_in i b) a)
        (λ p. e ∙ p ∙ sym (relevant_at b a i true h p) ∙ past b a i (omega arith) (λ j k. less_differs (address_in j b) a (f j k)))
        (λ p. e ∙ p ∙ not_found b a (λ j k. split (ltb j i) (λ q. less_differs (address_in j b) a (f j (omega (arith, ltb-true j i q)))) (λ q. others j k (ltb-false j i q) p)))
      where
        others : (j : ℕ) → j < length b / 20 → i ≤ j → address_eqb (address_in i b) a ≡ false → address_eqb (address_in j b) a ≡ false
        others j k m p =
            split (address_eqb (address_in j b) a)
            (λ q. not_both (total (address_in i b) a p (rw (address_eqb_true (address_in j b) a q) at (rise_le j i m k))) g)
            (λ q. q)

-- The list as arrays, as a search by halves sees it -------------------------------------------------------

chunk_get : (n j : ℕ) (b d : List ℕ) → j < n → get_or (first_chunks 20 n b) j d ≡ take 20 (drop (j * 20) b)
chunk_get zero j b d h = absurd (omega arith)
chunk_get (suc n) zero b d h = refl
chunk_get (suc n) (suc j) b d h =
    let e : 20 + j * 20 ≡ suc j * 20 = omega arith in
    chunk_get n j (drop 20 b) d (omega arith) ∙ ap (take 20) (drop-drop (j * 20) 20 b ∙ ap (λ (i : ℕ). drop i b) e)

module _ (b : List ℕ) (list : List (List ℕ)) (front : list ≡ first_chunks 20 (length b / 20) b) (size : length list ≡ length b / 20) where
  address_got : (j : ℕ) (d : List ℕ) → j < length b / 20 → address_of (get_or list j d) ≡ address_in j b
  address_got j d h = ap (λ (l : List (List ℕ)). address_of (get_or l j d)) front ∙ ap address_of (chunk_get (length b / 20) j b d h) ∙ address_take 20 (drop (j * 20) b) (omega arith)

  module _ (a : Address) where
    abbrev pub precedes : List ℕ → Bool
    precedes m = address_ltb (address_of m) a

    got : (j : ℕ) (d : List ℕ) (x : Bool) → j < length b / 20 → precedes (get_or list j d) ≡ x → address_ltb (address_in j b) a ≡ x
    got j d x h e = sym (ap (λ (y : Address). address_ltb y a) (address_got j d h)) ∙ e

    module _ (up : Rise b) where
      pub partitioned : IsPartitionedBy precedes list
      partitioned i j d h k e =
          ap (λ (y : Address). address_ltb y a) (address_got i d (omega arith))
          ∙ below_middle b up a j (omega arith) (got j d true (omega arith) e) i (omega arith)

      module _ (i : ℕ) (at : IsPartitionPoint (λ y. precedes y ≡ true) (λ y. precedes y ≡ false) list i) where
        pub point_end : length list ≤ i → i ≤ length list → false ≡ relevant (addresses_of b) a
        point_end h k = all_below b up a i (omega arith) (λ j m. got j [] true (omega arith) (at.0 j [] (omega arith) m))

        pub point_at : (r : Bool) (d : List ℕ) → i < length list → r ≡ address_eqb (address_of (get_or list i d)) a → r ≡ relevant (addresses_of b) a
        point_at r d h e =
            decided b up a i r (omega arith) (λ j m. got j [] true (omega arith) (at.0 j [] (omega arith) m)) (got i [] false (omega arith) (at.1 i [] (omega arith) h))
            (e ∙ ap (λ (y : Address). address_eqb y a) (address_got i d (omega arith)))
