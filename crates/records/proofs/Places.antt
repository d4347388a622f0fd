-- The place of a slot among records: what the search shows, and what a caller learns of it.
use Rattle.std.specs.Prelude.{None, Some, Err, Ok}
use Prim.Native.Nat.{ℕ, zero, suc, ◌+◌, ◌-◌, ◌≤◌, ◌<◌}
use mathlib.Core.Path.{◌≡◌, refl, sym, ap, subst, ◌∙◌}
use mathlib.Core.Bool.{Bool, true, false}
use mathlib.Core.List.{[], ◌∷◌, ◌++◌}
use native.Mathlib.Numerals.{add-one}
use native.Mathlib.Omega.{arith}
use lib.ListN.{length, take, drop}
use Rattle.model.specs.declared.delta_snapshot.Slot.{Slot}
use Rattle.model.specs.Slots.{slot_eqb, slot_ltb}
use Rattle.model.specs.declared.delta_snapshot.Content.{Content}
use Rattle.model.specs.Layers.{Record, Layer, find, insert}
use Rattle.model.proofs.SlotLaws.{split, not_both, and_left, and_right, slot_eqb_true, slot_eqb_sym, slot_ltb_irrefl, slot_ltb_total, slot_ltb_trans, slot_ltb_eqb}
use Rattle.image.specs.WellFormed.{rising_from, rising}
use Rattle.std.specs.declared.cmp.Ordering.{Ordering}
use Rattle.std.specs.declared.cmp.Ordering.TheVariants.{Less, Equal, Greater}
use Rattle.records.specs.Records.{Found}
use Rattle.records.specs.Records.{slot_order, place_from, place_in, record_at, count_after}

-- The order of two slots ------------------------------------------------------------------------------

-- What an answer says of the two tests.
order_says : {P : Type 0} (a b : Slot) (o : Ordering) → slot_order a b ≡ o
    → (slot_eqb a b ≡ true → o ≡ Equal → P) → (slot_ltb a b ≡ true → o ≡ Less → P) → (slot_ltb b a ≡ true → o ≡ Greater → P) → P
unfolding slot_order
order_says a b o e equal less greater =
    split (slot_eqb a b)
    (λ p. equal p (sym e ∙ rw p))
    (λ p. split (slot_ltb a b) (λ q. less q (sym e ∙ rw (p, q))) (λ q. greater (slot_ltb_total b a (slot_eqb_sym b a ∙ p) q) (sym e ∙ rw (p, q))))

pub order_less : (a b : Slot) → slot_order a b ≡ Less → slot_ltb a b ≡ true
order_less a b e = order_says a b Less e (λ p q. let z : ◌≡◌ {A = ℕ} 0 1 = cc in absurd (omega arith)) (λ p q. p) (λ p q. let z : ◌≡◌ {A = ℕ} 0 1 = cc in absurd (omega arith))

pub order_equal : (a b : Slot) → slot_order a b ≡ Equal → slot_eqb a b ≡ true
order_equal a b e = order_says a b Equal e (λ p q. p) (λ p q. let z : ◌≡◌ {A = ℕ} 0 1 = cc in absurd (omega arith)) (λ p q. let z : ◌≡◌ {A = ℕ} 0 1 = cc in absurd (omega arith))

pub order_greater : (a b : Slot) → slot_order a b ≡ Greater → slot_ltb b a ≡ true
order_greater a b e = order_says a b Greater e (λ p q. let z : ◌≡◌ {A = ℕ} 0 1 = cc in absurd (omega arith)) (λ p q. let z : ◌≡◌ {A = ℕ} 0 1 = cc in absurd (omega arith)) (λ p q. p)

-- Of two slots only one comes before the other.
pub slot_ltb_asym : (a b : Slot) → slot_ltb a b ≡ true → slot_ltb b a ≡ false
slot_ltb_asym a b p = split (slot_ltb b a) (λ q. not_both (slot_ltb_trans a b a p q) (slot_ltb_irrefl a)) (λ q. q)

-- What a search shows ---------------------------------------------------------------------------------

-- The slots of all records before place i come before a slot.
abbrev pub Below : Layer → Slot → ℕ → Type 0
Below l t i = (j : ℕ) → j < i → slot_ltb (record_at j l).slot t ≡ true

place_at_from : (l : Layer) (b : ℕ) (t : Slot) (i : ℕ) → i < length l → Below l t i → slot_eqb (record_at i l).slot t ≡ true → Ok (b + i) ≡ place_from b t l
unfolding place_from
place_at_from [] b t i h p e = absurd (omega arith)
place_at_from (r ∷ l) b t zero h p e = rw e (ap Ok (omega arith))
place_at_from (r ∷ l) b t (suc i) h p e =
    let q : suc b + i ≡ b + suc i = omega arith in
    let k : slot_ltb r.slot t ≡ true = p 0 (omega arith) in
    rw (slot_ltb_eqb r.slot t k, slot_ltb_asym r.slot t k, ← q) (place_at_from l (suc b) t i (omega arith) (λ j m. p (suc j) (omega arith)) e)

place_absent_from : (l : Layer) (b : ℕ) (t : Slot) (i : ℕ) → i ≤ length l → Below l t i → (i < length l → slot_ltb t (record_at i l).slot ≡ true) → Err (b + i) ≡ place_from b t l
unfolding place_from
place_absent_from [] b t i h p e = ap Err (omega arith)
place_absent_from (r ∷ l) b t zero h p e =
    let k : slot_ltb t r.slot ≡ true = e (omega arith) in
    rw (slot_eqb_sym r.slot t ∙ slot_ltb_eqb t r.slot k, k) (ap Err (omega arith))
place_absent_from (r ∷ l) b t (suc i) h p e =
    let q : suc b + i ≡ b + suc i = omega arith in
    let k : slot_ltb r.slot t ≡ true = p 0 (omega arith) in
    rw (slot_ltb_eqb r.slot t k, slot_ltb_asym r.slot t k, ← q) (place_absent_from l (suc b) t i (omega arith) (λ j m. p (suc j) (omega arith)) (λ m. e (omega arith)))

-- The slot's record is at place i, and the slots before it come before it.
pub place_at : (l : Layer) (t : Slot) (i : ℕ) → i < length l → Below l t i → slot_eqb (record_at i l).slot t ≡ true → Ok i ≡ place_in t l
place_at l t i h p e = ap Ok (omega arith) ∙ place_at_from l 0 t i h p e

-- The slots before place i come before the slot, and that at place i, if there is one, after it.
pub place_absent : (l : Layer) (t : Slot) (i : ℕ) → i ≤ length l → Below l t i → (i < length l → slot_ltb t (record_at i l).slot ≡ true) → Err i ≡ place_in t l
place_absent l t i h p e = ap Err (omega arith) ∙ place_absent_from l 0 t i h p e

-- Records that rise -----------------------------------------------------------------------------------

rising_above : (s : Slot) (l : Layer) → rising_from s l ≡ true → (j : ℕ) → j < length l → slot_ltb s (record_at j l).slot ≡ true
unfolding rising_from
rising_above s [] e j h = absurd (omega arith)
rising_above s (r ∷ l) e zero h = and_left (slot_ltb s r.slot) (rising_from r.slot l) e
rising_above s (r ∷ l) e (suc j) h =
    let x : Bool = slot_ltb s r.slot in
    let y : Bool = rising_from r.slot l in
    slot_ltb_trans s r.slot (record_at j l).slot (and_left x y e) (rising_above r.slot l (and_right x y e) j (omega arith))

rising_rest : (s : Slot) (l : Layer) → rising_from s l ≡ true → rising l ≡ true
unfolding rising_from
rising_rest s [] e = refl
rising_rest s (r ∷ l) e = and_right (slot_ltb s r.slot) (rising_from r.slot l) e

-- Of records that rise, the slot of a later one comes after that of an earlier one.
pub rising_lt : (l : Layer) → rising l ≡ true → (i j : ℕ) → i < j → j < length l → slot_ltb (record_at i l).slot (record_at j l).slot ≡ true
rising_lt [] e i j h k = absurd (omega arith)
rising_lt (r ∷ l) e i zero h k = absurd (omega arith)
rising_lt (r ∷ l) e zero (suc j) h k = rising_above r.slot l e j (omega arith)
rising_lt (r ∷ l) e (suc i) (suc j) h k = rising_lt l (rising_rest r.slot l e) i j (omega arith) (omega arith)

-- One that comes before a slot has all before it before the slot; one that comes after it, all after it.
pub below_mid : (l : Layer) (t : Slot) (m : ℕ) → rising l ≡ true → m < length l → slot_ltb (record_at m l).slot t ≡ true → Below l t (m + 1)
below_mid l t m e h p j k = go (m - j) refl
  where
    go : (d : ℕ) → m - j ≡ d → slot_ltb (record_at j l).slot t ≡ true
    go zero z = let q : m ≡ j = omega arith in subst (λ (x : ℕ). slot_ltb (record_at x l).slot t ≡ true) q p
    go (suc d) z = slot_ltb_trans (record_at j l).slot (record_at m l).slot t (rising_lt l e j m (omega arith) h) p

pub above_mid : (l : Layer) (t : Slot) (m : ℕ) → rising l ≡ true → slot_ltb t (record_at m l).slot ≡ true → (j : ℕ) → m ≤ j → j < length l → slot_ltb t (record_at j l).slot ≡ true
above_mid l t m e p j k h = go (j - m) refl
  where
    go : (d : ℕ) → j - m ≡ d → slot_ltb t (record_at j l).slot ≡ true
    go zero z = let q : m ≡ j = omega arith in subst (λ (x : ℕ). slot_ltb t (record_at x l).slot ≡ true) q p
    go (suc d) z = slot_ltb_trans t (record_at m l).slot (record_at j l).slot p (rising_lt l e m j (omega arith) h)

pub below_at : (l : Layer) (t : Slot) (m : ℕ) → rising l ≡ true → m < length l → slot_eqb (record_at m l).slot t ≡ true → Below l t m
below_at l t m e h p j k = subst (λ (x : Slot). slot_ltb (record_at j l).slot x ≡ true) (slot_eqb_true (record_at m l).slot t p) (rising_lt l e j m k h)

-- What a caller learns of a place ---------------------------------------------------------------------

-- Where a slot is found among a record and others, or absent: at the first, or among the others.
found_cases : {P : Type 0} (r : Record) (l : Layer) (b : ℕ) (t : Slot) (i : ℕ) → place_from b t (r ∷ l) ≡ Ok i
    → (slot_eqb r.slot t ≡ true → b ≡ i → P) → (slot_eqb r.slot t ≡ false → slot_ltb t r.slot ≡ false → place_from (suc b) t l ≡ Ok i → P) → P
unfolding place_from
found_cases r l b t i e first later =
    split (slot_eqb r.slot t)
    (λ p. let f : Ok b ≡ Ok i = rw p at e in first p (cc))
    (λ p. split (slot_ltb t r.slot)
    (λ q. let f : Err b ≡ Ok i = rw (p, q) at e in let z : ◌≡◌ {A = ℕ} 0 1 = cc in absurd (omega arith))
    (λ q. later p q (rw (p, q) at e)))

absent_cases : {P : Type 0} (r : Record) (l : Layer) (b : ℕ) (t : Slot) (i : ℕ) → place_from b t (r ∷ l) ≡ Err i
    → (slot_eqb r.slot t ≡ false → slot_ltb t r.slot ≡ true → b ≡ i → P) → (slot_eqb r.slot t ≡ false → slot_ltb t r.slot ≡ false → place_from (suc b) t l ≡ Err i → P) → P
unfolding place_from
absent_cases r l b t i e first later =
    split (slot_eqb r.slot t)
    (λ p. let f : Ok b ≡ Err i = rw p at e in let z : ◌≡◌ {A = ℕ} 0 1 = cc in absurd (omega arith))
    (λ p. split (slot_ltb t r.slot)
    (λ q. let f : Err b ≡ Err i = rw (p, q) at e in first p q (cc))
    (λ q. later p q (rw (p, q) at e)))

-- Among none a slot is absent, at the first place.
found_nowhere : {P : Type 0} (b : ℕ) (t : Slot) (i : ℕ) → place_from {A = Content} b t [] ≡ Ok i → P
unfolding place_from
found_nowhere b t i e = let z : ◌≡◌ {A = ℕ} 0 1 = cc in absurd (omega arith)

absent_first : (b : ℕ) (t : Slot) (i : ℕ) → place_from {A = Content} b t [] ≡ Err i → b ≡ i
unfolding place_from
absent_first b t i e = cc

-- A found place is one of the records; an absent one is at most the end.
found_from : (l : Layer) (b : ℕ) (t : Slot) (i : ℕ) → place_from b t l ≡ Ok i → (b ≤ i) × (i < b + length l)
found_from [] b t i e = found_nowhere b t i e
found_from (r ∷ l) b t i e =
    found_cases r l b t i e
    (λ p z. (omega arith, omega arith))
    (λ p q f. let g = found_from l (suc b) t i f in let x : suc b ≤ i = g.0 in let y : i < suc b + length l = g.1 in (omega arith, omega arith))

absent_from : (l : Layer) (b : ℕ) (t : Slot) (i : ℕ) → place_from b t l ≡ Err i → (b ≤ i) × (i ≤ b + length l)
absent_from [] b t i e = let z : b ≡ i = absent_first b t i e in (omega arith, omega arith)
absent_from (r ∷ l) b t i e =
    absent_cases r l b t i e
    (λ p q z. (omega arith, omega arith))
    (λ p q f. let g = absent_from l (suc b) t i f in let x : suc b ≤ i = g.0 in let y : i ≤ suc b + length l = g.1 in (omega arith, omega arith))

pub found_lt : (l : Layer) (t : Slot) (i : ℕ) → place_in t l ≡ Ok i → i < length l
found_lt l t i e = let h : i < 0 + length l = (found_from l 0 t i e).1 in omega arith

pub absent_le : (l : Layer) (t : Slot) (i : ℕ) → place_in t l ≡ Err i → i ≤ length l
absent_le l t i e = let h : i ≤ 0 + length l = (absent_from l 0 t i e).1 in omega arith

-- The record that is found is the slot's, and the model's search finds its content.
found_slot_from : (l : Layer) (b : ℕ) (t : Slot) (k : ℕ) → place_from b t l ≡ Ok (b + k) → (record_at k l).slot ≡ t
found_slot_from [] b t k e = found_nowhere b t (b + k) e
found_slot_from (r ∷ l) b t zero e =
    found_cases r l b t (b + 0) e (λ p z. slot_eqb_true r.slot t p) (λ p q f. let h : suc b ≤ b + 0 = (found_from l (suc b) t (b + 0) f).0 in absurd (omega arith))
found_slot_from (r ∷ l) b t (suc k) e =
    let m : b + suc k ≡ suc b + k = omega arith in
    found_cases r l b t (b + suc k) e (λ p z. absurd (omega arith)) (λ p q f. found_slot_from l (suc b) t k (f ∙ ap Ok m))

pub found_slot : (l : Layer) (t : Slot) (i : ℕ) → place_in t l ≡ Ok i → (record_at i l).slot ≡ t
found_slot l t i e = found_slot_from l 0 t i (e ∙ ap Ok (omega arith))

found_content_from : (l : Layer) (b : ℕ) (t : Slot) (k : ℕ) → place_from b t l ≡ Ok (b + k) → find t l ≡ Some (record_at k l).content
unfolding find
found_content_from [] b t k e = found_nowhere b t (b + k) e
found_content_from (r ∷ l) b t zero e = found_cases r l b t (b + 0) e (λ p z. rw p) (λ p q f. let h : suc b ≤ b + 0 = (found_from l (suc b) t (b + 0) f).0 in absurd (omega arith))
found_content_from (r ∷ l) b t (suc k) e =
    let m : b + suc k ≡ suc b + k = omega arith in
    found_cases r l b t (b + suc k) e (λ p z. absurd (omega arith)) (λ p q f. rw p (found_content_from l (suc b) t k (f ∙ ap Ok m)))

pub found_content : (l : Layer) (t : Slot) (i : ℕ) → place_in t l ≡ Ok i → find t l ≡ Some (record_at i l).content
found_content l t i e = found_content_from l 0 t i (e ∙ ap Ok (omega arith))

-- A slot that is absent from records that rise has no content.
find_below : (s t : Slot) (l : Layer) → slot_ltb t s ≡ true → rising_from s l ≡ true → find t l ≡ None
unfolding find rising_from
find_below s t [] p e = refl
find_below s t (r ∷ l) p e =
    let x : Bool = slot_ltb s r.slot in
    let y : Bool = rising_from r.slot l in
    let q : slot_ltb t r.slot ≡ true = slot_ltb_trans t s r.slot p (and_left x y e) in
    rw (slot_eqb_sym r.slot t ∙ slot_ltb_eqb t r.slot q) (find_below r.slot t l q (and_right x y e))

absent_none_from : (l : Layer) (b : ℕ) (t : Slot) (i : ℕ) → rising l ≡ true → place_from b t l ≡ Err i → find t l ≡ None
unfolding find
absent_none_from [] b t i h e = refl
absent_none_from (r ∷ l) b t i h e =
    absent_cases r l b t i e (λ p q z. rw p (find_below r.slot t l q h)) (λ p q f. rw p (absent_none_from l (suc b) t i (rising_rest r.slot l h) f))

pub absent_none : (l : Layer) (t : Slot) (i : ℕ) → rising l ≡ true → place_in t l ≡ Err i → find t l ≡ None
absent_none l t i h e = absent_none_from l 0 t i h e

-- What the model's insert does at the place.
insert_found_from : (l : Layer) (b : ℕ) (t : Slot) (c : Content) (k : ℕ) → place_from b t l ≡ Ok (b + k) → insert t c l ≡ take k l ++ (record { slot = t; content = c } ∷ drop (suc k) l)
unfolding insert
insert_found_from [] b t c k e = found_nowhere b t (b + k) e
insert_found_from (r ∷ l) b t c zero e = found_cases r l b t (b + 0) e (λ p z. rw p) (λ p q f. let h : suc b ≤ b + 0 = (found_from l (suc b) t (b + 0) f).0 in absurd (omega arith))
insert_found_from (r ∷ l) b t c (suc k) e =
    let m : b + suc k ≡ suc b + k = omega arith in
    found_cases r l b t (b + suc k) e (λ p z. absurd (omega arith)) (λ p q f. rw (p, q) (ap (λ (x : Layer). r ∷ x) (insert_found_from l (suc b) t c k (f ∙ ap Ok m))))

insert_absent_from : (l : Layer) (b : ℕ) (t : Slot) (c : Content) (k : ℕ) → place_from b t l ≡ Err (b + k) → insert t c l ≡ take k l ++ (record { slot = t; content = c } ∷ drop k l)
unfolding insert
insert_absent_from [] b t c zero e = refl
insert_absent_from [] b t c (suc k) e = let z : b ≡ b + suc k = absent_first b t (b + suc k) e in absurd (omega arith)
insert_absent_from (r ∷ l) b t c zero e =
    absent_cases r l b t (b + 0) e (λ p q z. rw (p, q)) (λ p q f. let h : suc b ≤ b + 0 = (absent_from l (suc b) t (b + 0) f).0 in absurd (omega arith))
insert_absent_from (r ∷ l) b t c (suc k) e =
    let m : b + suc k ≡ suc b + k = omega arith in
    absent_cases r l b t (b + suc k) e (λ p q z. absurd (omega arith)) (λ p q f. rw (p, q) (ap (λ (x : Layer). r ∷ x) (insert_absent_from l (suc b) t c k (f ∙ ap Err m))))

pub insert_found : (l : Layer) (t : Slot) (c : Content) (i : ℕ) → place_in t l ≡ Ok i → insert t c l ≡ take i l ++ (record { slot = t; content = c } ∷ drop (i + 1) l)
insert_found l t c i e = rw add-one (insert_found_from l 0 t c i (e ∙ ap Ok (omega arith)))

pub insert_absent : (l : Layer) (t : Slot) (c : Content) (i : ℕ) → place_in t l ≡ Err i → insert t c l ≡ take i l ++ (record { slot = t; content = c } ∷ drop i l)
insert_absent l t c i e = insert_absent_from l 0 t c i (e ∙ ap Err (omega arith))

-- The number of records after a record is set.
count_suc : (p : Found) (n : ℕ) → suc (count_after p n) ≡ count_after p (suc n)
count_suc (Ok i) n = refl
count_suc (Err i) n = omega arith

length_insert_from : (l : Layer) (b : ℕ) (t : Slot) (c : Content) → length (insert t c l) ≡ count_after (place_from b t l) (length l)
unfolding place_from insert
length_insert_from [] b t c = refl
length_insert_from (r ∷ l) b t c =
    split (slot_eqb r.slot t)
    (λ p. rw p)
    (λ p. split (slot_ltb t r.slot)
    (λ q. rw (p, q) (omega arith))
    (λ q. rw (p, q) (ap suc (length_insert_from l (suc b) t c) ∙ count_suc (place_from (suc b) t l) (length l))))

pub length_insert : (l : Layer) (t : Slot) (c : Content) → length (insert t c l) ≡ count_after (place_in t l) (length l)
length_insert l t c = length_insert_from l 0 t c
