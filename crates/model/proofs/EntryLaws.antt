-- Entries in bytes read back: a number between other bytes, a slot, a value, a list of entries; what is read from bytes fits its fields.
use Prim.Native.Nat.{ℕ, zero, suc, ◌+◌, ◌*◌, ◌^◌, ◌≤◌, ◌<◌}
use mathlib.Core.Path.{◌≡◌, refl, sym, ap, ap₂, ◌∙◌}
use mathlib.Core.List.{List, [], ◌∷◌, ◌++◌, map, append_assoc, append-nil}
use native.Mathlib.Nat.{pow-suc, one-le-pow, mul-le-mul_left, mul-le-mul_right}
use native.Mathlib.Omega.{arith}
use lib.Dec.{lit<}
use lib.ListN.{length, take, drop, length-append}
use lib.Seq.{take_at, drop_at, get_or-drop}
use Rattle.model.specs.Numbers.{be, num_from, num, Bytes}
use Rattle.model.specs.Slots.{Address, U256, Slot}
use Rattle.model.specs.Entries.{number_at, u256_at, address_of, slot_of, chunks, slot_bytes, slots_bytes, first_slots, with_slots}
use Rattle.model.proofs.NumberLaws.{length_be, num_be}

-- Numbers that bytes give fit -----------------------------------------------------------------------------

-- The bytes after the first, from a place on, and the first ones.
pub bytes_tail : (x : ℕ) (l : List ℕ) → Bytes (x ∷ l) → Bytes l
bytes_tail x l f = λ j. f (suc j)

pub bytes_drop : (k : ℕ) (l : List ℕ) → Bytes l → Bytes (drop k l)
bytes_drop k l f = λ j. rw get_or-drop (f (k + j))

pub bytes_take : (k : ℕ) (l : List ℕ) → Bytes l → Bytes (take k l)
bytes_take zero l f j = lit< tt
bytes_take (suc k) [] f j = lit< tt
bytes_take (suc k) (x ∷ l) f zero = f 0
bytes_take (suc k) (x ∷ l) f (suc j) = bytes_take k l (bytes_tail x l f) j

num_from_below : (n a : ℕ) (l : List ℕ) → Bytes l → num_from a (take n l) < suc a * 256 ^ n
unfolding num_from
num_from_below zero a l b = omega arith
num_from_below (suc n) a [] b =
    let p : suc a * 1 ≤ suc a * 256 ^ suc n = mul-le-mul_left (suc a) (one-le-pow (suc n) 256 (lit< tt)) in
    omega arith
num_from_below (suc n) a (x ∷ l) b =
    let p : num_from (a * 256 + x) (take n l) < suc (a * 256 + x) * 256 ^ n = num_from_below n (a * 256 + x) l (bytes_tail x l b) in
    let q : suc (a * 256 + x) * 256 ^ n ≤ (suc a * 256) * 256 ^ n = mul-le-mul_right (256 ^ n) (omega (arith, b 0)) in
    rw pow-suc (omega arith)

pub number_below : (i n : ℕ) (b : List ℕ) → Bytes b → number_at i n b < 256 ^ n
number_below i n b f = omega (arith, num_from_below n 0 (drop i b) (bytes_drop i b f))

-- The words of a 32-byte number and of an address fit their bytes.
pub record ValueFits (x : U256) : Type 0 where
  pub f0 : x.w0 < 256 ^ 8
  pub f1 : x.w1 < 256 ^ 8
  pub f2 : x.w2 < 256 ^ 8
  pub f3 : x.w3 < 256 ^ 8

pub record AddressFits (a : Address) : Type 0 where
  pub f0 : a.w0 < 256 ^ 4
  pub f1 : a.w1 < 256 ^ 8
  pub f2 : a.w2 < 256 ^ 8

pub record SlotFits (s : Slot) : Type 0 where
  pub address_fits : AddressFits s.address
  pub index_fits : ValueFits s.index

pub value_at_fits : (i : ℕ) (b : List ℕ) → Bytes b → ValueFits (u256_at i b)
value_at_fits i b f = record { f0 = number_below i 8 b f; f1 = number_below (i + 8) 8 b f; f2 = number_below (i + 16) 8 b f; f3 = number_below (i + 24) 8 b f }

pub address_of_fits : (b : List ℕ) → Bytes b → AddressFits (address_of b)
address_of_fits b f = record { f0 = number_below 0 4 b f; f1 = number_below 4 8 b f; f2 = number_below 12 8 b f }

pub slot_of_fits : (b : List ℕ) → Bytes b → SlotFits (slot_of b)
slot_of_fits b f = record { address_fits = address_of_fits b f; index_fits = value_at_fits 20 b f }

-- Read back -----------------------------------------------------------------------------------------------

-- A number between other bytes.
pub field : (o n x : ℕ) (l p q : List ℕ) → l ≡ p ++ (be n x ++ q) → length p ≡ o → x < 256 ^ n → number_at o n l ≡ x
field o n x l p q d e h =
    ap (number_at o n) d ∙ ap (λ (m : List ℕ). num (take n m)) (drop_at p (be n x ++ q) o e) ∙ ap num (take_at (be n x) q n (length_be n x)) ∙ num_be n x h

pub length_slot : (s : Slot) → length (slot_bytes s) ≡ 52
unfolding slot_bytes
length_slot s = simp (length-append, length_be)

-- A 32-byte number after other bytes.
pub value_back : (o : ℕ) (x : U256) (p q : List ℕ) → length p ≡ o → ValueFits x
    → u256_at o (p ++ (be 8 x.w0 ++ (be 8 x.w1 ++ (be 8 x.w2 ++ (be 8 x.w3 ++ q))))) ≡ x
value_back o x p q n f =
    let b0 = be 8 x.w0 in
    let b1 = be 8 x.w1 in
    let b2 = be 8 x.w2 in
    let b3 = be 8 x.w3 in
    let l = p ++ (b0 ++ (b1 ++ (b2 ++ (b3 ++ q)))) in
    let w0 = field o 8 x.w0 l p (b1 ++ (b2 ++ (b3 ++ q))) refl n f.f0 in
    let w1 = field (o + 8) 8 x.w1 l (p ++ b0) (b2 ++ (b3 ++ q)) (simp append_assoc) (simp (length-append, length_be) (omega arith)) f.f1 in
    let w2 = field (o + 16) 8 x.w2 l (p ++ b0 ++ b1) (b3 ++ q) (simp append_assoc) (simp (length-append, length_be) (omega arith)) f.f2 in
    let w3 = field (o + 24) 8 x.w3 l (p ++ b0 ++ b1 ++ b2) q (simp append_assoc) (simp (length-append, length_be) (omega arith)) f.f3 in
    λ i. record { w0 = w0 i; w1 = w1 i; w2 = w2 i; w3 = w3 i }

-- A slot before other bytes.
pub slot_back : (s : Slot) (q : List ℕ) → SlotFits s → slot_of (slot_bytes s ++ q) ≡ s
unfolding slot_bytes
slot_back s q f =
    let a = s.address in
    let x = s.index in
    let p1 : List ℕ = be 4 a.w0 in
    let p2 : List ℕ = p1 ++ be 8 a.w1 in
    let p3 : List ℕ = p2 ++ be 8 a.w2 in
    let q3 : List ℕ = be 8 x.w0 ++ (be 8 x.w1 ++ (be 8 x.w2 ++ (be 8 x.w3 ++ q))) in
    let q2 : List ℕ = be 8 a.w2 ++ q3 in
    let q1 : List ℕ = be 8 a.w1 ++ q2 in
    let e : slot_bytes s ++ q ≡ p3 ++ q3 = simp append_assoc in
    let w0 : number_at 0 4 (slot_bytes s ++ q) ≡ a.w0 = field 0 4 a.w0 (slot_bytes s ++ q) [] q1 (simp append_assoc) refl f.address_fits.f0 in
    let w1 : number_at 4 8 (slot_bytes s ++ q) ≡ a.w1 = field 4 8 a.w1 (slot_bytes s ++ q) p1 q2 (simp append_assoc) (length_be 4 a.w0) f.address_fits.f1 in
    let w2 : number_at 12 8 (slot_bytes s ++ q) ≡ a.w2 = field 12 8 a.w2 (slot_bytes s ++ q) p2 q3 (simp append_assoc) (simp (length-append, length_be)) f.address_fits.f2 in
    let v : u256_at 20 (slot_bytes s ++ q) ≡ x = ap (u256_at 20) e ∙ value_back 20 x p3 q (simp (length-append, length_be)) f.index_fits in
    λ i. record { address = record { w0 = w0 i; w1 = w1 i; w2 = w2 i }; index = v i }

-- What holds of each element of a list.
pub data Each {A : Type 0} (P : A → Type 0) : List A → Type 0 where
  each_none : Each P []
  each_more : {x : A} {xs : List A} → P x → Each P xs → Each P (x ∷ xs)

-- A list of entries of w bytes before other bytes.
module _ {A : Type 0} (w : ℕ) (rd : List ℕ → A) (wr : A → List ℕ) (all : List A → List ℕ) (wide : (x : A) → length (wr x) ≡ w) (next : (x : A) (xs : List A) → all (x ∷ xs) ≡ wr x ++ all xs) where
  pub entries_back : {xs : List A} (q : List ℕ) → Each (λ x. rd (wr x) ≡ x) xs → map rd (chunks w (length xs) (all xs ++ q)) ≡ xs
  unfolding chunks
  entries_back q each_none = refl
  entries_back q (each_more {x} {xs} e es) =
      let r : List ℕ = all xs ++ q in
      let s : all (x ∷ xs) ++ q ≡ wr x ++ r = ap (λ (l : List ℕ). l ++ q) (next x xs) ∙ append_assoc (wr x) (all xs) q in
      let t : rd (take w (wr x ++ r)) ≡ x = ap rd (take_at (wr x) r w (wide x)) ∙ e in
      let u : map rd (chunks w (length xs) (drop w (wr x ++ r))) ≡ xs = ap (λ (l : List ℕ). map rd (chunks w (length xs) l)) (drop_at (wr x) r w (wide x)) ∙ entries_back q es in
      ap (λ (l : List ℕ). map rd (chunks w (suc (length xs)) l)) s ∙ ap₂ (λ (y : A) (l : List A). y ∷ l) t u

each_slot : {ss : List Slot} → Each SlotFits ss → Each (λ s. slot_of (slot_bytes s) ≡ s) ss
each_slot each_none = each_none
each_slot (each_more {x = s} f fs) = each_more (ap slot_of (sym (append-nil (slot_bytes s))) ∙ slot_back s [] f) (each_slot fs)

slots_next : (s : Slot) (ss : List Slot) → slots_bytes (s ∷ ss) ≡ slot_bytes s ++ slots_bytes ss
unfolding slots_bytes
slots_next s ss = refl

-- The slots of an output that has them at its beginning.
pub slots_back : {ss : List Slot} (out : List ℕ) → Each SlotFits ss → first_slots (length ss) (with_slots ss out) ≡ ss
slots_back {ss} out f = entries_back 52 slot_of slot_bytes slots_bytes length_slot slots_next (drop (52 * length ss) out) (each_slot f)
