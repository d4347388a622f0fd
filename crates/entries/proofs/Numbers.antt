-- Numbers at places, and an address, a number or a slot read there. Assumes nothing.
use mathlib.Core.Path.{◌≡◌, refl, sym, ap, ap₂, ◌∙◌}
use mathlib.Core.Bool.{Bool, true, false, ◌&&◌}
use mathlib.Core.List.{List, [], ◌∷◌}
use Prim.Native.Nat.{ℕ, zero, suc, ◌+◌, ◌≤◌}
use native.Mathlib.Nat.{add-zero}
use native.Mathlib.Omega.{arith}
use borrow.Author.Tests.{eq-eqb, ne_eqb}
use lib.Dec.{eqb}
use lib.ListN.{take, drop}
use lib.Seq.{take-take, drop-drop}
use Rattle.model.specs.declared.storage_memo.Address.{Address}
use Rattle.model.specs.declared.storage_memo.U256.{U256}
use Rattle.model.specs.Numbers.{num}
use Rattle.model.specs.Slots.{words_eqb, address_eqb}
use Rattle.model.specs.Entries.{number_at, u256_at, address_of, slot_of}
use Rattle.model.proofs.SlotLaws.{and_true}
use Rattle.words.specs.Parts.{part}

-- A number at a place of what follows a place.
pub number_in : (o at n : ℕ) (s : List ℕ) → num (part (at + o) n s) ≡ number_at o n (drop at s)
number_in o at n s = sym (ap (λ (x : List ℕ). num (take n x)) (drop-drop o at s))

number_past : (o k at : ℕ) (s : List ℕ) → number_at (at + o + k) 8 s ≡ number_at (o + k) 8 (drop at s)
number_past o k at s =
    let e : at + o + k ≡ at + (o + k) = omega arith in
    ap (λ (i : ℕ). number_at i 8 s) e ∙ number_in (o + k) at 8 s

pub u256_in : (o at : ℕ) (s : List ℕ) → u256_at (at + o) s ≡ u256_at o (drop at s)
u256_in o at s = λ i. record { w0 = number_in o at 8 s i; w1 = number_past o 8 at s i; w2 = number_past o 16 at s i; w3 = number_past o 24 at s i }

pub u256_first : (at : ℕ) (s : List ℕ) → u256_at at s ≡ u256_at 0 (drop at s)
u256_first at s = ap (λ (i : ℕ). u256_at i s) (sym (add-zero at)) ∙ u256_in 0 at s

-- What was read is the address there, and the slot.
pub address_read : (at w0 w1 w2 : ℕ) (s : List ℕ) → w0 ≡ num (part at 4 s) → w1 ≡ num (part (at + 4) 8 s) → w2 ≡ num (part (at + 12) 8 s)
    → record { w0 = w0; w1 = w1; w2 = w2 } ≡ address_of (drop at s)
address_read at w0 w1 w2 s p q r =
    let q' : w1 ≡ number_at 4 8 (drop at s) = q ∙ number_in 4 at 8 s in
    let r' : w2 ≡ number_at 12 8 (drop at s) = r ∙ number_in 12 at 8 s in
    λ i. record { w0 = p i; w1 = q' i; w2 = r' i }

pub slot_read : (at : ℕ) (a : Address) (x : U256) (s : List ℕ) → a ≡ address_of (drop at s) → x ≡ u256_at (at + 20) s → record { address = a; index = x } ≡ slot_of (drop at s)
slot_read at a x s p e =
    let e' : x ≡ u256_at 20 (drop at s) = e ∙ u256_in 20 at s in
    λ i. record { address = p i; index = e' i }

-- Whether two addresses are equal: the last word differs, the second does, or the first decides.
module _ (b a : Address) where
  abbrev tests : Bool → Bool → Bool → Bool
  tests p q r = p && (q && (r && true))

  last_false : (p q : Bool) → false ≡ tests p q false
  last_false true true = refl
  last_false true false = refl
  last_false false q = refl

  second_false : (p r : Bool) → false ≡ tests p false r
  second_false true r = refl
  second_false false r = refl

  pub last_differs : (x : ℕ) → x ≡ b.w2 → (x ≡ a.w2 → ⊥) → false ≡ address_eqb b a
  unfolding address_eqb words_eqb
  last_differs x e n =
      last_false (eqb b.w0 a.w0) (eqb b.w1 a.w1)
      ∙ sym (ap (tests (eqb b.w0 a.w0) (eqb b.w1 a.w1)) (ne_eqb b.w2 a.w2 (λ h. n (e ∙ h))))

  pub second_differs : (x : ℕ) → x ≡ b.w1 → (x ≡ a.w1 → ⊥) → false ≡ address_eqb b a
  unfolding address_eqb words_eqb
  second_differs x e n =
      second_false (eqb b.w0 a.w0) (eqb b.w2 a.w2)
      ∙ sym (ap (λ (t : Bool). tests (eqb b.w0 a.w0) t (eqb b.w2 a.w2)) (ne_eqb b.w1 a.w1 (λ h. n (e ∙ h))))

  pub first_decides : (x y z : ℕ) → x ≡ b.w2 → x ≡ a.w2 → y ≡ b.w1 → y ≡ a.w1 → z ≡ b.w0 → eqb z a.w0 ≡ address_eqb b a
  unfolding address_eqb words_eqb
  first_decides x y z d e f g h =
      ap (λ (t : ℕ). eqb t a.w0) h ∙ sym (and_true (eqb b.w0 a.w0))
      ∙ sym (ap₂ (tests (eqb b.w0 a.w0)) (eq-eqb b.w1 a.w1 (sym f ∙ g)) (eq-eqb b.w2 a.w2 (sym d ∙ e)))

-- What the first bytes of an entry hold is read from them alone.
pub part_take : (i n w : ℕ) (l : List ℕ) → i + n ≤ w → take n (drop i (take w l)) ≡ take n (drop i l)
part_take zero n w l h = take-take n w l (omega arith)
part_take (suc i) n zero l h = absurd (omega arith)
part_take (suc i) n (suc w) [] h = refl
part_take (suc i) n (suc w) (x ∷ l) h = part_take i n w l (omega arith)

pub number_take : (i n w : ℕ) (l : List ℕ) → i + n ≤ w → number_at i n (take w l) ≡ number_at i n l
number_take i n w l h = ap num (part_take i n w l h)

pub u256_take : (o w : ℕ) (l : List ℕ) → o + 32 ≤ w → u256_at o (take w l) ≡ u256_at o l
u256_take o w l h =
    let a : number_at o 8 (take w l) ≡ number_at o 8 l = number_take o 8 w l (omega arith) in
    let b : number_at (o + 8) 8 (take w l) ≡ number_at (o + 8) 8 l = number_take (o + 8) 8 w l (omega arith) in
    let c : number_at (o + 16) 8 (take w l) ≡ number_at (o + 16) 8 l = number_take (o + 16) 8 w l (omega arith) in
    let d : number_at (o + 24) 8 (take w l) ≡ number_at (o + 24) 8 l = number_take (o + 24) 8 w l (omega arith) in
    λ i. record { w0 = a i; w1 = b i; w2 = c i; w3 = d i }

pub address_take : (w : ℕ) (l : List ℕ) → 20 ≤ w → address_of (take w l) ≡ address_of l
address_take w l h =
    let a : number_at 0 4 (take w l) ≡ number_at 0 4 l = number_take 0 4 w l (omega arith) in
    let b : number_at 4 8 (take w l) ≡ number_at 4 8 l = number_take 4 8 w l (omega arith) in
    let c : number_at 12 8 (take w l) ≡ number_at 12 8 l = number_take 12 8 w l (omega arith) in
    λ i. record { w0 = a i; w1 = b i; w2 = c i }

pub slot_take : (w : ℕ) (l : List ℕ) → 52 ≤ w → slot_of (take w l) ≡ slot_of l
slot_take w l h =
    let a : address_of (take w l) ≡ address_of l = address_take w l (omega arith) in
    let x : u256_at 20 (take w l) ≡ u256_at 20 l = u256_take 20 w l (omega arith) in
    λ i. record { address = a i; index = x i }
