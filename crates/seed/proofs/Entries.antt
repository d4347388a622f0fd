-- Entries of lists in bytes: one at a place, the writes of a list, and an address on one. Assumes nothing.
use mathlib.Core.Path.{◌≡◌, refl, sym, ap, ap₂, ◌∙◌}
use mathlib.Core.Bool.{Bool, false, ◌||◌}
use mathlib.Core.List.{List, [], ◌∷◌, map}
use Prim.Native.Nat.{ℕ, zero, suc, ◌+◌, ◌*◌, ◌/◌, ◌≤◌, ◌<◌}
use native.Mathlib.Nat.{suc-mul, zero-mul}
use native.Mathlib.Numerals.{add-one}
use native.Mathlib.Omega.{arith}
use lib.ListN.{length, take, drop, drop_of_length-le}
use lib.Seq.{drop-drop}
use Rattle.model.specs.declared.storage_memo.Address.{Address}
use Rattle.model.specs.Slots.{address_eqb}
use Rattle.model.specs.Advance.{Write, relevant}
use Rattle.model.specs.Entries.{u256_at, address_of, slot_of, write_of, chunks, addresses_of, writes_of}
use Rattle.entries.proofs.Numbers.{u256_take, address_take, slot_take}

-- Entries ---------------------------------------------------------------------------------------------

module _ {A : Type 0} (rd : List ℕ → A) (w : ℕ) where
  pub length_chunks : (n : ℕ) (l : List ℕ) → length (map rd (chunks w n l)) ≡ n
  unfolding chunks
  length_chunks zero l = refl
  length_chunks (suc n) l = ap suc (length_chunks n (drop w l))

  pub chunk_at : (k n : ℕ) (l : List ℕ) → k < n → drop k (map rd (chunks w n l)) ≡ rd (take w (drop (k * w) l)) ∷ drop (suc k) (map rd (chunks w n l))
  unfolding chunks
  chunk_at k zero l h = absurd (omega arith)
  chunk_at zero (suc n) l h = ap (λ (i : ℕ). rd (take w (drop i l)) ∷ map rd (chunks w n (drop w l))) (sym (zero-mul w))
  chunk_at (suc k) (suc n) l h =
      let e : w + k * w ≡ suc k * w = omega (arith, suc-mul k w) in
      chunk_at k n (drop w l) (omega arith)
      ∙ ap (λ (x : List ℕ). rd (take w x) ∷ drop (suc k) (map rd (chunks w n (drop w l)))) (drop-drop (k * w) w l ∙ ap (λ (i : ℕ). drop i l) e)

  -- Nothing is left behind the last entry.
  pub none_left : (n k : ℕ) (l : List ℕ) → n ≤ k → drop k (map rd (chunks w n l)) ≡ []
  none_left n k l h =
      let e : length (map rd (chunks w n l)) ≤ k = omega (arith, length_chunks n l) in
      drop_of_length-le (map rd (chunks w n l)) e

write_take : (l : List ℕ) → write_of (take 84 l) ≡ write_of l
write_take l =
    let a : slot_of (take 84 l) ≡ slot_of l = slot_take 84 l (omega arith) in
    let v : u256_at 52 (take 84 l) ≡ u256_at 52 l = u256_take 52 84 l (omega arith) in
    λ i. record { slot = a i; value = v i }

-- The writes from the k-th on, by the k-th.
pub write_at : (k : ℕ) (b : List ℕ) → k < length b / 84 → drop k (writes_of b) ≡ write_of (drop (k * 84) b) ∷ drop (suc k) (writes_of b)
unfolding writes_of
write_at k b h = chunk_at write_of 84 k (length b / 84) b h ∙ ap (λ (w : Write). w ∷ drop (suc k) (writes_of b)) (write_take (drop (k * 84) b))

pub writes_end : (k : ℕ) (b : List ℕ) → length b / 84 ≤ k → drop k (writes_of b) ≡ []
unfolding writes_of
writes_end k b h = none_left write_of 84 (length b / 84) k b h

-- The addresses from the i-th on: the i-th is the one, or those after it decide.
module _ (b : List ℕ) (a : Address) where
  pub relevant_at : (i : ℕ) (t : Bool) → i < length b / 20 → address_eqb (address_of (drop (i * 20) b)) a ≡ t
      → relevant (drop i (addresses_of b)) a ≡ (t || relevant (drop (i + 1) (addresses_of b)) a)
  unfolding relevant addresses_of
  relevant_at i t h e =
      ap (λ (x : List Address). relevant x a) (chunk_at address_of 20 i (length b / 20) b h)
      ∙ ap₂ (λ (x : Bool) (k : ℕ). x || relevant (drop k (addresses_of b)) a) (ap (λ (x : Address). address_eqb x a) (address_take 20 (drop (i * 20) b) (omega arith)) ∙ e) (sym (add-one i))

  pub relevant_end : (i : ℕ) → length b / 20 ≤ i → relevant (drop i (addresses_of b)) a ≡ false
  unfolding relevant addresses_of
  relevant_end i h = ap (λ (x : List Address). relevant x a) (none_left address_of 20 (length b / 20) i b h)
