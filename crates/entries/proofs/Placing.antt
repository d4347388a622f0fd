-- Bytes placed one after the other, and the bytes of an address, a number, a slot and a write placed so. Assumes nothing.
use mathlib.Core.Path.{◌≡◌, sym, ap, ap₂, ◌∙◌}
use mathlib.Core.List.{List, [], ◌++◌, append_assoc, append-nil}
use Prim.Native.Nat.{ℕ, ◌+◌, ◌≤◌}
use native.Mathlib.Nat.{add-zero}
use native.Mathlib.Omega.{arith}
use lib.ListN.{length, take, drop, length-append, take-append-drop}
use lib.Seq.{take_at, drop_at, drop-drop, length-take-le}
use Rattle.model.specs.declared.storage_memo.Address.{Address}
use Rattle.model.specs.declared.storage_memo.U256.{U256}
use Rattle.model.specs.declared.delta_snapshot.Slot.{Slot}
use Rattle.model.specs.Numbers.{be}
use Rattle.model.specs.Advance.{Write}
use Rattle.model.specs.Entries.{slot_bytes}
use Rattle.model.proofs.NumberLaws.{length_be}
use Rattle.model.proofs.EntryLaws.{length_slot}
use Rattle.words.specs.Parts.{placed}
use Rattle.entries.specs.Bytes.{address_bytes, u256_bytes, write_bytes}

-- Nothing placed changes nothing.
pub placed_nil : (at : ℕ) (s : List ℕ) → placed at [] s ≡ s
placed_nil at s = rw (append-nil, add-zero, take-append-drop)

-- What is placed right behind what was placed.
pub placed_next : (at x : ℕ) (a b s : List ℕ) → x ≡ at + length a → at ≤ length s → placed x b (placed at a s) ≡ placed at (a ++ b) s
placed_next at x a b s e h =
    let p : List ℕ = take at s ++ a in
    let d : List ℕ = drop (at + length a) s in
    let n : length p ≡ x = length-append (take at s) a ∙ omega (arith, length-take-le at s h) in
    let t : take x (p ++ d) ≡ p = take_at p d x n in
    let u : drop (x + length b) (p ++ d) ≡ drop (at + length a + length b) s =
    sym (drop-drop (length b) x (p ++ d)) ∙ ap (drop (length b)) (drop_at p d x n) ∙ drop-drop (length b) (at + length a) s in
    let m : at + length a + length b ≡ at + length (a ++ b) = omega (arith, length-append a b) in
    ap₂ (λ (y z : List ℕ). y ++ b ++ z) t u
    ∙ ap₂ (λ (y : List ℕ) (i : ℕ). y ++ drop i s) (append_assoc (take at s) a b) m

-- The same of the slices that two calls left.
placed_both : (at n : ℕ) (a b s s₁ s₂ : List ℕ) → length a ≡ n → at ≤ length s → s₁ ≡ placed at a s → s₂ ≡ placed (at + n) b s₁ → s₂ ≡ placed at (a ++ b) s
placed_both at n a b s s₁ s₂ e h p q =
    q ∙ ap (placed (at + n) b) p ∙ placed_next at (at + n) a b s (ap (λ (k : ℕ). at + k) (sym e)) h

-- A slot's bytes are its address's and its index's.
slot_parts : (o : Slot) → address_bytes o.address ++ u256_bytes o.index ≡ slot_bytes o
unfolding slot_bytes
slot_parts o = simp append_assoc

-- The words of an entry, placed one after the other.
pub placed_address : (at : ℕ) (a : Address) (s s₁ s₂ s₃ : List ℕ) → at ≤ length s
    → s₁ ≡ placed at (be 4 a.w0) s → s₂ ≡ placed (at + 4) (be 8 a.w1) s₁ → s₃ ≡ placed (at + 12) (be 8 a.w2) s₂ → s₃ ≡ placed at (address_bytes a) s
placed_address at a s s₁ s₂ s₃ h p q r =
    let x : List ℕ = be 4 a.w0 in
    let y : List ℕ = be 8 a.w1 in
    let z : List ℕ = be 8 a.w2 in
    placed_both at 12 (x ++ y) z s s₂ s₃ (simp (length-append, length_be)) h (placed_both at 4 x y s s₁ s₂ (length_be 4 a.w0) h p q) r
    ∙ ap (λ (l : List ℕ). placed at l s) (append_assoc x y z)

pub placed_u256 : (at : ℕ) (v : U256) (s s₁ s₂ s₃ s₄ : List ℕ) → at ≤ length s
    → s₁ ≡ placed at (be 8 v.w0) s → s₂ ≡ placed (at + 8) (be 8 v.w1) s₁ → s₃ ≡ placed (at + 16) (be 8 v.w2) s₂ → s₄ ≡ placed (at + 24) (be 8 v.w3) s₃
    → s₄ ≡ placed at (u256_bytes v) s
placed_u256 at v s s₁ s₂ s₃ s₄ h p q r t =
    let x : List ℕ = be 8 v.w0 in
    let y : List ℕ = be 8 v.w1 in
    let z : List ℕ = be 8 v.w2 in
    let w : List ℕ = be 8 v.w3 in
    let e : (x ++ y ++ z) ++ w ≡ x ++ (y ++ (z ++ w)) = simp append_assoc in
    placed_both at 24 (x ++ y ++ z) w s s₃ s₄ (simp (length-append, length_be)) h
    (placed_both at 16 (x ++ y) z s s₂ s₃ (simp (length-append, length_be)) h (placed_both at 8 x y s s₁ s₂ (length_be 8 v.w0) h p q) r) t
    ∙ ap (λ (l : List ℕ). placed at l s) e

pub placed_slot : (at : ℕ) (o : Slot) (s s₁ s₂ : List ℕ) → at ≤ length s → s₁ ≡ placed at (address_bytes o.address) s → s₂ ≡ placed (at + 20) (u256_bytes o.index) s₁
    → s₂ ≡ placed at (slot_bytes o) s
placed_slot at o s s₁ s₂ h p q =
    placed_both at 20 (address_bytes o.address) (u256_bytes o.index) s s₁ s₂ (simp (length-append, length_be)) h p q
    ∙ ap (λ (l : List ℕ). placed at l s) (slot_parts o)

pub placed_write : (at : ℕ) (w : Write) (s s₁ s₂ : List ℕ) → at ≤ length s → s₁ ≡ placed at (slot_bytes w.slot) s → s₂ ≡ placed (at + 52) (u256_bytes w.value) s₁
    → s₂ ≡ placed at (write_bytes w) s
unfolding write_bytes
placed_write at w s s₁ s₂ h p q = placed_both at 52 (slot_bytes w.slot) (u256_bytes w.value) s s₁ s₂ (length_slot w.slot) h p q

pub length_write_bytes : (w : Write) → length (write_bytes w) ≡ 84
unfolding write_bytes
length_write_bytes w = length-append (slot_bytes w.slot) (u256_bytes w.value) ∙ simp (length_slot, length-append, length_be)
