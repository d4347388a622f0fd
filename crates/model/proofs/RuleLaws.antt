-- The ledger's rules for retention, the link, skips and relevance agree with the store's.
use Rattle.std.specs.Prelude.{None, Option, Some}
use Prim.Native.Nat.{ℕ, zero, suc, ◌+◌, ◌-◌, ◌^◌}
use mathlib.Core.Path.{◌≡◌, refl, sym, ap, ◌∙◌}
use mathlib.Core.Bool.{Bool, true, false, not, ◌&&◌, cond}
use mathlib.Core.List.{List, [], ◌∷◌}
use native.Mathlib.Omega.{arith}
use lib.Dec.{eqb, leb, ltb}
use borrow.Author.Tests.{eqb-true, eq-eqb, ne_eqb, ltb-true, lt-ltb, leb-true, le-leb}
use Rattle.model.specs.Slots.{Address, address_eqb, Hash, u256_eqb, Slot, hash_eqb, ReadAnchor, Retention, Unbounded, IdleBlocks, serves}
use Rattle.model.specs.Advance.{Lineage, Linked, NoParent, NotConsecutive, ParentHashUnknown, ParentHashMismatch, BalSkip, skip_of, lineage_number, skip_number, classify_hash, classify_link, carries, relevant}
use Rattle.model.specs.FlatLedger.{in_date, ledger_link, ledger_skip, keeps_map, times_listed, ledger_relevant}
use Rattle.model.proofs.SlotLaws.{split, not_both, and_left, and_right, u256_eqb_true}

-- Two Bools that follow from one another are equal.
bool_same : (a b : Bool) → (a ≡ true → b ≡ true) → (b ≡ true → a ≡ true) → a ≡ b
bool_same true b f g = sym (f refl)
bool_same false b f g = split b (λ y. g y ∙ sym y) (λ y. sym y)

-- Retention: what is at most n above the last use is at most n past it.
pub serves_in_date : (R : Retention) (u now : ℕ) → serves R u now ≡ in_date R u now
serves_in_date Unbounded u now = refl
serves_in_date (IdleBlocks n) u now =
    bool_same (leb (now - u) n) (leb now (u + n))
    (λ y. le-leb now (u + n) (omega (arith, leb-true (now - u) n y)))
    (λ y. le-leb (now - u) n (omega (arith, leb-true now (u + n) y)))

-- The link.
consecutive_same : (p c : ℕ) → (ltb p (2 ^ 64 - 1) && eqb c (suc p)) ≡ (eqb c (p + 1) && ltb c (2 ^ 64))
consecutive_same p c =
    bool_same (ltb p (2 ^ 64 - 1) && eqb c (suc p)) (eqb c (p + 1) && ltb c (2 ^ 64))
    (λ y. let a = ltb-true p (2 ^ 64 - 1) (and_left (ltb p (2 ^ 64 - 1)) (eqb c (suc p)) y) in
    let b = eqb-true c (suc p) (and_right (ltb p (2 ^ 64 - 1)) (eqb c (suc p)) y) in
    rw (eq-eqb c (p + 1) (omega arith), lt-ltb c (2 ^ 64) (omega arith)))
    (λ y. let a = eqb-true c (p + 1) (and_left (eqb c (p + 1)) (ltb c (2 ^ 64)) y) in
    let b = ltb-true c (2 ^ 64) (and_right (eqb c (p + 1)) (ltb c (2 ^ 64)) y) in
    rw (eq-eqb c (suc p) (omega arith), lt-ltb p (2 ^ 64 - 1) (omega arith)))

hash_same : (k : Option Hash) (h : Hash) → classify_hash k h ≡ cond (hash_eqb k None) ParentHashUnknown (cond (not (hash_eqb k (Some h))) ParentHashMismatch Linked)
hash_same None h = refl
hash_same (Some k) h = split (u256_eqb k h) (λ y. rw y) (λ y. rw y)

pub link_same : (p : Option ReadAnchor) (child : ReadAnchor) (h : Hash) → classify_link p child h ≡ ledger_link p child h
link_same None child h = refl
link_same (Some p) child h =
    rw (consecutive_same p.number child.number)
    (split (eqb child.number (p.number + 1) && ltb child.number (2 ^ 64)) (λ y. rw y (hash_same p.hash h)) (λ y. rw y))

-- A linked child: its number is one above the parent's, and the parent has the hash that it names.
linked_hash : (k : Option Hash) (h : Hash) → lineage_number (classify_hash k h) ≡ 0 → k ≡ Some h
linked_hash None h e = absurd (omega arith)
linked_hash (Some k) h e = split (u256_eqb k h) (λ y. ap Some (u256_eqb_true k h y)) (λ y. let z : 4 ≡ 0 = rw y at e in absurd (omega arith))

pub linked : (p child : ReadAnchor) (h : Hash) → lineage_number (classify_link (Some p) child h) ≡ 0 → (child.number ≡ suc p.number) × (p.hash ≡ Some h)
linked p child h e =
    let a : Bool = ltb p.number (2 ^ 64 - 1) in
    let b : Bool = eqb child.number (suc p.number) in
    split (a && b)
    (λ y. (eqb-true child.number (suc p.number) (and_right a b y), linked_hash p.hash h (rw y at e)))
    (λ y. let z : 2 ≡ 0 = rw y at e in absurd (omega arith))

-- An advance that carries is linked, and its list was read.
pub carries_both : (l : Lineage) (k : BalSkip) → carries l k ≡ true → (lineage_number l ≡ 0) × (skip_number k ≡ 0)
carries_both l k e =
    let a : Bool = eqb (lineage_number l) 0 in
    let b : Bool = eqb (skip_number k) 0 in
    (eqb-true (lineage_number l) 0 (and_left a b e), eqb-true (skip_number k) 0 (and_right a b e))

-- Skips, and whether an advance keeps what is there.
pub skip_same : (k : ℕ) → skip_of k ≡ ledger_skip k
skip_same zero = refl
skip_same (suc zero) = refl
skip_same (suc (suc zero)) = refl
skip_same (suc (suc (suc k))) = rw (ne_eqb (suc (suc (suc k))) 0 (omega arith), ne_eqb (suc (suc (suc k))) 1 (omega arith), ne_eqb (suc (suc (suc k))) 2 (omega arith))

linked_keeps : (k : ℕ) → eqb (skip_number (ledger_skip k)) 0 ≡ eqb k 0
linked_keeps zero = refl
linked_keeps (suc zero) = refl
linked_keeps (suc (suc zero)) = refl
linked_keeps (suc (suc (suc k))) = sym (ne_eqb (suc (suc (suc k))) 0 (omega arith))

pub carries_same : (l : Lineage) (k : ℕ) → carries l (ledger_skip k) ≡ keeps_map l k
carries_same Linked k = linked_keeps k
carries_same NoParent k = refl
carries_same NotConsecutive k = refl
carries_same ParentHashUnknown k = refl
carries_same ParentHashMismatch k = refl

-- When the ledger keeps its map: the child's number is one above the anchor's, the anchor has the hash that it names, and the list was read.
pub record KeepsMap (p child : ReadAnchor) (h : Hash) (k : ℕ) : Type 0 where
  pub link : (child.number ≡ suc p.number) × (p.hash ≡ Some h)
  pub unskipped : k ≡ 0

linked_only : (l : Lineage) (k : ℕ) → keeps_map l k ≡ true → (l ≡ Linked) × (k ≡ 0)
linked_only Linked k e = (refl, eqb-true k 0 e)
linked_only NoParent k e = not_both e refl
linked_only NotConsecutive k e = not_both e refl
linked_only ParentHashUnknown k e = not_both e refl
linked_only ParentHashMismatch k e = not_both e refl

pub keeps_map_when : (p child : ReadAnchor) (h : Hash) (k : ℕ) → keeps_map (ledger_link (Some p) child h) k ≡ true → KeepsMap p child h k
keeps_map_when p child h k e =
    let z : (ledger_link (Some p) child h ≡ Linked) × (k ≡ 0) = linked_only (ledger_link (Some p) child h) k e in
    record { link = linked p child h (ap lineage_number (link_same (Some p) child h ∙ z.0)); unskipped = z.1 }

-- An address is on a list if the list has it at least once.
pub relevant_same : (relevance : List Address) (s : Slot) → relevant relevance s.address ≡ ledger_relevant relevance s
unfolding relevant times_listed
relevant_same [] s = refl
relevant_same (b ∷ bs) s =
    split (address_eqb b s.address)
    (λ y. rw (y, ne_eqb (times_listed s.address bs + 1) 0 (omega arith)))
    (λ y. rw y (relevant_same bs s))
