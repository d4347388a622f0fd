-- The anchor that a number and the words of a hash give, and the anchor of a lent hash.
use Rattle.std.specs.Prelude.{None, Option, Some}
use Prim.Native.Nat.{ℕ}
use mathlib.Core.Path.{◌≡◌, refl, sym, ap}
use mathlib.Core.Bool.{Bool, cond}
use mathlib.Core.List.{List}
use native.Mathlib.Omega.{arith}
use lib.ListN.{length, get_or}
use borrow.Author.Tests.{eq-eqb, ne_eqb}
use Rattle.model.specs.declared.storage_memo.U256.{U256}
use Rattle.model.specs.declared.storage_memo.ReadAnchor.{ReadAnchor}
use Rattle.model.specs.Slots.{at, identified}
use Rattle.model.specs.Entries.{u256_at}
use Rattle.image.specs.Image.{hash_words}
use Rattle.header.specs.Header.{lent_anchor}

-- The anchor of a number n and of the hash that the mark w says is known or not.
unknown : (k : Option U256) {w : ℕ} → w ≡ get_or (hash_words k) 0 0 → w ≡ 0 → None ≡ k
unknown None e z = refl
unknown (Some h) e z = absurd (omega arith)

known : (k : Option U256) (x : U256) {w : ℕ} → w ≡ get_or (hash_words k) 0 0 → (w ≡ 0 → ⊥)
    → x.w0 ≡ get_or (hash_words k) 1 0 → x.w1 ≡ get_or (hash_words k) 2 0 → x.w2 ≡ get_or (hash_words k) 3 0 → x.w3 ≡ get_or (hash_words k) 4 0 → Some x ≡ k
known None x e n e0 e1 e2 e3 = absurd (n e)
known (Some h) x e n e0 e1 e2 e3 = λ i. Some (record { w0 = e0 i; w1 = e1 i; w2 = e2 i; w3 = e3 i })

module _ (a : ReadAnchor) {n w : ℕ} (p : n ≡ a.number) (e : w ≡ get_or (hash_words a.hash) 0 0) where
  pub anchor_unknown : w ≡ 0 → at n ≡ a
  anchor_unknown z = λ i. record { number = p i; hash = unknown a.hash e z i }

  pub anchor_known : (x : U256) → (w ≡ 0 → ⊥) → x.w0 ≡ get_or (hash_words a.hash) 1 0 → x.w1 ≡ get_or (hash_words a.hash) 2 0
      → x.w2 ≡ get_or (hash_words a.hash) 3 0 → x.w3 ≡ get_or (hash_words a.hash) 4 0 → identified n x ≡ a
  anchor_known x z e0 e1 e2 e3 = λ i. record { number = p i; hash = known a.hash x e z e0 e1 e2 e3 i }

-- The anchor of a number and a lent hash: empty, or not.
module _ (h : List ℕ) (n : ℕ) where
  pub empty_anchor : length h ≡ 0 → at n ≡ lent_anchor n h
  empty_anchor e = sym (ap (λ (x : Bool). cond x (at n) (identified n (u256_at 0 h))) (eq-eqb (length h) 0 e))

  pub full_anchor : (length h ≡ 0 → ⊥) → identified n (u256_at 0 h) ≡ lent_anchor n h
  full_anchor e = sym (ap (λ (x : Bool). cond x (at n) (identified n (u256_at 0 h))) (ne_eqb (length h) 0 e))
