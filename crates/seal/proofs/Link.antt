-- The link in the terms of the words that the code reads.
use Rattle.std.specs.Prelude.{None, Option, Some, is_some}
use Prim.Native.Nat.{ℕ, suc, ◌+◌, ◌-◌, ◌^◌, ◌<◌}
use mathlib.Core.Path.{◌≡◌, refl, sym, ap, ◌∙◌}
use mathlib.Core.Bool.{Bool, true, false, ◌&&◌, cond}
use mathlib.Core.List.{List, [], ◌∷◌}
use native.Mathlib.Omega.{arith}
use lib.Dec.{eqb, ltb}
use lib.ListN.{length}
use borrow.Author.Tests.{lt-ltb, le-ltb, eq-eqb, ne_eqb}
use Rattle.model.specs.declared.storage_memo.U256.{U256}
use Rattle.model.specs.declared.storage_memo.ReadAnchor.{ReadAnchor}
use Rattle.model.specs.declared.read_hub.Lineage.{Lineage}
use Rattle.model.specs.declared.read_hub.Lineage.TheVariants.{Linked, NoParent, NotConsecutive, ParentHashMismatch}
use Rattle.model.specs.Slots.{u256_eqb}
use Rattle.model.specs.Layers.{Layer, record_count}
use Rattle.model.specs.Store.{Generation}
use Rattle.model.proofs.SlotLaws.{not_both}
use Rattle.model.specs.Advance.{classify_hash, classify_link, is_void}
use Rattle.image.specs.Lent.{store_of, generation_of, IsStore, Installed}
use Rattle.image.proofs.Lent.{installs_some}
use Rattle.seal.specs.Sealed.{anchor_of, installed_anchor}

-- A parent's hash, compared with the child's.
pub hash_compared : (a p : ReadAnchor) (k h : U256) (t : Bool) → a ≡ p → a.hash ≡ Some k → u256_eqb k h ≡ t → cond t Linked ParentHashMismatch ≡ classify_hash p.hash h
hash_compared a p k h t e q r = sym (ap (λ (x : ReadAnchor). classify_hash x.hash h) (sym e) ∙ ap (λ (x : Option U256). classify_hash x h) q ∙ ap (λ (x : Bool). cond x Linked ParentHashMismatch) r)

-- The number of a parent, which is installed, decides.
module _ (s : List ℕ) (i : Installed s) (child : ReadAnchor) (h : U256) (n : ℕ) (e : n ≡ (generation_of s).anchor.number) where
  abbrev p : ReadAnchor
  p = (generation_of s).anchor

  link_is : {l : Lineage} → l ≡ classify_link (Some p) child h → l ≡ classify_link (installed_anchor (store_of s)) child h
  link_is q = q ∙ ap (λ (x : Option Generation). classify_link (anchor_of x) child h) (sym i.installs)

  pub last_parent : n ≡ 0xffffffffffffffff → NotConsecutive ≡ classify_link (installed_anchor (store_of s)) child h
  last_parent z =
      let f : ltb p.number (2 ^ 64 - 1) ≡ false = le-ltb p.number (2 ^ 64 - 1) (omega arith) in
      link_is (rw f)

  pub not_next : (child.number ≡ n + 1 → ⊥) → NotConsecutive ≡ classify_link (installed_anchor (store_of s)) child h
  not_next z =
      let f : eqb child.number (suc p.number) ≡ false = ne_eqb child.number (suc p.number) (λ q. z (omega arith)) in
      link_is (go (ltb p.number (2 ^ 64 - 1)) (eqb child.number (suc p.number)) f)
    where
      go : (s t : Bool) → t ≡ false → NotConsecutive ≡ cond (s && t) (classify_hash p.hash h) NotConsecutive
      go true t q = rw q
      go false t q = refl

  pub next_parent : {l : Lineage} → n < 0xffffffffffffffff → child.number ≡ n + 1 → l ≡ classify_hash p.hash h → l ≡ classify_link (installed_anchor (store_of s)) child h
  next_parent z q r =
      let f : ltb p.number (2 ^ 64 - 1) ≡ true = lt-ltb p.number (2 ^ 64 - 1) (omega arith) in
      let g : eqb child.number (suc p.number) ≡ true = eq-eqb child.number (suc p.number) (omega arith) in
      link_is (rw (f, g) r)

-- A base is void if it has one layer, and no records.
pub not_void : (b : List Layer) (n : ℕ) → n ≡ length b → (n ≡ 1 → ⊥) → 0 < length b → n ≡ length (cond (is_void b) [] b)
unfolding is_void
not_void [] n e z h = absurd (omega arith)
not_void ([] ∷ []) n e z h = absurd (z e)
not_void ([] ∷ (l ∷ ls)) n e z h = e
not_void ((r ∷ l) ∷ ls) n e z h = e

pub one_void : (b : List Layer) (n x : ℕ) → n ≡ length b → n ≡ 1 → x ≡ record_count b → x ≡ 0 → 0 ≡ length (cond (is_void b) [] b)
unfolding is_void record_count
one_void [] n x e z p q = refl
one_void ([] ∷ []) n x e z p q = refl
one_void ([] ∷ (l ∷ ls)) n x e z p q = absurd (omega arith)
one_void ((r ∷ l) ∷ ls) n x e z p q = absurd (omega arith)

pub one_full : (b : List Layer) (n x : ℕ) → n ≡ length b → n ≡ 1 → x ≡ record_count b → (x ≡ 0 → ⊥) → 1 ≡ length (cond (is_void b) [] b)
unfolding is_void record_count
one_full [] n x e z p q = absurd (omega arith)
one_full ([] ∷ []) n x e z p q = absurd (q p)
one_full ([] ∷ (l ∷ ls)) n x e z p q = absurd (omega arith)
one_full ((r ∷ l) ∷ ls) n x e z p q = sym z ∙ e

-- A parent is installed, or there is none.
pub parent_in : (b : List ℕ) {t : Bool} → IsStore b → t ≡ is_some (store_of b).installed → t ≡ true → Installed b
parent_in b e q t = installs_some b e (sym q ∙ t)

pub none_parent : (i : Option Generation) (child : ReadAnchor) (h : U256) → is_some i ≡ false → NoParent ≡ classify_link (anchor_of i) child h
none_parent None child h e = refl
none_parent (Some g) child h e = not_both refl e
