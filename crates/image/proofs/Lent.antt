-- The store that bytes decode to is the one they read as; what bytes that are a store say of it.
use Rattle.std.specs.Prelude.{None, Some, is_some}
use Prim.Native.Nat.{ℕ, ◌*◌}
use mathlib.Core.Path.{◌≡◌, refl, sym, ap, ◌∙◌}
use mathlib.Core.Bool.{true, false, not, ◌&&◌, cond}
use mathlib.Core.List.{List}
use native.Mathlib.Omega.{arith}
use lib.Dec.{eqb, leb}
use lib.ListN.{length, take, drop}
use borrow.Author.Tests.{eqb-true}
use Rattle.layout.specs.Layout.{installed_offset}
use Rattle.model.specs.Store.{Generation, Store, Memory}
use Rattle.model.proofs.SlotLaws.{split, not_both}
use Rattle.model.specs.Refusals.{store_words}
use Rattle.image.specs.Image.{words_of, image_words, read_store, decode}
use Rattle.image.specs.WellFormed.{well_formed}
use Rattle.model.specs.Slots.{words_eqb}
use Rattle.model.specs.Numbers.{num}
use Rattle.image.specs.Lent.{words_in, store_of, generation_of, IsStore, Installed}
use Rattle.image.proofs.ReadBack.{decided_some}
use Rattle.image.proofs.Areas.{word, word_at, StoreBytes, store_bytes, GenerationBytes, generation_bytes}

pub store_is : (b : List ℕ) (st : Store) → decode b ≡ Some st → store_of b ≡ st
unfolding decode store_of words_in
store_is b st e =
    let n : ℕ = store_words (num (take 8 (drop 8 b))) in
    let ws : List ℕ = words_of n b in
    let x : Store = read_store ws in
    (decided_some (leb (8 * n) (length b) && (well_formed x && words_eqb ws (image_words x))) x st e).1

-- Bytes that decode to a store are the store that they read as.
pub decoded : (b : List ℕ) (st : Store) → decode b ≡ Some st → IsStore b
decoded b st e = e ∙ ap Some (sym (store_is b st e))

pub decoded_some : (b : List ℕ) → is_some (decode b) ≡ true → IsStore b
decoded_some b e = go (decode b) refl e
  where
    go : (m : Memory) → decode b ≡ m → is_some m ≡ true → IsStore b
    go None q h = let z : ◌≡◌ {A = ℕ} 0 1 = cc in absurd (omega arith)
    go (Some st) q h = decoded b st q

-- What is installed: nothing where word 5 is 0, else the generation that the bytes read as.
installed_is : (b : List ℕ) → (store_of b).installed ≡ cond (eqb (word installed_offset b) 0) None (Some (generation_of b))
unfolding store_of generation_of words_in read_store
installed_is b = ap (λ (x : ℕ). cond (eqb x 0) None (Some (generation_of b))) (sym (word_at _ 5 b (omega arith)))

pub installed_by : (b : List ℕ) → not (eqb (word installed_offset b) 0) ≡ is_some (store_of b).installed
installed_by b = split (eqb (word installed_offset b) 0) (λ t. rw (installed_is b, t)) (λ t. rw (installed_is b, t))

pub installs : (b : List ℕ) → IsStore b → (word installed_offset b ≡ 0 → ⊥) → Installed b
installs b e h = record {
  is_store = e;
  installs = installed_is b ∙ split (eqb (word installed_offset b) 0) (λ t. absurd (h (eqb-true _ _ t))) (λ t. rw t);
}

pub installs_some : (b : List ℕ) → IsStore b → is_some (store_of b).installed ≡ true → Installed b
installs_some b e h =
    installs b e (λ z. let f : false ≡ true = ap (λ (x : ℕ). not (eqb x 0)) (sym z) ∙ installed_by b ∙ h in not_both refl (sym f))

pub installed : (b : List ℕ) (st : Store) (g : Generation) → decode b ≡ Some st → st.installed ≡ Some g → Installed b
installed b st g e i = installs b (decoded b st e) (λ z. let f : word installed_offset b ≡ 1 = (generation_bytes b st g e i).installed_word in omega arith)

pub generation_is : (b : List ℕ) (st : Store) (g : Generation) → decode b ≡ Some st → st.installed ≡ Some g → generation_of b ≡ g
generation_is b st g e i =
    let q : Some (generation_of b) ≡ Some g = sym (installed b st g e i).installs ∙ ap (λ (x : Store). x.installed) (store_is b st e) ∙ i in
    cc

-- What the bytes say, of the store and the generation that they read as.
pub store_in : (b : List ℕ) → IsStore b → StoreBytes b (store_of b)
store_in b e = store_bytes b (store_of b) e

pub generation_in : (b : List ℕ) → Installed b → GenerationBytes b (store_of b) (generation_of b)
generation_in b h = generation_bytes b (store_of b) (generation_of b) h.is_store h.installs
