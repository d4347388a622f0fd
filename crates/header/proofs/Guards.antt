-- What the guard of a call at an anchor says.
use Rattle.std.specs.Prelude.{None, Option, Some, is_some, Ok, Err}
use Rattle.model.specs.declared.refusal.Refusal.{Refusal}
use Rattle.model.specs.declared.refusal.Refusal.TheVariants.{NothingInstalled, AnotherAnchor}
use Prim.Native.Nat.{ℕ}
use mathlib.Core.Path.{◌≡◌, refl, sym, ap, ◌∙◌}
use mathlib.Core.Bool.{Bool, true, false}
use mathlib.Core.List.{List}
use native.Mathlib.Omega.{arith}
use Rattle.model.specs.declared.storage_memo.ReadAnchor.{ReadAnchor}
use Rattle.model.specs.Slots.{anchor_eqb}
use Rattle.model.specs.Store.{Generation}
use Rattle.image.specs.Lent.{store_of, generation_of, IsStore, Installed}
use Rattle.image.proofs.Lent.{installed, generation_is}
use Rattle.std.specs.declared.result.Result.{Result}
use Rattle.std.specs.Result.{result_eq}
use Rattle.model.proofs.SlotLaws.{not_both}
use Rattle.header.specs.Header.{anchored_refusal, if_anchored}

-- The guard's three answers.
pub guard_none : (o : Option Generation) (a : ReadAnchor) → is_some o ≡ false → Err NothingInstalled ≡ anchored_refusal o a
guard_none None a e = refl
guard_none (Some g) a e = let z : ◌≡◌ {A = ℕ} 0 1 = cc in absurd (omega arith)

pub guard_other : (b : List ℕ) (a : ReadAnchor) → Installed b → anchor_eqb (generation_of b).anchor a ≡ false → Err AnotherAnchor ≡ anchored_refusal (store_of b).installed a
guard_other b a h e = rw (h.installs, e)

pub guard_this : (b : List ℕ) (a : ReadAnchor) → Installed b → anchor_eqb (generation_of b).anchor a ≡ true → Ok tt ≡ anchored_refusal (store_of b).installed a
guard_this b a h e = rw (h.installs, e)

-- What the guard passed says.
pub record Here (b : List ℕ) (a : ReadAnchor) : Type 0 where
  pub has : Installed b
  pub same : anchor_eqb (generation_of b).anchor a ≡ true

passed : (g : Generation) (a : ReadAnchor) (t : Bool) {x : Unit {0}} → anchor_eqb g.anchor a ≡ t → if_anchored t ≡ Ok x → anchor_eqb g.anchor a ≡ true
passed g a true e h = e
passed g a false e h = absurd (cc)

pub past_guard : (b : List ℕ) (a : ReadAnchor) {x : Unit {0}} → IsStore b → anchored_refusal (store_of b).installed a ≡ Ok x → Here b a
past_guard b a {x} e z = go (store_of b).installed refl z
  where
    go : (o : Option Generation) → (store_of b).installed ≡ o → anchored_refusal o a ≡ Ok x → Here b a
    go None i h = absurd (cc)
    go (Some g) i h = record {
      has = installed b (store_of b) g e i;
      same = ap (λ (x : Generation). anchor_eqb x.anchor a) (generation_is b (store_of b) g e i) ∙ passed g a (anchor_eqb g.anchor a) refl h;
    }

-- Another anchor, or none, is installed.
abbrev pub Other : Option Generation → ReadAnchor → Type 0
Other None a = Unit {0}
Other (Some g) a = anchor_eqb g.anchor a ≡ false

-- What a refusal by the guard says.
pub stopped : (g : Generation) (a : ReadAnchor) (n : Refusal) (t : Bool) → anchor_eqb g.anchor a ≡ t → if_anchored t ≡ Err n → (n ≡ AnotherAnchor) × (anchor_eqb g.anchor a ≡ false)
stopped g a n true e h = absurd (cc)
stopped g a n false e h = (cc, e)

pub not_here : (o : Option Generation) (a : ReadAnchor) (n : Refusal) → anchored_refusal o a ≡ Err n → Other o a
not_here None a n h = tt
not_here (Some g) a n h = (stopped g a n (anchor_eqb g.anchor a) refl h).1

-- What a comparison of the guard's answer with an acceptance says.
module _ (E : Unit {0} → Unit {0} → Bool) (F : Refusal → Refusal → Bool) where
  pub not_refused : (r : Result (Unit {0}) Refusal) → true ≡ result_eq E F r (Ok tt) → r ≡ Ok tt
  not_refused (Ok x) e = refl
  not_refused (Err n) e = not_both (sym e) refl

  pub is_refused : (r : Result (Unit {0}) Refusal) → false ≡ result_eq E F r (Ok tt) → E tt tt ≡ true → (n : Refusal) × (r ≡ Err n)
  is_refused (Ok x) e q = not_both q (sym e)
  is_refused (Err n) e q = (n, refl)
