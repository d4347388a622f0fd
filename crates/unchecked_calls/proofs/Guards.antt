-- What a call at an anchor that the guard refuses comes to.
use Rattle.std.specs.Prelude.{None, Option, Some, Err}
use Prim.Native.Nat.{ℕ}
use mathlib.Core.Path.{◌≡◌, refl, sym, subst}
use mathlib.Core.Bool.{false}
use mathlib.Core.List.{List}
use Rattle.model.specs.declared.storage_memo.ReadAnchor.{ReadAnchor}
use Rattle.model.specs.Slots.{anchor_eqb}
use Rattle.model.specs.Store.{Generation, AnchoredCall, on_store, at_anchor}
use Rattle.model.specs.Refusals.{refuse, refusal_number}
use Rattle.model.specs.declared.refusal.Refusal.{Refusal}
use Rattle.model.specs.declared.refusal.Refusal.TheVariants.{NothingInstalled, AnotherAnchor}
use Rattle.image.specs.Image.{bytes_step}
use Rattle.image.specs.Lent.{store_of, IsStore}
use Rattle.header.specs.Header.{anchored_refusal}
use Rattle.header.proofs.Guards.{stopped}
use Rattle.replies.specs.Replies.{alone, Stepped}
use Rattle.unchecked_calls.proofs.Turned.{Plain}
use Rattle.unchecked_calls.proofs.Said.{said_21, said_22}

pub by_guard : (b : List ℕ) (a : ReadAnchor) {k : AnchoredCall} (n : Refusal) → Plain k → IsStore b → anchored_refusal (store_of b).installed a ≡ Err n
    → Stepped (refuse (refusal_number n)) b (bytes_step b (alone (on_store (at_anchor a k))))
by_guard b a {k} n p e q = go (store_of b).installed refl q
  where
    go : (o : Option Generation) → (store_of b).installed ≡ o → anchored_refusal o a ≡ Err n → Stepped (refuse (refusal_number n)) b (bytes_step b (alone (on_store (at_anchor a k))))
    go None i h =
        let y : NothingInstalled ≡ n = cc in
        subst (λ (m : Refusal). Stepped (refuse (refusal_number m)) b (bytes_step b (alone (on_store (at_anchor a k))))) y (said_21 b (store_of b) a p e i)
    go (Some g) i h =
        let y : (n ≡ AnotherAnchor) × (anchor_eqb g.anchor a ≡ false) = stopped g a n (anchor_eqb g.anchor a) refl h in
        subst (λ (m : Refusal). Stepped (refuse (refusal_number m)) b (bytes_step b (alone (on_store (at_anchor a k))))) (sym y.0) (said_22 b (store_of b) a p e g i y.1)
