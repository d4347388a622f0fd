-- No refusal has number 0, so that a call that gives 0 was accepted; an accepted open leaves a store. Assumes nothing.
use Rattle.std.specs.Prelude.{None, Option, Some, is_some}
use Prim.Native.Nat.{ℕ, ◌<◌}
use mathlib.Core.Path.{◌≡◌, refl, sym, ap, ◌∙◌}
use mathlib.Core.Bool.{Bool, true, ◌&&◌, cond}
use mathlib.Core.List.{List, [], ◌∷◌}
use native.Mathlib.Omega.{arith}
use borrow.Author.Tests.{ltb-true}
use lib.Dec.{ltb}
use lib.ListN.{length}
use Rattle.model.specs.declared.delta_snapshot.Retention.{Retention}
use Rattle.model.specs.Store.{Memory, Call, open_store, accept}
use Rattle.model.specs.Refusals.{Lent, Condition, conditions, first_that_holds, refusal, conclude, step}
use Rattle.model.proofs.SlotLaws.{and_left, and_right, split}
use Rattle.image.specs.WellFormed.{retention_fits}
use Rattle.image.specs.Image.{decode, BytesCall, lent_call, bytes_step}
use Rattle.image.proofs.OnBytes.{step_holds}
use Rattle.image.proofs.Closure.{closure}
use Rattle.replies.specs.Replies.{alone}
use Rattle.lent_calls.specs.ReplyWords.{code_of, answer_given}

-- Every number of a list of conditions is above 0.
unfoldable numbered : List Condition → Bool
numbered [] = true
numbered (k ∷ ks) = ltb 0 k.number && numbered ks

first_above : (ks : List Condition) (n : ℕ) → numbered ks ≡ true → first_that_holds ks ≡ Some n → 0 < n
unfolding numbered first_that_holds
first_above [] n e q = let z : ◌≡◌ {A = ℕ} 0 1 = cc in absurd (omega arith)
first_above (k ∷ ks) n e q =
    split k.holds
    (λ t. let g : Some k.number ≡ Some n = sym (ap (λ (x : Bool). cond x (Some k.number) (first_that_holds ks)) t) ∙ q in
    let h : k.number ≡ n = cc in
    omega (arith, ltb-true 0 k.number (and_left (ltb 0 k.number) (numbered ks) e), h))
    (λ t. first_above ks n (and_right (ltb 0 k.number) (numbered ks) e) (sym (ap (λ (x : Bool). cond x (Some k.number) (first_that_holds ks)) t) ∙ q))

pub refusal_above : (m : Memory) (l : Lent) (c : Call) (n : ℕ) → refusal m l c ≡ Some n → 0 < n
unfolding refusal conditions numbered
refusal_above m l c n q = first_above (conditions m l c) n refl q

-- An open that gives 0 leaves a store.
module _ (b : List ℕ) (capacity depth : ℕ) (R : Retention) where
  abbrev opening : BytesCall
  opening = alone (open_store capacity depth R)

  abbrev lent : Lent
  lent = (lent_call (length b) opening).lent

  accepted_open : (r : Option ℕ) → refusal (decode b) lent opening.call ≡ r → code_of (answer_given (conclude r (decode b) (accept (decode b) opening.call)).answer) ≡ 0
      → is_some (conclude r (decode b) (accept (decode b) opening.call)).memory ≡ true
  unfolding accept
  accepted_open None q e = refl
  accepted_open (Some n) q e = absurd (omega (arith, refusal_above (decode b) lent opening.call n q, e))

  pub opened_store : retention_fits R ≡ true → {after : List ℕ} → after ≡ (bytes_step b opening).bytes → code_of (answer_given (bytes_step b opening).answer) ≡ 0 → is_some (decode after) ≡ true
  unfolding bytes_step step
  opened_store f q e =
      ap (λ (x : List ℕ). is_some (decode x)) q
      ∙ ap (λ (m : Memory). is_some m) (step_holds closure b opening f).reads
      ∙ accepted_open (refusal (decode b) lent opening.call) refl e
