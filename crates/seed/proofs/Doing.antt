-- What a write does, by what the searches answer. Assumes nothing.
use Rattle.std.specs.Prelude.{Option, None, Some}
use mathlib.Core.Path.{◌≡◌, sym, ap, ◌∙◌}
use mathlib.Core.Bool.{Bool, true, false, cond}
use mathlib.Core.List.{List}
use Prim.Native.Nat.{ℕ}
use lib.ListN.{length}
use Rattle.model.specs.declared.delta_snapshot.Slot.{Slot}
use Rattle.model.specs.declared.delta_snapshot.Retention.{Retention}
use Rattle.model.specs.Slots.{LastUse, serves}
use Rattle.model.specs.Layers.{Layer, freshest_use}
use Rattle.model.specs.Advance.{WriteKind, overwrite, unserved_kind, write_kind, final_write_kind}
use Rattle.image.specs.Area.{layers_below}
use Rattle.image.proofs.Areas.{below_all}

-- Of the freshest use in the base, as the code has it.
module _ (R : Retention) (n : ℕ) (j : Bool) (b : List Layer) (s : Slot) (used : Option LastUse) (k : ℕ) (m : k ≡ length b) (fresh : used ≡ freshest_use s (layers_below k b)) where
  fresh_all : used ≡ freshest_use s b
  fresh_all = fresh ∙ ap (λ (i : ℕ). freshest_use s (layers_below i b)) m ∙ ap (freshest_use s) (below_all b)

  known_use : (x : Option LastUse) → used ≡ x → write_kind R n j x ≡ write_kind R n j (freshest_use s b)
  known_use x e = ap (λ (y : Option LastUse). write_kind R n j y) (sym e) ∙ ap (write_kind R n j) fresh_all

  pub kind_unused : (w : WriteKind) → used ≡ None → w ≡ unserved_kind j → w ≡ write_kind R n j (freshest_use s b)
  kind_unused w e h = h ∙ known_use None e

  -- A use at u, tested by the code's retention S and number i with the answer t.
  module _ (u i : ℕ) (S : Retention) (t : Bool) (p : used ≡ Some u) (q : S ≡ R) (r : i ≡ n) (d : t ≡ serves S u i) where
    tested : cond t (overwrite u) (unserved_kind j) ≡ write_kind R n j (freshest_use s b)
    tested = ap (λ (x : Bool). cond x (overwrite u) (unserved_kind j)) (d ∙ (λ k. serves (q k) u (r k))) ∙ known_use (Some u) p

    pub kind_served : t ≡ true → overwrite u ≡ write_kind R n j (freshest_use s b)
    kind_served e = ap (λ (x : Bool). cond x (overwrite u) (unserved_kind j)) (sym e) ∙ tested

    pub kind_stale : (w : WriteKind) → t ≡ false → w ≡ unserved_kind j → w ≡ write_kind R n j (freshest_use s b)
    kind_stale w e h = h ∙ ap (λ (x : Bool). cond x (overwrite u) (unserved_kind j)) (sym e) ∙ tested

-- Of the last use of the slot's record in the top, if it has a value.
module _ (R : Retention) (n : ℕ) (j : Bool) (f : Option LastUse) (written : Option LastUse) (o : Option LastUse) (own : written ≡ o) where
  known_own : (x : Option LastUse) → written ≡ x → final_write_kind R n j x f ≡ final_write_kind R n j o f
  known_own x p = ap (λ (y : Option LastUse). final_write_kind R n j y f) (sym p ∙ own)

  pub kind_unwritten : (w : WriteKind) → written ≡ None → w ≡ write_kind R n j f → w ≡ final_write_kind R n j o f
  kind_unwritten w p h = h ∙ known_own None p

  pub kind_written : (u : ℕ) → written ≡ Some u → overwrite u ≡ final_write_kind R n j o f
  kind_written u p = known_own (Some u) p
