-- Each accepted call whose input is true keeps every value that the ledger serves true.
use Rattle.std.specs.Prelude.{None, Option, Some}
use Prim.Native.Nat.{ℕ, suc}
use native.Mathlib.Omega.{arith}
use mathlib.Core.Path.{◌≡◌, refl}
use mathlib.Core.Bool.{false, not, ◌&&◌}
use mathlib.Core.List.{List, [], ◌∷◌}
use lib.Dec.{eqb, ltb}
use lib.ListN.{length}
use borrow.Author.Tests.{eqb-true, lt-ltb, not-false}
use Rattle.model.specs.Slots.{Value, Hash, Slot, ReadAnchor, anchor_eqb, Retention}
use Rattle.model.specs.Advance.{Lineage, CarryOutcome, Carried, Cold, Write}
use Rattle.model.specs.Store.{look, get, put, read, AnchoredCall, on_slot, take, answer, answer_failed, Prepared, StoreCall, install, advance, at_anchor, on_store}
use Rattle.model.specs.Refusals.{if_anchored, skip_with_writes}
use Rattle.model.specs.FlatLedger.{kept, LedgerMap, LedgerGeneration, set, before_writes, write_all, ledger_link, ledger_skip, keeps_map, ledger_resolved, ledger_get, ledger_read, ledger_advance, ledger_perform_at, ledger_perform}
use Rattle.model.specs.TrueInputs.{Truth, TrueWrites, TrueAt, TrueStoreCall}
use Rattle.model.proofs.SlotLaws.{split, not_both, anchor_eqb_true}
use Rattle.model.proofs.RuleLaws.{KeepsMap, keeps_map_when}
use Rattle.model.proofs.Truth.{TrueMap, true_map_empty, true_map_set, true_map_settle, true_map_writes, true_carried}

-- Every value that the ledger serves is the true one at its anchor.
abbrev pub TrueLedgerGeneration : Truth → Retention → Option LedgerGeneration → Type 0
TrueLedgerGeneration truth R None = Unit {0}
TrueLedgerGeneration truth R (Some g) = TrueMap (truth g.anchor) R g.anchor.number g.map

-- An advance over an emptied map, and over the parent's.
true_cold_advance : (truth : Truth) (R : Retention) (child : ReadAnchor) (h : Hash) (o : CarryOutcome) (p : Prepared) → (not (eqb p.skip 0) && ltb 0 (length p.writes)) ≡ false → (p.skip ≡ 0 → TrueWrites truth child h p.writes) → TrueLedgerGeneration truth R (ledger_advance R child o p []).installed
unfolding ledger_advance write_all
true_cold_advance truth R child h o p a t = go p.writes a t
  where
    go : (ws : List Write) → (not (eqb p.skip 0) && ltb 0 (length ws)) ≡ false → (p.skip ≡ 0 → TrueWrites truth child h ws)
        → TrueMap (truth child) R child.number (write_all R child.number p.relevance ws (before_writes [])).map
    go [] b u = true_map_empty (truth child) R child.number
    go (w ∷ ws) b u =
        split (eqb p.skip 0)
        (λ y. true_map_writes (truth child) R child.number p.relevance (w ∷ ws) (before_writes []) (u (eqb-true p.skip 0 y)).last_values_true (λ s v l e. true_map_empty (truth child) R child.number s v e))
        (λ y. not_both (lt-ltb 0 (suc (length ws)) (omega arith)) (rw y at b))

true_carry : (truth : Truth) (R : Retention) (p child : ReadAnchor) (h : Hash) (o : CarryOutcome) (q : Prepared) (m : LedgerMap)
    → (child.number ≡ suc p.number) × (p.hash ≡ Some h) → TrueWrites truth child h q.writes → TrueMap (truth p) R p.number m → TrueLedgerGeneration truth R (ledger_advance R child o q m).installed
unfolding ledger_advance
true_carry truth R p child h o q m link list t =
    true_map_writes (truth child) R child.number q.relevance q.writes (before_writes m) list.last_values_true (true_carried truth R p child h q.writes m link list t)

module _ (truth : Truth) (R : Retention) (g : LedgerGeneration) (t : TrueMap (truth g.anchor) R g.anchor.number g.map) where
  -- A use of a slot keeps its value.
  true_use : (s : Slot) (v : Value) → v ≡ truth g.anchor s → TrueMap (truth g.anchor) R g.anchor.number (set s (kept g.anchor.number v) g.map)
  true_use s v q = true_map_set (truth g.anchor) R g.anchor.number g.map s g.anchor.number v t q

  true_get : (s : Slot) (o : Option Value) → ledger_resolved R g s ≡ o → TrueLedgerGeneration truth R (ledger_get g s o).installed
  true_get s None e = t
  true_get s (Some v) e = true_use s v (t s v e)

  true_read : (s : Slot) (o : Option Value) → ledger_resolved R g s ≡ o → TrueLedgerGeneration truth R (ledger_read g s o).installed
  true_read s None e = t
  true_read s (Some v) e = true_use s v (t s v e)

  true_perform_at : (c : AnchoredCall) → TrueAt truth g.anchor c → TrueLedgerGeneration truth R (ledger_perform_at R g c).installed
  true_perform_at (on_slot (look s)) q = t
  true_perform_at (on_slot (get s)) q = true_get s (ledger_resolved R g s) refl
  true_perform_at (on_slot (put s v)) q = true_use s v q
  true_perform_at (on_slot (read s)) q = true_read s (ledger_resolved R g s) refl
  true_perform_at take q = t
  true_perform_at (answer ms) q = true_map_settle truth g.anchor R g.anchor.number ms g.map t q
  true_perform_at (answer_failed ss) q = t

  -- Acceptance says that a skipped list has no writes, and that the anchor that a call names is the installed one.
  pub true_perform_some : (c : StoreCall) → skip_with_writes (on_store c) ≡ false → if_anchored (on_store c) (λ a k. not (anchor_eqb g.anchor a)) ≡ false → TrueStoreCall truth c → TrueLedgerGeneration truth R (ledger_perform R (Some g) c).installed
  unfolding ledger_perform skip_with_writes
  true_perform_some (install a) w n q = split (anchor_eqb g.anchor a) (λ e. rw e t) (λ e. rw e (true_map_empty (truth a) R a.number))
  true_perform_some (advance child h p) w n q =
      let k : ℕ = p.skip in
      let l : Lineage = ledger_link (Some g.anchor) child h in
      split (anchor_eqb g.anchor child) (λ e. rw e t) (λ e. rw e
      (split (keeps_map l k)
      (λ y. let z : KeepsMap g.anchor child h k = keeps_map_when g.anchor child h k y in
      rw y (true_carry truth R g.anchor child h (Carried 0) p g.map z.link (q z.unskipped) t))
      (λ y. rw y (true_cold_advance truth R child h (Cold l (ledger_skip k)) p w q))))
  true_perform_some (at_anchor a c) w n q =
      true_perform_at c (rw (← anchor_eqb_true g.anchor a (not-false (anchor_eqb g.anchor a) n)) at q)

-- With nothing installed.
pub true_perform_none : (truth : Truth) (R : Retention) (c : StoreCall) → skip_with_writes (on_store c) ≡ false → TrueStoreCall truth c → TrueLedgerGeneration truth R (ledger_perform R None c).installed
unfolding ledger_perform skip_with_writes
true_perform_none truth R (install a) w q = true_map_empty (truth a) R a.number
true_perform_none truth R (advance child h p) w q = true_cold_advance truth R child h (Cold (ledger_link None child h) (ledger_skip p.skip)) p w q
true_perform_none truth R (at_anchor a c) w q = tt
