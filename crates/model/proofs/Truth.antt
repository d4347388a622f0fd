-- Every value that the ledger's map serves is the true one: entries set, answers and true writes keep that.
use Rattle.std.specs.Prelude.{None, Option, Some}
use Rattle.std.proofs.lemmas.Option.{none-some}
use Prim.Native.Nat.{ℕ, suc}
use native.Mathlib.Omega.{arith}
use mathlib.Core.Path.{◌≡◌, refl, sym, ap, ◌∙◌}
use mathlib.Core.Bool.{Bool, true, cond}
use mathlib.Core.List.{List, [], ◌∷◌}
use Rattle.model.specs.Slots.{Address, Value, LastUse, Hash, u256_eqb, Slot, slot_eqb, mem, ReadAnchor, identified, Retention}
use Rattle.model.specs.Contents.{or_else}
use Rattle.model.specs.Advance.{Write, WriteKind, overwrite, new, skip}
use Rattle.model.specs.Reads.{Member}
use Rattle.model.specs.FlatLedger.{Kept, kept, LedgerMap, lookup, set, in_date, value_in_date, ledger_relevant, Writing, write_one, write_all, settle_value, settle_values}
use Rattle.model.specs.TrueInputs.{Truth, TrueWrites, last_value, named_slots, TrueOutcome, TrueOutcomes}
use Rattle.model.proofs.SlotLaws.{split, not_both, u256_eqb_true, u256_eqb_false, slot_eqb_true}
use Rattle.model.proofs.MapLaws.{lookup_set}
use Rattle.model.proofs.RuleLaws.{serves_in_date}
use Rattle.model.proofs.SlotRelation.{stays_lapsed, resolved_known, ledger_kind, lookup_after}
use Rattle.model.proofs.WriteLaws.{kind_of, write_one_kind, lookup_write}

-- Every value that a map serves at a number is that of `tr`.
abbrev pub TrueMap : (Slot → Value) → Retention → ℕ → LedgerMap → Type 0
TrueMap tr R n m = (s : Slot) (v : Value) → value_in_date R n (lookup s m) ≡ Some v → v ≡ tr s

-- An empty map, an entry set to a true value, and the true values of an answer.
pub true_map_empty : (tr : Slot → Value) (R : Retention) (n : ℕ) → TrueMap tr R n []
unfolding lookup
true_map_empty tr R n s v e = absurd (none-some v e)

pub true_map_set : (tr : Slot → Value) (R : Retention) (n : ℕ) (m : LedgerMap) (s : Slot) (u : LastUse) (x : Value) → TrueMap tr R n m → x ≡ tr s → TrueMap tr R n (set s (kept u x) m)
true_map_set tr R n m s u x h q t v e =
    let f : value_in_date R n (cond (slot_eqb s t) (Some (kept u x)) (lookup t m)) ≡ Some v = rw (lookup_set s t (kept u x) m) at e in
    split (slot_eqb s t)
    (λ y. let z : (in_date R u n ≡ true) × (x ≡ v) = resolved_known R n u x v (rw y at f) in cc (q, z.1, slot_eqb_true s t y))
    (λ y. h t v (rw y at f))

pub true_map_settle : (truth : Truth) (a : ReadAnchor) (R : Retention) (n : ℕ) (ms : List Member) (m : LedgerMap) → TrueMap (truth a) R n m → TrueOutcomes truth a ms → TrueMap (truth a) R n (settle_values n ms m)
unfolding settle_values
true_map_settle truth a R n [] m h q = h
true_map_settle truth a R n (x ∷ xs) m h q = true_map_settle truth a R n xs (settle_value n x.slot x.outcome m) (one x.slot x.outcome q.0) q.1
  where
    one : (s : Slot) (r : Option Value) → TrueOutcome truth a s r → TrueMap (truth a) R n (settle_value n s r m)
    one s None t = h
    one s (Some v) t = true_map_set (truth a) R n m s n v h t

-- Writes ---------------------------------------------------------------------------------------------

-- A skipped write's slot is not served.
skip_unserved : (R : Retention) (n : ℕ) (b d : Bool) (f : Option Kept) (v : Value) → ledger_kind R n b d f ≡ skip → value_in_date R n f ≡ Some v → ⊥
skip_unserved R n b d None v k e = none-some v e
skip_unserved R n b d (Some x) v k e =
    split (in_date R x.last_use n)
    (λ y. let k' : overwrite x.last_use ≡ skip = rw y at k in let z : ◌≡◌ {A = ℕ} 0 1 = cc in omega arith)
    (λ y. none-some v (rw y at e))

-- A written slot that is served has the write's value.
written_value : (R : Retention) (n : ℕ) (b d : Bool) (k : WriteKind) (x v : Value) (f : Option Kept) → ledger_kind R n b d f ≡ k → value_in_date R n (lookup_after n k x f) ≡ Some v → x ≡ v
written_value R n b d (overwrite u) x v f q e = (resolved_known R n u x v e).1
written_value R n b d new x v f q e = (resolved_known R n n x v e).1
written_value R n b d skip x v f q e = absurd (skip_unserved R n b d f v q e)

-- If each slot's last value is true, and so is each value served of a slot that is not named, every value served after the writes is true.
pub true_map_writes : (tr : Slot → Value) (R : Retention) (n : ℕ) (relevance : List Address) (ws : List Write) (z : Writing)
    → ((s : Slot) (v : Value) → last_value s ws ≡ Some v → v ≡ tr s)
    → ((s : Slot) (v : Value) → last_value s ws ≡ None → value_in_date R n (lookup s z.map) ≡ Some v → v ≡ tr s)
    → TrueMap tr R n (write_all R n relevance ws z).map
unfolding write_all last_value
true_map_writes tr R n relevance [] z last_values_true h = λ s v e. h s v refl e
true_map_writes tr R n relevance (w ∷ ws) z last_values_true h =
    let s : Slot = w.slot in
    let x : Value = w.value in
    let k : WriteKind = kind_of R n relevance w z in
    true_map_writes tr R n relevance ws (write_one R n relevance w (lookup s z.map) z)
    (λ t v e. last_values_true t v (rw e))
    (λ t v l e. let f : value_in_date R n (cond (slot_eqb s t) (lookup_after n k x (lookup s z.map)) (lookup t z.map)) ≡ Some v = rw (write_one_kind R n relevance w z, lookup_write n k w z t) at e in
    split (slot_eqb s t)
    (λ y. let c : x ≡ tr t = last_values_true t x (rw (l, y)) in
    cc (c, written_value R n (ledger_relevant relevance s) (mem s z.applied) k x v (lookup s z.map) refl (rw y at f)))
    (λ y. h t v (rw (l, y)) (rw y at f)))

-- Before the writes of a carry: a value served at the child was served at the parent, and a slot that the list leaves out has the parent's value.
or_else_none : (a b : Option Value) → or_else a b ≡ None → (a ≡ None) × (b ≡ None)
or_else_none None b e = (refl, e)
or_else_none (Some x) b e = absurd (none-some x (sym e))

last_value_named : (s : Slot) (ws : List Write) → last_value s ws ≡ None → mem s (named_slots ws) ≡ true → ⊥
unfolding last_value named_slots mem
last_value_named s [] e q = not_both q refl
last_value_named s (w ∷ ws) e q =
    let z = or_else_none (last_value s ws) (cond (slot_eqb w.slot s) (Some w.value) None) e in
    split (slot_eqb w.slot s)
    (λ y. none-some w.value (sym (rw y at z.1)))
    (λ y. last_value_named s ws z.0 (rw y at q))

resolved_at_parent : (R : Retention) (n : ℕ) (f : Option Kept) (v : Value) → value_in_date R (suc n) f ≡ Some v → value_in_date R n f ≡ Some v
resolved_at_parent R n None v e = e
resolved_at_parent R n (Some x) v e =
    let u : LastUse = x.last_use in
    split (in_date R u n)
    (λ y. rw y (ap Some (resolved_known R (suc n) u x.value v e).1))
    (λ y. absurd (none-some v (rw (sym (serves_in_date R u (suc n)) ∙ stays_lapsed R u n (serves_in_date R u n ∙ y)) at e)))

pub true_carried : (truth : Truth) (R : Retention) (p child : ReadAnchor) (h : Hash) (ws : List Write) (m : LedgerMap)
    → (child.number ≡ suc p.number) × (p.hash ≡ Some h) → TrueWrites truth child h ws → TrueMap (truth p) R p.number m
    → (s : Slot) (v : Value) → last_value s ws ≡ None → value_in_date R child.number (lookup s m) ≡ Some v → v ≡ truth child s
true_carried truth R p child h ws m link list parent_true s v l e =
    let parent : ReadAnchor = identified p.number h in
    let same_parent : p ≡ parent = λ i. record { number = p.number; hash = link.1 i } in
    let a : v ≡ truth p s = parent_true s v (resolved_at_parent R p.number (lookup s m) v (rw link.0 at e)) in
    let b : truth child s ≡ truth parent s =
    split (u256_eqb (truth child s) (truth parent s)) (λ y. u256_eqb_true (truth child s) (truth parent s) y)
    (λ y. absurd (last_value_named s ws l (list.names_every_change p.number link.0 s (u256_eqb_false (truth child s) (truth parent s) y)))) in
    cc (a, b, ap (λ (x : ReadAnchor). truth x s) same_parent)
