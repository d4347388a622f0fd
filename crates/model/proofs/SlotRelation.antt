-- The relation between a slot's records and the ledger's entry of it, and how each change keeps it.
-- `SlotRelation R n t f h m`: at the installed number n, t is the content of the slot's record in the top, f and h its freshest use and held value in the base, and m what the ledger's map has of it.
use Rattle.std.specs.Prelude.{None, Option, Some}
use Rattle.std.proofs.lemmas.Option.{none-some}
use Prim.Native.Nat.{ℕ, suc, ◌≤◌, ◌-◌, max}
use mathlib.Core.Path.{◌≡◌, refl, ◌∙◌}
use mathlib.Core.Bool.{Bool, true, false, ◌||◌, cond}
use native.Mathlib.Omega.{arith}
use borrow.Author.Tests.{leb-false, lt-leb}
use Rattle.model.specs.Slots.{Value, LastUse, Retention, Unbounded, IdleBlocks, serves}
use Rattle.model.specs.Contents.{Content, valued, or_else, max_option, use_of, own_value, has_value, last_use_of, value_of, valued_use, touch}
use Rattle.model.specs.Layers.{resolved_through_policy}
use Rattle.model.specs.Advance.{WriteKind, overwrite, new, skip, unserved_kind, final_write_kind}
use Rattle.model.specs.FlatLedger.{Kept, kept, in_date, value_in_date}
use Rattle.model.proofs.SlotLaws.{split, not_both}
use Rattle.model.proofs.RuleLaws.{serves_in_date}

-- The six cases that a slot can be in.
pub data SlotRelation (R : Retention) (n : ℕ) : Option Content → Option LastUse → Option Value → Option Kept → Type 0 where
  -- no record, and no entry in the ledger
  absent : SlotRelation R n None None None None
  -- no record, since a fold dropped the lapsed slot; the ledger keeps the lapsed entry
  dropped : (u : LastUse) (v : Value) → serves R u n ≡ false → SlotRelation R n None None None (Some (kept u v))
  -- records in the base alone, lapsed or not
  base_only : (u : LastUse) (v : Value) → u ≤ n → SlotRelation R n None (Some u) (Some v) (Some (kept u v))
  -- a use alone in the top, and the value in the base, whose use serves
  use_in_top : (u : LastUse) (c : Content) (v : Value) → own_value c ≡ None → u ≤ use_of c → use_of c ≤ n → serves R u n ≡ true → SlotRelation R n (Some c) (Some u) (Some v) (Some (kept (use_of c) v))
  -- a value in the top, and nothing in the base
  top_only : (c : Content) (v : Value) → own_value c ≡ Some v → use_of c ≤ n → SlotRelation R n (Some c) None None (Some (kept (use_of c) v))
  -- a value in the top, which is the slot's, and another in the base
  top_over_base : (u : LastUse) (w : Value) (c : Content) (v : Value) → own_value c ≡ Some v → u ≤ use_of c → use_of c ≤ n → SlotRelation R n (Some c) (Some u) (Some w) (Some (kept (use_of c) v))

-- Within a list of writes the top has a value of exactly the slots written so far, and no use alone.
pub data Written : Bool → Option Content → Type 0 where
  written : {c : Content} → has_value c ≡ true → Written true (Some c)
  unwritten : Written false None

-- A use that has lapsed at a number has lapsed at the next.
pub stays_lapsed : (R : Retention) (u n : ℕ) → serves R u n ≡ false → serves R u (suc n) ≡ false
stays_lapsed Unbounded u n e = e
stays_lapsed (IdleBlocks k) u n e = lt-leb (suc n - u) k (omega (arith, leb-false (n - u) k e))

-- What a write does, of what the ledger's map has of its slot; `is_written` says whether the slot was written earlier in the list.
abbrev pub ledger_kind : Retention → ℕ → Bool → Bool → Option Kept → WriteKind
ledger_kind R n is_relevant is_written None = unserved_kind is_relevant
ledger_kind R n is_relevant is_written (Some k) = cond (in_date R k.last_use n || is_written) (overwrite k.last_use) (unserved_kind is_relevant)

-- The content of a slot's record in the top, and the ledger's entry of the slot, after a write.
abbrev pub content_after : ℕ → WriteKind → Value → Option Content → Option Content
content_after n (overwrite u) x t = Some (valued u x)
content_after n new x t = Some (valued n x)
content_after n skip x t = t

abbrev pub lookup_after : ℕ → WriteKind → Value → Option Kept → Option Kept
lookup_after n (overwrite u) x m = Some (kept u x)
lookup_after n new x m = Some (kept n x)
lookup_after n skip x m = m

-- The content of a slot's record in a folded base.
abbrev pub compacted_content : Retention → ℕ → Option LastUse → Option Value → Option Content
compacted_content R n None h = None
compacted_content R n (Some u) None = None
compacted_content R n (Some u) (Some v) = cond (serves R u n) (Some (valued u v)) None

-- An entry that is served with a value: its use serves, and the value is its own.
pub resolved_known : (R : Retention) (n : ℕ) (u : LastUse) (v x : Value) → value_in_date R n (Some (kept u v)) ≡ Some x → (in_date R u n ≡ true) × (v ≡ x)
resolved_known R n u v x q =
    split (in_date R u n)
    (λ e. (e, cc))
    (λ e. absurd (none-some x (rw e at q)))

max_left : (a b : ℕ) → b ≤ a → max a b ≡ a
max_left a b h = omega arith

pub or_none : (a : Bool) → (a || false) ≡ a
or_none true = refl
or_none false = refl

pub or_any : (a : Bool) → (a || true) ≡ true
or_any true = refl
or_any false = refl

module _ {R : Retention} {n : ℕ} where
  -- A look answers the same in both.
  pub relation_resolved : {t : Option Content} {f : Option LastUse} {h : Option Value} {m : Option Kept} → SlotRelation R n t f h m → resolved_through_policy R n (max_option (last_use_of t) f) (or_else (value_of t) h) ≡ value_in_date R n m
  relation_resolved absent = refl
  relation_resolved (dropped u v e) = rw (← serves_in_date R u n, e)
  relation_resolved (base_only u v p) = rw (serves_in_date R u n)
  relation_resolved (use_in_top u c v a p q e) = rw (a, max_left (use_of c) u p, serves_in_date R (use_of c) n)
  relation_resolved (top_only c v a p) = rw (a, serves_in_date R (use_of c) n)
  relation_resolved (top_over_base u w c v a p q) = rw (a, max_left (use_of c) u p, serves_in_date R (use_of c) n)

  -- A write is of the same kind in both.
  pub relation_write_kind : (b : Bool) {d : Bool} {t : Option Content} {f : Option LastUse} {h : Option Value} {m : Option Kept} → Written d t → SlotRelation R n t f h m → final_write_kind R n b (valued_use t) f ≡ ledger_kind R n b d m
  relation_write_kind b unwritten absent = refl
  relation_write_kind b unwritten (dropped u v e) = rw (← serves_in_date R u n, e)
  relation_write_kind b unwritten (base_only u v p) = rw (serves_in_date R u n, or_none (in_date R u n))
  relation_write_kind b (written k) (use_in_top u c v a p q e) = not_both k (rw a)
  relation_write_kind b (written k) (top_only c v a p) = rw (k, or_any (in_date R (use_of c) n))
  relation_write_kind b (written k) (top_over_base u w c v a p q) = rw (k, or_any (in_date R (use_of c) n))

  -- A put, and a write of kind `new`.
  pub relation_settle : (x : Value) {t : Option Content} {f : Option LastUse} {h : Option Value} {m : Option Kept} → SlotRelation R n t f h m → SlotRelation R n (Some (valued n x)) f h (Some (kept n x))
  relation_settle x absent = top_only (valued n x) x refl (omega arith)
  relation_settle x (dropped u v e) = top_only (valued n x) x refl (omega arith)
  relation_settle x (base_only u v p) = top_over_base u v (valued n x) x refl p (omega arith)
  relation_settle x (use_in_top u c v a p q e) = top_over_base u v (valued n x) x refl (omega arith) (omega arith)
  relation_settle x (top_only c v a p) = top_only (valued n x) x refl (omega arith)
  relation_settle x (top_over_base u w c v a p q) = top_over_base u w (valued n x) x refl (omega arith) (omega arith)

  -- A write to a slot that is not served: a new one sets the last use to the number, a skipped one does nothing.
  relation_unserved : (x : Value) (b : Bool) {t : Option Content} {f : Option LastUse} {h : Option Value} {m : Option Kept} → SlotRelation R n t f h m → SlotRelation R n (content_after n (unserved_kind b) x t) f h (lookup_after n (unserved_kind b) x m)
  relation_unserved x true r = relation_settle x r
  relation_unserved x false r = r

  -- A write of any kind.
  pub relation_apply_write : (x : Value) (b : Bool) {d : Bool} {t : Option Content} {f : Option LastUse} {h : Option Value} {m : Option Kept} → Written d t → SlotRelation R n t f h m → SlotRelation R n (content_after n (ledger_kind R n b d m) x t) f h (lookup_after n (ledger_kind R n b d m) x m)
  relation_apply_write x b unwritten absent = relation_unserved x b absent
  relation_apply_write x b unwritten (dropped u v e) = rw (← serves_in_date R u n, e) (relation_unserved x b (dropped u v e))
  relation_apply_write x b unwritten (base_only u v p) =
      rw (or_none (in_date R u n)) (split (in_date R u n) (λ e. rw e (top_over_base u v (valued u x) x refl (omega arith) p)) (λ e. rw e (relation_unserved x b (base_only u v p))))
  relation_apply_write x b (written k) (use_in_top u c v a p q e) = not_both k (rw a)
  relation_apply_write x b (written k) (top_only c v a p) = rw (or_any (in_date R (use_of c) n)) (top_only (valued (use_of c) x) x refl p)
  relation_apply_write x b (written k) (top_over_base u w c v a p q) = rw (or_any (in_date R (use_of c) n)) (top_over_base u w (valued (use_of c) x) x refl p q)

  -- A use of a served slot.
  pub relation_touch : (x : Value) {t : Option Content} {f : Option LastUse} {h : Option Value} {m : Option Kept} → SlotRelation R n t f h m → value_in_date R n m ≡ Some x → SlotRelation R n (Some (touch n t)) f h (Some (kept n x))
  relation_touch x absent q = absurd (none-some x q)
  relation_touch x (dropped u v e) q = absurd (none-some x (rw (← serves_in_date R u n, e) at q))
  relation_touch x (base_only u v p) q = let z : (in_date R u n ≡ true) × (v ≡ x) = resolved_known R n u v x q in rw (← z.1) (use_in_top u (touch n None) v refl p (omega arith) (serves_in_date R u n ∙ z.0))
  relation_touch x (use_in_top u c v a p r s) q = let z : v ≡ x = (resolved_known R n (use_of c) v x q).1 in rw (← z) (use_in_top u (touch n (Some c)) v a (omega arith) (omega arith) s)
  relation_touch x (top_only c v a p) q = let z : v ≡ x = (resolved_known R n (use_of c) v x q).1 in rw (← z) (top_only (touch n (Some c)) v a (omega arith))
  relation_touch x (top_over_base u w c v a p r) q = let z : v ≡ x = (resolved_known R n (use_of c) v x q).1 in rw (← z) (top_over_base u w (touch n (Some c)) v a (omega arith) (omega arith))

  -- A fold of the base.
  pub relation_compact : {t : Option Content} {f : Option LastUse} {h : Option Value} {m : Option Kept} → SlotRelation R n t f h m → SlotRelation R n t (max_option (last_use_of (compacted_content R n f h)) None) (or_else (value_of (compacted_content R n f h)) None) m
  relation_compact absent = absent
  relation_compact (dropped u v e) = dropped u v e
  relation_compact (base_only u v p) = split (serves R u n) (λ e. rw e (base_only u v p)) (λ e. rw e (dropped u v e))
  relation_compact (use_in_top u c v a p q e) = rw e (use_in_top u c v a p q e)
  relation_compact (top_only c v a p) = top_only c v a p
  relation_compact (top_over_base u w c v a p q) = split (serves R u n) (λ e. rw e (top_over_base u w c v a p q)) (λ e. rw e (top_only c v a q))

  -- A seal: the top is a layer of the base, and the number is one higher.
  pub relation_seal : {t : Option Content} {f : Option LastUse} {h : Option Value} {m : Option Kept} → SlotRelation R n t f h m → SlotRelation R (suc n) None (max_option (last_use_of t) f) (or_else (value_of t) h) m
  relation_seal absent = absent
  relation_seal (dropped u v e) = dropped u v (stays_lapsed R u n e)
  relation_seal (base_only u v p) = base_only u v (omega arith)
  relation_seal (use_in_top u c v a p q e) = rw (a, max_left (use_of c) u p) (base_only (use_of c) v (omega arith))
  relation_seal (top_only c v a p) = rw a (base_only (use_of c) v (omega arith))
  relation_seal (top_over_base u w c v a p q) = rw (a, max_left (use_of c) u p) (base_only (use_of c) v (omega arith))
