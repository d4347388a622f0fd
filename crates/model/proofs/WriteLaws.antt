-- One write of an advance in the ledger, by what it does.
use Rattle.std.specs.Prelude.{None, Option, Some}
use Prim.Native.Nat.{ℕ, suc, ◌+◌}
use native.Mathlib.Omega.{arith}
use mathlib.Core.Path.{◌≡◌}
use mathlib.Core.Bool.{◌||◌, cond}
use mathlib.Core.List.{List, [], ◌∷◌, ◌++◌, append_assoc, append-nil}
use Rattle.model.specs.Slots.{Address, Slot, slot_eqb, mem, Retention}
use Rattle.model.specs.Advance.{Write, WriteKind, overwrite, new, skip, AppliedWrites, no_writes, count_write}
use Rattle.model.specs.FlatLedger.{Kept, kept, LedgerMap, lookup, in_date, ledger_relevant, Writing, before_writes, applied_by, skipped_by, write_one, write_all}
use Rattle.model.proofs.SlotLaws.{split, slot_eqb_true}
use Rattle.model.proofs.MapLaws.{Distinct, keys, lookup_set, distinct_set}
use Rattle.model.proofs.SlotRelation.{ledger_kind, lookup_after}

-- A write of a kind, and that every write is one.
abbrev pub write_of_kind : ℕ → WriteKind → Write → Writing → Writing
write_of_kind n (overwrite u) w z = applied_by w u 1 z
write_of_kind n new w z = applied_by w n 0 z
write_of_kind n skip w z = skipped_by z

-- The kind of a write to the ledger.
abbrev pub kind_of : Retention → ℕ → List Address → Write → Writing → WriteKind
kind_of R n relevance w z = ledger_kind R n (ledger_relevant relevance w.slot) (mem w.slot z.applied) (lookup w.slot z.map)

write_one_of : (R : Retention) (n : ℕ) (relevance : List Address) (w : Write) (o : Option Kept) (z : Writing)
    → write_one R n relevance w o z ≡ write_of_kind n (ledger_kind R n (ledger_relevant relevance w.slot) (mem w.slot z.applied) o) w z
write_one_of R n relevance w None z = split (ledger_relevant relevance w.slot) (λ y. rw y) (λ y. rw y)
write_one_of R n relevance w (Some k) z =
    split (in_date R k.last_use n || mem w.slot z.applied)
    (λ y. rw y)
    (λ y. rw y (split (ledger_relevant relevance w.slot) (λ x. rw x) (λ x. rw x)))

pub write_one_kind : (R : Retention) (n : ℕ) (relevance : List Address) (w : Write) (z : Writing) → write_one R n relevance w (lookup w.slot z.map) z ≡ write_of_kind n (kind_of R n relevance w z) w z
write_one_kind R n relevance w z = write_one_of R n relevance w (lookup w.slot z.map) z

-- What the map has of a slot after a write.
pub lookup_write : (n : ℕ) (k : WriteKind) (w : Write) (z : Writing) (t : Slot) → lookup t (write_of_kind n k w z).map ≡ cond (slot_eqb w.slot t) (lookup_after n k w.value (lookup w.slot z.map)) (lookup t z.map)
lookup_write n (overwrite u) w z t = lookup_set w.slot t (kept u w.value) z.map
lookup_write n new w z t = lookup_set w.slot t (kept n w.value) z.map
lookup_write n skip w z t = split (slot_eqb w.slot t) (λ y. rw (y, slot_eqb_true w.slot t y)) (λ y. rw y)

-- One entry a slot.
distinct_write : (n : ℕ) (k : WriteKind) (w : Write) (z : Writing) → Distinct (keys z.map) → Distinct (keys (write_of_kind n k w z).map)
distinct_write n (overwrite u) w z d = distinct_set w.slot (kept u w.value) z.map d
distinct_write n new w z d = distinct_set w.slot (kept n w.value) z.map d
distinct_write n skip w z d = d

pub distinct_write_all : (R : Retention) (n : ℕ) (relevance : List Address) (ws : List Write) (z : Writing) → Distinct (keys z.map) → Distinct (keys (write_all R n relevance ws z).map)
unfolding write_all
distinct_write_all R n relevance [] z d = d
distinct_write_all R n relevance (w ∷ ws) z d =
    distinct_write_all R n relevance ws (write_one R n relevance w (lookup w.slot z.map) z)
    (rw (write_one_kind R n relevance w z) (distinct_write n (kind_of R n relevance w z) w z d))

-- The report so far, and with that of more writes after it.
abbrev pub report_of : Writing → AppliedWrites
report_of z = record { applied = z.applied; overwritten = z.overwritten; skipped = z.skipped }

abbrev pub report_with : Writing → AppliedWrites → AppliedWrites
report_with z r = record { applied = z.applied ++ r.applied; overwritten = z.overwritten + r.overwritten; skipped = z.skipped + r.skipped }

-- Nothing before them, and nothing after them.
none_before : (a : ℕ) → 0 + a ≡ a
none_before a = omega arith

none_after : (a : ℕ) → a + 0 ≡ a
none_after a = omega arith

pub report_first : (m : LedgerMap) (r : AppliedWrites) → report_with (before_writes m) r ≡ r
report_first m r = λ i. record { applied = r.applied; overwritten = none_before r.overwritten i; skipped = none_before r.skipped i }

pub report_last : (z : Writing) → report_with z no_writes ≡ report_of z
report_last z = cc (append-nil z.applied, none_after z.overwritten, none_after z.skipped)

one_later : (a b : ℕ) → a + suc b ≡ a + 1 + b
one_later a b = omega arith

-- A write counted in front of those after it, or at the end of those before it.
pub count_same_write : (n : ℕ) (k : WriteKind) (w : Write) (z : Writing) (r : AppliedWrites) → report_with z (count_write k w.slot r) ≡ report_with (write_of_kind n k w z) r
count_same_write n (overwrite u) w z r = cc (append_assoc z.applied (w.slot ∷ []) r.applied, one_later z.overwritten r.overwritten)
count_same_write n new w z r = cc (append_assoc z.applied (w.slot ∷ []) r.applied, none_after z.overwritten)
count_same_write n skip w z r = cc (one_later z.skipped r.skipped)
