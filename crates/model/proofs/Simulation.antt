-- The relation between the state of the store and that of the ledger; inserts, writes, answers, folds and seals keep it.
use Rattle.std.specs.Prelude.{None, Option, Some, is_some}
use Prim.Native.Nat.{ℕ, suc}
use mathlib.Core.Path.{◌≡◌, refl, sym, ap, ◌∙◌, fun_ext, subst}
use mathlib.Core.Bool.{Bool, true, false}
use mathlib.Core.List.{List, [], ◌∷◌, ◌++◌}
use Rattle.model.specs.Slots.{Address, Value, LastUse, Slot, slot_eqb, mem, Retention}
use Rattle.model.specs.Contents.{Content, valued, valued_use}
use Rattle.model.specs.Layers.{Layer, find, insert, held_value, freshest_use, all_slots, count_distinct, live_count}
use Rattle.model.specs.Advance.{Write, WriteKind, overwrite, new, skip, relevant, count_write, final_write_kind, seed_final_writes, apply_write, compact, compact_if, seal, void_base}
use Rattle.model.specs.Reads.{Member, settle_outcome, settle_members}
use Rattle.model.specs.Store.{Generation, resolved, chain}
use Rattle.model.specs.FlatLedger.{kept, LedgerMap, AwaitingMap, lookup, set, LedgerGeneration, ledger_generation, in_date, value_in_date, ledger_resolved, entries_in_date, ledger_relevant, Writing, write_all, settle_value, settle_values}
use Rattle.model.proofs.SlotLaws.{split, not_both, slot_eqb_true, slot_eqb_refl}
use Rattle.model.proofs.MapLaws.{Distinct, keys, mem_one, lookup_none, lookup_set, distinct_set}
use Rattle.model.proofs.RuleLaws.{relevant_same}
use Rattle.model.proofs.AwaitingLaws.{AwaitingAgree}
use Rattle.model.proofs.SlotRelation.{SlotRelation, absent, Written, written, unwritten, relation_resolved, relation_write_kind, relation_settle, relation_apply_write, relation_compact, relation_seal, content_after, lookup_after, or_none, or_any}
use Rattle.model.proofs.WriteLaws.{write_of_kind, kind_of, write_one_kind, report_of, report_with, report_last, count_same_write}
use Rattle.model.proofs.LayerLaws.{find_insert, find_compact, freshest_use_void, held_value_void, freshest_use_none, mem_append}
use Rattle.model.proofs.Count.{count_same, count_agree}

-- Every slot's records are related to the ledger's entry of it.
abbrev pub Agree : Retention → ℕ → Layer → List Layer → LedgerMap → Type 0
Agree R n l b m = (s : Slot) → SlotRelation R n (find s l) (freshest_use s b) (held_value s b) (lookup s m)

-- The store's generation and the ledger's: related records, one entry a slot in the ledger's map, and awaiting slots that agree.
pub record GenerationAgree (R : Retention) (g : Generation) (m : LedgerMap) (a : AwaitingMap) : Type 0 where
  pub records : Agree R g.anchor.number g.top g.base m
  pub one_entry : Distinct (keys m)
  pub awaiting : AwaitingAgree g.pending a

-- What is installed in the store and in the ledger: nothing in both, or generations that agree at the same anchor.
pub data StateRelation (R : Retention) : Option Generation → Option LedgerGeneration → Type 0 where
  both_empty : StateRelation R None None
  both_installed : (g : Generation) (m : LedgerMap) (a : AwaitingMap) → GenerationAgree R g m a → StateRelation R (Some g) (Some (ledger_generation g.anchor m a))

pub agree_empty : (R : Retention) (n : ℕ) → Agree R n [] void_base []
unfolding find freshest_use held_value lookup
agree_empty R n s = absent

-- A slot's record and its entry, both set.
pub agree_insert : (R : Retention) (n : ℕ) (l : Layer) (b : List Layer) (m : LedgerMap) (s : Slot) (c : Content) (u : LastUse) (v : Value) → Agree R n l b m → SlotRelation R n (Some c) (freshest_use s b) (held_value s b) (Some (kept u v)) → Agree R n (insert s c l) b (set s (kept u v) m)
agree_insert R n l b m s c u v h r t =
    rw (find_insert s t c l, lookup_set s t (kept u v) m)
    (split (slot_eqb s t) (λ e. rw e (rw (← slot_eqb_true s t e) r)) (λ e. rw e (h t)))

-- A write, of the slot's own relation after it.
agree_write : (R : Retention) (n : ℕ) (l : Layer) (b : List Layer) (z : Writing) (k : WriteKind) (w : Write) → Agree R n l b z.map → SlotRelation R n (content_after n k w.value (find w.slot l)) (freshest_use w.slot b) (held_value w.slot b) (lookup_after n k w.value (lookup w.slot z.map)) → Agree R n (apply_write n k w.slot w.value l) b (write_of_kind n k w z).map
agree_write R n l b z (overwrite u) w h r = agree_insert R n l b z.map w.slot (valued u w.value) u w.value h r
agree_write R n l b z new w h r = agree_insert R n l b z.map w.slot (valued n w.value) n w.value h r
agree_write R n l b z skip w h r = h

-- The writes of an advance: `d` has exactly the slots that the new top has a value of.
abbrev WrittenSlots : List Slot → Layer → Type 0
WrittenSlots d l = (s : Slot) → Written (mem s d) (find s l)

written_slots_insert : (d : List Slot) (l : Layer) (s : Slot) (u : LastUse) (v : Value) → WrittenSlots d l → WrittenSlots (d ++ (s ∷ [])) (insert s (valued u v) l)
written_slots_insert d l s u v h t =
    rw (find_insert s t (valued u v) l, mem_append t d (s ∷ []), mem_one s t)
    (split (slot_eqb s t) (λ e. rw (e, or_any (mem t d)) (written refl)) (λ e. rw (e, or_none (mem t d)) (h t)))

written_slots_write : (n : ℕ) (l : Layer) (k : WriteKind) (w : Write) (z : Writing) → WrittenSlots z.applied l → WrittenSlots (write_of_kind n k w z).applied (apply_write n k w.slot w.value l)
written_slots_write n l (overwrite u) w z h = written_slots_insert z.applied l w.slot u w.value h
written_slots_write n l new w z h = written_slots_insert z.applied l w.slot n w.value h
written_slots_write n l skip w z h = h

pub written_slots_empty : WrittenSlots [] []
unfolding mem find
written_slots_empty s = unwritten

-- The writes leave related maps, and the ledger's report is its report before them with the store's after it.
abbrev pub SeedAgree : Retention → ℕ → List Address → List Layer → List Write → Layer → Writing → Writing → Type 0
SeedAgree R n relevance b ws l z after =
    Agree R n (seed_final_writes R n relevance b ws l).top b after.map
    × (report_with z (seed_final_writes R n relevance b ws l).applied_writes ≡ report_of after)

-- The same of a list with a write in front: `j` is what the store does with it, `v` what the ledger has after it.
abbrev StepAgree : Retention → ℕ → List Address → List Layer → Write → List Write → Layer → Writing → WriteKind → Writing → Type 0
StepAgree R n relevance b w ws l z j v =
    Agree R n (seed_final_writes R n relevance b ws (apply_write n j w.slot w.value l)).top b (write_all R n relevance ws v).map
    × (report_with z (count_write j w.slot (seed_final_writes R n relevance b ws (apply_write n j w.slot w.value l)).applied_writes) ≡ report_of (write_all R n relevance ws v))

pub agree_seed_final_writes : (R : Retention) (n : ℕ) (relevance : List Address) (b : List Layer) (ws : List Write) (l : Layer) (z : Writing) → WrittenSlots z.applied l → Agree R n l b z.map → SeedAgree R n relevance b ws l z (write_all R n relevance ws z)
unfolding seed_final_writes write_all
agree_seed_final_writes R n relevance b [] l z y h = (h, report_last z)
agree_seed_final_writes R n relevance b (w ∷ ws) l z y h =
    let s : Slot = w.slot in
    let x : Value = w.value in
    let q : Bool = ledger_relevant relevance s in
    let k : WriteKind = kind_of R n relevance w z in
    let k' : WriteKind = final_write_kind R n (relevant relevance s.address) (valued_use (find s l)) (freshest_use s b) in
    let same_kind : k' ≡ k = rw (relevant_same relevance s) (relation_write_kind q (y s) (h s)) in
    let z' : Writing = write_of_kind n k w z in
    let r : SeedAgree R n relevance b ws (apply_write n k s x l) z' (write_all R n relevance ws z') =
    agree_seed_final_writes R n relevance b ws (apply_write n k s x l) z' (written_slots_write n l k w z y) (agree_write R n l b z k w h (relation_apply_write x q (y s) (h s))) in
    let a : StepAgree R n relevance b w ws l z k z' = (r.0, count_same_write n k w z (seed_final_writes R n relevance b ws (apply_write n k s x l)).applied_writes ∙ r.1) in
    subst (λ (v : Writing). StepAgree R n relevance b w ws l z k' v) (sym (write_one_kind R n relevance w z))
    (subst (λ (j : WriteKind). StepAgree R n relevance b w ws l z j z') (sym same_kind) a)

-- The values of an answer.
pub agree_settle_members : (R : Retention) (n : ℕ) (b : List Layer) (ms : List Member) (l : Layer) (m : LedgerMap) → Agree R n l b m → Agree R n (settle_members n ms l) b (settle_values n ms m)
unfolding settle_members settle_values
agree_settle_members R n b [] l m h = h
agree_settle_members R n b (x ∷ xs) l m h =
    agree_settle_members R n b xs (settle_outcome n x.slot x.outcome l) (settle_value n x.slot x.outcome m) (one x.slot x.outcome)
  where
    one : (s : Slot) (r : Option Value) → Agree R n (settle_outcome n s r l) b (settle_value n s r m)
    one s None = h
    one s (Some v) = agree_insert R n l b m s (valued n v) n v h (relation_settle v (h s))

pub distinct_settle : (n : ℕ) (ms : List Member) (m : LedgerMap) → Distinct (keys m) → Distinct (keys (settle_values n ms m))
unfolding settle_values
distinct_settle n [] m d = d
distinct_settle n (x ∷ xs) m d = distinct_settle n xs (settle_value n x.slot x.outcome m) (one x.slot x.outcome)
  where
    one : (s : Slot) (r : Option Value) → Distinct (keys (settle_value n s r m))
    one s None = d
    one s (Some v) = distinct_set s (kept n v) m d

-- A look, and the number of slots served.
pub resolved_same : (R : Retention) (g : Generation) (m : LedgerMap) (a : AwaitingMap) → Agree R g.anchor.number g.top g.base m → (s : Slot) → resolved R g s ≡ ledger_resolved R (ledger_generation g.anchor m a) s
unfolding freshest_use held_value
resolved_same R g m a h s = relation_resolved (h s)

-- Whether the ledger serves a slot; the slots served are as many as the entries in date.
abbrev is_served : Retention → ℕ → LedgerMap → Slot → Bool
is_served R n m s = is_some (value_in_date R n (lookup s m))

count_entries : (R : Retention) (n : ℕ) (m : LedgerMap) → Distinct (keys m) → count_distinct (is_served R n m) (keys m) ≡ entries_in_date R n m
unfolding count_distinct keys lookup entries_in_date
count_entries R n [] d = refl
count_entries R n (e ∷ m) d =
    let rest : count_distinct (is_served R n (e ∷ m)) (keys m) ≡ entries_in_date R n m =
    count_agree (is_served R n (e ∷ m)) (is_served R n m) (keys m)
    (λ s i. split (slot_eqb e.slot s) (λ y. not_both i (rw (slot_eqb_true e.slot s y) at d.0)) (λ y. rw y))
    ∙ count_entries R n m d.1 in
    rw (slot_eqb_refl e.slot, d.0, rest) (split (in_date R e.content.last_use n) (λ y. rw y) (λ y. rw y))

pub live_count_same : (R : Retention) (g : Generation) (m : LedgerMap) → Agree R g.anchor.number g.top g.base m → Distinct (keys m) → live_count R g.anchor.number (chain g) ≡ entries_in_date R g.anchor.number m
unfolding live_count
live_count_same R g m h d =
    let n : ℕ = g.anchor.number in
    ap (λ (q : Slot → Bool). count_distinct q (all_slots (chain g))) (fun_ext (λ s. ap is_some (resolved_same R g m [] h s)))
    ∙ count_same (is_served R n m) (all_slots (chain g)) (keys m)
    (λ s e. split (mem s (all_slots (chain g))) (λ y. y) (λ y.
    let z : resolved R g s ≡ None = rw (freshest_use_none s (chain g) y) in
    not_both e (ap is_some (sym (resolved_same R g m [] h s) ∙ z))))
    (λ s e. split (mem s (keys m)) (λ y. y) (λ y. not_both e (rw (lookup_none s m y))))
    ∙ count_entries R n m d

-- A carry's base: folded if due, and with the parent's top sealed.
pub agree_compact : (R : Retention) (n : ℕ) (l : Layer) (b : List Layer) (m : LedgerMap) (due : Bool) → Agree R n l b m → Agree R n l (compact_if due R n b).base m
unfolding compact freshest_use held_value
agree_compact R n l b m true h s = rw find_compact (relation_compact (h s))
agree_compact R n l b m false h s = h s

pub agree_seal : (R : Retention) (n : ℕ) (l : Layer) (b : List Layer) (m : LedgerMap) → Agree R n l b m → Agree R (suc n) [] (seal l b) m
unfolding seal freshest_use held_value find
agree_seal R n l b m h s = rw (freshest_use_void s b, held_value_void s b) (relation_seal (h s))
