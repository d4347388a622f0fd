-- Each call keeps the relation between the store and the ledger, and answers alike.
use Rattle.std.specs.Prelude.{None, Option, Some}
use Prim.Native.Nat.{ℕ, suc}
use mathlib.Core.Path.{◌≡◌, refl, sym, ap, ◌∙◌, subst}
use mathlib.Core.Bool.{Bool, false}
use mathlib.Core.List.{List, []}
use lib.Dec.{ltb}
use lib.ListN.{length}
use Rattle.model.specs.Slots.{Value, Hash, Slot, ReadAnchor, anchor_eqb, Retention}
use Rattle.model.specs.Contents.{valued, touch}
use Rattle.model.specs.Layers.{Layer, find, settle}
use Rattle.model.specs.Advance.{Lineage, CarryOutcome, Carried, Cold, skip_of, classify_link, carries, void_base, no_compaction, CompactionReport, compact_if, compact_base, seal, seed_final_writes}
use Rattle.model.specs.Reads.{Member, join, take_queued, remove_all_pending, member_slots, has_duplicate, settle_members, is_awaiting, count_served, count_waiting}
use Rattle.model.specs.Store.{Config, Generation, SlotCall, look, get, put, read, AnchoredCall, on_slot, take, answer, answer_failed, Prepared, StoreCall, install, advance, at_anchor, on_store, Performed, value_report, new_generation, with_top, with_reads, after_writes, carry, cold_advance, carry_or_cold, touched_top, perform_get, perform_read, perform_slot, perform_at, perform, resolved, waiting, listed}
use Rattle.model.specs.Refusals.{answered_slots, answer_names_twice}
use Rattle.model.specs.FlatLedger.{kept, LedgerMap, AwaitingMap, set, without, LedgerGeneration, ledger_generation, before_writes, write_all, ledger_resolved, one_more_waiter, lookup, all_marked, settle_values, ledger_link, keeps_map, compared_report, compared_outcome, LedgerPerformed, ledger_advance, ledger_carry_or_cold, ledger_look, ledger_get, ledger_read, ledger_perform_slot, ledger_perform_at, ledger_perform}
use Rattle.model.proofs.SlotLaws.{split}
use Rattle.model.proofs.MapLaws.{Distinct, distinct, keys, distinct_set}
use Rattle.model.proofs.RuleLaws.{linked, carries_both, link_same, skip_same, carries_same}
use Rattle.model.proofs.AwaitingLaws.{awaiting_empty, awaiting_join, waiting_same, awaiting_take, queue_same, awaiting_remove, woken_same, named_same, errors_same}
use Rattle.model.proofs.SlotRelation.{relation_settle, relation_touch}
use Rattle.model.proofs.WriteLaws.{report_first, distinct_write_all}
use Rattle.model.proofs.Simulation.{Agree, GenerationAgree, StateRelation, both_empty, both_installed, agree_empty, agree_insert, agree_seed_final_writes, written_slots_empty, agree_settle_members, distinct_settle, resolved_same, live_count_same, agree_compact, agree_seal}

-- What a call leaves installed, and its report, agree with the ledger's.
pub record PerformAgrees (R : Retention) (p : Performed) (q : LedgerPerformed) : Type 0 where
  pub relation : StateRelation R p.installed q.installed
  pub report : compared_report p.report ≡ q.report

-- Advances -------------------------------------------------------------------------------------------

-- A new generation without records.
agree_fresh : (R : Retention) (a : ReadAnchor) → GenerationAgree R (new_generation a void_base []) [] []
unfolding keys
agree_fresh R a = record { records = agree_empty R a.number; one_entry = tt; awaiting = awaiting_empty }

-- The writes of an advance, over a base that is related to the map.
agree_after_writes : (cfg : Config) (child : ReadAnchor) (b : List Layer) (m : LedgerMap) (o : CarryOutcome) (c : CompactionReport) (p : Prepared) → Agree cfg.retention child.number [] b m → Distinct (keys m)
    → PerformAgrees cfg.retention (after_writes cfg child b o c (seed_final_writes cfg.retention child.number p.relevance b p.writes [])) (ledger_advance cfg.retention child (compared_outcome o) p m)
unfolding ledger_advance
agree_after_writes cfg child b m o c p h d =
    let R : Retention = cfg.retention in
    let z = agree_seed_final_writes R child.number p.relevance b p.writes [] (before_writes m) written_slots_empty h in
    let g : Generation = new_generation child b (seed_final_writes R child.number p.relevance b p.writes []).top in
    let m' : LedgerMap = (write_all R child.number p.relevance p.writes (before_writes m)).map in
    let e : Distinct (keys m') = distinct_write_all R child.number p.relevance p.writes (before_writes m) d in
    record {
      relation = both_installed g m' [] (record { records = z.0; one_entry = e; awaiting = awaiting_empty });
      report = cc (sym (report_first m (seed_final_writes R child.number p.relevance b p.writes []).applied_writes) ∙ z.1, live_count_same R g m' z.0 e);
    }

agree_cold_advance : (cfg : Config) (child : ReadAnchor) (l : Lineage) (p : Prepared) → PerformAgrees cfg.retention (cold_advance cfg child l p) (ledger_advance cfg.retention child (Cold l (skip_of p.skip)) p [])
unfolding cold_advance keys
agree_cold_advance cfg child l p = agree_after_writes cfg child void_base [] (Cold l (skip_of p.skip)) no_compaction p (agree_empty cfg.retention child.number) tt

agree_carry : (cfg : Config) (g : Generation) (m : LedgerMap) (child : ReadAnchor) (p : Prepared) → Agree cfg.retention g.anchor.number g.top g.base m → Distinct (keys m) → child.number ≡ suc g.anchor.number → PerformAgrees cfg.retention (carry cfg g child p) (ledger_advance cfg.retention child (Carried 0) p m)
unfolding carry compact_base
agree_carry cfg g m child p h d e =
    let R : Retention = cfg.retention in
    let n : ℕ = g.anchor.number in
    let due : Bool = ltb cfg.max_depth (length g.base) in
    let b : List Layer = (compact_if due R n g.base).base in
    let k : Agree R child.number [] (seal g.top b) m = subst (λ (i : ℕ). Agree R i [] (seal g.top b) m) (sym e) (agree_seal R n g.top b m (agree_compact R n g.top g.base m due h)) in
    agree_after_writes cfg child (seal g.top b) m (Carried _) (compact_if due R n g.base).report p k d

agree_carry_or_cold : (cfg : Config) (g : Generation) (m : LedgerMap) (child : ReadAnchor) (h : Hash) (p : Prepared) → Agree cfg.retention g.anchor.number g.top g.base m → Distinct (keys m)
    → PerformAgrees cfg.retention (carry_or_cold cfg g child (classify_link (Some g.anchor) child h) p) (ledger_carry_or_cold cfg.retention m child (ledger_link (Some g.anchor) child h) p)
agree_carry_or_cold cfg g m child h p a d =
    let k : ℕ = p.skip in
    let l : Lineage = classify_link (Some g.anchor) child h in
    let same : carries l (skip_of k) ≡ keeps_map l k = ap (carries l) (skip_same k) ∙ carries_same l k in
    rw (← link_same (Some g.anchor) child h, ← skip_same k, ← same)
    (split (carries l (skip_of k))
    (λ e. rw e (agree_carry cfg g m child p a d (linked g.anchor child h (carries_both l (skip_of k) e).0).0))
    (λ e. rw e (agree_cold_advance cfg child l p)))

-- The calls ------------------------------------------------------------------------------------------

-- A look answers the same.
agree_value_report : (o : Option Value) → compared_report (value_report o) ≡ ledger_look o
agree_value_report None = refl
agree_value_report (Some v) = refl

-- With nothing installed, and then with a generation.
agree_none : (cfg : Config) (c : StoreCall) → PerformAgrees cfg.retention (perform cfg None c) (ledger_perform cfg.retention None c)
unfolding perform ledger_perform
agree_none cfg (install a) = record { relation = both_installed (new_generation a void_base []) [] [] (agree_fresh cfg.retention a); report = refl }
agree_none cfg (advance child h p) = rw (← skip_same p.skip) (agree_cold_advance cfg child (classify_link None child h) p)
agree_none cfg (at_anchor a c) = record { relation = both_empty; report = refl }

module _ (cfg : Config) (g : Generation) (m : LedgerMap) (a : AwaitingMap) (h : GenerationAgree cfg.retention g m a) where
  abbrev R : Retention
  R = cfg.retention

  abbrev n : ℕ
  n = g.anchor.number

  abbrev L : LedgerGeneration
  L = ledger_generation g.anchor m a

  same_look : (s : Slot) → resolved R g s ≡ ledger_resolved R L s
  same_look s = resolved_same R g m a h.records s

  -- A use of a slot that is served.
  agree_touch : (s : Slot) (v : Value) → ledger_resolved R L s ≡ Some v → Agree R n (touched_top g s) g.base (set s (kept n v) m)
  agree_touch s v e =
      agree_insert R n g.top g.base m s (touch n (find s g.top)) n v h.records (relation_touch v (h.records s) e)

  one_entry_set : (s : Slot) (v : Value) → Distinct (keys (set s (kept n v) m))
  one_entry_set s v = distinct_set s (kept n v) m h.one_entry

  agree_get : (s : Slot) (o : Option Value) → ledger_resolved R L s ≡ o → PerformAgrees R (perform_get g s o) (ledger_get L s o)
  agree_get s None e = record { relation = both_installed g m a h; report = refl }
  agree_get s (Some v) e =
      record {
        relation = both_installed (with_top g (touched_top g s)) (set s (kept n v) m) a (record { records = agree_touch s v e; one_entry = one_entry_set s v; awaiting = h.awaiting });
        report = refl;
      }

  agree_read : (s : Slot) (o : Option Value) → ledger_resolved R L s ≡ o → PerformAgrees R (perform_read g s o) (ledger_read L s o)
  agree_read s None e =
      record {
        relation = both_installed (with_reads g g.top (join s g.pending) (count_waiting (is_awaiting s g.pending) g.totals)) m (set s (one_more_waiter (lookup s a)) a)
            (record { records = h.records; one_entry = h.one_entry; awaiting = awaiting_join h.awaiting s });
        report = ap waiting (waiting_same h.awaiting s);
      }
  agree_read s (Some v) e =
      record {
        relation = both_installed (with_reads g (touched_top g s) g.pending (count_served g.totals)) (set s (kept n v) m) a
            (record { records = agree_touch s v e; one_entry = one_entry_set s v; awaiting = h.awaiting });
        report = refl;
      }

  -- An answer that names no slot twice.
  agree_answer : (ms : List Member) → Distinct (member_slots ms) → PerformAgrees R (perform_at cfg g (answer ms)) (ledger_perform_at R L (answer ms))
  agree_answer ms d =
      rw (← named_same ms)
      (record {
        relation = both_installed (with_reads g (settle_members n ms g.top) (remove_all_pending (member_slots ms) g.pending) _) (settle_values n ms m) (without (member_slots ms) a)
            (record { records = agree_settle_members R n g.base ms g.top m h.records; one_entry = distinct_settle n ms m h.one_entry; awaiting = awaiting_remove h.awaiting (member_slots ms) });
        report = cc (errors_same ms, woken_same h.awaiting (member_slots ms) d);
      })

  agree_failed : (ss : List Slot) → Distinct ss → PerformAgrees R (perform_at cfg g (answer_failed ss)) (ledger_perform_at R L (answer_failed ss))
  agree_failed ss d =
      record {
        relation = both_installed (with_reads g g.top (remove_all_pending ss g.pending) _) m (without ss a)
            (record { records = h.records; one_entry = h.one_entry; awaiting = awaiting_remove h.awaiting ss });
        report = cc (woken_same h.awaiting ss d);
      }

  agree_slot : (c : SlotCall) → PerformAgrees R (perform_slot cfg g c) (ledger_perform_slot R L c)
  agree_slot (look s) = record { relation = both_installed g m a h; report = rw (same_look s) (agree_value_report (ledger_resolved R L s)) }
  agree_slot (get s) = rw (same_look s) (agree_get s (ledger_resolved R L s) refl)
  agree_slot (put s v) =
      record {
        relation = both_installed (with_top g (settle n s v g.top)) (set s (kept n v) m) a
            (record { records = agree_insert R n g.top g.base m s (valued n v) n v h.records (relation_settle v (h.records s)); one_entry = one_entry_set s v; awaiting = h.awaiting });
        report = refl;
      }
  agree_slot (read s) = rw (same_look s) (agree_read s (ledger_resolved R L s) refl)

  agree_at : (c : AnchoredCall) → has_duplicate (answered_slots c) ≡ false → PerformAgrees R (perform_at cfg g c) (ledger_perform_at R L c)
  agree_at (on_slot c) d = agree_slot c
  agree_at take d =
      record {
        relation = both_installed (with_reads g g.top (take_queued g.pending) g.totals) m (all_marked a)
            (record { records = h.records; one_entry = h.one_entry; awaiting = awaiting_take h.awaiting });
        report = ap listed (queue_same h.awaiting);
      }
  agree_at (answer ms) d = agree_answer ms (distinct (member_slots ms) d)
  agree_at (answer_failed ss) d = agree_failed ss (distinct ss d)

  agree_some : (c : StoreCall) → answer_names_twice (on_store c) ≡ false → PerformAgrees R (perform cfg (Some g) c) (ledger_perform R (Some L) c)
  unfolding perform ledger_perform answer_names_twice
  agree_some (install b) d =
      split (anchor_eqb g.anchor b)
      (λ e. rw e (record { relation = both_installed g m a h; report = refl }))
      (λ e. rw e (record { relation = both_installed (new_generation b void_base []) [] [] (agree_fresh R b); report = refl }))
  agree_some (advance child ph p) d =
      split (anchor_eqb g.anchor child)
      (λ e. rw e (record { relation = both_installed g m a h; report = cc (live_count_same R g m h.records h.one_entry) }))
      (λ e. rw e (agree_carry_or_cold cfg g m child ph p h.records h.one_entry))
  agree_some (at_anchor b c) d = agree_at c d

-- A call that names no slot twice, whatever is installed.
pub perform_agrees : (cfg : Config) {st : Option Generation} {ls : Option LedgerGeneration} → StateRelation cfg.retention st ls → (c : StoreCall) → answer_names_twice (on_store c) ≡ false → PerformAgrees cfg.retention (perform cfg st c) (ledger_perform cfg.retention ls c)
perform_agrees cfg both_empty c d = agree_none cfg c
perform_agrees cfg (both_installed g m a h) c d = agree_some cfg g m a h c d
