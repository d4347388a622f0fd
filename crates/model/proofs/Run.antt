-- Demand 3: over any list of calls the store serves and answers as the ledger does, and serves what is true.
use Rattle.std.specs.Prelude.{None, Option, Some}
use mathlib.Core.Path.{◌≡◌, refl, sym, ◌∙◌}
use mathlib.Core.Bool.{false}
use mathlib.Core.List.{List, [], ◌∷◌, map}
use Prim.Native.Nat.{ℕ, max}
use Rattle.model.specs.Slots.{Slot}
use Rattle.model.specs.Store.{Config, Generation, Memory, Call, open_store, on_store, Accepted, accept}
use Rattle.model.specs.Refusals.{Lent, LentCall, refusal, Answer, refused, conclude, step, trace, final, another_anchor, answer_names_twice}
use Rattle.model.specs.FlatLedger.{LedgerGeneration, ledger_generation, Ledger, LedgerStepResult, compared, compared_report, ledger_step, ledger_trace, ledger_final, ledger_serves}
use Rattle.model.specs.TrueInputs.{Truth, TrueCall, TrueInputs, TrueMemory, serves_value}
use Rattle.model.specs.Demand3.{calls_of, Demand3}
use Rattle.model.proofs.Simulation.{StateRelation, both_empty, both_installed, resolved_same}
use Rattle.model.proofs.Steps.{perform_agrees}
use Rattle.model.proofs.Acceptance.{unrefused}
use Rattle.model.proofs.TrueSteps.{TrueLedgerGeneration, true_perform_some, true_perform_none}

-- The lent bytes and the ledger: no store and no ledger, or a store and a ledger of the same retention with related states.
pub data MemoryRelation : Memory → Option Ledger → Type 0 where
  no_store : MemoryRelation None None
  both_open : (cfg : Config) {st : Option Generation} {ls : Option LedgerGeneration} → StateRelation cfg.retention st ls → MemoryRelation (Some (record { config = cfg; installed = st })) (Some (record { retention = cfg.retention; installed = ls }))

-- Every value that the ledger serves is the true one.
abbrev pub TrueLedger : Truth → Option Ledger → Type 0
TrueLedger truth None = Unit {0}
TrueLedger truth (Some l) = TrueLedgerGeneration truth l.retention l.installed

-- One call ---------------------------------------------------------------------------------------------

-- What a call leaves if it is accepted, and its report, agree with the ledger's.
pub record AcceptAgrees (a : Accepted) (o : LedgerStepResult) : Type 0 where
  pub relation : MemoryRelation a.memory o.ledger
  pub report : compared_report a.report ≡ o.report

-- An accepted answer names no slot twice.
pub accept_agrees : {m : Memory} {l : Option Ledger} → MemoryRelation m l → (c : Call) → answer_names_twice c ≡ false → AcceptAgrees (accept m c) (ledger_step l c)
unfolding accept ledger_step
accept_agrees r (open_store capacity depth R) d = record { relation = both_open (record { capacity = capacity; max_depth = max 1 depth; retention = R }) both_empty; report = refl }
accept_agrees no_store (on_store c) d = record { relation = no_store; report = refl }
accept_agrees (both_open cfg s) (on_store c) d =
    let z = perform_agrees cfg s c d in
    record { relation = both_open cfg z.relation; report = z.report }

-- An accepted call whose input is true keeps the ledger true.
pub true_step : (truth : Truth) {m : Memory} {l : Option Ledger} → MemoryRelation m l → TrueLedger truth l → (lent : Lent) (c : Call) → refusal m lent c ≡ None → TrueCall truth c → TrueLedger truth (ledger_step l c).ledger
unfolding ledger_step another_anchor
true_step truth r t lent (open_store capacity depth R) e q = tt
true_step truth no_store t lent (on_store c) e q = tt
true_step truth (both_open cfg both_empty) t lent (on_store c) e q =
    true_perform_none truth cfg.retention c (unrefused _ lent (on_store c) e).skip_without_writes q
true_step truth (both_open cfg (both_installed g m a h)) t lent (on_store c) e q =
    let z = unrefused _ lent (on_store c) e in
    true_perform_some truth cfg.retention (ledger_generation g.anchor m a) t c z.skip_without_writes z.same_anchor q

-- Lists of calls ---------------------------------------------------------------------------------------

-- The answers of a list of calls and the bytes after it agree with a ledger's; true calls keep the ledger true.
pub record RunAgrees (answers : List Answer) (last : Memory) (l : Option Ledger) (cs : List Call) : Type 0 where
  pub same_answers : map compared answers ≡ ledger_trace l cs (map refused answers)
  pub relation : MemoryRelation last (ledger_final l cs (map refused answers))
  pub keeps_true : (truth : Truth) → TrueLedger truth l → TrueInputs truth cs (map refused answers) → TrueLedger truth (ledger_final l cs (map refused answers))

-- A list of calls whose first call's refusal, if any, is known.
run_agrees_after : (m : Memory) (l : Option Ledger) (c : LentCall) (cs : List LentCall) (o : Option ℕ) → refusal m c.lent c.call ≡ o → MemoryRelation m l
    → ((m' : Memory) (l' : Option Ledger) → MemoryRelation m' l' → RunAgrees (trace m' cs) (final m' cs) l' (calls_of cs))
    → RunAgrees ((conclude o m (accept m c.call)).answer ∷ trace (conclude o m (accept m c.call)).memory cs) (final (conclude o m (accept m c.call)).memory cs) l (c.call ∷ calls_of cs)
unfolding ledger_trace ledger_final
run_agrees_after m l c cs (Some n) e r ih =
    let z = ih m l r in
    record { same_answers = cc z.same_answers; relation = z.relation; keeps_true = z.keeps_true }
run_agrees_after m l c cs None e r ih =
    let a = accept_agrees r c.call (unrefused m c.lent c.call e).answer_names_once in
    let z = ih (accept m c.call).memory (ledger_step l c.call).ledger a.relation in
    record {
      same_answers = cc (a.report, z.same_answers);
      relation = z.relation;
      keeps_true = λ truth t q. z.keeps_true truth (true_step truth r t c.lent c.call e q.0) q.1;
    }

-- Any list of calls, from related memories.
pub run_agrees : (cs : List LentCall) (m : Memory) (l : Option Ledger) → MemoryRelation m l → RunAgrees (trace m cs) (final m cs) l (calls_of cs)
unfolding trace final step ledger_trace ledger_final
run_agrees [] m l r = record { same_answers = refl; relation = r; keeps_true = λ truth t q. t }
run_agrees (c ∷ cs) m l r = run_agrees_after m l c cs (refusal m c.lent c.call) refl r (run_agrees cs)

-- What is served -----------------------------------------------------------------------------------------

pub serves_same : {m : Memory} {l : Option Ledger} → MemoryRelation m l → (s : Slot) → serves_value m s ≡ ledger_serves l s
serves_same no_store s = refl
serves_same (both_open cfg both_empty) s = refl
serves_same (both_open cfg (both_installed g m a h)) s = resolved_same cfg.retention g m a h.records s

pub true_memory : (truth : Truth) {m : Memory} {l : Option Ledger} → MemoryRelation m l → TrueLedger truth l → TrueMemory truth m
true_memory truth no_store t = tt
true_memory truth (both_open cfg both_empty) t = tt
true_memory truth (both_open cfg (both_installed g m a h)) t = λ s v e. t s v (sym (resolved_same cfg.retention g m a h.records s) ∙ e)

pub demand_3 : Demand3
demand_3 =
    record {
      first = λ cs truth q. let z = run_agrees cs None None no_store in true_memory truth z.relation (z.keeps_true truth tt q);
      second = λ cs. let z = run_agrees cs None None no_store in record { answers = z.same_answers; serves = serves_same z.relation };
    }
