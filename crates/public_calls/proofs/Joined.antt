-- Demand 3 over any list of public calls: each is a call on the state that the bytes read as. Assumes nothing.
use Rattle.std.specs.Prelude.{None, Option, Some}
use Prim.Native.Nat.{ℕ, max}
use mathlib.Core.Path.{◌≡◌, refl, sym, ap, subst, ◌∙◌}
use mathlib.Core.Bool.{true}
use mathlib.Core.List.{List, [], ◌∷◌}
use native.Mathlib.Omega.{arith}
use lib.ListN.{length}
use Rattle.model.specs.declared.delta_snapshot.Retention.{Retention}
use Rattle.model.specs.Store.{Config, Memory, Call, opened, Accepted, accept}
use Rattle.model.specs.Store as model
use Rattle.model.specs.Refusals.{LentCall, Answer, refuse, ok, StepResult, refusal, conclude, step, trace, final}
use Rattle.model.specs.FlatLedger.{Ledger, ledger_step, ledger_trace, ledger_final}
use Rattle.model.proofs.Simulation.{both_empty}
use Rattle.model.proofs.Run.{MemoryRelation, no_store, both_open, RunAgrees, run_agrees, serves_same, true_memory}
use Rattle.image.specs.Claims.{call_fits}
use Rattle.image.specs.Image.{decode, lent_call, bytes_after, bytes_step}
use Rattle.image.proofs.Closure.{closure}
use Rattle.image.proofs.OnBytes.{Holds, step_holds}
use Rattle.public_calls.specs.PublicCalls.{PublicCall, open_store, bytes_call, model_calls, SteppedBy, Made, Run, ended, called}
use Rattle.public_calls.specs.Demand3ForCalls.{Demand3Met, DemandForCalls}
use Rattle.public_calls.proofs.Effects.{Effect, performed, turned_down, effect}

-- One call ----------------------------------------------------------------------------------------------

-- A call on the state that the bytes read as.
abbrev state_step : PublicCall → List ℕ → StepResult
state_step c b = step (decode b) (lent_call (length b) (bytes_call c))

-- The bytes after a call that was performed read as the state after it.
reads_as : (c : PublicCall) (b : List ℕ) {after : List ℕ} {x : Answer} → call_fits (bytes_call c).call ≡ true → SteppedBy c b after x → decode after ≡ (state_step c b).memory
unfolding bytes_step
reads_as c b f s =
    let h : Holds (bytes_after (state_step c b) b) (length b) (state_step c b).memory = step_holds closure b (bytes_call c) f in
    ap decode s.bytes_is ∙ h.reads

answers_as : (c : PublicCall) (b : List ℕ) {after : List ℕ} {x : Answer} → SteppedBy c b after x → x ≡ (state_step c b).answer
unfolding bytes_step
answers_as c b s = s.answer_is

-- A made call agrees with the ledger: a call on the state does, and one that was turned down changes neither.
effect_agrees : (c : PublicCall) {b after : List ℕ} {x : Answer} → Effect c b after x → (l : Option Ledger) → MemoryRelation (decode b) l
    → RunAgrees (x ∷ []) (decode after) l ((bytes_call c).call ∷ [])
unfolding trace final ledger_trace ledger_final
effect_agrees c {b} (performed f s) l r = rw (answers_as c b s, reads_as c b f s) (run_agrees (lent_call (length b) (bytes_call c) ∷ []) (decode b) l r)
effect_agrees c (turned_down n e k) l r = rw (e, k) record { same_answers = refl; relation = r; keeps_true = λ truth t q. t }

-- Lists of calls ----------------------------------------------------------------------------------------

-- A call and the calls after it.
agrees_next : (a : Answer) {answers : List Answer} {m last : Memory} {l : Option Ledger} {c : Call} {cs : List Call} → RunAgrees (a ∷ []) m l (c ∷ [])
    → ((k : Option Ledger) → MemoryRelation m k → RunAgrees answers last k cs) → RunAgrees (a ∷ answers) last l (c ∷ cs)
unfolding ledger_trace ledger_final
agrees_next (refuse n) {l = l} z rest =
    let w = rest l z.relation in
    record { same_answers = cc w.same_answers; relation = w.relation; keeps_true = w.keeps_true }
agrees_next (ok r) {l = l} {c = c} z rest =
    let w = rest (ledger_step l c).ledger z.relation in
    record {
      same_answers = cc (z.same_answers, w.same_answers);
      relation = w.relation;
      keeps_true = λ truth t q. w.keeps_true truth (z.keeps_true truth t (q.0, tt)) q.1;
    }

run_of_calls : {b after : List ℕ} {cs : List PublicCall} {answers : List Answer} → Run b cs answers after → (l : Option Ledger) → MemoryRelation (decode b) l
    → RunAgrees answers (decode after) l (model_calls cs)
unfolding ledger_trace ledger_final
run_of_calls ended l r = record { same_answers = refl; relation = r; keeps_true = λ truth t q. t }
run_of_calls (called {c = c} {a = a} m rest) l r = agrees_next a (effect_agrees c (effect c m) l r) (run_of_calls rest)

-- The start ---------------------------------------------------------------------------------------------

-- An accepted open leaves a store with nothing installed, whatever the bytes were.
accepted : (r : Option ℕ) (m : Memory) (k : Accepted) (t : model.Report) → ok t ≡ (conclude r m k).answer → (conclude r m k).memory ≡ k.memory
accepted None m k t e = refl
accepted (Some n) m k t e = let z : ◌≡◌ {A = ℕ} 0 1 = cc in absurd (omega arith)

open_agrees : (b : List ℕ) {after : List ℕ} (capacity depth : ℕ) (R : Retention) → Made (open_store capacity depth R) b after (ok opened)
    → RunAgrees (ok opened ∷ []) (decode after) None (model.open_store capacity depth R ∷ [])
unfolding step accept ledger_trace ledger_final ledger_step
open_agrees b {after} capacity depth R m =
    let p : PublicCall = open_store capacity depth R in
    let c : Call = model.open_store capacity depth R in
    let k : LentCall = lent_call (length b) (bytes_call p) in
    let cfg : Config = record { capacity = capacity; max_depth = max 1 depth; retention = R } in
    let e : decode after ≡ (accept (decode b) c).memory = reads_as p b m.0 m.1 ∙ accepted (refusal (decode b) k.lent c) (decode b) (accept (decode b) c) opened (answers_as p b m.1) in
    record {
      same_answers = refl;
      relation = subst (λ (x : Memory). MemoryRelation x (Some (record { retention = R; installed = None }))) (sym e) (both_open cfg both_empty);
      keeps_true = λ truth t q. tt;
    }

-- The theorem -------------------------------------------------------------------------------------------

met : {cs : List PublicCall} {answers : List Answer} {after : List ℕ} → RunAgrees answers (decode after) None (model_calls cs) → Demand3Met cs answers after
met z = record {
  first = λ truth q. true_memory truth z.relation (z.keeps_true truth tt q);
  same_answers = z.same_answers;
  serves = serves_same z.relation;
}

from_open : {b after : List ℕ} {capacity depth : ℕ} {R : Retention} {cs : List PublicCall} {answers : List Answer}
    → Run b (open_store capacity depth R ∷ cs) (ok opened ∷ answers) after → Demand3Met (open_store capacity depth R ∷ cs) (ok opened ∷ answers) after
from_open {b} {capacity = capacity} {depth = depth} {R = R} (called m rest) = met (agrees_next (ok opened) (open_agrees b capacity depth R m) (run_of_calls rest))

pub demand_for_calls : DemandForCalls
demand_for_calls =
    record {
      from_open = λ b after capacity depth R cs answers r. from_open r;
      from_no_store = λ b after cs answers e r. met (run_of_calls r None (subst (λ (x : Memory). MemoryRelation x None) (sym e) no_store));
    }
