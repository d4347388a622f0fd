-- Demand 3 on lent bytes: from the calls on states, which the calls on bytes are.
use Rattle.std.specs.Prelude.{Some}
use Prim.Native.Nat.{ℕ}
use mathlib.Core.Path.{◌≡◌, refl, sym, ap, ◌∙◌, subst}
use mathlib.Core.List.{List, [], ◌∷◌, map}
use lib.ListN.{length}
use Rattle.model.specs.Store.{Call, Memory}
use Rattle.model.specs.Refusals.{Answer, trace, final}
use Rattle.model.specs.Demand3.{calls_of}
use Rattle.model.proofs.Simulation.{both_empty}
use Rattle.model.proofs.Run.{both_open, RunAgrees, run_agrees, serves_same, true_memory}
use Rattle.image.specs.Image.{decode, BytesCall, lent_call, bytes_trace, bytes_final}
use Rattle.image.specs.Claims.{Closure, OnBytes}
use Rattle.image.specs.Demand3OnBytes.{fresh_store, fresh_ledger, bytes_calls, DemandOnBytes}
use Rattle.image.proofs.OnBytes.{on_bytes}

-- What is lent does not change the calls.
calls_kept : (n : ℕ) (cs : List BytesCall) → calls_of (map (lent_call n) cs) ≡ bytes_calls cs
calls_kept n [] = refl
calls_kept n (c ∷ cs) = ap (λ (l : List Call). c.call ∷ l) (calls_kept n cs)

pub demand_on_bytes : Closure → DemandOnBytes
demand_on_bytes closed cfg b cs fresh f =
    let n : ℕ = length b in
    let o : OnBytes b cs = on_bytes closed b cs f in
    let m : Memory = Some (fresh_store cfg) in
    let a : trace m (map (lent_call n) cs) ≡ bytes_trace b cs = sym (o.answers ∙ ap (λ (x : Memory). trace x (map (lent_call n) cs)) fresh) in
    let e : final m (map (lent_call n) cs) ≡ decode (bytes_final b cs) = sym (o.reads_as ∙ ap (λ (x : Memory). final x (map (lent_call n) cs)) fresh) in
    let r : RunAgrees (trace m (map (lent_call n) cs)) (final m (map (lent_call n) cs)) (fresh_ledger cfg) (calls_of (map (lent_call n) cs)) =
    run_agrees (map (lent_call n) cs) m (fresh_ledger cfg) (both_open cfg both_empty) in
    let r₁ : RunAgrees (bytes_trace b cs) (final m (map (lent_call n) cs)) (fresh_ledger cfg) (calls_of (map (lent_call n) cs)) =
    subst (λ (x : List Answer). RunAgrees x (final m (map (lent_call n) cs)) (fresh_ledger cfg) (calls_of (map (lent_call n) cs))) a r in
    let r₂ : RunAgrees (bytes_trace b cs) (decode (bytes_final b cs)) (fresh_ledger cfg) (calls_of (map (lent_call n) cs)) =
    subst (λ (x : Memory). RunAgrees (bytes_trace b cs) x (fresh_ledger cfg) (calls_of (map (lent_call n) cs))) e r₁ in
    let r₃ : RunAgrees (bytes_trace b cs) (decode (bytes_final b cs)) (fresh_ledger cfg) (bytes_calls cs) =
    subst (λ (x : List Call). RunAgrees (bytes_trace b cs) (decode (bytes_final b cs)) (fresh_ledger cfg) x) (calls_kept n cs) r₂ in
    record {
      first = λ truth q. true_memory truth r₃.relation (r₃.keeps_true truth tt q);
      answers = r₃.same_answers;
      serves = serves_same r₃.relation;
    }
