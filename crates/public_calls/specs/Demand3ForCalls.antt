-- Demand 3 over any list of calls of the public functions, refused ones of every kind included.
use Rattle.std.specs.Prelude.{ℕ, ◌≡◌, List, ◌∷◌, map, None}
use Rattle.model.specs.declared.delta_snapshot.Slot.{Slot}
use Rattle.model.specs.declared.delta_snapshot.Retention.{Retention}
use Rattle.model.specs.Store.{opened}
use Rattle.model.specs.Refusals.{Answer, ok, refused}
use Rattle.model.specs.FlatLedger.{compared, ledger_trace, ledger_final, ledger_serves}
use Rattle.model.specs.TrueInputs.{Truth, TrueInputs, TrueMemory, serves_value}
use Rattle.image.specs.Image.{decode}
use Rattle.public_calls.specs.PublicCalls.{PublicCall, open_store, model_calls, Run}

-- Both parts of demand 3, of calls, their answers and the bytes after them. The ledger starts before the first open.
pub record Demand3Met (cs : List PublicCall) (answers : List Answer) (after : List ℕ) : Type 0 where
  -- if the accepted calls are true, every value served is true at the installed anchor
  pub first : (truth : Truth) → TrueInputs truth (model_calls cs) (map refused answers) → TrueMemory truth (decode after)
  -- each accepted answer equals the ledger's in all that is compared
  pub same_answers : map compared answers ≡ ledger_trace None (model_calls cs) (map refused answers)
  -- the store serves exactly the slots and values of the ledger
  pub serves : (s : Slot) → serves_value (decode after) s ≡ ledger_serves (ledger_final None (model_calls cs) (map refused answers)) s

pub record DemandForCalls : Type 0 where
  -- bytes of any content, from an accepted open on
  pub from_open : (b after : List ℕ) (capacity depth : ℕ) (R : Retention) (cs : List PublicCall) (answers : List Answer)
      → Run b (open_store capacity depth R ∷ cs) (ok opened ∷ answers) after → Demand3Met (open_store capacity depth R ∷ cs) (ok opened ∷ answers) after
  -- bytes that are no store, from the first call on
  pub from_no_store : (b after : List ℕ) (cs : List PublicCall) (answers : List Answer)
      → decode b ≡ None → Run b cs answers after → Demand3Met cs answers after
