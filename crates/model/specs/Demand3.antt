-- Demand 3 over any list of calls, refused ones of every kind included. Before the first accepted open the lent bytes are no store.
use Rattle.std.specs.Prelude.{◌≡◌, Bool, List, map, None}
use Rattle.model.specs.Slots.{Slot}
use Rattle.model.specs.Store.{Call}
use Rattle.model.specs.Refusals.{LentCall, trace, final, refused}
use Rattle.model.specs.FlatLedger.{compared, ledger_trace, ledger_final, ledger_serves}
use Rattle.model.specs.TrueInputs.{Truth, TrueInputs, TrueMemory, serves_value}

-- The calls of a list without what is lent, and which of them were turned down.
abbrev pub calls_of : List LentCall → List Call
calls_of cs = map (λ c. c.call) cs

abbrev pub refusal_flags : List LentCall → List Bool
refusal_flags cs = map refused (trace None cs)

-- First part: if the accepted calls are true, every value served is true at the installed anchor.
abbrev pub ServedTrue : List LentCall → Type 0
ServedTrue cs = (truth : Truth) → TrueInputs truth (calls_of cs) (refusal_flags cs) → TrueMemory truth (final None cs)

-- Second part: the store serves exactly the slots and values of the ledger, and each accepted answer equals the ledger's in all that is compared.
pub record LedgerAgrees (cs : List LentCall) : Type 0 where
  pub answers : map compared (trace None cs) ≡ ledger_trace None (calls_of cs) (refusal_flags cs)
  pub serves : (s : Slot) → serves_value (final None cs) s ≡ ledger_serves (ledger_final None (calls_of cs) (refusal_flags cs)) s

pub record Demand3 : Type 0 where
  pub first : (cs : List LentCall) → ServedTrue cs
  pub second : (cs : List LentCall) → LedgerAgrees cs
