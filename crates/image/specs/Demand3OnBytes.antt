-- Demand 3 on lent bytes: a freshly opened store of any capacity, depth and retention, each call finding the bytes as the last one left them.
use Rattle.std.specs.Prelude.{ℕ, ◌≡◌, Bool, true, List, map, None, Option, Some}
use Rattle.model.specs.declared.delta_snapshot.Slot.{Slot}
use Rattle.model.specs.Store.{Config, Store, Call}
use Rattle.model.specs.Refusals.{refused}
use Rattle.model.specs.FlatLedger.{Ledger, compared, ledger_trace, ledger_final, ledger_serves}
use Rattle.model.specs.TrueInputs.{Truth, TrueInputs, TrueMemory, serves_value}
use Rattle.image.specs.Image.{decode, BytesCall, bytes_trace, bytes_final}
use Rattle.image.specs.Claims.{calls_fit}

-- A store as an open leaves it, and the ledger of that open.
abbrev pub fresh_store : Config → Store
fresh_store cfg = record { config = cfg; installed = None }

abbrev pub fresh_ledger : Config → Option Ledger
fresh_ledger cfg = Some (record { retention = cfg.retention; installed = None })

-- The calls of a list without what is lent, and which of them were turned down.
abbrev pub bytes_calls : List BytesCall → List Call
bytes_calls cs = map (λ c. c.call) cs

abbrev pub bytes_flags : List ℕ → List BytesCall → List Bool
bytes_flags b cs = map refused (bytes_trace b cs)

pub record Demand3OnBytes (cfg : Config) (b : List ℕ) (cs : List BytesCall) : Type 0 where
  -- if the accepted calls are true, every value served is true at the installed anchor
  pub first : (truth : Truth) → TrueInputs truth (bytes_calls cs) (bytes_flags b cs) → TrueMemory truth (decode (bytes_final b cs))
  -- each accepted answer equals the ledger's in all that is compared
  pub answers : map compared (bytes_trace b cs) ≡ ledger_trace (fresh_ledger cfg) (bytes_calls cs) (bytes_flags b cs)
  -- the store serves exactly the slots and values of the ledger
  pub serves : (s : Slot) → serves_value (decode (bytes_final b cs)) s ≡ ledger_serves (ledger_final (fresh_ledger cfg) (bytes_calls cs) (bytes_flags b cs)) s

-- Over any bytes that are a freshly opened store, and any list of calls whose arguments fit the code's types.
abbrev pub DemandOnBytes : Type 0
DemandOnBytes = (cfg : Config) (b : List ℕ) (cs : List BytesCall) → decode b ≡ Some (fresh_store cfg) → calls_fit cs ≡ true → Demand3OnBytes cfg b cs
