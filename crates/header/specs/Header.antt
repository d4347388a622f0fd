-- The refusal of a call at an anchor, and the stores that an open and an install leave.
use Rattle.std.specs.Prelude.{ℕ, max, Bool, cond, List, [], eqb, length, None, Option, Some, Ok, Err}
use Rattle.std.specs.declared.result.Result.{Result}
use Rattle.model.specs.declared.refusal.Refusal.{Refusal}
use Rattle.model.specs.declared.refusal.Refusal.TheVariants.{NothingInstalled, AnotherAnchor}
use Rattle.model.specs.declared.delta_snapshot.Retention.{Retention}
use Rattle.model.specs.declared.storage_memo.ReadAnchor.{ReadAnchor}
use Rattle.model.specs.Slots.{at, identified, anchor_eqb}
use Rattle.model.specs.Entries.{u256_at}
use Rattle.model.specs.Advance.{void_base}
use Rattle.model.specs.Store.{Config, Generation, Memory, new_generation}

-- Whether the installed anchor is the call's: if not, the call is refused (22).
abbrev pub if_anchored : Bool → Result (Unit {0}) Refusal
if_anchored same = cond same (Ok tt) (Err AnotherAnchor)

-- The refusal of a call at an anchor: where nothing is installed (21), and where another anchor is (22).
abbrev pub anchored_refusal : Option Generation → ReadAnchor → Result (Unit {0}) Refusal
anchored_refusal None a = Err NothingInstalled
anchored_refusal (Some g) a = if_anchored (anchor_eqb g.anchor a)

-- The anchor of a number and a lent hash, which is empty for an anchor with no hash.
abbrev pub lent_anchor : ℕ → List ℕ → ReadAnchor
lent_anchor n hash = cond (eqb (length hash) 0) (at n) (identified n (u256_at 0 hash))

-- What an open sets: a depth limit of at least 1.
abbrev pub config_of : ℕ → ℕ → Retention → Config
config_of capacity depth R = record { capacity = capacity; max_depth = max 1 depth; retention = R }

-- A store with nothing installed, and with a fresh generation.
abbrev pub empty : Config → Memory
empty cfg = Some (record { config = cfg; installed = None })

abbrev pub begun : Config → ReadAnchor → Memory
begun cfg a = Some (record { config = cfg; installed = Some (new_generation a void_base []) })
