-- Demand 3, first part: what is asked of the values and lists of the accepted calls, and that every value served is then true.
use Rattle.std.specs.Prelude.{ℕ, suc, ◌≡◌, Bool, true, false, cond, List, [], ◌∷◌, None, Option, Some}
use Rattle.model.specs.Slots.{Value, Hash, Slot, slot_eqb, mem, ReadAnchor, identified}
use Rattle.model.specs.Contents.{or_else}
use Rattle.model.specs.Advance.{Write}
use Rattle.model.specs.Reads.{Member}
use Rattle.model.specs.Store.{look, get, put, read, AnchoredCall, on_slot, take, answer, answer_failed, StoreCall, install, advance, at_anchor, Call, open_store, on_store, Generation, Memory, served_value}
use Rattle.model.specs.Refusals.{installed_in}

-- The one true value of each anchor and slot.
abbrev pub Truth : Type 0
Truth = ReadAnchor → Slot → Value

-- The value that a list of writes ends with for a slot, or none if it does not name the slot.
unfoldable pub last_value : Slot → List Write → Option Value
last_value s [] = None
last_value s (w ∷ ws) = or_else (last_value s ws) (cond (slot_eqb w.slot s) (Some w.value) None)

-- The slots that a list of writes names.
unfoldable pub named_slots : List Write → List Slot
named_slots [] = []
named_slots (w ∷ ws) = w.slot ∷ named_slots ws

-- A list of writes that is true of its child.
pub record TrueWrites (truth : Truth) (child : ReadAnchor) (parent_hash : Hash) (ws : List Write) : Type 0 where
  -- it ends with the child's value for every slot that it names
  pub last_values_true : (s : Slot) (v : Value) → last_value s ws ≡ Some v → v ≡ truth child s
  -- it names every slot that differs between the child and the block one below with the given parent hash; block 0 has none below
  pub names_every_change : (n : ℕ) → child.number ≡ suc n
      → (s : Slot) → (truth child s ≡ truth (identified n parent_hash) s → ⊥) → mem s (named_slots ws) ≡ true

-- Every value of an answer is the true one at its anchor.
abbrev pub TrueOutcome : Truth → ReadAnchor → Slot → Option Value → Type 0
TrueOutcome truth a s None = Unit {0}
TrueOutcome truth a s (Some v) = v ≡ truth a s

abbrev pub TrueOutcomes : Truth → ReadAnchor → List Member → Type 0
TrueOutcomes truth a [] = Unit {0}
TrueOutcomes truth a (x ∷ xs) = TrueOutcome truth a x.slot x.outcome × TrueOutcomes truth a xs

-- What is asked of an accepted call: a put's value, an answer's values and an unskipped list of writes are true.
abbrev pub TrueAt : Truth → ReadAnchor → AnchoredCall → Type 0
TrueAt truth a (on_slot (look s)) = Unit {0}
TrueAt truth a (on_slot (get s)) = Unit {0}
TrueAt truth a (on_slot (put s v)) = v ≡ truth a s
TrueAt truth a (on_slot (read s)) = Unit {0}
TrueAt truth a take = Unit {0}
TrueAt truth a (answer ms) = TrueOutcomes truth a ms
TrueAt truth a (answer_failed ss) = Unit {0}

abbrev pub TrueStoreCall : Truth → StoreCall → Type 0
TrueStoreCall truth (install a) = Unit {0}
TrueStoreCall truth (advance child parent_hash p) = p.skip ≡ 0 → TrueWrites truth child parent_hash p.writes
TrueStoreCall truth (at_anchor a c) = TrueAt truth a c

abbrev pub TrueCall : Truth → Call → Type 0
TrueCall truth (open_store c d R) = Unit {0}
TrueCall truth (on_store c) = TrueStoreCall truth c

-- What is asked of a list of calls: each accepted call is true. The flags say which calls were turned down.
abbrev pub TrueInputs : Truth → List Call → List Bool → Type 0
TrueInputs truth [] fs = Unit {0}
TrueInputs truth (c ∷ cs) [] = Unit {0}
TrueInputs truth (c ∷ cs) (true ∷ fs) = TrueInputs truth cs fs
TrueInputs truth (c ∷ cs) (false ∷ fs) = TrueCall truth c × TrueInputs truth cs fs

-- The value that a slot is served with: what a look would answer.
abbrev pub serves_value : Memory → Slot → Option Value
serves_value None s = None
serves_value (Some st) s = served_value st.config.retention st.installed s

-- Every value served is the true one at the installed anchor.
abbrev pub TrueGeneration : Truth → Memory → Option Generation → Type 0
TrueGeneration truth m None = Unit {0}
TrueGeneration truth m (Some g) = (s : Slot) (v : Value) → serves_value m s ≡ Some v → v ≡ truth g.anchor s

abbrev pub TrueMemory : Truth → Memory → Type 0
TrueMemory truth m = TrueGeneration truth m (installed_in m)
