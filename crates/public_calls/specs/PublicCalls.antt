-- The calls of the public functions (crate store) as data; that a call was made, and that several were, one after the other.
use Rattle.std.specs.Prelude.{ℕ, ◌≡◌, true, List, [], ◌∷◌, map}
use Rattle.model.specs.declared.storage_memo.U256.{U256}
use Rattle.model.specs.declared.storage_memo.ReadAnchor.{ReadAnchor}
use Rattle.model.specs.declared.delta_snapshot.Slot.{Slot}
use Rattle.model.specs.declared.delta_snapshot.Retention.{Retention}
use Rattle.model.specs.Numbers.{Bytes}
use Rattle.model.specs.Entries.{slots_of, members_of}
use Rattle.model.specs.Store as model
use Rattle.model.specs.Store.{Call, on_store, at_anchor, on_slot}
use Rattle.model.specs.Refusals.{Answer}
use Rattle.model.specs.Slots.{u256_fits}
use Rattle.image.specs.WellFormed.{slot_fits, anchor_fits, retention_fits}
use Rattle.image.specs.Image.{BytesCall, bytes_step}
use Rattle.replies.specs.Replies.{alone, with_output, advance_call, answer_step, Stepped}

-- A call of each public function with its arguments, the store's bytes apart: numbers, structs, and as lists of bytes what is lent to it.
pub data PublicCall : Type 0 where
  -- capacity, depth limit, retention
  open_store : ℕ → ℕ → Retention → PublicCall
  install : ReadAnchor → PublicCall
  look : ReadAnchor → Slot → PublicCall
  get : ReadAnchor → Slot → PublicCall
  put : ReadAnchor → Slot → U256 → PublicCall
  -- child, parent hash, skip; addresses, writes, work area, output
  advance : ReadAnchor → U256 → ℕ → List ℕ → List ℕ → List ℕ → List ℕ → PublicCall
  read : ReadAnchor → Slot → PublicCall
  -- with its output
  take : ReadAnchor → List ℕ → PublicCall
  -- with the members
  answer : ReadAnchor → List ℕ → PublicCall
  -- with the slots
  answer_failed : ReadAnchor → List ℕ → PublicCall

-- The same call by the definitions that the function's contract cites.
abbrev pub bytes_call : PublicCall → BytesCall
bytes_call (open_store capacity depth R) = alone (model.open_store capacity depth R)
bytes_call (install a) = alone (on_store (model.install a))
bytes_call (look a s) = alone (on_store (at_anchor a (on_slot (model.look s))))
bytes_call (get a s) = alone (on_store (at_anchor a (on_slot (model.get s))))
bytes_call (put a s v) = alone (on_store (at_anchor a (on_slot (model.put s v))))
bytes_call (advance child h k addresses writes work out) = advance_call child h k addresses writes work out
bytes_call (read a s) = alone (on_store (at_anchor a (on_slot (model.read s))))
bytes_call (take a out) = with_output (on_store (at_anchor a model.take)) out
bytes_call (answer a members) = alone (on_store (at_anchor a (model.answer (members_of members))))
bytes_call (answer_failed a slots) = alone (on_store (at_anchor a (model.answer_failed (slots_of slots))))

-- The calls of a list without what is lent.
abbrev pub model_calls : List PublicCall → List Call
model_calls cs = map (λ c. (bytes_call c).call) cs

-- A call answered, and left the store's bytes, as its definition says.
abbrev pub SteppedBy : PublicCall → List ℕ → List ℕ → Answer → Type 0
SteppedBy c before after x = Stepped x after (bytes_step before (bytes_call c))

-- A call was made: it found the store's bytes as `before`, left them as `after`, and answered, as its function's contract says.
-- Of its arguments, what their types give: words below 2^64, an address's first word below 2^32, bytes below 256.
abbrev pub Made : PublicCall → List ℕ → List ℕ → Answer → Type 0
Made (open_store capacity depth R) before after x = (retention_fits R ≡ true) × SteppedBy (open_store capacity depth R) before after x
Made (install a) before after x = (anchor_fits a ≡ true) × SteppedBy (install a) before after x
Made (look a s) before after x = (slot_fits s ≡ true) × SteppedBy (look a s) before after x
Made (get a s) before after x = (slot_fits s ≡ true) × SteppedBy (get a s) before after x
Made (put a s v) before after x = (slot_fits s ≡ true) × (u256_fits v ≡ true) × SteppedBy (put a s v) before after x
Made (advance child h k addresses writes work out) before after x =
    (anchor_fits child ≡ true) × Bytes writes × SteppedBy (advance child h k addresses writes work out) before after x
Made (read a s) before after x = (slot_fits s ≡ true) × SteppedBy (read a s) before after x
Made (take a out) before after x = SteppedBy (take a out) before after x
-- a flag byte that is neither 0 nor 1 is refused first
Made (answer a members) before after x = Bytes members × Stepped x after (answer_step before a members)
Made (answer_failed a slots) before after x = SteppedBy (answer_failed a slots) before after x

-- Calls were made one after the other, each finding the bytes as the last one left them: of the bytes before, the calls, their answers, and the bytes after.
pub data Run : List ℕ → List PublicCall → List Answer → List ℕ → Type 0 where
  ended : {b : List ℕ} → Run b [] [] b
  called : {b between after : List ℕ} {c : PublicCall} {cs : List PublicCall} {a : Answer} {answers : List Answer}
      → Made c b between a → Run between cs answers after → Run b (c ∷ cs) (a ∷ answers) after
