-- What is claimed of well-formed stores and of their image.
use Rattle.std.specs.Prelude.{ℕ, ◌≡◌, Bool, true, ◌&&◌, List, [], ◌∷◌, ◌++◌, map, length, take, None, Some}
use Rattle.model.specs.Numbers.{Bytes}
use Rattle.model.specs.Advance.{Write}
use Rattle.model.specs.Reads.{Member}
use Rattle.model.specs.Store.{look, get, put, read, AnchoredCall, on_slot, take as take_call, answer, answer_failed, StoreCall, install, advance, at_anchor, Call, open_store, on_store, Store, Memory}
use Rattle.model.specs.Refusals.{LentCall, step, trace, final, store_size}
use Rattle.model.specs.Slots.{u256_fits}
use Rattle.model.specs.Contents.{value_fits}
use Rattle.image.specs.WellFormed.{slot_fits, anchor_fits, retention_fits, well_formed}
use Rattle.image.specs.Image.{image, decode, BytesCall, lent_call, bytes_trace, bytes_final}

-- The arguments of a call fit the fields of the code's types.
unfoldable pub writes_fit : List Write → Bool
writes_fit [] = true
writes_fit (w ∷ ws) = slot_fits w.slot && (u256_fits w.value && writes_fit ws)

unfoldable pub members_fit : List Member → Bool
members_fit [] = true
members_fit (m ∷ ms) = slot_fits m.slot && (value_fits m.outcome && members_fit ms)

abbrev pub anchored_fits : AnchoredCall → Bool
anchored_fits (on_slot (look s)) = slot_fits s
anchored_fits (on_slot (get s)) = slot_fits s
anchored_fits (on_slot (put s v)) = slot_fits s && u256_fits v
anchored_fits (on_slot (read s)) = slot_fits s
anchored_fits take_call = true
anchored_fits (answer ms) = members_fit ms
anchored_fits (answer_failed ss) = true

abbrev pub store_call_fits : StoreCall → Bool
store_call_fits (install a) = anchor_fits a
store_call_fits (advance child h p) = anchor_fits child && writes_fit p.writes
store_call_fits (at_anchor a c) = anchored_fits c

abbrev pub call_fits : Call → Bool
call_fits (open_store c d R) = retention_fits R
call_fits (on_store c) = store_call_fits c

-- The lent bytes are no store, or a well-formed one.
abbrev pub memory_ok : Memory → Bool
memory_ok None = true
memory_ok (Some st) = well_formed st

-- From any well-formed state, reached or not, every call leaves a well-formed one.
abbrev pub Closure : Type 0
Closure = (m : Memory) (c : LentCall) → memory_ok m ≡ true → call_fits c.call ≡ true → memory_ok (step m c).memory ≡ true

-- The image of a well-formed state has the size of its capacity and reads back as that state, whatever follows it; and bytes that are a store begin with the image of a well-formed state, which they read as.
pub record ImageReadsBack : Type 0 where
  pub size : (st : Store) → well_formed st ≡ true → length (image st) ≡ store_size st.config.capacity
  pub reads_back : (st : Store) (rest : List ℕ) → well_formed st ≡ true → decode (image st ++ rest) ≡ Some st
  pub is_image : (b : List ℕ) (st : Store) → Bytes b → decode b ≡ Some st → (well_formed st ≡ true) × (take (length (image st)) b ≡ image st)

-- A list of calls whose arguments fit.
unfoldable pub calls_fit : List BytesCall → Bool
calls_fit [] = true
calls_fit (c ∷ cs) = call_fits c.call && calls_fit cs

-- Calls on lent bytes, each finding them as the last one left them, are the calls on states: the same answers, and the bytes read as the state after them.
pub record OnBytes (b : List ℕ) (cs : List BytesCall) : Type 0 where
  pub answers : bytes_trace b cs ≡ trace (decode b) (map (lent_call (length b)) cs)
  pub reads_as : decode (bytes_final b cs) ≡ final (decode b) (map (lent_call (length b)) cs)

pub record ImageClaims : Type 0 where
  pub closure : Closure
  pub reads_back : ImageReadsBack
  pub on_bytes : (b : List ℕ) (cs : List BytesCall) → calls_fit cs ≡ true → OnBytes b cs
