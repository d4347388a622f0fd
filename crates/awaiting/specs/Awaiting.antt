-- What the functions over awaiting slots in bytes say: an awaiting slot in its bytes, the place of a slot, what a change asks and leaves, the slots of a lent list.
use Rattle.std.specs.Prelude.{ℕ, ◌*◌, ◌/◌, ◌^◌, ◌≤◌, ◌<◌, ◌≡◌, true, List, map, length, drop}
use Rattle.layout.specs.Layout.{awaiting_size, awaiting_table_size, awaiting_width}
use Rattle.model.specs.declared.delta_snapshot.Slot.{Slot}
use Rattle.model.specs.Contents.{use_only}
use Rattle.model.specs.Layers.{Layer}
use Rattle.model.specs.Reads.{Pending, queued}
use Rattle.model.specs.Entries.{slot_of, chunks, with_slots}
use Rattle.image.specs.Image.{words_of, read_pending}
use Rattle.image.specs.WellFormed.{pending_ok, all_waiters}
use Rattle.image.specs.Area.{pending_of, with_pending}
use Rattle.records.specs.Records.{Found}
use Rattle.records.specs.Records as records

-- Awaiting slot i in the bytes that begin with awaiting slots.
abbrev pub entry_at : ℕ → List ℕ → Pending
entry_at i s = read_pending (words_of awaiting_width (drop (i * awaiting_size) s))

-- Awaiting slots as records of the same slots, whose contents are not looked at.
abbrev pub as_records : List Pending → Layer
as_records q = map (λ (w : Pending). record { slot = w.slot; content = use_only 0 }) q

-- The place of a slot among awaiting slots that rise: where it is, or where it would go.
abbrev pub place_in : Slot → List Pending → Found
place_in t q = records.place_in t (as_records q)

-- What a look-up asks: the bytes hold n awaiting slots, and these rise.
pub record Rising (n : ℕ) (s : List ℕ) : Type 0 where
  pub room : n * awaiting_size ≤ length s
  pub ok : pending_ok (pending_of n s) ≡ true

-- What a change asks: at most 64 awaiting slots in their area, which rise and fit, with fewer than 2^32 waiters in all; the bytes are exactly theirs.
pub record Ready (n : ℕ) (s : List ℕ) : Type 0 where
  pub few : n ≤ 64
  pub area : awaiting_table_size ≤ length s
  pub ok : pending_ok (pending_of n s) ≡ true
  pub waiters_fit : all_waiters (pending_of n s) < 2 ^ 32
  pub exact : with_pending n (pending_of n s) s ≡ s

-- What it leaves, of n awaiting slots before: the number of the awaiting slots, and the bytes, which begin with them.
pub record Holds (count : ℕ) (b : List ℕ) (n : ℕ) (q : List Pending) (s : List ℕ) : Type 0 where
  pub count_is : count ≡ length q
  pub bytes_are : b ≡ with_pending n q s

-- What listing the queue leaves: its length, and the output, which begins with its slots.
pub record Lists (count : ℕ) (o : List ℕ) (q : List Pending) (out : List ℕ) : Type 0 where
  pub count_is : count ≡ length (queued q)
  pub output_is : o ≡ with_slots (queued q) out

-- The slots of a lent list of entries of w bytes each, which begin with a slot.
unfoldable pub entry_slots : ℕ → List ℕ → List Slot
entry_slots w b = map slot_of (chunks w (length b / w) b)
