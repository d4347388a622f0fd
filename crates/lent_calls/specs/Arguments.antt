-- The arguments of an exported call: which lent bytes are long enough, and what they give. Bytes past what is named here are not read.
use Rattle.std.specs.Prelude.{ℕ, Bool, ◌&&◌, ◌||◌, cond, List, eqb, leb, length, None, Option, Some}
use Rattle.model.specs.declared.delta_snapshot.Retention.{Retention}
use Rattle.model.specs.declared.delta_snapshot.Retention.TheVariants.{Unbounded, IdleBlocks}
use Rattle.model.specs.Store.{open_store}
use Rattle.model.specs.Refusals.{capacity_out_of_range, store_size}

-- A reply has twelve words, the most that a call answers (an advance).
abbrev pub reply_size : ℕ
reply_size = 96

abbrev pub reply_enough : List ℕ → Bool
reply_enough reply = leb reply_size (length reply)

-- A hash is empty, for an anchor with no hash, or has 32 bytes.
abbrev pub hash_enough : List ℕ → Bool
hash_enough h = eqb (length h) 0 || leb 32 (length h)

-- The arguments of a call at an anchor; of one at a slot; of a put; of an advance, with the parent's hash.
abbrev pub anchored_enough : List ℕ → List ℕ → Bool
anchored_enough hash reply = reply_enough reply && hash_enough hash

abbrev pub slot_enough : List ℕ → List ℕ → List ℕ → Bool
slot_enough hash slot reply = leb 52 (length slot) && anchored_enough hash reply

abbrev pub put_enough : List ℕ → List ℕ → List ℕ → List ℕ → Bool
put_enough hash slot value reply = leb 32 (length value) && slot_enough hash slot reply

abbrev pub advance_enough : List ℕ → List ℕ → List ℕ → Bool
advance_enough hash parent_hash reply = leb 32 (length parent_hash) && anchored_enough hash reply

-- The retention of a form, 0 or 1, and a number of blocks, which form 0 leaves unread.
abbrev pub lent_retention : ℕ → ℕ → Retention
lent_retention form idle = cond (eqb form 0) Unbounded (IdleBlocks idle)

-- The cap of a number: the largest word is no cap.
abbrev pub lent_cap : ℕ → Option ℕ
lent_cap n = cond (eqb n 0xffffffffffffffff) None (Some n)

-- The bytes of a store of a capacity; 0 for a capacity that an open refuses.
abbrev pub lent_size : ℕ → ℕ
lent_size capacity = cond (capacity_out_of_range (open_store capacity 0 Unbounded)) 0 (store_size capacity)
