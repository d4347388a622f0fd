-- What a write does to a store's bytes, and what the answers mean.
use Rattle.std.specs.Prelude.{◌≡◌, Bool, true, false, cond, List, ◌∷◌, ℕ, ◌+◌, leb, length, None, Option, Some}
use Rattle.model.specs.declared.delta_snapshot.Slot.{Slot}
use Rattle.model.specs.Slots.{Value}
use Rattle.model.specs.Contents.{valued_use}
use Rattle.model.specs.Layers.{Layer, find, freshest_use, record_count}
use Rattle.model.specs.Advance.{WriteKind, overwrite, new, skip, relevant, final_write_kind, apply_write, Write, AppliedWrites, SeededTop, seed_final_writes}
use Rattle.model.specs.Entries.{addresses_of, writes_of}
use Rattle.image.specs.Image.{overlay}
use Rattle.image.specs.Lent.{store_of, generation_of, Installed}
use Rattle.top.specs.Top.{topped}
use Rattle.model.specs.Store.{Config, Generation, with_top}
use Rattle.model.specs.declared.storage_memo.Address.{Address}
use Rattle.seed.specs.declared.WriteKind.{WriteKind as Kind}
use Rattle.seed.specs.declared.WriteKind.TheVariants.{Overwrite, New, Skip}
use Rattle.replies.specs.declared.WriteCounts.{WriteCounts}

-- What a write does, in the model's terms.
abbrev pub kind_of : Kind → WriteKind
kind_of (Overwrite u) = overwrite u
kind_of New = new
kind_of Skip = skip

-- What a write did, or none where there was no room.
abbrev pub applied_kind : Option Kind → Option WriteKind
applied_kind None = None
applied_kind (Some k) = Some (kind_of k)

-- The bytes of a store with another top of its generation, and whether its records are within the capacity.
abbrev pub retopped : Layer → List ℕ → List ℕ
retopped t b = overlay (topped (store_of b).config (generation_of b) t) b

abbrev pub has_room_for : Layer → List ℕ → Bool
has_room_for t b = leb (record_count (t ∷ (generation_of b).base)) (store_of b).config.capacity

-- What a write to a slot does in a store, with the addresses that are relevant.
abbrev pub kind_in : List ℕ → List ℕ → Slot → WriteKind
kind_in b addresses s =
    final_write_kind (store_of b).config.retention (generation_of b).anchor.number (relevant (addresses_of addresses) s.address) (valued_use (find s (generation_of b).top)) (freshest_use s (generation_of b).base)

-- The top after it.
abbrev pub top_after : List ℕ → List ℕ → Slot → Value → Layer
top_after b addresses s v = apply_write (generation_of b).anchor.number (kind_in b addresses s) s v (generation_of b).top

-- Another top was set if there is room for it, else the bytes are as they were.
pub record Settled (room : Bool) (after : List ℕ) (t : Layer) (b : List ℕ) : Type 0 where
  pub room_is : room ≡ has_room_for t b
  pub bytes_are : after ≡ cond room (retopped t b) b

-- A write was applied if there is room for it, else the bytes are as they were.
pub record Wrote (r : Option Kind) (after b addresses : List ℕ) (s : Slot) (v : Value) : Type 0 where
  pub answer_is : applied_kind r ≡ cond (has_room_for (top_after b addresses s v) b) (Some (kind_in b addresses s)) None
  pub bytes_are : after ≡ cond (has_room_for (top_after b addresses s v) b) (retopped (top_after b addresses s v) b) b

-- The counts with one write more.
abbrev pub count_one : WriteKind → WriteCounts → WriteCounts
count_one (overwrite u) c = record { applied = c.applied + 1; overwritten = c.overwritten + 1; skipped = c.skipped }
count_one new c = record { applied = c.applied + 1; overwritten = c.overwritten; skipped = c.skipped }
count_one skip c = record { applied = c.applied; overwritten = c.overwritten; skipped = c.skipped + 1 }

-- What some writes leave over a generation, and over the one that bytes hold.
abbrev pub seeded_over : Config → Generation → List Address → List Write → SeededTop
seeded_over cfg g relevance ws = seed_final_writes cfg.retention g.anchor.number relevance g.base ws g.top

abbrev pub seeded_in : List ℕ → List Address → List Write → SeededTop
seeded_in b relevance ws = seeded_over (store_of b).config (generation_of b) relevance ws

-- The counts are those of a report.
pub record CountsOf (c : WriteCounts) (t : AppliedWrites) : Type 0 where
  pub applied_is : c.applied ≡ length t.applied
  pub overwritten_is : c.overwritten ≡ t.overwritten
  pub skipped_is : c.skipped ≡ t.skipped

-- The writes left the bytes after, with these counts: a store again, with the same generation but for the top.
pub record SeededTo (c : WriteCounts) (after b : List ℕ) (z : SeededTop) : Type 0 where
  pub counts_are : CountsOf c z.applied_writes
  pub bytes_are : after ≡ retopped z.top b
  pub room : has_room_for z.top b ≡ true
  pub installed : Installed after
  pub config_is : (store_of after).config ≡ (store_of b).config
  pub generation_is : generation_of after ≡ with_top (generation_of b) z.top

-- What the writes of a list came to: there is no room for the records that they leave, or all were applied.
abbrev pub SeededAs : Option WriteCounts → List ℕ → List ℕ → List ℕ → List ℕ → Type 0
SeededAs None after b addresses writes = has_room_for (seeded_in b (addresses_of addresses) (writes_of writes)).top b ≡ false
SeededAs (Some c) after b addresses writes = SeededTo c after b (seeded_in b (addresses_of addresses) (writes_of writes))
