-- The store that an advance builds before its writes, and the header of such a store.
use Rattle.std.specs.Prelude.{ℕ, ◌+◌, ◌-◌, ◌*◌, ◌≡◌, List, [], ◌∷◌, ◌++◌, length, replicate, None, Option, Some}
use Rattle.layout.specs.Layout.{awaiting_table, depth_offset, ends_limit, ends_offset, record_size, records_offset}
use Rattle.model.specs.declared.storage_memo.ReadAnchor.{ReadAnchor}
use Rattle.model.specs.declared.delta_snapshot.CompactionReport.{CompactionReport}
use Rattle.model.specs.Numbers.{be}
use Rattle.model.specs.Layers.{Layer}
use Rattle.model.specs.Advance.{Compaction, compact_base, seal}
use Rattle.model.specs.Store.{Config, Generation, Store, Memory, new_generation}
use Rattle.words.specs.Parts.{placed}
use Rattle.image.specs.Image.{bytes_of, hash_words, all_record_words, padded, config_words, overlay}

-- The anchor of what is installed, or none.
abbrev pub anchor_of : Option Generation → Option ReadAnchor
anchor_of None = None
anchor_of (Some g) = Some g.anchor

-- The installed anchor of a store, or none: the parent of a child.
abbrev pub installed_anchor : Store → Option ReadAnchor
installed_anchor st = anchor_of st.installed

-- A store with a generation over a base, before any write.
abbrev pub begun_on : Config → ReadAnchor → List Layer → Memory
begun_on cfg a b = Some (record { config = cfg; installed = Some (new_generation a b []) })

-- The base of a generation before it is sealed, folded at its number if that is due, and the fold's report.
abbrev pub compacted : Config → Generation → Compaction
compacted cfg g = compact_base cfg.retention cfg.max_depth g.anchor.number g.base

-- What a seal leaves in the work area, and its report: of the top and of the base as it is before the seal, folded or not.
pub record Sealed (c : CompactionReport) (after before : List ℕ) (cfg : Config) (child : ReadAnchor) (t : Layer) (k : Compaction) : Type 0 where
  pub bytes_are : after ≡ overlay (begun_on cfg child (seal t k.base)) before
  pub report_is : c ≡ k.report

-- The words before the records of a store with a new generation: of its depth, its number of records and its layer ends.
unfoldable pub header_words : Config → ReadAnchor → ℕ → ℕ → List ℕ → List ℕ
header_words cfg a depth count ends = config_words cfg ++ ((1 ∷ a.number ∷ (hash_words a.hash ++ (depth ∷ count ∷ replicate 10 0))) ++ (padded ends_limit ends ++ replicate awaiting_table 0))

-- A header with a layer more: its number k in the place of the depth, and n records up to it, as their number and as its end.
abbrev pub with_layer : ℕ → ℕ → List ℕ → List ℕ
with_layer k n b = placed (ends_offset + 8 * k) (be 8 n) (placed depth_offset (bytes_of (k ∷ n ∷ [])) b)

-- A store with the records of a top behind the first `left` records, and zeros from there to the capacity.
abbrev pub topped_up : ℕ → ℕ → Layer → List ℕ → List ℕ
topped_up left capacity t b =
    placed (records_offset + record_size * (left + length t)) (replicate (record_size * (capacity - (left + length t))) 0) (placed (records_offset + record_size * left) (bytes_of (all_record_words t)) b)
