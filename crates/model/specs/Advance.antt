-- An advance: the link to the parent, the fold and the seal of its layers, and the child's writes.
use Rattle.std.specs.Prelude.{ℕ, suc, ◌-◌, ◌^◌, Bool, true, false, not, ◌&&◌, ◌||◌, cond, List, [], ◌∷◌, eqb, ltb, length, None, Option, Some, Ok, Err}
use Rattle.std.specs.declared.result.Result.{Result}
use Rattle.model.specs.declared.refusal.Refusal.{Refusal}
use Rattle.model.specs.declared.refusal.Refusal.TheVariants.{SkipOutOfRange}
use Rattle.model.specs.Slots.{Address, address_eqb, Value, LastUse, Hash, u256_eqb, Slot, ReadAnchor, Retention, serves}
use Rattle.model.specs.Layers.{LayerOf, Layer, find, held_value, freshest_use, insert, count_distinct, all_slots}
pub use Rattle.model.specs.declared.delta_snapshot.CompactionReport.{CompactionReport}
use Rattle.model.specs.Contents.{valued, valued_use}
pub use Rattle.model.specs.declared.read_hub.Lineage.{Lineage}
pub use Rattle.model.specs.declared.read_hub.Lineage.TheVariants.{Linked, NoParent, NotConsecutive, ParentHashUnknown, ParentHashMismatch}
pub use Rattle.model.specs.declared.bal_prefetch.BalSkip.{BalSkip}
pub use Rattle.model.specs.declared.bal_prefetch.BalSkip.TheVariants.{Decoded, NoAnchorHash, Rpc, Decode}
pub use Rattle.model.specs.declared.read_hub.CarryOutcome.{CarryOutcome}
pub use Rattle.model.specs.declared.read_hub.CarryOutcome.TheVariants.{AlreadyCurrent, Carried, Cold}

-- The link ------------------------------------------------------------------------------------------

-- Document 01's number of each lineage.
abbrev pub lineage_number : Lineage → ℕ
lineage_number Linked = 0
lineage_number NoParent = 1
lineage_number NotConsecutive = 2
lineage_number ParentHashUnknown = 3
lineage_number ParentHashMismatch = 4

-- Document 01's number of each skip, and the skip of a number. A number above 3 is refused before it is looked at.
abbrev pub skip_number : BalSkip → ℕ
skip_number Decoded = 0
skip_number NoAnchorHash = 1
skip_number Rpc = 2
skip_number Decode = 3

abbrev pub skip_of : ℕ → BalSkip
skip_of n = cond (eqb n 0) Decoded (cond (eqb n 1) NoAnchorHash (cond (eqb n 2) Rpc Decode))

-- The skip of a number, or its refusal (7).
abbrev pub skip_read : ℕ → Result BalSkip Refusal
skip_read n = cond (ltb 3 n) (Err SkipOutOfRange) (Ok (skip_of n))

-- The part of the link that compares hashes.
abbrev pub classify_hash : Option Hash → Hash → Lineage
classify_hash None parent_hash = ParentHashUnknown
classify_hash (Some h) parent_hash = cond (u256_eqb h parent_hash) Linked ParentHashMismatch

-- How a child stands to the installed anchor (`classify_link`), the first that applies: no parent; the child's number is not the parent's plus one
-- (a parent at 2^64 − 1 always); the parent has no hash; hashes differ; linked.
abbrev pub classify_link : Option ReadAnchor → ReadAnchor → Hash → Lineage
classify_link None child parent_hash = NoParent
classify_link (Some p) child parent_hash =
    cond (ltb p.number (2 ^ 64 - 1) && eqb child.number (suc p.number)) (classify_hash p.hash parent_hash) NotConsecutive

-- Whether an advance carries: linked, and its list read.
abbrev pub carries : Lineage → BalSkip → Bool
carries l k = eqb (lineage_number l) 0 && eqb (skip_number k) 0

-- Fold and seal -------------------------------------------------------------------------------------

-- A base (document 01's term) is the sealed layers, the newest first. It has at least one; it is void (`is_void`) if it has one layer and no record.
abbrev pub void_base : List Layer
void_base = [] ∷ []

-- (The case of no layer is a filler: a base has one.)
unfoldable pub is_void : {A : Type 0} → List (LayerOf A) → Bool
is_void [] = true
is_void ([] ∷ []) = true
is_void ([] ∷ (l ∷ ls)) = false
is_void ((r ∷ l) ∷ ls) = false

-- One slot's part of a fold: its newest value and freshest use stay if the use serves. (A slot without a use or without a value is a filler: every slot of a well-formed base has both.)
abbrev pub compact_slot : Retention → ℕ → Slot → Option LastUse → Option Value → Layer → Layer
compact_slot R now s None h l = l
compact_slot R now s (Some u) None l = l
compact_slot R now s (Some u) (Some v) l = cond (serves R u now) (insert s (valued u v) l) l

-- The one layer that a fold makes of the listed slots.
unfoldable pub compact_slots : Retention → ℕ → List Layer → List Slot → Layer
compact_slots R now b [] = []
compact_slots R now b (s ∷ ss) = compact_slot R now s (freshest_use s b) (held_value s b) (compact_slots R now b ss)

-- Whether a slot's use no longer serves. (No use is a filler: it is asked of slots with records.)
abbrev pub lapsed : Retention → ℕ → Option LastUse → Bool
lapsed R now None = false
lapsed R now (Some u) = not (serves R u now)

-- The report (`CompactionReport`) without a fold.
abbrev pub no_compaction : CompactionReport
no_compaction = record { merged = 0; left = 0; dropped = 0 }

-- A base and the report of the fold that made it.
pub record Compaction : Type 0 where
  pub base : List Layer
  pub report : CompactionReport

-- The fold of a base at a number into one layer (`compact`): the newest value and use stay, lapsed slots go.
unfoldable pub compact : Retention → ℕ → List Layer → Compaction
compact R now b =
    let l : Layer = compact_slots R now b (all_slots b) in
    let gone : ℕ = count_distinct (λ s. lapsed R now (freshest_use s b)) (all_slots b) in
    record { base = l ∷ []; report = record { merged = length b; left = length l; dropped = gone } }

-- A fold if it is due, else the base as it is.
abbrev pub compact_if : Bool → Retention → ℕ → List Layer → Compaction
compact_if true R now b = compact R now b
compact_if false R now b = record { base = b; report = no_compaction }

-- The base before the parent is sealed (`compact_base`): folded if base depth plus 1, which is the number of layers, exceeds the limit.
unfoldable pub compact_base : Retention → ℕ → ℕ → List Layer → Compaction
compact_base R limit now b = compact_if (ltb limit (length b)) R now b

-- The parent's top becomes a layer (`seal`): alone if the base is void, else on top of the base.
unfoldable pub seal : Layer → List Layer → List Layer
seal t b = t ∷ cond (is_void b) [] b

-- The writes ----------------------------------------------------------------------------------------

-- One final write: a slot and the child's value of it.
pub record Write : Type 0 where
  pub slot : Slot
  pub value : Value

-- What a write does.
pub data WriteKind : Type 0 where
  -- served, or written earlier in this list: the last use that is kept
  overwrite : LastUse → WriteKind
  -- not served (unknown or lapsed), and relevant
  new : WriteKind
  -- not served, and not relevant
  skip : WriteKind

-- What a write does to a slot that is not served, by whether its address is relevant.
abbrev pub unserved_kind : Bool → WriteKind
unserved_kind true = new
unserved_kind false = skip

-- What a write does, of the slot's freshest use: served here asks of the use alone, with no look at the value.
abbrev pub write_kind : Retention → ℕ → Bool → Option LastUse → WriteKind
write_kind R now is_relevant None = unserved_kind is_relevant
write_kind R now is_relevant (Some u) = cond (serves R u now) (overwrite u) (unserved_kind is_relevant)

-- What a write within a list does, of the last use that the new top has with a value: a slot written earlier in this list has one, and it is kept.
abbrev pub final_write_kind : Retention → ℕ → Bool → Option LastUse → Option LastUse → WriteKind
final_write_kind R now is_relevant None f = write_kind R now is_relevant f
final_write_kind R now is_relevant (Some u) f = overwrite u

-- Whether an address is on the call's list, which is document 01's relevant (`RelevanceSet::contains`).
unfoldable pub relevant : List Address → Address → Bool
relevant [] a = false
relevant (b ∷ bs) a = address_eqb b a || relevant bs a

-- The report of the writes (`AppliedWrites`): the slots written, in order, and the numbers of overwritten and skipped writes.
pub record AppliedWrites : Type 0 where
  pub applied : List Slot
  pub overwritten : ℕ
  pub skipped : ℕ

-- The report of no writes.
abbrev pub no_writes : AppliedWrites
no_writes = record { applied = []; overwritten = 0; skipped = 0 }

-- The report with one write more in front.
abbrev pub count_write : WriteKind → Slot → AppliedWrites → AppliedWrites
count_write (overwrite u) s t = record { applied = s ∷ t.applied; overwritten = suc t.overwritten; skipped = t.skipped }
count_write new s t = record { applied = s ∷ t.applied; overwritten = t.overwritten; skipped = t.skipped }
count_write skip s t = record { applied = t.applied; overwritten = t.overwritten; skipped = suc t.skipped }

-- The new top after a write.
abbrev pub apply_write : ℕ → WriteKind → Slot → Value → Layer → Layer
apply_write now (overwrite u) s v l = insert s (valued u v) l
apply_write now new s v l = insert s (valued now v) l
apply_write now skip s v l = l

-- What the writes leave: the new top and their report.
pub record SeededTop : Type 0 where
  pub top : Layer
  pub applied_writes : AppliedWrites

-- The writes of an advance in order (`seed_final_writes`), over a base, on the new top so far.
unfoldable pub seed_final_writes : Retention → ℕ → List Address → List Layer → List Write → Layer → SeededTop
seed_final_writes R now relevance b [] l = record { top = l; applied_writes = no_writes }
seed_final_writes R now relevance b (w ∷ ws) l =
    let s : Slot = w.slot in
    let k : WriteKind = final_write_kind R now (relevant relevance s.address) (valued_use (find s l)) (freshest_use s b) in
    let r : SeededTop = seed_final_writes R now relevance b ws (apply_write now k s w.value l) in
    record { top = r.top; applied_writes = count_write k s r.applied_writes }

-- An advance's report (`DeltaReport`).
pub record DeltaReport : Type 0 where
  pub outcome : CarryOutcome
  pub writes : AppliedWrites
  pub held : ℕ
  pub live : ℕ
  pub compaction : CompactionReport
