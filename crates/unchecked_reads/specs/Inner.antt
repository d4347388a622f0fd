-- What the parts of reads on a known store speak of.
use Rattle.std.specs.Prelude.{ℕ, ◌<◌, cond, List, Option, Some, Err}
use Rattle.std.specs.declared.result.Result.{Result}
use Rattle.model.specs.declared.refusal.Refusal.{Refusal}
use Rattle.model.specs.declared.refusal.Refusal.TheVariants.{NamesTwice}
use Rattle.model.specs.declared.delta_snapshot.Slot.{Slot}
use Rattle.model.specs.declared.storage_memo.ReadAnchor.{ReadAnchor}
use Rattle.model.specs.declared.read_hub.ReadTotals.{ReadTotals}
use Rattle.model.specs.Layers.{Layer}
use Rattle.model.specs.Reads.{Pending, has_duplicate}
use Rattle.model.specs.Store.{Config, Generation, Memory, with_reads}
use Rattle.image.specs.Lent.{generation_of, Installed as HasGeneration}
use Rattle.header.specs.Header.{anchored_refusal}

-- A store whose generation has another top, other awaiting slots and other totals.
abbrev pub reading : Config → Generation → Layer → List Pending → ReadTotals → Memory
reading cfg g t q r = Some (record { config = cfg; installed = Some (with_reads g t q r) })

-- The same with other awaiting slots alone.
abbrev pub awaited : Config → Generation → List Pending → Memory
awaited cfg g q = reading cfg g g.top q g.totals

-- A generation that has had fewer than 4,294,967,295 accepted reads.
pub record Open (b : List ℕ) : Type 0 where
  pub installed : HasGeneration b
  pub fewer : (generation_of b).totals.accepted < 4294967295

-- The refusal of an answer that names slots, at an anchor: one is named twice (8), or the anchor's.
abbrev pub answer_refusal : List Slot → Option Generation → ReadAnchor → Result (Unit {0}) Refusal
answer_refusal ss o a = cond (has_duplicate ss) (Err NamesTwice) (anchored_refusal o a)
