-- The line of an advance by its counts.
use Rattle.std.specs.Prelude.{ℕ, List, [], ◌∷◌, length}
use Rattle.model.specs.declared.read_hub.CarryOutcome.{CarryOutcome}
use Rattle.model.specs.declared.read_hub.CarryOutcome.TheVariants.{AlreadyCurrent, Carried, Cold}
use Rattle.model.specs.Advance.{lineage_number, skip_number, DeltaReport}
use Rattle.call_list.specs.Listing.{ascii, line, decimals}
use Rattle.listing.specs.declared.AdvanceCounts.{AdvanceCounts}

-- The counts of an advance's report.
abbrev pub counts_of : DeltaReport → AdvanceCounts
counts_of d =
    record {
      applied = length d.writes.applied;
      overwritten = d.writes.overwritten;
      skipped = d.writes.skipped;
      held = d.held;
      live = d.live;
      merged = d.compaction.merged;
      left = d.compaction.left;
      dropped = d.compaction.dropped;
    }

-- The counts of the line of an advance that carries, and of one that is cold.
abbrev pub carried_counts : ℕ → AdvanceCounts → List ℕ
carried_counts n c =
    n ∷ c.applied ∷ c.overwritten ∷ c.skipped ∷ c.held ∷ c.live ∷ c.merged ∷ c.left ∷ c.dropped ∷ []

abbrev pub cold_counts : ℕ → ℕ → AdvanceCounts → List ℕ
cold_counts l k c = l ∷ k ∷ c.applied ∷ c.overwritten ∷ c.skipped ∷ c.held ∷ c.live ∷ []

-- The line of an advance: `delta_line` of its counts.
abbrev pub counts_line : CarryOutcome → AdvanceCounts → List ℕ
counts_line AlreadyCurrent c = line (ascii "current") (decimals (c.held ∷ c.live ∷ []))
counts_line (Carried n) c = line (ascii "carried") (decimals (carried_counts n c))
counts_line (Cold l k) c = line (ascii "cold") (decimals (cold_counts (lineage_number l) (skip_number k) c))
