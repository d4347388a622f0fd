-- The words of what an accepted call answers, in the code's terms: definitions that only inner functions cite.
use Rattle.std.specs.Prelude.{ℕ, List, [], ◌∷◌, ◌++◌}
use Rattle.model.specs.Slots.{u256_words}
use Rattle.replies.specs.declared.Installed.{Installed}
use Rattle.replies.specs.declared.Installed.TheVariants.{Same, Fresh}
use Rattle.replies.specs.declared.DeltaReport as replies
use Rattle.replies.specs.declared.ReadOutcome.{ReadOutcome}
use Rattle.replies.specs.declared.ReadOutcome.TheVariants.{Value, Waiting}
use Rattle.replies.specs.declared.Answered.{Answered}
use Rattle.final_writes.specs.declared.SeedCounts.{SeedCounts}
use Rattle.lent_calls.specs.ReplyWords.{outcome_words}

-- An open's and a put's.
abbrev pub unit_words : Unit {0} → List ℕ
unit_words x = []

-- An install's.
abbrev pub installed_words : Installed → List ℕ
installed_words Same = 0 ∷ []
installed_words Fresh = 1 ∷ []

-- An advance's: those of its outcome, and its counts.
abbrev pub count_words : replies.DeltaReport → List ℕ
count_words d =
    d.writes.applied ∷ d.writes.overwritten ∷ d.writes.skipped ∷ d.held ∷ d.live ∷ d.compaction.merged ∷ d.compaction.left ∷ d.compaction.dropped ∷ []

abbrev pub advance_words : replies.DeltaReport → List ℕ
advance_words d = outcome_words d.outcome ++ count_words d

-- A read's.
abbrev pub read_words : ReadOutcome → List ℕ
read_words (Value v) = 1 ∷ u256_words v
read_words (Waiting n) = 0 ∷ n ∷ 0 ∷ 0 ∷ 0 ∷ []

-- A take's: the slots listed.
abbrev pub take_words : ℕ → List ℕ
take_words n = n ∷ []

-- An answer's.
abbrev pub answered_words : Answered → List ℕ
answered_words r = r.members ∷ r.errors ∷ r.woken ∷ []

-- Those of final writes.
abbrev pub seed_words : SeedCounts → List ℕ
seed_words c = c.writes ∷ c.reads ∷ c.filtered ∷ c.capped ∷ []
