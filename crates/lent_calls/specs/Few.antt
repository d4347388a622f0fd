-- No call answers more than the twelve words of a reply.
use Rattle.std.specs.Prelude.{◌≤◌, ◌++◌, length, None, Option, Some}
use native.Mathlib.Omega.{arith}
use Rattle.model.specs.declared.read_hub.CarryOutcome.{CarryOutcome}
use Rattle.model.specs.declared.read_hub.CarryOutcome.TheVariants.{AlreadyCurrent, Carried, Cold}
use Rattle.model.specs.Slots.{Value}
use Rattle.model.specs.Contents.{value_words}
use Rattle.replies.specs.declared.Installed.{Installed}
use Rattle.replies.specs.declared.Installed.TheVariants.{Same, Fresh}
use Rattle.replies.specs.declared.DeltaReport.{DeltaReport}
use Rattle.replies.specs.declared.ReadOutcome.{ReadOutcome}
use Rattle.replies.specs.declared.ReadOutcome.TheVariants.{Value as valued, Waiting}
use Rattle.call_run.specs.declared.RunEnd.{RunEnd}
use Rattle.call_run.specs.declared.RunEnd.TheVariants.{Listed, Broken}
use Rattle.lent_calls.specs.ReplyWords.{outcome_words, run_words}
use Rattle.lent_calls.specs.Inner.{installed_words, count_words, advance_words, read_words}

pub few_installed : (x : Installed) → length (installed_words x) ≤ 12
few_installed Same = omega arith
few_installed Fresh = omega arith

pub few_held : (x : Option Value) → length (value_words x) ≤ 12
few_held None = omega arith
few_held (Some v) = omega arith

pub few_advanced : (d : DeltaReport) → length (advance_words d) ≤ 12
few_advanced d = go d.outcome
  where
    go : (o : CarryOutcome) → length (outcome_words o ++ count_words d) ≤ 12
    go AlreadyCurrent = omega arith
    go (Carried n) = omega arith
    go (Cold l k) = omega arith

pub few_read : (x : ReadOutcome) → length (read_words x) ≤ 12
few_read (valued v) = omega arith
few_read (Waiting n) = omega arith

pub few_run : (x : RunEnd) → length (run_words x) ≤ 12
few_run (Listed next written ended) = omega arith
few_run (Broken n place written) = omega arith
