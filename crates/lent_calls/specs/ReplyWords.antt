-- What an exported call gives: a number, and words of eight bytes at the beginning of its lent reply.
use Rattle.std.specs.Prelude.{ℕ, ◌≡◌, List, [], ◌∷◌, ◌++◌, length, None, Option, Some, Ok, Err}
use Rattle.model.specs.declared.read_hub.CarryOutcome.{CarryOutcome}
use Rattle.model.specs.declared.read_hub.CarryOutcome.TheVariants.{AlreadyCurrent, Carried, Cold}
use Rattle.model.specs.Slots.{u256_words}
use Rattle.model.specs.Advance.{DeltaReport, lineage_number, skip_number}
use Rattle.model.specs.Store.{Generation, Memory, Report, opened, anchor_same, anchor_fresh, advanced, value, no_value, stored, waiting, listed, answered}
use Rattle.model.specs.Refusals.{Answer, refuse, ok, refusal_number}
use Rattle.model.specs.declared.refusal.Refusal.{Refusal}
use Rattle.std.specs.declared.result.Result.{Result}
use Rattle.words.specs.Parts.{placed}
use Rattle.image.specs.Image.{bytes_of, flag, totals_words}
use Rattle.call_run.specs.Run.{RunReply}
use Rattle.call_run.specs.declared.RunEnd.{RunEnd}
use Rattle.call_run.specs.declared.RunEnd.TheVariants.{Listed, Broken}
use Rattle.final_writes.specs.FinalWrites.{FinalWrites, seeded}
use Rattle.final_writes.specs.FinalWrites as final

-- A refusal by its number, or the words of an accepted call's reply.
pub data Given : Type 0 where
  refused_by : ℕ → Given
  accepted : List ℕ → Given

-- The number that a call gives: 0, or its refusal's.
abbrev pub code_of : Given → ℕ
code_of (refused_by n) = n
code_of (accepted ws) = 0

-- A reply with words at its beginning; what follows is as it was.
abbrev pub with_words : List ℕ → List ℕ → List ℕ
with_words ws reply = placed 0 (bytes_of ws) reply

-- The reply after a call: a refused call keeps every byte.
abbrev pub reply_after : Given → List ℕ → List ℕ
reply_after (refused_by n) reply = reply
reply_after (accepted ws) reply = with_words ws reply

-- What a reply gives, by the words of what an accepted call answers.
abbrev pub reply_given : {T : Type 0} → (T → List ℕ) → Result T Refusal → Given
reply_given words (Err e) = refused_by (refusal_number e)
reply_given words (Ok x) = accepted (words x)

-- A call's number, and its reply after it, are what is given.
pub record Gives (code : ℕ) (replied : List ℕ) (x : Given) (reply : List ℕ) : Type 0 where
  pub code_is : code ≡ code_of x
  pub reply_is : replied ≡ reply_after x reply

-- The words of each call ------------------------------------------------------------------------------

-- An advance's outcome: its kind, the slots carried, and of a cold one the lineage and the skip.
abbrev pub outcome_words : CarryOutcome → List ℕ
outcome_words AlreadyCurrent = 0 ∷ 0 ∷ 0 ∷ 0 ∷ []
outcome_words (Carried n) = 1 ∷ n ∷ 0 ∷ 0 ∷ []
outcome_words (Cold l k) = 2 ∷ 0 ∷ lineage_number l ∷ skip_number k ∷ []

-- Its report: the outcome, and the counts of writes, slots and the fold.
abbrev pub delta_words : DeltaReport → List ℕ
delta_words d =
    outcome_words d.outcome
    ++ (length d.writes.applied ∷ d.writes.overwritten ∷ d.writes.skipped ∷ d.held ∷ d.live
    ∷ d.compaction.merged ∷ d.compaction.left ∷ d.compaction.dropped ∷ [])

-- A value is 1 and its four words; without one a look gives 0, and a read 0 and the waiters.
abbrev pub report_words : Report → List ℕ
report_words opened = []
report_words anchor_same = 0 ∷ []
report_words anchor_fresh = 1 ∷ []
report_words (advanced d) = delta_words d
report_words (value v) = 1 ∷ u256_words v
report_words no_value = 0 ∷ 0 ∷ 0 ∷ 0 ∷ 0 ∷ []
report_words stored = []
report_words (waiting n) = 0 ∷ n ∷ 0 ∷ 0 ∷ 0 ∷ []
report_words (listed ss) = length ss ∷ []
report_words (answered m e w) = m ∷ e ∷ w ∷ []

-- What a call on a store gives.
abbrev pub answer_given : Answer → Given
answer_given (refuse n) = refused_by n
answer_given (ok r) = accepted (report_words r)

-- The read totals of the installed generation: 21 where there is none, 20 where the bytes are no store.
abbrev pub installed_totals : Option Generation → Given
installed_totals None = refused_by 21
installed_totals (Some g) = accepted (totals_words g.totals)

abbrev pub totals_given : Memory → Given
totals_given None = refused_by 20
totals_given (Some st) = installed_totals st.installed

-- A run: 0 where it stopped for lack of room, 1 at the list's end, 2 at a fault; the place of the next call or of the fault, the bytes written, the fault.
abbrev pub run_words : RunEnd → List ℕ
run_words (Listed next written ended) = flag ended ∷ next.at ∷ written ∷ 0 ∷ []
run_words (Broken n place written) = 2 ∷ place.at ∷ written ∷ n ∷ []

abbrev pub run_given : RunReply → Given
run_given r = reply_given run_words r

-- Final writes: their numbers of writes and reads, filtered and capped entries.
abbrev pub final_given : FinalWrites → Given
final_given (final.refuse n) = refused_by n
final_given (seeded s) = accepted (length s.writes ∷ length s.reads ∷ s.filtered ∷ s.capped ∷ [])
