-- What the code's reply to a call of any kind means in the model's terms.
use Rattle.std.specs.Prelude.{ℕ, List, Result, Ok, Err}
use Rattle.model.specs.declared.refusal.Refusal.{Refusal}
use Rattle.model.specs.Entries.{first_slots}
use Rattle.model.specs.Store.{Report, opened, anchor_same, anchor_fresh, advanced, value, no_value, stored, waiting, listed, answered}
use Rattle.model.specs.Refusals.{Answer, refuse, ok, refusal_number}
use Rattle.replies.specs.declared.DeltaReport.{DeltaReport}
use Rattle.replies.specs.Replies.{delta_report}
use Rattle.listing.specs.declared.AdvanceCounts.{AdvanceCounts}
use Rattle.call_answers.specs.declared.CallAnswer.{CallAnswer}
use Rattle.call_answers.specs.declared.CallAnswer.TheVariants.{Open, AnchorSame, AnchorFresh, Advance, Value, Nothing, Put, Wait, Take, Answer as Answered}

-- A call's reply.
abbrev pub CallReply : Type 0
CallReply = Result CallAnswer Refusal

-- What an accepted call reports, with its output after the call: the slots that a take lists and those that an advance wrote are the output's first entries.
abbrev pub report_of : CallAnswer → List ℕ → Report
report_of Open out = opened
report_of AnchorSame out = anchor_same
report_of AnchorFresh out = anchor_fresh
report_of (Advance r) out = advanced (delta_report r out)
report_of (Value v) out = value v
report_of Nothing out = no_value
report_of Put out = stored
report_of (Wait n) out = waiting n
report_of (Take n) out = listed (first_slots n out)
report_of (Answered m e w) out = answered m e w

-- The model's answer that a reply is, with the output after the call.
abbrev pub reply_of : CallReply → List ℕ → Answer
reply_of (Err e) out = refuse (refusal_number e)
reply_of (Ok a) out = ok (report_of a out)

-- The counts of an advance's report, as its line has them.
abbrev pub counts_in : DeltaReport → AdvanceCounts
counts_in r =
    record {
      applied = r.writes.applied;
      overwritten = r.writes.overwritten;
      skipped = r.writes.skipped;
      held = r.held;
      live = r.live;
      merged = r.compaction.merged;
      left = r.compaction.left;
      dropped = r.compaction.dropped;
    }

-- The slots that an accepted call lists, and those that a reply does.
abbrev pub slots_in : CallAnswer → ℕ
slots_in Open = 0
slots_in AnchorSame = 0
slots_in AnchorFresh = 0
slots_in (Advance r) = 0
slots_in (Value v) = 0
slots_in Nothing = 0
slots_in Put = 0
slots_in (Wait n) = 0
slots_in (Take n) = n
slots_in (Answered m e w) = 0

abbrev pub slots_listed : CallReply → ℕ
slots_listed (Err e) = 0
slots_listed (Ok a) = slots_in a
