-- The slots that a reply lists, how long its lines are, and the lines of an advance and of a take. Assumes nothing.
use Rattle.std.specs.Prelude.{Ok, Err}
use Prim.Native.Nat.{ℕ, ◌+◌, ◌*◌, ◌≤◌}
use mathlib.Core.Path.{◌≡◌, refl, sym, ap, ◌∙◌}
use mathlib.Core.List.{List, [], ◌∷◌, ◌++◌}
use native.Mathlib.Omega.{arith}
use lib.ListN.{length}
use Rattle.model.specs.declared.delta_snapshot.Slot.{Slot}
use Rattle.model.specs.Entries.{first_slots}
use Rattle.model.specs.Store.{Report, opened, anchor_same, anchor_fresh, advanced, value, no_value, stored, waiting, listed, answered}
use Rattle.model.specs.Refusals.{Answer, refuse, ok}
use Rattle.model.proofs.EntryLaws.{SlotFits, Each}
use Rattle.replies.specs.declared.DeltaReport.{DeltaReport}
use Rattle.replies.specs.Replies.{delta_report}
use Rattle.call_list.specs.Listing.{ascii, line, decimals, slot_lines, report_lines, answer_lines}
use Rattle.listing.specs.Lines.{counts_line}
use Rattle.listing.proofs.Lengths.{delta_line_counts, refusal_line_length, report_lines_length, listed_count}
use Rattle.call_answers.specs.declared.CallAnswer.{CallAnswer}
use Rattle.call_answers.specs.declared.CallAnswer.TheVariants.{Open, AnchorSame, AnchorFresh, Advance, Value, Nothing, Put, Wait, Take, Answer as Answered}
use Rattle.call_answers.specs.Answers.{CallReply, report_of, reply_of, counts_in, slots_in, slots_listed}
use Rattle.call_answers.proofs.Slots.{length_first}

-- Slots that are listed ---------------------------------------------------------------------------------

-- How many slots an answer of the model lists.
abbrev pub slots_told : Answer → ℕ
slots_told (refuse n) = 0
slots_told (ok r) = listed_count r

slots_reported : (a : CallAnswer) (out : List ℕ) → slots_in a ≡ listed_count (report_of a out)
slots_reported Open out = refl
slots_reported AnchorSame out = refl
slots_reported AnchorFresh out = refl
slots_reported (Advance r) out = refl
slots_reported (Value v) out = refl
slots_reported Nothing out = refl
slots_reported Put out = refl
slots_reported (Wait n) out = refl
slots_reported (Take n) out = sym (length_first n out)
slots_reported (Answered m e w) out = refl

pub slots_are : (r : CallReply) (out : List ℕ) → slots_listed r ≡ slots_told (reply_of r out)
slots_are (Err e) out = refl
slots_are (Ok a) out = slots_reported a out

-- The slots that an answer of the model lists.
abbrev pub listed_in : Report → List Slot
listed_in opened = []
listed_in anchor_same = []
listed_in anchor_fresh = []
listed_in (advanced d) = []
listed_in (value v) = []
listed_in no_value = []
listed_in stored = []
listed_in (waiting n) = []
listed_in (listed ss) = ss
listed_in (answered m e w) = []

abbrev pub listed_slots : Answer → List Slot
listed_slots (refuse n) = []
listed_slots (ok r) = listed_in r

-- Each slot that a take lists fits.
abbrev pub SlotsFit : Answer → Type 0
SlotsFit a = Each SlotFits (listed_slots a)

-- They are as many as are told.
pub listed_in_count : (r : Report) → listed_count r ≡ length (listed_in r)
listed_in_count opened = refl
listed_in_count anchor_same = refl
listed_in_count anchor_fresh = refl
listed_in_count (advanced d) = refl
listed_in_count (value v) = refl
listed_in_count no_value = refl
listed_in_count stored = refl
listed_in_count (waiting n) = refl
listed_in_count (listed ss) = refl
listed_in_count (answered m e w) = refl

pub told_count : (a : Answer) → slots_told a ≡ length (listed_slots a)
told_count (refuse n) = refl
told_count (ok r) = listed_in_count r

pub slots_listed_count : (r : CallReply) (out : List ℕ) → slots_listed r ≡ length (listed_slots (reply_of r out))
slots_listed_count r out = slots_are r out ∙ told_count (reply_of r out)

-- The lines -----------------------------------------------------------------------------------------------

-- One line of at most 197 bytes, and one of 110 for each slot listed.
pub answer_lines_length : (a : Answer) → length (answer_lines a) ≤ 197 + 110 * slots_told a
unfolding answer_lines
answer_lines_length (refuse n) = omega (arith, refusal_line_length n)
answer_lines_length (ok r) = report_lines_length r

-- The lines of an accepted call fit where there is room for the slots that it lists.
pub report_fits : (a : CallAnswer) (out : List ℕ) → length (report_lines (report_of a out)) ≤ 197 + 110 * slots_in a
report_fits a out = omega (arith, report_lines_length (report_of a out), slots_reported a out)

-- A line of an advance, by the counts of its report.
pub advance_lines : (r : DeltaReport) (out : List ℕ) → counts_line r.outcome (counts_in r) ≡ report_lines (advanced (delta_report r out))
advance_lines r out =
    let n = length_first r.writes.applied out in
    ap (λ (k : ℕ). counts_line r.outcome (record { applied = k; overwritten = r.writes.overwritten; skipped = r.writes.skipped; held = r.held; live = r.live; merged = r.compaction.merged; left = r.compaction.left; dropped = r.compaction.dropped })) (sym n)
    ∙ sym (delta_line_counts r.outcome (delta_report r out))

-- The lines of a take of n slots.
pub take_lines : (n : ℕ) (out : List ℕ) → line (ascii "take") (decimals (n ∷ [])) ++ slot_lines (first_slots n out) ≡ report_lines (listed (first_slots n out))
take_lines n out = ap (λ (k : ℕ). line (ascii "take") (decimals (k ∷ [])) ++ slot_lines (first_slots n out)) (sym (length_first n out))
