-- How long lines are: no line is longer than 197 bytes. The line of an advance by its report. Assumes nothing.
use mathlib.Core.Path.{◌≡◌, refl, ap}
use mathlib.Core.List.{List, [], ◌∷◌}
use Prim.Native.Nat.{ℕ, ◌+◌, ◌*◌, ◌≤◌}
use native.Mathlib.Omega.{arith}
use lib.ListN.{length, length-append}
use Rattle.model.specs.declared.storage_memo.U256.{U256}
use Rattle.model.specs.declared.delta_snapshot.Slot.{Slot}
use Rattle.model.specs.declared.read_hub.CarryOutcome.{CarryOutcome}
use Rattle.model.specs.declared.read_hub.CarryOutcome.TheVariants.{AlreadyCurrent, Carried, Cold}
use Rattle.model.specs.Advance.{lineage_number, skip_number, DeltaReport}
use Rattle.model.specs.Store.{Report, opened, anchor_same, anchor_fresh, advanced, value, no_value, stored, waiting, listed, answered}
use Rattle.call_list.specs.Listing.{ascii, line, decimals, u256_hex, slot_hex, slot_lines, delta_line, report_lines, refusal_line}
use Rattle.listing.specs.declared.AdvanceCounts.{AdvanceCounts}
use Rattle.listing.specs.Lines.{counts_of, counts_line, carried_counts, cold_counts}
use Rattle.digits.proofs.Digits.{u256_hex_length, slot_hex_length}
use Rattle.listing.proofs.Fields.{line_length}

-- an advance's line is that of its report's counts
pub delta_line_counts : (o : CarryOutcome) (d : DeltaReport) → delta_line o d ≡ counts_line o (counts_of d)
delta_line_counts AlreadyCurrent d = refl
delta_line_counts (Carried n) d = refl
delta_line_counts (Cold l k) d = refl

pub refusal_line_length : (n : ℕ) → length (refusal_line n) ≤ 24
unfolding ascii
refusal_line_length n = line_length (ascii "no") (n ∷ [])

pub counts_line_length : (o : CarryOutcome) (c : AdvanceCounts) → length (counts_line o c) ≤ 197
unfolding ascii
counts_line_length AlreadyCurrent c = omega (arith, line_length (ascii "current") (c.held ∷ c.live ∷ []))
counts_line_length (Carried n) c = line_length (ascii "carried") (carried_counts n c)
counts_line_length (Cold l k) c = omega (arith, line_length (ascii "cold") (cold_counts (lineage_number l) (skip_number k) c))

pub value_line_length : (v : U256) → length (report_lines (value v)) ≡ 71
unfolding ascii line
value_line_length v = omega (arith, length-append (u256_hex v) (10 ∷ []), u256_hex_length v)

pub slot_line_length : (s : Slot) → length (line (ascii "slot") (slot_hex s ∷ [])) ≡ 110
unfolding ascii line
slot_line_length s = omega (arith, length-append (slot_hex s) (10 ∷ []), slot_hex_length s)

pub wait_line_length : (n : ℕ) → length (report_lines (waiting n)) ≤ 26
unfolding ascii
wait_line_length n = line_length (ascii "wait") (n ∷ [])

pub take_line_length : (n : ℕ) → length (line (ascii "take") (decimals (n ∷ []))) ≤ 26
unfolding ascii
take_line_length n = line_length (ascii "take") (n ∷ [])

pub answer_line_length : (m e w : ℕ) → length (report_lines (answered m e w)) ≤ 70
unfolding ascii
answer_line_length m e w = line_length (ascii "answer") (m ∷ e ∷ w ∷ [])

pub slot_lines_length : (ss : List Slot) → length (slot_lines ss) ≡ 110 * length ss
unfolding slot_lines
slot_lines_length [] = refl
slot_lines_length (s ∷ ss) = omega (arith, length-append (line (ascii "slot") (slot_hex s ∷ [])) (slot_lines ss), slot_line_length s, slot_lines_length ss)

-- the slots that a take lists
abbrev pub listed_count : Report → ℕ
listed_count opened = 0
listed_count anchor_same = 0
listed_count anchor_fresh = 0
listed_count (advanced d) = 0
listed_count (value v) = 0
listed_count no_value = 0
listed_count stored = 0
listed_count (waiting n) = 0
listed_count (listed ss) = length ss
listed_count (answered m e w) = 0

-- a call's lines: one of at most 197 bytes, and one of 110 for each slot that a take lists
pub report_lines_length : (r : Report) → length (report_lines r) ≤ 197 + 110 * listed_count r
unfolding ascii line decimals
report_lines_length opened = omega arith
report_lines_length anchor_same = omega arith
report_lines_length anchor_fresh = omega arith
report_lines_length (advanced d) = omega (arith, ap length (delta_line_counts d.outcome d), counts_line_length d.outcome (counts_of d))
report_lines_length (value v) = omega (arith, value_line_length v)
report_lines_length no_value = omega arith
report_lines_length stored = omega arith
report_lines_length (waiting n) = omega (arith, wait_line_length n)
report_lines_length (listed ss) = omega (arith, length-append (line (ascii "take") (decimals (length ss ∷ []))) (slot_lines ss), take_line_length (length ss), slot_lines_length ss)
report_lines_length (answered m e w) = omega (arith, answer_line_length m e w)
