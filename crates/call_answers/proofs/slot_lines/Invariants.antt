-- The loop of `call_answers::slot_lines`: what it keeps.
use Rattle.model.specs.Entries.{first_slots}
use Rattle.call_list.specs.Listing.{slot_lines}
use Rattle.digits.proofs.Writing.{Left}
use Rattle.call_answers.proofs.Slots.{slots_from}
use Rattle.call_answers.proofs.slot_lines.Given as goal

abbrev pub invariant-loop-i : goal.invariant-loop-i
invariant-loop-i l = Left (slot_lines (slots_from l.i l.n l.entries)) (slot_lines (first_slots l.n l.entries)) l.initial.out l.out
