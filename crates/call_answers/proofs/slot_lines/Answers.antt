-- `call_answers::slot_lines` meets its contract. Assumes nothing.
use Prim.Native.Nat.{◌<◌}
use mathlib.Core.Path.{ap}
use mathlib.Core.List.{[], ◌∷◌}
use native.Mathlib.Omega.{arith}
use Rattle.model.specs.declared.delta_snapshot.Slot.{Slot}
use Rattle.call_list.specs.Listing.{ascii, line, slot_hex}
use Rattle.digits.proofs.Writing.{written_as, left_whole, left_as, left_after, left_none}
use Rattle.listing.proofs.Lengths.{slot_line_length}
use Rattle.call_answers.proofs.Slots.{lines_at, lines_end, length_lines, lines_at_length}
use Rattle.call_answers.proofs.slot_lines.Goals as goal

pub loop-i-init : goal.loop-i-init
loop-i-init c = left_whole (omega (arith, length_lines c.args.n c.args.entries.now))

pub slot_line-requires : goal.slot_line-requires
slot_line-requires c =
    let l = c.loop-i in
    let a = c.args in
    let h : l.i < a.n = omega arith in
    omega (arith, l.invariant.room, slot_line_length c.slot_at.result, lines_at_length l.i a.n a.entries.now h)

pub loop-i-preserved : goal.loop-i-preserved
loop-i-preserved c =
    let l = c.loop-i in
    let a = c.args in
    let h : l.i < a.n = omega arith in
    let w = written_as c.slot_line.ensures (ap (λ (x : Slot). line (ascii "slot") (slot_hex x ∷ [])) c.slot_at.ensures) in
    left_after (left_as l.invariant (lines_at l.i a.n a.entries.now h)) w

pub returns : goal.returns
returns c =
    let l = c.loop-i in
    let a = c.args in
    left_none (left_as l.invariant (lines_end l.i a.n a.entries.now (omega arith)))
