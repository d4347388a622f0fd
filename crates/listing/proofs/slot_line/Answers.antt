-- `listing::slot_line` meets its contract. Assumes nothing.
use native.Mathlib.Omega.{arith}
use Rattle.call_list.specs.Listing.{ascii, line}
use Rattle.digits.proofs.Writing.{written_then, room_left}
use Rattle.digits.proofs.Digits.{slot_hex_length}
use Rattle.listing.proofs.Lengths.{slot_line_length}
use Rattle.listing.proofs.slot_line.Goals as goal

pub write_bytes-requires : goal.write_bytes-requires
write_bytes-requires c = omega (arith, slot_line_length c.args.s)

pub write_slot-requires : goal.write_slot-requires
write_slot-requires c = room_left 104 c.write_bytes.ensures (omega (arith, slot_line_length c.args.s))

pub write_byte-requires : goal.write_byte-requires
write_byte-requires c =
    let a = c.args in
    let digits = room_left 105 c.write_bytes.ensures (omega (arith, slot_line_length a.s)) in
    room_left 1 c.write_slot.ensures (omega (arith, digits, slot_hex_length a.s))

pub returns : goal.returns
unfolding line ascii
returns c =
    let h = c.args.out.now.within in
    written_then h (written_then h c.write_bytes.ensures c.write_slot.ensures) c.write_byte.ensures
