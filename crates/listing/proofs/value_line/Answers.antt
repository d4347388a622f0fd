-- `listing::value_line` meets its contract. Assumes nothing.
use native.Mathlib.Omega.{arith}
use Rattle.call_list.specs.Listing.{ascii, line}
use Rattle.digits.proofs.Writing.{written_then, room_left}
use Rattle.digits.proofs.Digits.{u256_hex_length}
use Rattle.listing.proofs.Lengths.{value_line_length}
use Rattle.listing.proofs.value_line.Goals as goal

pub write_bytes-requires : goal.write_bytes-requires
write_bytes-requires c = omega (arith, value_line_length c.args.v)

pub write_u256-requires : goal.write_u256-requires
write_u256-requires c = room_left 64 c.write_bytes.ensures (omega (arith, value_line_length c.args.v))

pub write_byte-requires : goal.write_byte-requires
write_byte-requires c =
    let a = c.args in
    let digits = room_left 65 c.write_bytes.ensures (omega (arith, value_line_length a.v)) in
    room_left 1 c.write_u256.ensures (omega (arith, digits, u256_hex_length a.v))

pub returns : goal.returns
unfolding line ascii
returns c =
    let h = c.args.out.now.within in
    written_then h (written_then h c.write_bytes.ensures c.write_u256.ensures) c.write_byte.ensures
