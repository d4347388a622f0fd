-- `digits::Output::write_slot` meets its contract. Assumes nothing.
use mathlib.Core.Path.{ap}
use mathlib.Core.List.{append_assoc}
use native.Mathlib.Omega.{arith}
use Rattle.call_list.specs.Listing.{hex}
use Rattle.digits.proofs.Writing.{written_then, written_as, room_left}
use Rattle.digits.proofs.Digits.{hex_length}
use Rattle.digits.proofs.Output.write_slot.Goals as goal

pub write_hex-requires-2 : goal.write_hex-requires-2
write_hex-requires-2 c = room_left 16 c.write_hex.ensures (omega (arith, hex_length 8 c.from.result))

pub write_hex-requires-3 : goal.write_hex-requires-3
write_hex-requires-3 c =
    let second = room_left 32 c.write_hex.ensures (omega (arith, hex_length 8 c.from.result)) in
    room_left 16 c.write_hex-2.ensures (omega (arith, second, hex_length 16 c.args.s.address.w1))

pub write_u256-requires : goal.write_u256-requires
write_u256-requires c =
    let a = c.args.s.address in
    let second = room_left 96 c.write_hex.ensures (omega (arith, hex_length 8 c.from.result)) in
    let third = room_left 80 c.write_hex-2.ensures (omega (arith, second, hex_length 16 a.w1)) in
    room_left 64 c.write_hex-3.ensures (omega (arith, third, hex_length 16 a.w2))

pub returns : goal.returns
returns c =
    let h = c.args.self.now.within in
    let first = written_as c.write_hex.ensures (ap (hex 8) c.from.ensures) in
    let two = written_then h first c.write_hex-2.ensures in
    let three = written_then h two c.write_hex-3.ensures in
    written_as (written_then h three c.write_u256.ensures) (simp append_assoc)
