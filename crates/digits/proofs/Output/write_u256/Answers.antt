-- `digits::Output::write_u256` meets its contract. Assumes nothing.
use mathlib.Core.List.{append_assoc}
use native.Mathlib.Omega.{arith}
use Rattle.digits.proofs.Writing.{written_then, written_as, room_left}
use Rattle.digits.proofs.Digits.{hex_length}
use Rattle.digits.proofs.Output.write_u256.Goals as goal

pub write_hex-requires-2 : goal.write_hex-requires-2
write_hex-requires-2 c = room_left 16 c.write_hex.ensures (omega (arith, hex_length 16 c.args.x.w0))

pub write_hex-requires-3 : goal.write_hex-requires-3
write_hex-requires-3 c =
    let second = room_left 32 c.write_hex.ensures (omega (arith, hex_length 16 c.args.x.w0)) in
    room_left 16 c.write_hex-2.ensures (omega (arith, second, hex_length 16 c.args.x.w1))

pub write_hex-requires-4 : goal.write_hex-requires-4
write_hex-requires-4 c =
    let second = room_left 48 c.write_hex.ensures (omega (arith, hex_length 16 c.args.x.w0)) in
    let third = room_left 32 c.write_hex-2.ensures (omega (arith, second, hex_length 16 c.args.x.w1)) in
    room_left 16 c.write_hex-3.ensures (omega (arith, third, hex_length 16 c.args.x.w2))

pub returns : goal.returns
returns c =
    let h = c.args.self.now.within in
    let two = written_then h c.write_hex.ensures c.write_hex-2.ensures in
    let three = written_then h two c.write_hex-3.ensures in
    written_as (written_then h three c.write_hex-4.ensures) (simp append_assoc)
