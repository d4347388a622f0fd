-- `listing::word_line` meets its contract. Assumes nothing.
use Prim.Native.Nat.{◌<◌}
use mathlib.Core.Path.{sym}
use mathlib.Core.List.{[]}
use native.Mathlib.Omega.{arith}
use lib.ListN.{length}
use Rattle.digits.proofs.Writing.{written_then, written_as, room_left, left_whole, left_as, left_after, left_none}
use Rattle.listing.proofs.Fields.{fields, line_fields, line_fields_length, fields_turn, fields_turn_length, fields_done}
use Rattle.listing.proofs.word_line.Goals as goal

pub write_bytes-requires : goal.write_bytes-requires
write_bytes-requires c = let a = c.args in omega (arith, line_fields_length a.word.now a.numbers.now)

pub loop-n-init : goal.loop-n-init
loop-n-init c =
    let a = c.args in
    let h = line_fields_length a.word.now a.numbers.now in
    left_whole (room_left (length (fields a.numbers.now)) c.write_bytes.ensures (omega (arith, h)))

pub write_field-requires : goal.write_field-requires
write_field-requires c =
    let l = c.loop-n in
    let ns = c.args.numbers.now in
    let h : l.n-index < length ns = omega arith in
    omega (arith, l.invariant.room, fields_turn_length ns l.n-index h)

pub loop-n-preserved : goal.loop-n-preserved
loop-n-preserved c =
    let l = c.loop-n in
    let ns = c.args.numbers.now in
    let h : l.n-index < length ns = omega arith in
    left_after (left_as l.invariant (fields_turn ns l.n-index h)) c.write_field.ensures

pub write_byte-requires : goal.write_byte-requires
write_byte-requires c =
    let l = c.loop-n in
    let last = left_as l.invariant (fields_done c.args.numbers.now l.n-index (omega arith)) in
    last.room

pub returns : goal.returns
returns c =
    let l = c.loop-n in
    let a = c.args in
    let last = left_as l.invariant (fields_done a.numbers.now l.n-index (omega arith)) in
    let rest = left_none (left_after {b = []} last c.write_byte.ensures) in
    written_as (written_then a.out.now.within c.write_bytes.ensures rest) (sym (line_fields a.word.now a.numbers.now))
