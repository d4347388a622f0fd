-- `call_answers::take_lines` meets its contract. Assumes nothing.
use borrow.Author.Rules.{rules}
use Prim.Native.Nat.{◌*◌}
use native.Mathlib.Omega.{arith}
use Rattle.call_list.specs.Listing.{ascii}
use Rattle.digits.proofs.Writing.{written_then, written_as, room_left}
use Rattle.listing.proofs.Lengths.{take_line_length}
use Rattle.call_answers.proofs.Lines.{take_lines}
use Rattle.call_answers.proofs.take_lines.Goals as goal

pub word_line-requires : goal.word_line-requires
unfolding ascii
word_line-requires c = omega (arith, take_line_length c.args.n)

pub slot_lines-requires : goal.slot_lines-requires
unfolding ascii
slot_lines-requires c =
    let n = c.args.n in
    (search rules, room_left (110 * n) c.word_line.ensures (omega (arith, take_line_length n)))

pub returns : goal.returns
unfolding ascii
returns c = written_as (written_then c.args.out.now.within c.word_line.ensures c.slot_lines.ensures) (take_lines c.args.n c.args.entries.now)
