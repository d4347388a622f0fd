-- `call_answers::report_lines` meets its contract. Assumes nothing.
use Prim.Native.Nat.{ℕ, ◌+◌, ◌*◌}
use mathlib.Core.Path.{◌≡◌, sym, ap}
use mathlib.Core.List.{List}
use native.Mathlib.Omega.{arith}
use lib.ListN.{length}
use Rattle.digits.proofs.Writing.{written_as}
use Rattle.digits.specs.declared.Output.{Output}
use Rattle.digits.specs.Output.{Room, Writes}
use Rattle.call_list.specs.Listing.{ascii, decimals, report_lines}
use Rattle.call_answers.specs.declared.CallAnswer.{CallAnswer}
use Rattle.call_answers.specs.Answers.{report_of, slots_in}
use Rattle.call_answers.proofs.Lines.{report_fits, advance_lines}
use Rattle.call_answers.proofs.report_lines.Goals as goal

-- There is room for the lines of the answer that the match found, and they are the answer's.
module _ {a r : CallAnswer} (b : List ℕ) (e : a ≡ r) where
  room : (o : Output) → Room (197 + 110 * slots_in a) o → Room (length (report_lines (report_of r b))) o
  room o h = omega (arith, h, report_fits r b, ap slots_in e)

  found : {o p : Output} → Writes (report_lines (report_of r b)) o p → Writes (report_lines (report_of a b)) o p
  found w = written_as w (ap (λ (x : CallAnswer). report_lines (report_of x b)) (sym e))

pub word_line-requires : goal.word_line-requires
unfolding ascii decimals
word_line-requires c = room c.args.entries.now c.in-Open.is c.args.out.now c.requires.1

pub word_line-requires-in-AnchorSame : goal.word_line-requires-in-AnchorSame
unfolding ascii decimals
word_line-requires-in-AnchorSame c = room c.args.entries.now c.in-AnchorSame.is c.args.out.now c.requires.1

pub word_line-requires-in-AnchorFresh : goal.word_line-requires-in-AnchorFresh
unfolding ascii decimals
word_line-requires-in-AnchorFresh c = room c.args.entries.now c.in-AnchorFresh.is c.args.out.now c.requires.1

pub value_line-requires : goal.value_line-requires
value_line-requires c = room c.args.entries.now c.in-Value.is c.args.out.now c.requires.1

pub word_line-requires-in-Nothing : goal.word_line-requires-in-Nothing
unfolding ascii decimals
word_line-requires-in-Nothing c = room c.args.entries.now c.in-Nothing.is c.args.out.now c.requires.1

pub word_line-requires-in-Put : goal.word_line-requires-in-Put
unfolding ascii decimals
word_line-requires-in-Put c = room c.args.entries.now c.in-Put.is c.args.out.now c.requires.1

pub word_line-requires-in-Wait : goal.word_line-requires-in-Wait
unfolding ascii decimals
word_line-requires-in-Wait c = room c.args.entries.now c.in-Wait.is c.args.out.now c.requires.1

pub word_line-requires-in-Answer : goal.word_line-requires-in-Answer
unfolding ascii decimals
word_line-requires-in-Answer c = room c.args.entries.now c.in-Answer.is c.args.out.now c.requires.1

pub returns-in-Open : goal.returns-in-Open
unfolding ascii decimals
returns-in-Open c = found c.args.entries.now c.in-Open.is c.word_line.ensures

pub returns-in-AnchorSame : goal.returns-in-AnchorSame
unfolding ascii decimals
returns-in-AnchorSame c = found c.args.entries.now c.in-AnchorSame.is c.word_line-in-AnchorSame.ensures

pub returns-in-AnchorFresh : goal.returns-in-AnchorFresh
unfolding ascii decimals
returns-in-AnchorFresh c = found c.args.entries.now c.in-AnchorFresh.is c.word_line-in-AnchorFresh.ensures

pub returns-in-Nothing : goal.returns-in-Nothing
unfolding ascii decimals
returns-in-Nothing c = found c.args.entries.now c.in-Nothing.is c.word_line-in-Nothing.ensures

pub returns-in-Put : goal.returns-in-Put
unfolding ascii decimals
returns-in-Put c = found c.args.entries.now c.in-Put.is c.word_line-in-Put.ensures

pub returns-in-Wait : goal.returns-in-Wait
unfolding ascii decimals
returns-in-Wait c = found c.args.entries.now c.in-Wait.is c.word_line-in-Wait.ensures

pub returns-in-Answer : goal.returns-in-Answer
unfolding ascii decimals
returns-in-Answer c = found c.args.entries.now c.in-Answer.is c.word_line-in-Answer.ensures

pub returns-in-Advance : goal.returns-in-Advance
returns-in-Advance c = found c.args.entries.now c.in-Advance.is (written_as c.advance_line.ensures (advance_lines c.in-Advance.report c.args.entries.now))
