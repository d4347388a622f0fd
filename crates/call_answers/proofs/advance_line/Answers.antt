-- `call_answers::advance_line` meets its contract. Assumes nothing.
use native.Mathlib.Omega.{arith}
use Rattle.listing.proofs.Lengths.{counts_line_length}
use Rattle.call_answers.specs.Answers.{counts_in}
use Rattle.call_answers.proofs.advance_line.Goals as goal

pub advance_line-requires : goal.advance_line-requires
advance_line-requires c = let r = c.args.report in omega (arith, counts_line_length r.outcome (counts_in r))
