-- The loop of `listing::word_line`: what it keeps.
use lib.ListN.{drop}
use Rattle.digits.proofs.Writing.{Left}
use Rattle.listing.proofs.Fields.{fields}
use Rattle.listing.proofs.word_line.Given as goal

abbrev pub invariant-loop-n : goal.invariant-loop-n
invariant-loop-n l = Left (fields (drop l.n-index l.numbers)) (fields l.numbers) l.initial.out l.out
