-- `listing::refusal_line` meets its contract. Assumes nothing.
use Rattle.call_list.specs.Listing.{ascii}
use Rattle.listing.proofs.refusal_line.Goals as goal

pub word_line-requires : goal.word_line-requires
unfolding ascii
word_line-requires c = c.requires

pub returns : goal.returns
unfolding ascii
returns c = c.word_line.ensures
