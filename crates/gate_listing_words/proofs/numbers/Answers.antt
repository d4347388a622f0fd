-- Each line fits its output.
use borrow.Author.Rules.{rules}
use Rattle.call_list.specs.Listing.{ascii, line, decimals, decimal_from}
use Rattle.gate_listing_words.proofs.numbers.Goals as goal

pub word_line-requires : goal.word_line-requires
unfolding ascii line decimals decimal_from
word_line-requires g c = search rules
