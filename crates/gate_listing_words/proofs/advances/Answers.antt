-- Each line fits its output.
use borrow.Author.Rules.{rules}
use Rattle.call_list.specs.Listing.{ascii, line, decimals, decimal_from}
use Rattle.gate_listing_words.proofs.advances.Goals as goal

pub advance_line-requires : goal.advance_line-requires
unfolding ascii line decimals decimal_from
advance_line-requires g c = search rules

pub advance_line-requires-2 : goal.advance_line-requires-2
unfolding ascii line decimals decimal_from
advance_line-requires-2 g c = search rules

pub advance_line-requires-3 : goal.advance_line-requires-3
unfolding ascii line decimals decimal_from
advance_line-requires-3 g c = search rules
