-- The loop of `records::compare_words`: what it keeps.
use mathlib.Core.Path.{◌≡◌}
use lib.ListN.{drop}
use Rattle.layout.specs.Layout.{slot_width}
use Rattle.image.specs.Image.{words_of}
use Rattle.records.specs.Records.{words_order}
use Rattle.records.proofs.compare_words.Given as goal

abbrev pub invariant-loop-k : goal.invariant-loop-k
invariant-loop-k l = words_order (words_of slot_width (drop l.at l.s)) l.fn.ws ≡ words_order (drop l.k (words_of slot_width (drop l.at l.s))) (drop l.k l.fn.ws)
