-- The loop of `image::write_words`: what it keeps.
use mathlib.Core.Path.{◌≡◌}
use lib.ListN.{take}
use Rattle.words.specs.Parts.{placed}
use Rattle.image.specs.Image.{bytes_of}
use Rattle.image.proofs.write_words.Given as goal

abbrev pub invariant-loop-k : goal.invariant-loop-k
invariant-loop-k g l = l.s ≡ placed l.at (bytes_of (take l.k l.fn.ws)) l.initial.s
