-- The loop of `checking::Counted::ends_rise`: what it keeps.
use mathlib.Core.Path.{◌≡◌}
use Prim.Native.Nat.{suc}
use lib.ListN.{take, drop}
use Rattle.layout.specs.Layout.{ends_limit, ends_offset}
use Rattle.image.specs.Image.{words_of}
use Rattle.checking.specs.Checks.{ends_rise}
use Rattle.checking.proofs.Counted.ends_rise.Given as goal

abbrev pub invariant-loop-k : goal.invariant-loop-k
invariant-loop-k l = ends_rise l.self.records 0 (take (suc l.self.depth) (words_of ends_limit (drop ends_offset l.self.bytes.now))) ≡ ends_rise l.self.records l.from (drop l.k (take (suc l.self.depth) (words_of ends_limit (drop ends_offset l.self.bytes.now))))
