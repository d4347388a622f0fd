-- The loop of `checking::Counted::layers_rise`: what it keeps.
use mathlib.Core.Path.{◌≡◌}
use Prim.Native.Nat.{suc, ◌≤◌}
use mathlib.Core.Bool.{true}
use lib.ListN.{take, drop}
use Rattle.layout.specs.Layout.{ends_limit, ends_offset, record_width, records_offset}
use Rattle.image.specs.Image.{words_of}
use Rattle.checking.specs.Checks.{ends_rise, layers_rise, rows}
use Rattle.checking.proofs.Counted.layers_rise.Given as goal

abbrev pub invariant-loop-k : goal.invariant-loop-k
invariant-loop-k l = record {
  low : l.from ≤ l.self.records;
  later : ends_rise l.self.records l.from (drop l.k (take (suc l.self.depth) (words_of ends_limit (drop ends_offset l.self.bytes.now)))) ≡ true;
  same : layers_rise 0 (take (suc l.self.depth) (words_of ends_limit (drop ends_offset l.self.bytes.now))) (rows record_width l.self.records (drop records_offset l.self.bytes.now)) ≡ layers_rise l.from (drop l.k (take (suc l.self.depth) (words_of ends_limit (drop ends_offset l.self.bytes.now)))) (drop l.from (rows record_width l.self.records (drop records_offset l.self.bytes.now)));
}
