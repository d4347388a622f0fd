-- The loop of `fold::walk`: what it keeps.
use mathlib.Core.Path.{◌≡◌}
use Prim.Native.Nat.{◌+◌, ◌≤◌, ◌-◌}
use lib.ListN.{length, drop}
use Rattle.order.specs.Lent.{all_of}
use Rattle.fold.specs.Stored.{stored}
use Rattle.fold.proofs.BestLaws.{begin}
use Rattle.fold.proofs.TurnLaws.{gathered, to_give, to_drop}
use Rattle.fold.proofs.walk.Given as goal

abbrev pub invariant-loop-j : goal.invariant-loop-j
invariant-loop-j l = (l.left ≤ l.j) × (l.dropped ≤ l.j) × (l.at ≤ l.index.records.count - 1)
    × (l.left + length (to_give l.least l.index.records.count l.index.records.bytes.now (gathered (all_of l.index.records) l.any l.low l.at) (drop l.j l.index.numbers.now)) ≡ length (to_give l.least l.index.records.count l.index.records.bytes.now (begin (all_of l.index.records)) l.index.numbers.now))
    × (stored l.left (to_give l.least l.index.records.count l.index.records.bytes.now (gathered (all_of l.index.records) l.any l.low l.at) (drop l.j l.index.numbers.now)) l.out ≡ stored 0 (to_give l.least l.index.records.count l.index.records.bytes.now (begin (all_of l.index.records)) l.index.numbers.now) l.initial.out)
    × (l.dropped + to_drop l.least l.index.records.count l.index.records.bytes.now (gathered (all_of l.index.records) l.any l.low l.at) (drop l.j l.index.numbers.now) ≡ to_drop l.least l.index.records.count l.index.records.bytes.now (begin (all_of l.index.records)) l.index.numbers.now)
