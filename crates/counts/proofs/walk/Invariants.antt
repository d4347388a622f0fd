-- The loop of `counts::walk`: what it keeps.
use mathlib.Core.Path.{◌≡◌}
use Prim.Native.Nat.{◌+◌, ◌≤◌}
use lib.ListN.{drop}
use Rattle.order.specs.Lent.{all_of, slots_of}
use Rattle.order.proofs.WalkLaws.{walk}
use Rattle.counts.proofs.CountLaws.{unseen, sees, served}
use Rattle.counts.proofs.walk.Given as goal

abbrev pub invariant-loop-j : goal.invariant-loop-j
invariant-loop-j l = (l.held ≤ l.j) × (l.live ≤ l.j)
    × (l.held + walk (sees (all_of l.index.records)) unseen (λ a. a.any) (slots_of l.index.records) (record { any = l.any; low = l.low }) (drop l.j l.index.numbers.now)
    ≡ walk (sees (all_of l.index.records)) unseen (λ a. a.any) (slots_of l.index.records) unseen l.index.numbers.now)
    × (l.live + walk (sees (all_of l.index.records)) unseen (λ a. served l.least a.any a.low) (slots_of l.index.records) (record { any = l.any; low = l.low }) (drop l.j l.index.numbers.now)
    ≡ walk (sees (all_of l.index.records)) unseen (λ a. served l.least a.any a.low) (slots_of l.index.records) unseen l.index.numbers.now)
