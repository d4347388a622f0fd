-- The loop of `rules::rules`: what it keeps.
use mathlib.Core.Path.{◌≡◌}
use Prim.Native.Nat.{◌+◌, ◌≤◌}
use lib.ListN.{drop}
use Rattle.order.specs.Lent.{all_of, slots_of}
use Rattle.order.proofs.WalkLaws.{walk}
use Rattle.rules.proofs.RuleLaws.{unmet, meets}
use Rattle.rules.proofs.rules.Given as goal

abbrev pub invariant-loop-j : goal.invariant-loop-j
invariant-loop-j l = (l.c ≤ l.j)
    × (l.c + walk (meets l.least l.number l.top (all_of l.index.records)) unmet (λ m. m.bad) (slots_of l.index.records) (record { any = l.any; low = l.low; bad = l.bad }) (drop l.j l.index.numbers.now)
    ≡ walk (meets l.least l.number l.top (all_of l.index.records)) unmet (λ m. m.bad) (slots_of l.index.records) unmet l.index.numbers.now)
