-- The loop of `rules::by_table`: what it keeps.
use mathlib.Core.Path.{◌≡◌}
use Rattle.order.specs.Lent.{all_of}
use Rattle.model.specs.declared.delta_snapshot.Retention.{Retention}
use Rattle.chains.specs.Chains.{Chained}
use Rattle.rules.specs.Rules.{oldest_use}
use Rattle.rules.proofs.LastLaws.{Ruled}
use Rattle.rules.proofs.by_table.Given as goal

abbrev pub invariant-loop-i : goal.invariant-loop-i
invariant-loop-i l = Chained l.records.bytes.now l.i l.head l.prev × ((R : Retention) → l.least ≡ oldest_use R l.number → Ruled R l.number l.top (all_of l.records) l.i)
