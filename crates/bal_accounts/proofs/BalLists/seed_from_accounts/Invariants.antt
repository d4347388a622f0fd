-- The loop of `bal_accounts::BalLists::seed_from_accounts`: what it keeps.
use Rattle.bal_accounts.specs.Walking.{start}
use Rattle.bal_accounts.specs.Lent.{Walked}
use Rattle.bal_accounts.proofs.BalLists.seed_from_accounts.Given as goal

abbrev pub invariant-loop-i : goal.invariant-loop-i
invariant-loop-i l = Walked l.self l.plan 0 l.i start l.initial.writes_out l.initial.reads_out l.walk l.writes_out l.reads_out
