-- The loop of `bal_entries::seed_slots`: what it keeps.
use Rattle.bal_entries.specs.Walking.{SlotsSeeded}
use Rattle.bal_entries.proofs.seed_slots.Given as goal

abbrev pub invariant-loop : goal.invariant-loop
invariant-loop l = SlotsSeeded l.address l.slots l.changes l.most l.counter l.initial.spot l.initial.out l.spot l.out
