-- The loop of `seed::seed_by`: what it keeps.
use Rattle.seed.proofs.Seeding.{Along}
use Rattle.seed.proofs.seed_by.Given as goal

abbrev pub invariant-loop-i : goal.invariant-loop-i
invariant-loop-i l = Along l.initial.s l.relevance.addresses.now l.writes l.s l.counts l.i
