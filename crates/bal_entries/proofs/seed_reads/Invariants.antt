-- The loop of `bal_entries::seed_reads`: what it keeps.
use Rattle.bal_entries.specs.Walking.{ReadsSeeded}
use Rattle.bal_entries.proofs.seed_reads.Given as goal

abbrev pub invariant-loop-i : goal.invariant-loop-i
invariant-loop-i l = ReadsSeeded l.address l.reads l.most l.from l.i l.found l.initial.out l.out
