-- The loop of `unchecked_advance::write_outputs`: what it keeps.
use Rattle.image.specs.Lent.{generation_of}
use Rattle.unchecked_advance.proofs.Outputs.{Putting}
use Rattle.unchecked_advance.proofs.write_outputs.Given as goal

abbrev pub invariant-loop-i : goal.invariant-loop-i
invariant-loop-i l = Putting (generation_of l.generation.bytes.now).top l.writes l.initial.out l.out l.k l.i
