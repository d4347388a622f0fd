-- The loop of `awaiting::Awaiting::list_queued`: what it keeps.
use Rattle.awaiting.proofs.Entries.{Listing}
use Rattle.awaiting.proofs.Awaiting.list_queued.Given as goal

abbrev pub invariant-loop-i : goal.invariant-loop-i
invariant-loop-i l = Listing l.self.count l.self.bytes.now l.initial.out l.out l.k l.i
