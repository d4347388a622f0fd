-- The loop of `call_run::run_calls`: what it keeps, and its measure.
use Prim.Native.Nat.{◌-◌, ◌/◌}
use lib.ListN.{length}
use Rattle.call_run.specs.Inner.{RunOn}
use Rattle.call_run.proofs.run_calls.Given as goal

abbrev pub invariant-loop-s : goal.invariant-loop-s
invariant-loop-s l = RunOn (length l.initial.work) (length l.initial.entries / 52) l.list l.initial.t l.initial.s l.initial.out l.t l.s l.out

abbrev pub decreases-loop-s : goal.decreases-loop-s
decreases-loop-s l = length l.list - l.t.next
