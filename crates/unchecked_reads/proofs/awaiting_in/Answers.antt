-- `unchecked_reads::awaiting_in` meets its contract.
use Prim.Native.Nat.{◌^◌, ◌<◌}
use mathlib.Core.Path.{sym, subst}
use mathlib.Core.List.{List}
use Rattle.model.specs.Reads.{Pending}
use Rattle.image.specs.WellFormed.{all_waiters}
use Rattle.unchecked_reads.proofs.Image.{asks_rising, reads_as, few_waiters}
use Rattle.unchecked_reads.proofs.awaiting_in.Goals as goal

pub invariant_of-result : goal.invariant_of-result
invariant_of-result c = record { rising = asks_rising _ c.args.generation.installed _ c.awaiting_count.ensures }

pub returns-clause-slots_are : goal.returns-clause-slots_are
returns-clause-slots_are c = reads_as _ c.args.generation.installed _ c.awaiting_count.ensures

pub returns-clause-waiters_fit : goal.returns-clause-waiters_fit
returns-clause-waiters_fit c =
    let g = c.args.generation in
    subst (λ (q : List Pending). all_waiters q < 2 ^ 32) (sym (reads_as _ g.installed _ c.awaiting_count.ensures)) (few_waiters _ g.installed)
