-- The loop of `awaiting::remove_all`: what it keeps.
use mathlib.Core.Path.{◌≡◌}
use Prim.Native.Nat.{◌≤◌}
use Rattle.std.specs.Slice.Iter.{chunks_exact_rest, chunks_exact_size}
use Rattle.model.specs.Reads.{remove_all_pending}
use Rattle.image.specs.Area.{pending_of, with_pending}
use Rattle.awaiting.specs.Awaiting.{Ready, entry_slots}
use Rattle.awaiting.proofs.remove_all.Given as goal

abbrev pub invariant-loop-entry : goal.invariant-loop-entry
invariant-loop-entry g l =
    let w = g.E.ListEntry.WIDTH in
    (chunks_exact_size l.entry-iterator ≡ w) × (l.k ≤ l.n) × Ready l.k l.s × (with_pending l.n (pending_of l.k l.s) l.initial.s ≡ l.s)
    × (remove_all_pending (entry_slots w (chunks_exact_rest l.entry-iterator)) (pending_of l.k l.s) ≡ remove_all_pending (entry_slots w l.list) (pending_of l.n l.initial.s))
