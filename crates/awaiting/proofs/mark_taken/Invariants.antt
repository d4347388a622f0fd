-- The loop of `awaiting::mark_taken`: what it keeps.
use mathlib.Core.Path.{◌≡◌}
use Prim.Native.Nat.{◌*◌}
use lib.ListN.{drop}
use Rattle.layout.specs.Layout.{awaiting_size}
use Rattle.model.specs.Reads.{take_queued}
use Rattle.image.specs.Area.{pending_of, with_pending}
use Rattle.words.specs.Parts.{placed}
use Rattle.awaiting.proofs.Stored.{image_of}
use Rattle.awaiting.proofs.mark_taken.Given as goal

abbrev pub invariant-loop-i : goal.invariant-loop-i
invariant-loop-i l = (drop (l.i * awaiting_size) l.s ≡ drop (l.i * awaiting_size) l.initial.s)
    × (placed (l.i * awaiting_size) (image_of (take_queued (drop l.i (pending_of l.n l.initial.s)))) l.s ≡ with_pending l.n (take_queued (pending_of l.n l.initial.s)) l.initial.s)
