-- The loop of `settling::settle_members`: what it keeps.
use mathlib.Core.Path.{◌≡◌}
use Rattle.std.specs.Slice.Iter.{chunks_exact_rest, chunks_exact_size}
use Rattle.model.specs.Reads.{settle_members}
use Rattle.model.specs.Entries.{members_of}
use Rattle.image.specs.Lent.{generation_of}
use Rattle.settling.specs.Settling.{Settled}
use Rattle.settling.proofs.settle_members.Given as goal

abbrev pub invariant-loop-member : goal.invariant-loop-member
invariant-loop-member l =
    let n = (generation_of l.initial.s).anchor.number in
    (chunks_exact_size l.member-iterator ≡ 85) × Settled l.s l.initial.s (generation_of l.s).top
    × (settle_members n (members_of (chunks_exact_rest l.member-iterator)) (generation_of l.s).top ≡ settle_members n (members_of l.list) (generation_of l.initial.s).top)
