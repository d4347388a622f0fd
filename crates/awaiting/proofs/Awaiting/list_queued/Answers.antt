-- `awaiting::Awaiting::list_queued` meets its contract.
use native.Mathlib.Omega.{arith}
use mathlib.Core.Path.{sym, ◌∙◌}
use lib.ListN.{length-take, length-drop}
use Rattle.awaiting.proofs.Entries.{listing_start, listing_end, listing_room, listing_passed, listing_put}
use Rattle.awaiting.proofs.Awaiting.list_queued.Goals.{then-not-taken_at, else-not-taken_at}
use Rattle.awaiting.proofs.Awaiting.list_queued.Goals as goal

pub loop-i-init : goal.loop-i-init
loop-i-init c = listing_start c.args.self.count c.args.self.bytes.now c.args.out.now

pub overflow_mul-k : goal.overflow_mul-k
overflow_mul-k c = omega (arith, listing_room c.loop-i.invariant c.loop-i-test.true (sym c.taken_at.ensures ∙ c.if-not-taken_at.true) (omega (arith, c.requires.1)))

pub place-requires : goal.place-requires
place-requires c =
    let room = listing_room c.loop-i.invariant c.loop-i-test.true (sym c.taken_at.ensures ∙ c.if-not-taken_at.true) (omega (arith, c.requires.1)) in
    simp (length-take, length-drop) (omega (arith, room))

pub loop-i-preserved : goal.loop-i-preserved
loop-i-preserved c =
    let h = c.loop-i.invariant in
    let g = c.loop-i-test.true in
    elim c.if-not-taken_at.branch [
      | then-not-taken_at w ↦ rw (w.out-is, w.k-is) (listing_put h g (sym c.taken_at.ensures ∙ w.if-not-taken_at.true) (omega (arith, c.requires.1)) _ _ c.requires.0 (omega arith) w.place.ensures)
      | else-not-taken_at w ↦ rw (w.out-is, w.k-is) (listing_passed h g (sym c.taken_at.ensures ∙ w.if-not-taken_at.false))
    ]

pub returns : goal.returns
returns c = listing_end c.loop-i.invariant c.loop-i-test.false
