-- `unchecked_reads::take_queued` meets its contract.
use borrow.Author.Rules.{rules}
use Prim.Native.Nat.{◌*◌, ◌≤◌}
use mathlib.Core.Path.{sym, ap, subst, ◌∙◌}
use mathlib.Core.List.{List}
use lib.ListN.{length}
use Rattle.model.specs.Reads.{Pending, queued, take_queued}
use Rattle.image.specs.Area.{with_pending}
use Rattle.image.proofs.PendingOk.{length_take_queued}
use Rattle.header.proofs.Segments.{known_bytes}
use Rattle.unchecked_reads.proofs.Image.{lists_as, area_lent, asks, reads_as, same_number}
use Rattle.unchecked_reads.proofs.take_queued.Goals as goal

pub take_queued-requires : goal.take_queued-requires
take_queued-requires c =
    let s = c.args.s.now in
    let f = known_bytes s (search rules) in
    let e = reads_as s c.requires.0 _ c.awaiting_count-n.ensures in
    (asks s c.requires.0 f _ c.awaiting_count-n.ensures, subst (λ (q : List Pending). 52 * length (queued q) ≤ length c.args.out.now) (sym e) c.requires.1)

pub returns : goal.returns
returns c =
    let s = c.args.s.now in
    let h = c.requires.0 in
    let f = known_bytes s (search rules) in
    let e = reads_as s h _ c.awaiting_count-n.ensures in (
      lists_as e c.take_queued.ensures.0,
      same_number s h f _ c.awaiting_count-n.ensures _ _ (c.take_queued.ensures.1 ∙ ap (λ (q : List Pending). with_pending c.awaiting_count-n.result (take_queued q) (area_lent s)) e) (length_take_queued _),
    )
