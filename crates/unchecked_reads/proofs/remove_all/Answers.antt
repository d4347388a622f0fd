-- `unchecked_reads::remove_all` meets its contract.
use borrow.Author.Rules.{rules}
use mathlib.Core.Path.{ap}
use mathlib.Core.List.{List}
use Rattle.model.specs.Reads.{Pending, remove_all_pending}
use Rattle.header.proofs.Segments.{known_bytes}
use Rattle.unchecked_reads.proofs.Image.{asks, reads_as, new_number}
use Rattle.image.specs.Lent.{generation_of}
use Rattle.awaiting.specs.Awaiting.{entry_slots}
use Rattle.unchecked_reads.proofs.Image.{removed_few}
use Rattle.unchecked_reads.proofs.remove_all.Goals as goal

pub remove_all-count-requires : goal.remove_all-count-requires
remove_all-count-requires g c =
    let s = c.args.s.now in
    let f = known_bytes s (search rules) in
    asks s c.requires f _ c.awaiting_count-n.ensures

pub returns : goal.returns
returns g c =
    let s = c.args.s.now in
    let f = known_bytes s (search rules) in
    let e = reads_as s c.requires _ c.awaiting_count-n.ensures in
    new_number s c.requires f _ c.awaiting_count-n.ensures (remove_all_pending (entry_slots g.E.ListEntry.WIDTH c.args.list.now) (generation_of s).pending) _ c.remove_all-count.result _ _ c.remove_all-count.ensures (ap (λ (q : List Pending). remove_all_pending (entry_slots g.E.ListEntry.WIDTH c.args.list.now) q) e) (removed_few s c.requires (entry_slots g.E.ListEntry.WIDTH c.args.list.now)) c.write_u64.ensures
