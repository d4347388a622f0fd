-- `unchecked_reads::join` meets its contract.
use borrow.Author.Rules.{rules}
use Prim.Native.Nat.{◌≤◌}
use mathlib.Core.Path.{sym, ap, subst}
use mathlib.Core.List.{List}
use lib.ListN.{length}
use Rattle.model.specs.Reads.{Pending, join}
use Rattle.header.proofs.Segments.{known_bytes}
use Rattle.unchecked_reads.proofs.Image.{asks, reads_as, new_number}
use Rattle.image.specs.Lent.{generation_of}
use Rattle.unchecked_reads.proofs.join.Goals as goal

pub join-count-requires : goal.join-count-requires
join-count-requires c =
    let s = c.args.s.now in
    let f = known_bytes s (search rules) in
    (asks s c.requires.0 f _ c.awaiting_count-n.ensures, subst (λ (q : List Pending). length (join c.args.slot q) ≤ 64) (sym (reads_as s c.requires.0 _ c.awaiting_count-n.ensures)) c.requires.1)

pub returns : goal.returns
returns c =
    let s = c.args.s.now in
    let f = known_bytes s (search rules) in
    let e = reads_as s c.requires.0 _ c.awaiting_count-n.ensures in
    new_number s c.requires.0 f _ c.awaiting_count-n.ensures (join c.args.slot (generation_of s).pending) _ c.join-count.result _ _ c.join-count.ensures (ap (λ (q : List Pending). join c.args.slot q) e) c.requires.1 c.write_u64.ensures
