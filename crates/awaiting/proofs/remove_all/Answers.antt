-- `awaiting::remove_all` meets its contract.
use native.Mathlib.Omega.{arith}
use mathlib.Core.Path.{sym, ap, ◌∙◌}
use mathlib.Core.List.{List}
use lib.ListN.{length}
use Rattle.std.specs.Slice.Iter.{chunks_exact_rest}
use Rattle.model.specs.Reads.{Pending, remove_all_pending}
use Rattle.image.specs.Area.{pending_of, with_pending}
use Rattle.awaiting.specs.Awaiting.{entry_slots}
use Rattle.awaiting.proofs.Awaits.{length_pending_of}
use Rattle.awaiting.proofs.Changes.{one_removed}
use Rattle.awaiting.proofs.Entries.{remove_more, remove_none}
use Rattle.awaiting.proofs.remove_all.Goals as goal

pub loop-entry-preserved : goal.loop-entry-preserved
loop-entry-preserved g c =
    let i = c.loop-entry.invariant in
    let e = c.in-Some.ensures.steps in
    let r = one_removed _ _ _ _ _ _ _ i.1 i.2 i.3 c.remove-k.ensures in (
      e.0 ∙ i.0,
      omega (arith, r.fewer, i.1),
      r.ready,
      r.from_first,
      ap (remove_all_pending (entry_slots g.E.ListEntry.WIDTH (chunks_exact_rest c.next.new.self))) r.reads_as ∙ sym (remove_more _ _ _ _ _ _ g.E.ListEntry.wide e.1.0 (e.1.1 ∙ i.0) c.read_slot.ensures) ∙ i.4,
    )

pub returns : goal.returns
returns g c =
    let i = c.loop-entry.invariant in
    let e = sym (remove_none g.E.ListEntry.WIDTH (chunks_exact_rest c.loop-entry.entry-iterator) (omega (arith, c.in-None.ensures.steps.1.0, i.0)) (pending_of c.loop-entry.k c.loop-entry.s)) ∙ i.4 in
    record { count_is = sym (length_pending_of c.loop-entry.k c.loop-entry.s) ∙ ap length e; bytes_are = sym i.3 ∙ ap (λ (y : List Pending). with_pending c.args.n y c.args.s.now) e }
