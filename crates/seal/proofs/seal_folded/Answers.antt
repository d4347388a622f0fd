-- `seal::seal_folded` meets its contract. Assumes nothing.
use mathlib.Core.Path.{refl}
use native.Mathlib.Omega.{arith}
use borrow.Author.Rules.{rules}
use Prim.Native.Nat.{◌-◌}
use lib.ListN.{length}
use Rattle.layout.specs.Layout.{records_offset}
use Rattle.order.proofs.RecordLaws.{part_bytes}
use Rattle.header.proofs.Segments.{known_bytes}
use Rattle.seal.proofs.Compacted.{length_part, fold_asks, fold_room, fold_total, left_few, report_is, compacted_by}
use Rattle.seal.proofs.seal_folded.Goals as goal

pub invariant_of-base-clause-few : goal.invariant_of-base-clause-few
invariant_of-base-clause-few c = (fold_asks c.args.s.now _ c.requires.0 c.top_start.ensures).1

pub invariant_of-base-clause-within : goal.invariant_of-base-clause-within
invariant_of-base-clause-within c = (fold_asks c.args.s.now _ c.requires.0 c.top_start.ensures).0

pub invariant_of-base-clause-are_bytes : goal.invariant_of-base-clause-are_bytes
invariant_of-base-clause-are_bytes c = part_bytes c.args.s.now c.type_inv.s records_offset (length c.args.s.now - records_offset)

pub compact-folded-requires : goal.compact-folded-requires
compact-folded-requires c =
    let s = c.args.s.now in
    omega (arith, length_part c.write_header.new.work, c.write_header.auto.work, fold_room s c.args.work.now _ c.requires.0 c.top_start.ensures c.requires.1)

pub place_top-requires : goal.place_top-requires
place_top-requires c =
    let s = c.args.s.now in
    (c.requires.0, left_few s _ _ _ _ _ (known_bytes s c.type_inv.s) c.requires.0 c.retention.ensures c.installed_number-number.ensures c.top_start.ensures c.compact-folded.ensures.1 c.compact-folded.ensures.2, search rules)

pub overflow_add-left : goal.overflow_add-left
overflow_add-left c =
    let s = c.args.s.now in
    let i = c.requires.0 in
    let few = left_few s _ _ _ _ _ (known_bytes s c.type_inv.s) i c.retention.ensures c.installed_number-number.ensures c.top_start.ensures c.compact-folded.ensures.1 c.compact-folded.ensures.2 in
    omega (arith, fold_total s _ _ i few c.top_count.ensures)

pub returns : goal.returns
returns c =
    let a = c.args in
    let s = a.s.now in
    let b = known_bytes s c.type_inv.s in
    record {
      bytes_are = compacted_by s _ _ _ _ _ b c.requires.0 c.retention.ensures c.installed_number-number.ensures c.top_start.ensures c.compact-folded.ensures.1 c.compact-folded.ensures.2
          a.work.now a.child _ c.top_count.ensures c.write_header.ensures c.compact-folded.ensures.0 refl c.place_top.ensures c.add_layers.ensures;
      report_is = report_is s _ _ _ _ _ b c.requires.0 c.retention.ensures c.installed_number-number.ensures c.top_start.ensures c.compact-folded.ensures.1 c.compact-folded.ensures.2 _ c.layers.ensures;
    }
