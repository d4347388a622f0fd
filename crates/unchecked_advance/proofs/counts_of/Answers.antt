-- `unchecked_advance::counts_of` meets its contract. Assumes nothing.
use native.Mathlib.Omega.{arith}
use Prim.Native.Nat.{◌-◌}
use lib.ListN.{length}
use Rattle.layout.specs.Layout.{records_offset}
use Rattle.order.proofs.RecordLaws.{part_bytes}
use Rattle.header.proofs.Segments.{known_bytes}
use Rattle.unchecked_advance.proofs.Counted.{counts_ask, counted}
use Rattle.unchecked_advance.proofs.counts_of.Goals as goal

pub overflow_add-records : goal.overflow_add-records
overflow_add-records c = omega (arith, (counts_ask c.args.s.now _ _ c.requires c.top_start-base.ensures c.top_count-top.ensures).1)

pub invariant_of-records-clause-few : goal.invariant_of-records-clause-few
invariant_of-records-clause-few c = (counts_ask c.args.s.now _ _ c.requires c.top_start-base.ensures c.top_count-top.ensures).1

pub invariant_of-records-clause-within : goal.invariant_of-records-clause-within
invariant_of-records-clause-within c = (counts_ask c.args.s.now _ _ c.requires c.top_start-base.ensures c.top_count-top.ensures).0

pub invariant_of-records-clause-are_bytes : goal.invariant_of-records-clause-are_bytes
invariant_of-records-clause-are_bytes c = part_bytes c.args.s.now c.type_inv.s records_offset (length c.args.s.now - records_offset)

pub returns : goal.returns
returns c = counted c.args.s.now _ _ c.requires c.top_start-base.ensures c.top_count-top.ensures _ _ _ (known_bytes c.args.s.now c.type_inv.s) c.retention-retention.ensures c.installed_number-number.ensures c.held_and_live.ensures
