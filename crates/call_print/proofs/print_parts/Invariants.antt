-- The areas keep their lengths, and what is left of the list falls.
use Rattle.std.proofs.Common.{◌≡◌, length}
use Rattle.model.specs.Refusals.{store_size}
use Rattle.call_print.proofs.Parts.{left}
use Rattle.call_print.proofs.print_parts.Given as goal

abbrev pub invariant-loop-next : goal.invariant-loop-next
invariant-loop-next g l = (length l.s ≡ store_size 256) × (length l.work ≡ store_size 256) × (length l.entries ≡ 53248) × (length l.members ≡ 105060) × (length l.out ≡ 65536)

abbrev pub decreases-loop-next : goal.decreases-loop-next
decreases-loop-next g l = left (length l.list) l.next
