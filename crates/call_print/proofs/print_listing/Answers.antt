-- The bytes that are taken are few enough.
use mathlib.Core.Path.{ap}
use native.Mathlib.Omega.{arith}
use lib.ListN.{length}
use Rattle.call_print.proofs.Parts.{taken_within}
use Rattle.call_print.proofs.print_listing.Goals as goal

pub print_parts-requires : goal.print_parts-requires
print_parts-requires g c = omega (arith, (taken_within c.args.list.now).1, ap length c.taken.ensures)
