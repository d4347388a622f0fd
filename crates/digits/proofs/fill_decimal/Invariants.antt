-- The loop of `digits::fill_decimal`: what it keeps, and its measure.
use Prim.Native.Nat.{◌≤◌, ◌<◌, ◌^◌}
use mathlib.Core.Path.{◌≡◌}
use lib.ListN.{length, drop}
use Rattle.call_list.specs.Listing.{decimal, decimal_from}
use Rattle.digits.proofs.fill_decimal.Given as goal

abbrev pub invariant-loop-rest : goal.invariant-loop-rest
invariant-loop-rest l = (0 < l.k) × (l.k ≤ 20) × (l.rest < 10 ^ l.k) × (length l.buffer ≡ 20) × (decimal_from l.k l.rest (drop l.k l.buffer) ≡ decimal l.n)

abbrev pub decreases-loop-rest : goal.decreases-loop-rest
decreases-loop-rest l = l.k
