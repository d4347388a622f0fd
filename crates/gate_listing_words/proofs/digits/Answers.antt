-- Each line fits its output.
use native.Mathlib.Omega.{arith}
use Rattle.listing.proofs.Lengths.{value_line_length, slot_line_length}
use Rattle.gate_listing_words.proofs.digits.Goals as goal

pub value_line-requires : goal.value_line-requires
value_line-requires g c = omega (arith, value_line_length c.number.result)

pub slot_line-requires : goal.slot_line-requires
slot_line-requires g c =
    omega (arith, slot_line_length (record { address = record { w0 = 2748; w1 = 1; w2 = 18446744073709551615 }; index = c.number-2.result }))
