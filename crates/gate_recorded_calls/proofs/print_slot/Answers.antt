-- A slot's line fits 110 bytes.
use native.Mathlib.Omega.{arith}
use Rattle.listing.proofs.Lengths.{slot_line_length}
use Rattle.gate_recorded_calls.proofs.print_slot.Goals as goal

pub slot_line-requires : goal.slot_line-requires
slot_line-requires g c = omega (arith, slot_line_length c.slot_at-slot.result)
