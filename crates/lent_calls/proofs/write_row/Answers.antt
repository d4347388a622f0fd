-- `lent_calls::write_row` meets its contract. Assumes nothing.
use Prim.Native.Nat.{ℕ, ◌+◌, ◌-◌, ◌*◌}
use mathlib.Core.Path.{◌≡◌, refl}
use native.Mathlib.Omega.{arith}
use lib.ListN.{replicate}
use Rattle.layout.specs.Layout.{record_size, records_offset, value_offset}
use Rattle.header.proofs.Segments.{known_bytes}
use Rattle.lent_calls.proofs.Copied.{value_copied}
use Rattle.lent_calls.proofs.write_row.Goals as goal

pub returns : goal.returns
returns c =
    let a = c.args in
    let at : ℕ = records_offset + record_size * a.row + value_offset in
    let e : at + 32 - at ≡ 32 = omega arith in
    value_copied a.row a.s.now (known_bytes a.s.now c.type_inv.s) c.requires.1 c.requires.2 a.reply.now (replicate 32 0) (at + 32 - at) e refl (omega (arith, c.requires.0)) c.place.ensures c.write_u64.ensures
    c.place-2.ensures
