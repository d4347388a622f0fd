-- `records::has_value` meets its contract. Assumes nothing.
use mathlib.Core.Path.{sym, ap, ◌∙◌}
use mathlib.Core.Bool.{not}
use Prim.Native.Nat.{ℕ, ◌*◌}
use lib.Dec.{eqb}
use native.Mathlib.Omega.{arith}
use Rattle.layout.specs.Layout.{has_index, record_size, record_width}
use Rattle.records.proofs.Slots.{word_at}
use Rattle.records.proofs.RecordsAt.{has_value_at}
use Rattle.records.proofs.has_value.Goals as goal

pub returns : goal.returns
returns c =
    let a = c.args in
    ap (λ (x : ℕ). not (eqb x 0)) (c.read_u64.ensures ∙ sym (word_at record_width has_index (a.i * record_size) a.s.now (omega arith))) ∙ has_value_at a.i a.s.now
