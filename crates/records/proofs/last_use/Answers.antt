-- `records::last_use` meets its contract. Assumes nothing.
use mathlib.Core.Path.{sym, ◌∙◌}
use Prim.Native.Nat.{◌*◌}
use native.Mathlib.Omega.{arith}
use Rattle.layout.specs.Layout.{last_use_index, record_size, record_width}
use Rattle.records.proofs.Slots.{word_at}
use Rattle.records.proofs.RecordsAt.{use_at}
use Rattle.records.proofs.last_use.Goals as goal

pub returns : goal.returns
returns c =
    let a = c.args in
    c.read_u64.ensures ∙ sym (word_at record_width last_use_index (a.i * record_size) a.s.now (omega arith)) ∙ use_at a.i a.s.now
