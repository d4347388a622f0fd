-- `reader::slot_at` meets its contract. Assumes nothing.
use mathlib.Core.Path.{sym, ◌∙◌}
use native.Mathlib.Omega.{arith}
use lib.ListN.{drop}
use Rattle.entries.proofs.Numbers.{slot_take}
use Rattle.reader.proofs.slot_at.Goals as goal

pub returns : goal.returns
returns c =
    let a = c.args in
    c.read_slot.ensures ∙ sym (slot_take 52 (drop a.at a.s.now) (omega arith))
