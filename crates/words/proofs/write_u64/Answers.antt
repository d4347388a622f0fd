-- `words::write_u64` meets its contract.
use mathlib.Core.Path.{◌∙◌}
use Rattle.words.proofs.Places.{placed_bytes}
use Rattle.words.proofs.write_u64.Goals as goal

pub returns : goal.returns
returns c =
    let a = c.args in
    placed_bytes a.at 8 a.x a.s.now _ (c.copy_from_slice.ensures.after ∙ c.to_be_bytes.ensures)
