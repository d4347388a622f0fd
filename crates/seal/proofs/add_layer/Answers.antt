-- `seal::add_layer` meets its contract. Assumes nothing.
use Prim.Native.Nat.{◌+◌, ◌*◌}
use mathlib.Core.Path.{ap, ◌∙◌}
use native.Mathlib.Omega.{arith}
use Rattle.layout.specs.Layout.{ends_offset}
use Rattle.model.specs.Numbers.{be}
use Rattle.words.specs.Parts.{placed}
use Rattle.seal.proofs.Headers.{two_words}
use Rattle.seal.proofs.add_layer.Goals as goal

pub returns : goal.returns
returns c =
    let a = c.args in
    c.write_u64-3.ensures ∙ ap (placed (ends_offset + 8 * a.k) (be 8 a.n)) (two_words a.k a.n a.work.now _ _ (omega (arith, c.requires.1)) c.write_u64.ensures c.write_u64-2.ensures)
