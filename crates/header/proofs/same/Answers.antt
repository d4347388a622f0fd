-- `header::same` meets its contract: the derived equality compares the words as the definition does.
use Rattle.std.proofs.lemmas.Grind.{common_steps}
use native.Mathlib.Omega.{arith}
use Rattle.model.specs.Slots.{anchor_eqb, u256_eqb, words_eqb}
use Rattle.header.proofs.same.Goals as goal

pub returns : goal.returns
unfolding anchor_eqb u256_eqb words_eqb
returns c = grind (arith, common_steps)
