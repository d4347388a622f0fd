-- `words::read_u32` meets its contract.
use Rattle.std.proofs.Common.{arith}
use Rattle.std.proofs.lemmas.Grind.{common_steps}
use Rattle.words.proofs.Numbers.{from_four}
use Rattle.words.proofs.read_u32.Goals as goal

pub returns : goal.returns
returns c = grind (arith, common_steps, from_four)
