-- `checking::word` meets its contract.
use mathlib.Core.Path.{sym, ◌∙◌}
use Rattle.records.proofs.Slots.{word_at}
use Rattle.checking.proofs.word.Goals as goal

pub returns : goal.returns
returns c = λ n h. c.read_u64.ensures ∙ sym (word_at n c.args.i c.args.at c.args.s.now h)
