-- `unchecked_reads::awaiting_count` meets its contract.
use mathlib.Core.Path.{◌∙◌}
use Rattle.image.proofs.Lent.{generation_in}
use Rattle.unchecked_reads.proofs.awaiting_count.Goals as goal

pub returns : goal.returns
returns c = c.read_u64.ensures ∙ (generation_in _ c.args.generation.installed).pending_word
