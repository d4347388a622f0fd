-- `awaiting::Awaiting::waiters_at` meets its contract.
use mathlib.Core.Path.{◌∙◌}
use Rattle.awaiting.proofs.Awaits.{entry_waiters}
use Rattle.awaiting.proofs.Awaiting.waiters_at.Goals as goal

pub returns : goal.returns
returns c = c.read_u64.ensures ∙ entry_waiters c.args.i c.args.self.bytes.now
