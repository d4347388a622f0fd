-- `awaiting::Awaiting::is_awaiting` meets its contract.
use mathlib.Core.Path.{◌∙◌}
use Rattle.awaiting.specs.Lent.{all_of}
use Rattle.awaiting.proofs.Places.{place_awaits}
use Rattle.awaiting.proofs.Awaiting.is_awaiting.Goals as goal

pub returns : goal.returns
returns c = c.is_ok.ensures.value ∙ place_awaits (all_of c.args.self) c.args.slot _ c.args.self.rising.ok c.find.ensures
