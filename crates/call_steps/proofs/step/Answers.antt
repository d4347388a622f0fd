-- `call_steps::step` meets its contract: as `unchecked_calls` says, on a store or on other bytes. Assumes nothing.
use mathlib.Core.Path.{sym, ◌∙◌}
use Rattle.image.proofs.Lent.{decoded_some}
use Rattle.call_steps.proofs.step.Goals as goal

pub on_store-requires : goal.on_store-requires
on_store-requires c = let p = c.requires in (decoded_some _ (sym p.0 ∙ c.if-known.true), p.1, p.2)
