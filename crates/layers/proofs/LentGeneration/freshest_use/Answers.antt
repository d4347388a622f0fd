-- `layers::LentGeneration::freshest_use` meets its contract.
use Rattle.std.specs.Prelude.{Some}
use mathlib.Core.Path.{sym, ap, ◌∙◌}
use Rattle.layers.proofs.Search.{highest_at, highest_none}
use Rattle.layers.proofs.LentGeneration.freshest_use.Goals as goal

pub returns-in_err-freshest : goal.returns-in_err-freshest
returns-in_err-freshest c = c.from_residual.ensures ∙ sym (highest_none _ _ _ _ c.highest.ensures c.in_err-freshest.was).0

pub row_use-requires : goal.row_use-requires
row_use-requires c = (highest_at _ _ _ _ c.highest.ensures _ c.in_ok-freshest.was).1.room

pub returns : goal.returns
returns c = ap Some c.row_use.ensures ∙ (highest_at _ _ _ _ c.highest.ensures _ c.in_ok-freshest.was).1.use_is
