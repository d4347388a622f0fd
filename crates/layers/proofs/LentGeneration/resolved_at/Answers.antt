-- `layers::LentGeneration::resolved_at` meets its contract.
use mathlib.Core.Path.{◌∙◌}
use Rattle.layers.proofs.Search.{value_at, no_row}
use Rattle.layers.proofs.LentGeneration.resolved_at.Goals as goal

pub returns-in_err-row : goal.returns-in_err-row
returns-in_err-row c = c.from_residual.ensures ∙ no_row _ _ _ c.served_row.ensures c.in_err-row.was

pub row_held-requires : goal.row_held-requires
row_held-requires c = (value_at _ _ _ _ c.served_row.ensures c.in_ok-row.was).room

pub returns : goal.returns
returns c = c.row_held.ensures ∙ (value_at _ _ _ _ c.served_row.ensures c.in_ok-row.was).value_is
