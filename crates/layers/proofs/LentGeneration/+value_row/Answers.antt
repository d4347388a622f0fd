-- `layers::LentGeneration::value_row` meets its contract.
use mathlib.Core.Path.{sym, ◌∙◌}
use native.Mathlib.Omega.{arith}
use Rattle.layers.proofs.Search.{highest_at, highest_none, value_here, value_below, row_none}
use Rattle.layers.proofs.LentGeneration.+value_row.Goals as goal

pub returns-in_err-found : goal.returns-in_err-found
returns-in_err-found t c = row_none _ _ _ c.from_residual.ensures (sym (highest_none _ _ _ _ c.highest.ensures c.in_err-found.was).1)

pub row_has-requires : goal.row_has-requires
row_has-requires t c = (highest_at _ _ _ _ c.highest.ensures _ c.in_ok-found.was).1.room

pub returns-then-row_has : goal.returns-then-row_has
returns-then-row_has t c = value_here _ _ _ _ _ (highest_at _ _ _ _ c.highest.ensures _ c.in_ok-found.was).1 (sym c.row_has.ensures ∙ c.if-row_has.true)

pub value_row-requires : goal.value_row-requires
value_row-requires t c =
    let h = highest_at _ _ _ _ c.highest.ensures _ c.in_ok-found.was in
    (omega (arith, h.0, c.requires), omega (arith, h.1.few))

pub returns : goal.returns
returns t c = value_below _ _ _ _ _ (highest_at _ _ _ _ c.highest.ensures _ c.in_ok-found.was).1 c.value_row.result (sym c.row_has.ensures ∙ c.if-row_has.false) c.value_row.ensures
