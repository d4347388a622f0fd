-- `layers::LentGeneration::served` meets its contract.
use Rattle.std.specs.Prelude.{Some}
use mathlib.Core.Path.{sym, ap, ◌∙◌}
use Rattle.image.specs.Lent.{store_of, generation_of}
use Rattle.layers.proofs.Search.{value_here, value_below, resolved_served, resolved_stale}
use Rattle.layers.proofs.LentGeneration.served.Goals as goal

pub returns-then-not-serves : goal.returns-then-not-serves
returns-then-not-serves c =
    let b = c.args.self.bytes.now in
    (resolved_stale (store_of b).config.retention (generation_of b) c.args.slot _ _ _ _ (ap Some c.row_use-used.ensures ∙ c.requires.use_is) c.retention.ensures c.installed_number.ensures c.serves.ensures c.if-not-serves.true)

pub returns-then-row_has : goal.returns-then-row_has
returns-then-row_has c =
    let b = c.args.self.bytes.now in
    resolved_served (store_of b).config.retention (generation_of b) c.args.slot _ _ _ _ (ap Some c.row_use-used.ensures ∙ c.requires.use_is) c.retention.ensures c.installed_number.ensures c.serves.ensures (Some c.args.row) b c.if-not-serves.false (value_here _ _ _ _ _ c.requires (sym c.row_has.ensures ∙ c.if-row_has.true))

pub returns : goal.returns
returns c =
    let b = c.args.self.bytes.now in
    resolved_served (store_of b).config.retention (generation_of b) c.args.slot _ _ _ _ (ap Some c.row_use-used.ensures ∙ c.requires.use_is) c.retention.ensures c.installed_number.ensures c.serves.ensures c.value_row.result b c.if-not-serves.false (value_below _ _ _ _ _ c.requires c.value_row.result (sym c.row_has.ensures ∙ c.if-row_has.false) c.value_row.ensures)
