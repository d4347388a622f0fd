-- `records::held` meets its contract. Assumes nothing.
use Rattle.std.specs.Prelude.{Some}
use mathlib.Core.Path.{sym, ap, ◌∙◌}
use Rattle.records.proofs.Slots.{value_at}
use Rattle.records.proofs.RecordsAt.{has_value_at, held_none, held_value}
use Rattle.records.proofs.held.Goals as goal

pub returns-then-has_value : goal.returns-then-has_value
returns-then-has_value c =
    let a = c.args in
    ap Some (c.read_u256.ensures ∙ value_at a.i a.s.now) ∙ held_value a.i a.s.now (has_value_at a.i a.s.now ∙ sym c.has_value.ensures ∙ c.if-has_value.true)

pub returns : goal.returns
returns c =
    let a = c.args in
    held_none a.i a.s.now (has_value_at a.i a.s.now ∙ sym c.has_value.ensures ∙ c.if-has_value.false)
