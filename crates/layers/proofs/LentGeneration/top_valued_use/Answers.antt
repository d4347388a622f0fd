-- `layers::LentGeneration::top_valued_use` meets its contract.
use Rattle.std.specs.Prelude.{Err, Ok}
use mathlib.Core.Path.{◌≡◌, sym, ◌∙◌}
use native.Mathlib.Omega.{arith}
use borrow.Author.Rules.{rules}
use Rattle.layers.proofs.Search.{top_unvalued, top_room, top_use_none, top_use_some}
use Rattle.layers.proofs.LentGeneration.top_valued_use.Goals as goal

pub returns-in_default : goal.returns-in_default
returns-in_default c t e =
    let i = c.in_default.field-0 in
    let d : c.args.place ≡ Err i = search rules in
    top_unvalued c.args.self.bytes.now t i _ c.args.self.installed e d

pub overflow_add-row : goal.overflow_add-row
overflow_add-row c =
    let i = c.in-Ok.i in
    let d : c.args.place ≡ Ok i = search rules in
    omega (arith, top_room c.args.self.bytes.now c.requires.slot _ i _ c.args.self.installed c.top_start.ensures c.requires.place_is d)

pub row_has-requires : goal.row_has-requires
row_has-requires c =
    let i = c.in-Ok.i in
    let d : c.args.place ≡ Ok i = search rules in
    top_room c.args.self.bytes.now c.requires.slot _ i _ c.args.self.installed c.top_start.ensures c.requires.place_is d

pub row_use-requires : goal.row_use-requires
row_use-requires c =
    let i = c.in-Ok.i in
    let d : c.args.place ≡ Ok i = search rules in
    top_room c.args.self.bytes.now c.requires.slot _ i _ c.args.self.installed c.top_start.ensures c.requires.place_is d

pub returns-then-row_has : goal.returns-then-row_has
returns-then-row_has c t e =
    let i = c.in-Ok.i in
    let d : c.args.place ≡ Ok i = search rules in
    top_use_some c.args.self.bytes.now t _ i _ c.args.self.installed c.top_start.ensures e d _ (sym c.row_has.ensures ∙ c.if-row_has.true) c.row_use.ensures

pub returns : goal.returns
returns c t e =
    let i = c.in-Ok.i in
    let d : c.args.place ≡ Ok i = search rules in
    top_use_none c.args.self.bytes.now t _ i _ c.args.self.installed c.top_start.ensures e d (sym c.row_has.ensures ∙ c.if-row_has.false)
