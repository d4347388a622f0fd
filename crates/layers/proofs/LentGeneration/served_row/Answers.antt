-- `layers::LentGeneration::served_row` meets its contract.
use Rattle.std.specs.Prelude.{Err, Ok}
use borrow.Author.Rules.{rules}
use mathlib.Core.Path.{◌≡◌}
use native.Mathlib.Omega.{arith}
use Prim.Native.Nat.{◌+◌}
use Rattle.model.specs.Store.{chain}
use Rattle.image.specs.Lent.{generation_of}
use Rattle.layers.specs.Answers.{First}
use Rattle.layers.proofs.Search.{highest_at, highest_none, first_top, first_chain, unused, row_none}
use Rattle.layers.proofs.LentGeneration.served_row.Goals as goal

pub overflow_add-top_start : goal.overflow_add-top_start
overflow_add-top_start c =
    let found : let a = c.args in First a.slot (chain (generation_of a.self.bytes.now)) c.layers-n.result (c.top_start.result + c.in-Ok.i) a.self.bytes.now = let i = c.in-Ok.i in
    let e : c.args.place ≡ Ok i = search rules in
    first_top c.args.self.bytes.now c.args.slot _ _ i _ c.args.self.installed c.layers-n.ensures c.top_start.ensures c.requires e in
    omega (arith, found.room)

pub served-requires : goal.served-requires
served-requires c =
    let found : let a = c.args in First a.slot (chain (generation_of a.self.bytes.now)) c.layers-n.result (c.top_start.result + c.in-Ok.i) a.self.bytes.now = let i = c.in-Ok.i in
    let e : c.args.place ≡ Ok i = search rules in
    first_top c.args.self.bytes.now c.args.slot _ _ i _ c.args.self.installed c.layers-n.ensures c.top_start.ensures c.requires e in
    found

pub returns-in_err-found : goal.returns-in_err-found
returns-in_err-found c =
    let i = c.in_default.field-0 in
    let e : c.args.place ≡ Err i = search rules in
    row_none _ _ _ c.from_residual.ensures (unused c.args.self.bytes.now c.args.slot c.args.self.installed _ i c.requires e _ c.layers-n.ensures _ (highest_none _ _ _ _ c.highest.ensures c.in_err-found.was).0)

pub served-requires-2 : goal.served-requires-2
served-requires-2 c =
    let i = c.in_default.field-0 in
    let e : c.args.place ≡ Err i = search rules in
    (first_chain c.args.self.bytes.now c.args.slot c.args.self.installed _ i c.requires e _ c.layers-n.ensures _ _ (highest_at _ _ _ _ c.highest.ensures _ c.in_ok-found.was).1)
