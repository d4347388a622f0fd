-- `checking::rises` meets its contract.
use Rattle.std.proofs.Common.{rules, refl}
use borrow.Author.Tests.{tests}
use native.Mathlib.Omega.{arith}
use mathlib.Core.Path.{◌∙◌}
use Prim.Native.Nat.{◌+◌, ◌-◌}
use Rattle.std.proofs.iter.Serving.{serving}
use Rattle.std.proofs.lemmas.Iterator.{YieldsList-from_range}
use Rattle.std.proofs.lemmas.Iterator.Search.{all_from_yields_List}
use Rattle.model.specs.Slots.{slot_ltb}
use Rattle.checking.proofs.Steps.{slot_at, rise_numbered, entry_room, entries_few}
use Rattle.checking.proofs.rises.Goals as goal

pub all-requires-clause-callable : goal.all-requires-clause-callable
all-requires-clause-callable c =
    let a = c.args in
    let few = entries_few a.wide a.to (omega arith) in
    let room = entry_room a.wide a.to in
    grind (arith, serving, few, room)

pub returns : goal.returns
returns c =
    let a = c.args in
    let s = a.s.now in
    all_from_yields_List (λ i. slot_ltb (slot_at a.wide s i) (slot_at a.wide s (i + 1))) _ _ _ c.all.ensures.ran (YieldsList-from_range a.from c.saturating_sub.result (a.to - 1 - a.from) refl (omega (arith, c.saturating_sub.ensures))) (λ x b q k. search (rules, tests))
    ∙ rise_numbered a.wide a.to (a.to - 1 - a.from) a.from s refl
