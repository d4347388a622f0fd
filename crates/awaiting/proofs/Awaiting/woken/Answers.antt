-- `awaiting::Awaiting::woken` meets its contract.
use borrow.Author.Rules.{rules}
use borrow.Author.Tests.{tests}
use native.Mathlib.Omega.{arith}
use mathlib.Core.Path.{ap, ◌∙◌}
use Prim.Native.Nat.{ℕ}
use Rattle.model.specs.Reads.{woken}
use Rattle.awaiting.specs.Lent.{all_of}
use Rattle.awaiting.specs.Awaiting.{entry_slots}
use Rattle.std.proofs.lemmas.Iterator.{YieldsList-from_map}
use Rattle.std.proofs.lemmas.Iterator.Consumers.{YieldsList-at, sum_by_from_yields_List, fits_by_from_yields_list}
use Rattle.entries.proofs.Chunks.{YieldsList-from_chunks}
use Rattle.awaiting.proofs.Lists.{waiters_at, sum_woken, woken_fits}
use Rattle.awaiting.proofs.Awaiting.woken.Goals as goal

pub sum-requires-clause-fits : goal.sum-requires-clause-fits
sum-requires-clause-fits g c =
    let a = c.args in
    let q = all_of a.self in
    fits_by_from_yields_list (waiters_at q) _ _ _
    (YieldsList-from_map _ (waiters_at q) (YieldsList-at c.map.ensures.source (YieldsList-from_chunks _ a.list.now (omega (arith, g.E.ListEntry.wide)) c.chunks_exact.ensures.size c.chunks_exact.ensures.rest)) c.map.ensures.closure (λ x r p k. search (rules, tests)))
    (omega (arith, sum_woken q c.WIDTH.result a.list.now ∙ ap (λ (w : ℕ). woken (entry_slots w a.list.now) q) c.WIDTH.ensures, woken_fits (entry_slots g.E.ListEntry.WIDTH a.list.now) q c.requires.distinct, c.requires.waiters_fit))

pub returns : goal.returns
returns g c =
    let a = c.args in
    let q = all_of a.self in
    sum_by_from_yields_List (waiters_at q) _ _ _ c.sum.ensures.ran
    (YieldsList-from_map _ (waiters_at q) (YieldsList-at c.map.ensures.source (YieldsList-from_chunks _ a.list.now (omega (arith, g.E.ListEntry.wide)) c.chunks_exact.ensures.size c.chunks_exact.ensures.rest)) c.map.ensures.closure (λ x r p k. search (rules, tests)))
    ∙ sum_woken q _ a.list.now ∙ ap (λ (w : ℕ). woken (entry_slots w a.list.now) q) c.WIDTH.ensures
