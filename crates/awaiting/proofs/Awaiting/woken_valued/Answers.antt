-- `awaiting::Awaiting::woken_valued` meets its contract.
use borrow.Author.Rules.{rules}
use borrow.Author.Tests.{tests}
use native.Mathlib.Omega.{arith}
use mathlib.Core.Bool.{not}
use mathlib.Core.Path.{◌∙◌}
use Rattle.awaiting.specs.Lent.{all_of}
use Rattle.std.proofs.lemmas.Iterator.{YieldsList-from_map}
use Rattle.std.proofs.lemmas.Iterator.Consumers.{YieldsList-at, YieldsList-from_filter, sum_by_from_yields_List, fits_by_from_yields_list}
use Rattle.entries.proofs.Chunks.{YieldsList-from_chunks}
use Rattle.awaiting.proofs.Lists.{is_refused, waiters_at, sum_valued, valued_fits}
use Rattle.awaiting.proofs.Awaiting.woken_valued.Goals as goal

pub sum-requires-clause-fits : goal.sum-requires-clause-fits
sum-requires-clause-fits c =
    let a = c.args in
    let q = all_of a.self in
    fits_by_from_yields_list (waiters_at q) _ _ _
    (YieldsList-from_map _ (waiters_at q) (YieldsList-at c.map.ensures.source
    (YieldsList-from_filter _ (λ m. not (is_refused m)) (YieldsList-at c.filter.ensures.source (YieldsList-from_chunks 85 a.list.now (omega arith) c.chunks_exact.ensures.size c.chunks_exact.ensures.rest)) c.filter.ensures.closure (λ x b p k. search (rules, tests))))
    c.map.ensures.closure (λ x r p k. search (rules, tests)))
    (omega (arith, sum_valued q a.list.now, valued_fits a.list.now q c.requires.distinct, c.requires.waiters_fit))

pub returns : goal.returns
returns c =
    let a = c.args in
    let q = all_of a.self in
    sum_by_from_yields_List (waiters_at q) _ _ _ c.sum.ensures.ran
    (YieldsList-from_map _ (waiters_at q) (YieldsList-at c.map.ensures.source
    (YieldsList-from_filter _ (λ m. not (is_refused m)) (YieldsList-at c.filter.ensures.source (YieldsList-from_chunks 85 a.list.now (omega arith) c.chunks_exact.ensures.size c.chunks_exact.ensures.rest)) c.filter.ensures.closure (λ x b p k. search (rules, tests))))
    c.map.ensures.closure (λ x r p k. search (rules, tests)))
    ∙ sum_valued q a.list.now
