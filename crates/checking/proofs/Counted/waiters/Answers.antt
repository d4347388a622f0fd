-- `checking::Counted::waiters` meets its contract.
use Rattle.std.proofs.Common.{rules}
use borrow.Author.Tests.{tests}
use native.Mathlib.Omega.{arith}
use mathlib.Core.Path.{◌∙◌}
use lib.ListN.{drop}
use Rattle.std.specs.List.{range_with_len}
use Rattle.std.proofs.lemmas.Iterator.{YieldsList-from_range, YieldsList-from_map}
use Rattle.std.proofs.lemmas.Iterator.Consumers.{sum_by_from_yields_List, fits_by_from_yields_list}
use Rattle.layout.specs.Layout.{awaiting_offset, awaiting_width}
use Rattle.checking.specs.Checks.{rows}
use Rattle.checking.proofs.Rows.{length_rows}
use Rattle.checking.proofs.Steps.{waiters_at, waiters_numbered, waiters_few}
use Rattle.checking.proofs.Counted.waiters.Goals as goal

pub sum-requires-clause-fits : goal.sum-requires-clause-fits
sum-requires-clause-fits c =
    let a = c.args in
    fits_by_from_yields_list (waiters_at a.self.bytes.now) (range_with_len 0 a.self.awaiting) c.map.result _
    (YieldsList-from_map _ (waiters_at a.self.bytes.now) (YieldsList-from_range 0 a.self.awaiting a.self.awaiting (cc) (omega arith)) c.map.ensures.closure (λ x r q k. search (rules, tests)))
    (omega (arith, waiters_numbered a.self.awaiting a.self.bytes.now, waiters_few (rows awaiting_width a.self.awaiting (drop awaiting_offset a.self.bytes.now)) c.requires, length_rows awaiting_width a.self.awaiting (drop awaiting_offset a.self.bytes.now)))

pub returns : goal.returns
returns c =
    let a = c.args in
    sum_by_from_yields_List (waiters_at a.self.bytes.now) (range_with_len 0 a.self.awaiting) c.map.result _ c.sum.ensures.ran
    (YieldsList-from_map _ (waiters_at a.self.bytes.now) (YieldsList-from_range 0 a.self.awaiting a.self.awaiting (cc) (omega arith)) c.map.ensures.closure (λ x r q k. search (rules, tests)))
    ∙ waiters_numbered a.self.awaiting a.self.bytes.now
