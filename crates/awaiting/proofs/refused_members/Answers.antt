-- `awaiting::refused_members` meets its contract.
use borrow.Author.Rules.{rules}
use borrow.Author.Tests.{tests}
use native.Mathlib.Omega.{arith}
use mathlib.Core.Path.{◌∙◌}
use Rattle.std.proofs.lemmas.Iterator.Consumers.{YieldsList-from_filter, YieldsList-at, count_from_yields_List}
use Rattle.entries.proofs.Chunks.{YieldsList-from_chunks}
use Rattle.awaiting.proofs.Lists.{is_refused, count_refused}
use Rattle.awaiting.proofs.refused_members.Goals as goal

pub returns : goal.returns
returns c =
    count_from_yields_List c.filter.result _ c.count.ensures.ran
    (YieldsList-from_filter _ is_refused (YieldsList-at c.filter.ensures.source (YieldsList-from_chunks 85 c.args.list.now (omega arith) c.chunks_exact.ensures.size c.chunks_exact.ensures.rest)) c.filter.ensures.closure (λ x b q k. search (rules, tests)))
    ∙ count_refused c.args.list.now
