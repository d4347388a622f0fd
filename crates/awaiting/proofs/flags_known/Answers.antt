-- `awaiting::flags_known` meets its contract.
use borrow.Author.Rules.{rules}
use borrow.Author.Tests.{tests}
use native.Mathlib.Omega.{arith}
use mathlib.Core.Path.{◌∙◌}
use lib.Dec.{leb}
use lib.ListN.{get_or}
use Rattle.std.proofs.lemmas.Iterator.Search.{all_from_yields_List}
use Rattle.entries.proofs.Chunks.{YieldsList-from_chunks}
use Rattle.awaiting.proofs.Lists.{all_known}
use Rattle.awaiting.proofs.flags_known.Goals as goal

pub returns : goal.returns
returns c =
    all_from_yields_List (λ m. leb (get_or m 52 0) 1) _ _ _ c.all.ensures.ran (YieldsList-from_chunks 85 c.args.list.now (omega arith) c.chunks_exact.ensures.size c.chunks_exact.ensures.rest) (λ x b q k. search (rules, tests))
    ∙ all_known c.args.list.now
