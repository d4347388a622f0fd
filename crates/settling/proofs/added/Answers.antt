-- `settling::added` meets its contract.
use borrow.Author.Rules.{rules}
use borrow.Author.Tests.{tests}
use native.Mathlib.Omega.{arith}
use mathlib.Core.Path.{◌∙◌}
use Rattle.std.proofs.lemmas.Iterator.Consumers.{YieldsList-from_filter, YieldsList-at, count_from_yields_List}
use Rattle.model.specs.Entries.{member_of}
use Rattle.image.specs.Lent.{generation_of}
use Rattle.entries.proofs.Chunks.{YieldsList-from_chunks}
use Rattle.settling.specs.Settling.{adds_one}
use Rattle.settling.proofs.Members.{count_added}
use Rattle.settling.proofs.added.Goals as goal

pub returns : goal.returns
returns c =
    let l = (generation_of c.args.generation.bytes.now).top in
    count_from_yields_List c.filter.result _ c.count.ensures.ran
    (YieldsList-from_filter _ (λ m. adds_one (member_of m) l) (YieldsList-at c.filter.ensures.source (YieldsList-from_chunks 85 c.args.list.now (omega arith) c.chunks_exact.ensures.size c.chunks_exact.ensures.rest)) c.filter.ensures.closure (λ x b q k. search (rules, tests)))
    ∙ count_added l c.args.list.now
