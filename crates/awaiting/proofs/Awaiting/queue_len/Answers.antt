-- `awaiting::Awaiting::queue_len` meets its contract.
use borrow.Author.Rules.{rules}
use borrow.Author.Tests.{tests}
use native.Mathlib.Omega.{arith}
use mathlib.Core.Path.{refl, ◌∙◌}
use Rattle.std.proofs.lemmas.Iterator.{YieldsList-from_range}
use Rattle.std.proofs.lemmas.Iterator.Consumers.{YieldsList-at, YieldsList-from_filter, count_from_yields_List}
use Rattle.awaiting.proofs.Entries.{is_free, count_free}
use Rattle.awaiting.proofs.Awaiting.queue_len.Goals as goal

pub returns : goal.returns
returns c =
    count_from_yields_List c.filter.result _ c.count.ensures.ran
    (YieldsList-from_filter _ (is_free c.args.self.bytes.now) (YieldsList-at c.filter.ensures.source (YieldsList-from_range 0 c.args.self.count c.args.self.count refl (omega arith))) c.filter.ensures.closure (λ x b q k. search (rules, tests)))
    ∙ count_free c.args.self.count c.args.self.bytes.now
