-- `awaiting::Awaiting::all_taken` meets its contract.
use borrow.Author.Rules.{rules}
use borrow.Author.Tests.{tests}
use native.Mathlib.Omega.{arith}
use mathlib.Core.Path.{sym, ◌∙◌}
use Rattle.model.specs.Reads.{is_taken}
use Rattle.model.specs.Entries.{slot_of}
use Rattle.awaiting.specs.Lent.{all_of}
use Rattle.std.proofs.lemmas.Iterator.Search.{all_from_yields_List}
use Rattle.entries.proofs.Chunks.{YieldsList-from_chunks}
use Rattle.awaiting.proofs.Lists.{all_entries_taken}
use Rattle.awaiting.proofs.Awaiting.all_taken.Goals as goal

pub returns : goal.returns
returns g c =
    let q = all_of c.args.self in
    rw (sym c.WIDTH.ensures) (all_from_yields_List (λ m. is_taken (slot_of m) q) _ _ _ c.all.ensures.ran (YieldsList-from_chunks _ c.args.list.now (omega (arith, g.E.ListEntry.wide)) c.chunks_exact.ensures.size c.chunks_exact.ensures.rest) (λ x b q k. search (rules, tests))
    ∙ all_entries_taken q _ c.args.list.now)
