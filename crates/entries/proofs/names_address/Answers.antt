-- `entries::names_address` meets its contract.
use borrow.Author.Rules.{rules}
use borrow.Author.Tests.{tests}
use native.Mathlib.Omega.{arith}
use mathlib.Core.Path.{◌∙◌}
use Rattle.std.proofs.lemmas.Iterator.Search.{any_from_yields_List}
use Rattle.model.specs.Slots.{address_eqb}
use Rattle.model.specs.Entries.{address_of}
use Rattle.entries.proofs.Chunks.{YieldsList-from_chunks, any_relevant}
use Rattle.entries.proofs.names_address.Goals as goal

pub returns : goal.returns
returns c =
    let a = c.args in
    any_from_yields_List (λ m. address_eqb (address_of m) a.address) _ _ _ c.any.ensures.ran (YieldsList-from_chunks 20 a.list.now (omega arith) c.chunks_exact.ensures.size c.chunks_exact.ensures.rest) (λ x b q k. search (rules, tests))
    ∙ any_relevant a.address a.list.now
