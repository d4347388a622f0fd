-- `awaiting::names` meets its contract.
use borrow.Author.Rules.{rules}
use Rattle.std.proofs.lemmas.Grind.{common_steps}
use native.Mathlib.Omega.{arith}
use mathlib.Core.Path.{sym, ◌∙◌}
use Rattle.model.specs.Slots.{slot_eqb, words_eqb}
use Rattle.model.specs.Entries.{slot_of}
use Rattle.std.proofs.lemmas.Iterator.Search.{any_from_yields_List}
use Rattle.entries.proofs.Chunks.{YieldsList-from_chunks}
use Rattle.awaiting.proofs.Lists.{any_named}
use Rattle.awaiting.proofs.names.Goals as goal

pub returns : goal.returns
unfolding slot_eqb words_eqb
returns g c =
    rw (sym c.WIDTH.ensures) (any_from_yields_List (λ m. slot_eqb (slot_of m) c.args.slot) _ _ _ c.any.ensures.ran (YieldsList-from_chunks _ c.args.list.now (omega (arith, g.E.ListEntry.wide)) c.chunks_exact.ensures.size c.chunks_exact.ensures.rest) (λ x b q k. (search rules, grind (arith, common_steps)))
    ∙ any_named c.args.slot _ c.args.list.now)
