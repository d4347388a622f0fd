-- `seed::rises` meets its contract.
use borrow.Author.Rules.{rules}
use borrow.Author.Tests.{tests}
use mathlib.Core.Path.{refl}
use Prim.Native.Nat.{◌/◌}
use lib.ListN.{length}
use Rattle.std.proofs.lemmas.Iterator.{YieldsList-from_range}
use Rattle.std.proofs.lemmas.Iterator.Search.{all_from_yields_List}
use Rattle.seed.proofs.Rising.{follows, rise_all}
use Rattle.seed.proofs.rises.Goals as goal

pub returns : goal.returns
returns c =
    let b = c.args.addresses.now in
    rise_all b _ (all_from_yields_List (follows b) _ _ _ c.all.ensures.ran (YieldsList-from_range 1 (length b / 20) _ refl refl) (λ x r q k. search (rules, tests)))
