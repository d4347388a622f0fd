-- `seal::classify_hash` meets its contract: the installed anchor's hash decides. Assumes nothing.
use mathlib.Core.Path.{◌≡◌}
use mathlib.Core.Bool.{true, false}
use native.Mathlib.Omega.{arith}
use Rattle.std.proofs.lemmas.Grind.{common_steps}
use Rattle.model.specs.Slots.{u256_eqb, words_eqb}
use Rattle.seal.proofs.Link.{hash_compared}
use Rattle.seal.proofs.classify_hash.Goals as goal

pub returns-then-ne : goal.returns-then-ne
unfolding u256_eqb words_eqb
returns-then-ne c =
    let e : u256_eqb c.in-Some.hash c.args.parent_hash ≡ false = grind (arith, common_steps) in
    hash_compared _ _ c.in-Some.hash c.args.parent_hash false c.installed_anchor.ensures c.in-Some.is e

pub returns : goal.returns
unfolding u256_eqb words_eqb
returns c =
    let e : u256_eqb c.in-Some.hash c.args.parent_hash ≡ true = grind (arith, common_steps) in
    hash_compared _ _ c.in-Some.hash c.args.parent_hash true c.installed_anchor.ensures c.in-Some.is e
