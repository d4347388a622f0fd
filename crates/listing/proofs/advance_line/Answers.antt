-- `listing::advance_line` meets its contract. Assumes nothing.
use borrow.Author.Rules.{rules}
use Prim.Native.Nat.{ℕ}
use mathlib.Core.Path.{◌≡◌, ap, ap₂, sym, subst, ◌∙◌}
use native.Mathlib.Omega.{arith}
use lib.ListN.{length}
use Rattle.model.specs.declared.read_hub.CarryOutcome.{CarryOutcome}
use Rattle.model.specs.declared.read_hub.CarryOutcome.TheVariants.{AlreadyCurrent, Carried, Cold}
use Rattle.call_list.specs.Listing.{ascii, line, decimals}
use Rattle.listing.specs.Lines.{counts_line, cold_counts}
use Rattle.digits.specs.Output.{Room}
use Rattle.digits.proofs.Writing.{written_as}
use Rattle.listing.proofs.advance_line.Goals as goal

pub word_line-requires : goal.word_line-requires
unfolding ascii
word_line-requires c =
    let a = c.args in
    let e : a.outcome ≡ AlreadyCurrent = search rules in
    subst (λ (o : CarryOutcome). Room (length (counts_line o a.c)) a.out.now) e c.requires

pub word_line-requires-in-Carried : goal.word_line-requires-in-Carried
unfolding ascii
word_line-requires-in-Carried c =
    let a = c.args in
    let e : a.outcome ≡ Carried c.in-Carried.n = search rules in
    subst (λ (o : CarryOutcome). Room (length (counts_line o a.c)) a.out.now) e c.requires

pub word_line-requires-in-Cold : goal.word_line-requires-in-Cold
unfolding ascii
word_line-requires-in-Cold c =
    let a = c.args in
    let e : a.outcome ≡ Cold c.in-Cold.lineage c.in-Cold.bal = search rules in
    let h = subst (λ (o : CarryOutcome). Room (length (counts_line o a.c)) a.out.now) e c.requires in
    omega (arith, h, ap₂ (λ (x y : ℕ). length (line (ascii "cold") (decimals (cold_counts x y a.c)))) c.from-l.ensures c.from-k.ensures)

pub returns-in-AlreadyCurrent : goal.returns-in-AlreadyCurrent
unfolding ascii
returns-in-AlreadyCurrent c =
    let a = c.args in
    let e : a.outcome ≡ AlreadyCurrent = search rules in
    written_as c.word_line.ensures (ap (λ (o : CarryOutcome). counts_line o a.c) (sym e))

pub returns-in-Carried : goal.returns-in-Carried
unfolding ascii
returns-in-Carried c =
    let a = c.args in
    let e : a.outcome ≡ Carried c.in-Carried.n = search rules in
    written_as c.word_line-in-Carried.ensures (ap (λ (o : CarryOutcome). counts_line o a.c) (sym e))

pub returns-in-Cold : goal.returns-in-Cold
unfolding ascii
returns-in-Cold c =
    let a = c.args in
    let e : a.outcome ≡ Cold c.in-Cold.lineage c.in-Cold.bal = search rules in
    written_as c.word_line-in-Cold.ensures
    (ap₂ (λ (x y : ℕ). line (ascii "cold") (decimals (cold_counts x y a.c))) c.from-l.ensures c.from-k.ensures
    ∙ ap (λ (o : CarryOutcome). counts_line o a.c) (sym e))
