-- `rules::rules` meets its contract.
use mathlib.Core.Path.{◌≡◌, sym, ap, ◌∙◌}
use mathlib.Core.Bool.{◌||◌}
use Prim.Native.Nat.{ℕ, ◌+◌, ◌<◌}
use native.Mathlib.Omega.{arith}
use lib.Dec.{eqb}
use lib.ListN.{length, get_or, drop}
use Rattle.order.specs.Lent.{all_of, slots_of}
use Rattle.order.proofs.RecordLaws.{lent_bytes}
use Rattle.order.proofs.MergeLaws.{ordered_at}
use Rattle.rules.proofs.rules.Goals.{then-ends, else-ends}
use Rattle.order.proofs.WalkLaws.{walk, turn_last, turn_more, bit_small, walk_end}
use Rattle.rules.proofs.RuleLaws.{Met, unmet, meets, rules_say}
use Rattle.rules.proofs.rules.Goals as goal

pub last_use-used-requires : goal.last_use-used-requires
last_use-used-requires c =
    let a = c.args in
    ordered_at a.index.records.count c.loop-j.j (slots_of a.index.records) a.index.numbers.now a.index.ordered c.loop-j-test.true

pub valued-has-requires : goal.valued-has-requires
valued-has-requires c =
    let a = c.args in
    ordered_at a.index.records.count c.loop-j.j (slots_of a.index.records) a.index.numbers.now a.index.ordered c.loop-j-test.true

pub ends-requires : goal.ends-requires
ends-requires c =
    let a = c.args in
    c.loop-j-test.true

pub loop-j-preserved : goal.loop-j-preserved
loop-j-preserved c =
    let a = c.args in
    let l = c.loop-j in
    let ss = slots_of a.index.records in
    let ix = a.index.numbers.now in
    let f = meets c.oldest-least.result a.number a.top (all_of a.index.records) in
    let h : l.j < length ix = c.loop-j-test.true in
    let w = walk f unmet (λ m. m.bad) ss unmet ix in
    let m0 : Met = record { any = l.any; low = l.low; bad = l.bad } in
    let m1 : Met = record { any = l.any || c.valued-has.result; low = c.max-low.result; bad = l.bad || c.breaks-bad.result } in
    let m2 : Met = record { any = c.if-ends.any; low = c.if-ends.low; bad = c.if-ends.bad } in
    let ea : m1 ≡ f m0 (get_or ix l.j 0) = rw (c.breaks-bad.ensures, c.max-low.ensures, c.valued-has.ensures, c.last_use-used.ensures) in
    elim c.if-ends.branch [
      | then-ends u ↦ (
        omega (arith, u.c-is, u.from-c.ensures, bit_small m1.bad),
        turn_last f unmet (λ m. m.bad) ss ix m0 l.j h l.c c.if-ends.c w m1 m2 l.invariant.1 ea (sym c.ends.ensures ∙ u.if-ends.true) (u.c-is ∙ ap (λ (k : ℕ). l.c + k) u.from-c.ensures) (rw (u.any-is, u.low-is, u.bad-is)),
      )
      | else-ends u ↦ (
        omega (arith, u.c-is),
        turn_more f unmet (λ m. m.bad) ss ix m0 l.j h l.c c.if-ends.c w m1 m2 l.invariant.1 ea (sym c.ends.ensures ∙ u.if-ends.false) u.c-is (rw (u.any-is, u.low-is, u.bad-is)),
      )
    ]

pub returns : goal.returns
returns c =
    let a = c.args in
    let least = c.oldest-least.result in
    let rs = all_of a.index.records in
    let ss = slots_of a.index.records in
    let ix = a.index.numbers.now in
    let f = meets least a.number a.top rs in
    let m0 : Met = record { any = c.loop-j.any; low = c.loop-j.low; bad = c.loop-j.bad } in
    let e : walk f unmet (λ m. m.bad) ss m0 (drop c.loop-j.j ix) ≡ 0 = walk_end f unmet (λ m. m.bad) ss ix m0 c.loop-j.j (omega arith) in
    let g : c.loop-j.c ≡ walk f unmet (λ m. m.bad) ss unmet ix = omega arith in
    ap (λ (k : ℕ). eqb k 0) (g ∙ ap (λ (o : ℕ). walk (meets o a.number a.top rs) unmet (λ m. m.bad) ss unmet ix) c.oldest-least.ensures)
    ∙ rules_say a.retention a.number a.top a.index.records.count a.index.records.bytes.now ix (lent_bytes a.index.records) c.args.index.records.within a.index.ordered
