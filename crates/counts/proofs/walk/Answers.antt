-- `counts::walk` meets its contract.
use mathlib.Core.Path.{◌≡◌, sym, ap, ◌∙◌}
use mathlib.Core.Bool.{Bool, ◌||◌}
use Prim.Native.Nat.{ℕ, ◌+◌, ◌<◌}
use native.Mathlib.Omega.{arith}
use lib.ListN.{length, get_or, drop}
use Rattle.order.specs.Lent.{all_of, slots_of}
use Rattle.std.specs.Int.{from_bool}
use Rattle.order.proofs.RecordLaws.{lent_bytes}
use Rattle.order.proofs.MergeLaws.{ordered_at}
use Rattle.counts.proofs.walk.Goals.{then-ends, else-ends}
use Rattle.order.proofs.WalkLaws.{walk, turn_last, turn_more, bit_small, walk_end}
use Rattle.counts.proofs.CountLaws.{Seen, unseen, sees, served, held_say, live_say}
use Rattle.counts.proofs.walk.Goals as goal

pub valued-any-requires : goal.valued-any-requires
valued-any-requires c =
    let a = c.args in
    ordered_at a.index.records.count c.loop-j.j (slots_of a.index.records) a.index.numbers.now a.index.ordered c.loop-j-test.true

pub last_use-requires : goal.last_use-requires
last_use-requires c =
    let a = c.args in
    ordered_at a.index.records.count c.loop-j.j (slots_of a.index.records) a.index.numbers.now a.index.ordered c.loop-j-test.true

pub ends-requires : goal.ends-requires
ends-requires c =
    let a = c.args in
    c.loop-j-test.true

pub loop-j-preserved : goal.loop-j-preserved
loop-j-preserved c =
    let a = c.args in
    let l = c.loop-j in
    let least = c.oldest-least.result in
    let ss = slots_of a.index.records in
    let ix = a.index.numbers.now in
    let f = sees (all_of a.index.records) in
    let t : Seen → Bool = λ a. served least a.any a.low in
    let h : l.j < length ix = c.loop-j-test.true in
    let w = walk f unseen (λ a. a.any) ss unseen ix in
    let w' = walk f unseen t ss unseen ix in
    let m0 : Seen = record { any = l.any; low = l.low } in
    let m1 : Seen = record { any = l.any || c.valued-any.result; low = c.max-low.result } in
    let m2 : Seen = record { any = c.if-ends.any; low = c.if-ends.low } in
    let ea : m1 ≡ f m0 (get_or ix l.j 0) = rw (c.max-low.ensures, c.valued-any.ensures, c.last_use.ensures) in
    elim c.if-ends.branch [
      | then-ends u ↦
          let eb : m2 ≡ unseen = rw (u.any-is, u.low-is) in
          let e = sym c.ends.ensures ∙ u.if-ends.true in (
            omega (arith, u.held-is, u.from-held.ensures, bit_small m1.any),
            omega (arith, u.live-is, u.from-live.ensures, bit_small u.served.result),
            turn_last f unseen (λ a. a.any) ss ix m0 l.j h l.held c.if-ends.held w m1 m2 l.invariant.2 ea e (u.held-is ∙ ap (λ (k : ℕ). l.held + k) u.from-held.ensures) eb,
            turn_last f unseen t ss ix m0 l.j h l.live c.if-ends.live w' m1 m2 l.invariant.3 ea e (u.live-is ∙ ap (λ (k : ℕ). l.live + k) (u.from-live.ensures ∙ ap from_bool u.served.ensures)) eb,
          )
      | else-ends u ↦
          let eb : m2 ≡ m1 = rw (u.any-is, u.low-is) in
          let e = sym c.ends.ensures ∙ u.if-ends.false in (
            omega (arith, u.held-is),
            omega (arith, u.live-is),
            turn_more f unseen (λ a. a.any) ss ix m0 l.j h l.held c.if-ends.held w m1 m2 l.invariant.2 ea e u.held-is eb,
            turn_more f unseen t ss ix m0 l.j h l.live c.if-ends.live w' m1 m2 l.invariant.3 ea e u.live-is eb,
          )
    ]

pub returns : goal.returns
returns c =
    let a = c.args in
    let rs = all_of a.index.records in
    let ss = slots_of a.index.records in
    let ix = a.index.numbers.now in
    let least = c.oldest-least.result in
    let t : Seen → Bool = λ a. served least a.any a.low in
    let m0 : Seen = record { any = c.loop-j.any; low = c.loop-j.low } in
    let b = lent_bytes a.index.records in
    let e : walk (sees rs) unseen (λ a. a.any) ss m0 (drop c.loop-j.j ix) ≡ 0 = walk_end (sees rs) unseen (λ a. a.any) ss ix m0 c.loop-j.j (omega arith) in
    let f : walk (sees rs) unseen t ss m0 (drop c.loop-j.j ix) ≡ 0 = walk_end (sees rs) unseen t ss ix m0 c.loop-j.j (omega arith) in
    let g : c.loop-j.held ≡ walk (sees rs) unseen (λ a. a.any) ss unseen ix = omega arith in
    let h : c.loop-j.live ≡ walk (sees rs) unseen t ss unseen ix = omega arith in (
      g ∙ held_say a.index.records.count a.index.records.bytes.now ix b c.args.index.records.within a.index.ordered,
      h ∙ ap (λ (o : ℕ). walk (sees rs) unseen (λ a. served o a.any a.low) ss unseen ix) c.oldest-least.ensures
          ∙ live_say a.index.records.count a.index.records.bytes.now ix b c.args.index.records.within a.index.ordered a.retention a.number,
    )
