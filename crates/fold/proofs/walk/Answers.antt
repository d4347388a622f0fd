-- `fold::walk` meets its contract.
use mathlib.Core.Path.{◌≡◌, sym, ap, ◌∙◌}
use mathlib.Core.Bool.{Bool, ◌||◌, cond}
use mathlib.Core.List.{[]}
use Prim.Native.Nat.{ℕ, ◌+◌, ◌*◌, ◌≤◌, ◌<◌, ◌-◌}
use native.Mathlib.Omega.{arith}
use lib.Dec.{ltb}
use lib.ListN.{length, get_or, drop}
use Rattle.order.specs.Lent.{slots_of}
use Rattle.layout.specs.Layout.{record_size}
use Rattle.model.specs.declared.delta_snapshot.Content.{Content}
use Rattle.model.specs.Contents.{has_value}
use Rattle.model.specs.Layers.{Layer}
use Rattle.image.specs.Area.{records_of}
use Rattle.order.specs.Index.{numbers, no_record}
use Rattle.order.proofs.RecordLaws.{lent_bytes}
use Rattle.order.proofs.MergeLaws.{ordered_at}
use Rattle.fold.proofs.walk.Goals.{then-has, else-has, then-ends, else-ends}
use Rattle.order.proofs.WalkLaws.{turn_last, turn_more, bit_small, walk_end}
use Rattle.fold.specs.Stored.{stored, Stored}
use Rattle.fold.proofs.EmitLaws.{emit_end}
use Rattle.fold.proofs.BestLaws.{Best, begin, betters, gives, drops}
use Rattle.fold.proofs.StoredLaws.{stored_nil, stored_with, kept_small}
use Rattle.fold.proofs.TurnLaws.{gathered, to_give, to_drop, gives_all, drops_all, choose_best, fold_last, fold_more}
use Rattle.fold.proofs.walk.Goals as goal

pub valued-has-requires : goal.valued-has-requires
valued-has-requires c =
    let a = c.args in
    ordered_at a.index.records.count c.loop-j.j (slots_of a.index.records) a.index.numbers.now a.index.ordered c.loop-j-test.true

pub last_use-requires : goal.last_use-requires
last_use-requires c =
    let a = c.args in
    ordered_at a.index.records.count c.loop-j.j (slots_of a.index.records) a.index.numbers.now a.index.ordered c.loop-j-test.true

pub ends-requires : goal.ends-requires
ends-requires c =
    let a = c.args in
    c.loop-j-test.true

pub settle-left-requires : goal.settle-left-requires
settle-left-requires c =
    let a = c.args in
    let named : get_or a.index.numbers.now c.loop-j.j 0 < a.index.records.count = ordered_at a.index.records.count c.loop-j.j (slots_of a.index.records) a.index.numbers.now a.index.ordered c.loop-j-test.true in
    let chosen : c.if-has.at < a.index.records.count = elim c.if-has.branch [ then-has u ↦ omega (arith, u.at-is) | else-has u ↦ omega (arith, u.at-is) ] in
    (chosen, omega (arith, c.requires))

pub loop-j-preserved : goal.loop-j-preserved
loop-j-preserved c =
    let a = c.args in
    let l = c.loop-j in
    let least = c.oldest-least.result in
    let s = a.index.records.bytes.now in
    let rs = records_of a.index.records.count s in
    let ss = numbers a.index.records.count s in
    let ix = a.index.numbers.now in
    let h : l.j < length ix = c.loop-j-test.true in
    let r = get_or ix l.j 0 in
    let named : r < a.index.records.count = ordered_at a.index.records.count l.j ss ix a.index.ordered h in
    let chosen : c.if-has.at ≡ cond c.valued-has.result r l.at = elim c.if-has.branch [ then-has u ↦ rw u.if-has.true u.at-is | else-has u ↦ rw u.if-has.false u.at-is ] in
    let below : c.if-has.at ≤ a.index.records.count - 1 = elim c.if-has.branch [ then-has u ↦ omega (arith, u.at-is) | else-has u ↦ omega (arith, u.at-is) ] in
    let q : Content = (get_or rs r no_record).content in
    let best : get_or rs c.if-has.at no_record ≡ cond (has_value q) (get_or rs r no_record) (get_or rs l.at no_record) =
    ap (λ (k : ℕ). get_or rs k no_record) (chosen ∙ ap (λ (b : Bool). cond b r l.at) c.valued-has.ensures) ∙ choose_best rs (has_value q) r l.at in
    let b0 : Best = gathered rs l.any l.low l.at in
    let b1 : Best = gathered rs (l.any || c.valued-has.result) c.max-low.result c.if-has.at in
    let b2 : Best = gathered rs c.if-ends.any c.if-ends.low c.if-ends.at in
    let ea : b1 ≡ betters rs b0 r = rw (c.max-low.ensures, c.valued-has.ensures, c.last_use.ensures, best) in
    let whole = stored 0 (to_give least a.index.records.count s (begin rs) ix) a.out.now in
    let m = length (to_give least a.index.records.count s (begin rs) ix) in
    let t = to_drop least a.index.records.count s (begin rs) ix in
    let room : (l.left + 1) * record_size ≤ length l.out = omega (arith, c.requires) in
    elim c.if-ends.branch [
      | then-ends u ↦
          let o = u.settle-left.new.out in
          let eb : b2 ≡ begin rs = rw (u.any-is, u.low-is, u.at-is) in
          let e = sym c.ends.ensures ∙ u.if-ends.true in
          let p : Stored l.left u.settle-left.result (gives least b1) l.out o = rw u.served.ensures at u.settle-left.ensures in
          let z = fold_last least a.index.records.count s ix b0 l.j h l.left u.settle-left.result m l.out o whole b1 b2 ea l.invariant.3 l.invariant.4 eb e p room in (
            omega (arith, u.left-is, p.next_is, kept_small u.served.result c.max-low.result (get_or rs c.if-has.at no_record)),
            omega (arith, u.dropped-is, u.from-dropped.ensures, bit_small (ltb c.max-low.result least)),
            omega (arith, u.at-is),
            rw u.left-is z.0,
            rw (u.left-is, u.out-is) z.1,
            turn_last (betters rs) (begin rs) (drops least) ss ix b0 l.j h l.dropped c.if-ends.dropped t b1 b2 l.invariant.5 ea e (u.dropped-is ∙ ap (λ (i : ℕ). l.dropped + i) u.from-dropped.ensures) eb,
          )
      | else-ends u ↦
          let eb : b2 ≡ b1 = rw (u.any-is, u.low-is, u.at-is) in
          let e = sym c.ends.ensures ∙ u.if-ends.false in
          let z = fold_more least a.index.records.count s ix b0 l.j h l.left c.if-ends.left m l.out c.if-ends.out whole b1 b2 ea l.invariant.3 l.invariant.4 eb e u.left-is u.out-is in (
            omega (arith, u.left-is),
            omega (arith, u.dropped-is),
            omega (arith, u.at-is, below),
            z.0,
            z.1,
            turn_more (betters rs) (begin rs) (drops least) ss ix b0 l.j h l.dropped c.if-ends.dropped t b1 b2 l.invariant.5 ea e u.dropped-is eb,
          )
    ]

pub returns : goal.returns
returns c =
    let a = c.args in
    let s = a.index.records.bytes.now in
    let rs = records_of a.index.records.count s in
    let ss = numbers a.index.records.count s in
    let ix = a.index.numbers.now in
    let least = c.oldest-least.result in
    let b = lent_bytes a.index.records in
    let b0 : Best = gathered rs c.loop-j.any c.loop-j.low c.loop-j.at in
    let e : to_give least a.index.records.count s b0 (drop c.loop-j.j ix) ≡ [] = emit_end (betters rs) (begin rs) (gives least) ss ix b0 c.loop-j.j (omega arith) in
    let g : to_drop least a.index.records.count s b0 (drop c.loop-j.j ix) ≡ 0 = walk_end (betters rs) (begin rs) (drops least) ss ix b0 c.loop-j.j (omega arith) in
    let f = ap (λ (o : ℕ). to_give o a.index.records.count s (begin rs) ix) c.oldest-least.ensures ∙ gives_all a.retention a.number a.index.records.count s ix b a.index.records.within a.index.ordered in
    let z : c.loop-j.left ≡ c.loop-j.left + 0 = omega arith in
    let y : c.loop-j.dropped ≡ to_drop least a.index.records.count s (begin rs) ix = omega arith in (
      sym (stored_nil c.loop-j.left c.loop-j.out) ∙ ap (λ (x : Layer). stored c.loop-j.left x c.loop-j.out) (sym e) ∙ c.loop-j.invariant.4 ∙ ap (λ (x : Layer). stored 0 x a.out.now) f ∙ stored_with _ a.out.now,
      z ∙ ap (λ (x : Layer). c.loop-j.left + length x) (sym e) ∙ c.loop-j.invariant.3 ∙ ap length f,
      y ∙ ap (λ (o : ℕ). to_drop o a.index.records.count s (begin rs) ix) c.oldest-least.ensures ∙ drops_all a.retention a.number a.index.records.count s ix b a.index.records.within a.index.ordered,
    )
