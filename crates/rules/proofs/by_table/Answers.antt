-- `rules::by_table` meets its contract.
use mathlib.Core.Path.{sym}
use native.Mathlib.Omega.{arith}
use Rattle.order.specs.Lent.{all_of}
use Rattle.order.proofs.RecordLaws.{length_records_of}
use Rattle.chains.specs.Chains.{place_of}
use Rattle.chains.proofs.ChainLaws.{chained_none}
use Rattle.rules.proofs.LastLaws.{ruled_start, ruled_end, ruled_on, ruled_broken}
use Rattle.rules.proofs.by_table.Goals as goal

pub loop-i-init : goal.loop-i-init
loop-i-init c =
    let a = c.args in
    (chained_none a.records.bytes.now, λ R e. ruled_start R a.number a.top (all_of a.records))

pub returns-then-breaks_over : goal.returns-then-breaks_over
returns-then-breaks_over c =
    let a = c.args in
    sym (ruled_broken a.retention a.number a.top a.records.count c.loop-i.i (place_of c.in_ok-w.w.last) c.oldest-least.result c.breaks_over.result a.records.bytes.now c.loop-i-test.true c.in_ok-w.ensures
    (c.loop-i.invariant.1 a.retention c.oldest-least.ensures) c.oldest-least.ensures c.breaks_over.ensures c.if-breaks_over.true)

pub loop-i-preserved : goal.loop-i-preserved
loop-i-preserved c =
    let a = c.args in (
      c.link.ensures a.records.bytes.now c.bucket-b.ensures.0 c.loop-i.invariant.0,
      λ R d. ruled_on R a.number a.top a.records.count c.loop-i.i (place_of c.in_ok-w.w.last) c.oldest-least.result c.breaks_over.result a.records.bytes.now c.loop-i-test.true c.in_ok-w.ensures
          (c.loop-i.invariant.1 R d) d c.breaks_over.ensures c.if-breaks_over.false,
    )

pub returns : goal.returns
returns c =
    let a = c.args in
    sym (ruled_end a.retention a.number a.top c.loop-i.i (all_of a.records) (omega (arith, length_records_of a.records.count a.records.bytes.now)) (c.loop-i.invariant.1 a.retention c.oldest-least.ensures))
