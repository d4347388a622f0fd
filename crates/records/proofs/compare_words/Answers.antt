-- `records::compare_words` meets its contract: the first k words are equal, and the rest decides.
use Prim.Native.Nat.{◌<◌}
use mathlib.Core.Path.{refl, sym, ◌∙◌}
use native.Mathlib.Omega.{arith}
use lib.ListN.{drop}
use Rattle.layout.specs.Layout.{slot_width}
use Rattle.image.specs.Image.{words_of}
use Rattle.image.proofs.Words.{length_words_of}
use Rattle.records.proofs.Slots.{word_at, rest_differs, rest_same, rest_equal}
use Rattle.records.proofs.compare_words.Goals as goal

pub returns-then-x-y : goal.returns-then-x-y
returns-then-x-y c =
    let a = c.args in
    let k = c.loop-k.k in
    let xs = words_of slot_width (drop a.at a.s.now) in
    let h : k < slot_width = omega arith in
    let e = c.read_u64-x.ensures ∙ sym (word_at slot_width k a.at a.s.now h) in
    rest_differs xs a.ws k (omega (arith, h, length_words_of slot_width (drop a.at a.s.now))) (omega arith) e refl c.cmp.ensures c.if-x-y.true ∙ sym c.loop-k.invariant

pub loop-k-preserved : goal.loop-k-preserved
loop-k-preserved c =
    let a = c.args in
    let k = c.loop-k.k in
    let xs = words_of slot_width (drop a.at a.s.now) in
    let h : k < slot_width = omega arith in
    let e = c.read_u64-x.ensures ∙ sym (word_at slot_width k a.at a.s.now h) in
    c.loop-k.invariant ∙ rest_same xs a.ws k (omega (arith, h, length_words_of slot_width (drop a.at a.s.now))) (omega arith) e refl c.if-x-y.false

pub returns : goal.returns
returns c =
    let a = c.args in
    sym (c.loop-k.invariant ∙ rest_equal (words_of slot_width (drop a.at a.s.now)) a.ws c.loop-k.k (omega (arith, length_words_of slot_width (drop a.at a.s.now))) (omega arith))
