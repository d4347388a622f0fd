-- `check_store::rules_right` meets its contract.
use native.Mathlib.Omega.{arith}
use mathlib.Core.Path.{ap, ◌∙◌}
use Prim.Native.Nat.{◌-◌}
use lib.ListN.{length, take, drop}
use lib.Dec.{lit<}
use Rattle.layout.specs.Layout.{ends_limit, header_width, records_offset}
use Rattle.model.specs.declared.delta_snapshot.Retention.{Retention}
use Rattle.rules.specs.Rules.{cross_rules}
use Rattle.image.specs.Area.{records_of}
use Rattle.order.proofs.RecordLaws.{part_bytes}
use Rattle.check_store.proofs.Links.{rules_law}
use Rattle.check_store.proofs.rules_right.Goals as goal

pub invariant_of-records-clause-are_bytes : goal.invariant_of-records-clause-are_bytes
invariant_of-records-clause-are_bytes c = part_bytes c.args.counted.bytes.now (λ j. omega (arith, c.args.counted.are_bytes j)) records_offset (length c.args.counted.bytes.now - records_offset)

pub returns : goal.returns
returns c =
    let counted = c.args.counted in
    let s = counted.bytes.now in
    c.cross_rules.ensures
    ∙ ap (λ (R : Retention). cross_rules R c.number.result c.word-top.result (records_of counted.records (take (length s - records_offset) (drop records_offset s)))) c.of_words-kept.ensures
    ∙ rules_law counted c.word-top.result c.word.result c.word-2.result c.number.result c.requires (c.word-top.ensures ends_limit (omega (arith, counted.shallow))) (c.word.ensures header_width (lit< tt)) (c.word-2.ensures header_width (lit< tt)) c.number.ensures
