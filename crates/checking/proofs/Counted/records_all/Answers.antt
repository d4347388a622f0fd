-- `checking::Counted::records_all` meets its contract.
use Rattle.std.proofs.Common.{rules, refl}
use borrow.Author.Tests.{tests}
use native.Mathlib.Omega.{arith}
use mathlib.Core.Path.{◌∙◌}
use Prim.Native.Nat.{◌+◌, ◌*◌}
use lib.ListN.{drop, get_or}
use Rattle.std.proofs.lemmas.Iterator.{YieldsList-from_range}
use Rattle.std.proofs.lemmas.Iterator.Search.{all_from_yields_List}
use Rattle.layout.specs.Layout.{header_width, number_index, record_size, record_width, records_offset}
use Rattle.image.specs.Image.{words_of}
use Rattle.checking.specs.Checks.{record_right}
use Rattle.checking.proofs.Rows.{all_numbered}
use Rattle.checking.proofs.Counted.records_all.Goals as goal

pub returns : goal.returns
returns c =
    let a = c.args in
    let number = get_or (words_of header_width a.self.bytes.now) number_index 0 in
    all_from_yields_List (λ i. record_right number (words_of record_width (drop (records_offset + record_size * i) a.self.bytes.now))) _ _ _ c.all.ensures.ran (YieldsList-from_range 0 a.self.records a.self.records refl (omega arith)) (λ x b q k. search (rules, tests))
    ∙ all_numbered (record_right number) record_width a.self.records records_offset a.self.bytes.now
