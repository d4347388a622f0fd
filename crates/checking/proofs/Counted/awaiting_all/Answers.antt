-- `checking::Counted::awaiting_all` meets its contract.
use Rattle.std.proofs.Common.{rules, refl}
use borrow.Author.Tests.{tests}
use native.Mathlib.Omega.{arith}
use mathlib.Core.Path.{◌∙◌}
use Prim.Native.Nat.{◌+◌, ◌*◌}
use lib.ListN.{drop}
use Rattle.std.proofs.lemmas.Iterator.{YieldsList-from_range}
use Rattle.std.proofs.lemmas.Iterator.Search.{all_from_yields_List}
use Rattle.layout.specs.Layout.{awaiting_offset, awaiting_size, awaiting_width}
use Rattle.image.specs.Image.{words_of}
use Rattle.checking.specs.Checks.{awaiting_right}
use Rattle.checking.proofs.Rows.{all_numbered}
use Rattle.checking.proofs.Counted.awaiting_all.Goals as goal

pub returns : goal.returns
returns c =
    let a = c.args in
    all_from_yields_List (λ i. awaiting_right (words_of awaiting_width (drop (awaiting_offset + awaiting_size * i) a.self.bytes.now))) _ _ _ c.all.ensures.ran (YieldsList-from_range 0 a.self.awaiting a.self.awaiting refl (omega arith)) (λ x b q k. search (rules, tests))
    ∙ all_numbered awaiting_right awaiting_width a.self.awaiting awaiting_offset a.self.bytes.now
