-- `records::compare` meets its contract.
use mathlib.Core.Path.{ap, ◌∙◌}
use mathlib.Core.List.{List}
use lib.ListN.{drop}
use Prim.Native.Nat.{ℕ}
use Rattle.layout.specs.Layout.{slot_width}
use Rattle.image.specs.Image.{words_of}
use Rattle.records.specs.Records.{words_order}
use Rattle.records.proofs.Slots.{slot_order_words}
use Rattle.records.proofs.compare.Goals as goal

pub returns : goal.returns
returns c =
    let a = c.args in
    c.compare_words.ensures ∙ ap (λ (ws : List ℕ). words_order (words_of slot_width (drop a.at a.s.now)) ws) c.slot_words.ensures ∙ slot_order_words a.at a.s.now a.slot
