-- `layers::LentGeneration::place_from` meets its contract.
use Prim.Native.Nat.{ℕ, ◌+◌, ◌*◌}
use mathlib.Core.Path.{ap, ◌∙◌}
use mathlib.Core.List.{List}
use native.Mathlib.Omega.{arith}
use lib.ListN.{length, length-drop}
use Rattle.layout.specs.Layout.{record_size, records_offset}
use Rattle.image.specs.WellFormed.{rising}
use Rattle.image.specs.Area.{records_of}
use Rattle.records.specs.Records.{place_in}
use Rattle.layers.proofs.Search.{lent_rest}
use Rattle.layers.proofs.LentGeneration.place_from.Goals as goal

pub find-requires : goal.find-requires
find-requires c =
    let b = c.args.self.bytes.now in
    let e = lent_rest c.args.start b in
    (omega (arith, ap length e, length-drop (records_offset + record_size * c.args.start) b, c.requires.0), ap (λ (l : List ℕ). rising (records_of c.args.n l)) e ∙ c.requires.1)

pub returns : goal.returns
returns c =
    let a = c.args in
    c.find.ensures ∙ ap (λ (l : List ℕ). place_in a.slot (records_of a.n l)) (lent_rest a.start a.self.bytes.now)
