-- Whether there is room for a record.
use Rattle.std.specs.Prelude.{Err, Ok}
use Prim.Native.Nat.{ℕ, ◌+◌, ◌≤◌, ◌<◌}
use mathlib.Core.Path.{◌≡◌, sym, ap, ap₂, ◌∙◌}
use mathlib.Core.Bool.{Bool, true, false}
use mathlib.Core.List.{List}
use native.Mathlib.Omega.{arith}
use lib.Dec.{leb}
use borrow.Author.Tests.{le-leb, leb-true, leb-false}
use Rattle.layout.specs.Layout.{capacity_offset, records_count_offset}
use Rattle.model.specs.Layers.{record_count}
use Rattle.model.specs.Store.{chain}
use Rattle.image.specs.Lent.{store_of, generation_of, Installed}
use Rattle.image.proofs.Areas.{GenerationBytes, word}
use Rattle.image.proofs.Lent.{store_in, generation_in}
use Rattle.records.specs.Records.{Found}
use Rattle.records.specs.Records.{count_after}

-- Room for the record at a place.
pub room_at : (b : List ℕ) (f : Found) (i : ℕ) → Installed b → f ≡ Ok i → true ≡ leb (count_after f (record_count (chain (generation_of b)))) (store_of b).config.capacity
room_at b f i h e =
    let k : GenerationBytes b (store_of b) (generation_of b) = generation_in b h in
    sym (ap (λ (x : Found). leb (count_after x (record_count (chain (generation_of b)))) (store_of b).config.capacity) e ∙ le-leb _ _ k.facts.few_records)

pub room_absent : (b : List ℕ) (f : Found) (i x y : ℕ) → Installed b → f ≡ Err i → x ≡ word records_count_offset b → y ≡ word capacity_offset b → leb (x + 1) y ≡ leb (count_after f (record_count (chain (generation_of b)))) (store_of b).config.capacity
room_absent b f i x y h e p q =
    let c : ℕ = record_count (chain (generation_of b)) in
    let n : ℕ = (store_of b).config.capacity in
    ap₂ (λ (k m : ℕ). leb (k + 1) m) (p ∙ (generation_in b h).records_word) (q ∙ (store_in b h.is_store).capacity_word) ∙ sym (ap (λ (x : Found). leb (count_after x c) n) e)

-- The number of records fits.
pub room_fits : (b : List ℕ) (x : ℕ) → Installed b → x ≡ word records_count_offset b → x ≤ 4096
room_fits b x h p =
    let k : GenerationBytes b (store_of b) (generation_of b) = generation_in b h in
    let z : (store_of b).config.capacity ≤ 4096 = (store_in b h.is_store).capacity_limit in
    omega (arith, p, k.records_word, k.facts.few_records)

-- The two ways of the answer.
pub room_yes : (r : Bool) (x y : ℕ) → r ≡ leb x y → r ≡ true → x ≤ y
room_yes r x y e t = leb-true x y (sym e ∙ t)

pub room_no : (r : Bool) (x y : ℕ) → r ≡ leb x y → r ≡ false → y < x
room_no r x y e t = leb-false x y (sym e ∙ t)
