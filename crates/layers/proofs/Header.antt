-- The header of a store in lent bytes, as the functions read it.
use Prim.Native.Nat.{ℕ, zero, suc, ◌+◌, ◌-◌, ◌*◌, ◌≤◌}
use mathlib.Core.Path.{◌≡◌, refl, sym, ap, ap₂, ◌∙◌}
use mathlib.Core.Bool.{cond}
use mathlib.Core.List.{List}
use native.Mathlib.Omega.{arith}
use lib.Dec.{eqb}
use lib.ListN.{length}
use Rattle.layout.specs.Layout.{depth_offset, ends_limit, ends_offset, idle_offset, records_count_offset, records_offset, retention_offset}
use Rattle.model.specs.declared.delta_snapshot.Retention.TheVariants.{Unbounded, IdleBlocks}
use Rattle.model.specs.Layers.{Layer, record_count}
use Rattle.image.specs.Area.{layers_below}
use Rattle.image.specs.Lent.{store_of, generation_of, IsStore, Installed}
use Rattle.image.proofs.Areas.{word, StoreBytes, GenerationBytes, retention_read, below_none}
use Rattle.image.proofs.Lent.{store_in, generation_in}

-- There is room for the header.
pub header_room : (b : List ℕ) → IsStore b → records_offset ≤ length b
header_room b e = omega (arith, (store_in b e).long)

-- The retention by words 3 and 4.
pub retention_is : (b : List ℕ) → IsStore b → cond (eqb (word retention_offset b) 0) Unbounded (IdleBlocks (word idle_offset b)) ≡ (store_of b).config.retention
retention_is b e =
    let h : StoreBytes b (store_of b) = store_in b e in
    ap₂ (λ (x y : ℕ). cond (eqb x 0) Unbounded (IdleBlocks y)) h.retention_word h.idle_word ∙ retention_read (store_of b).config.retention

-- The number of layers by word 12.
pub layers_limit : (b : List ℕ) → Installed b → length (generation_of b).base ≤ ends_limit
layers_limit b i = let h : GenerationBytes b (store_of b) (generation_of b) = generation_in b i in omega arith

pub layers_are : (b : List ℕ) (x : ℕ) → Installed b → x ≡ word depth_offset b → x + 1 ≡ length (generation_of b).base
layers_are b x i e = let h : GenerationBytes b (store_of b) (generation_of b) = generation_in b i in omega arith

-- Where a layer starts, by the end of the layer below.
pub start_zero : (b : List ℕ) (k : ℕ) → Installed b → k ≡ 0 → 0 ≡ record_count (layers_below k (generation_of b).base)
unfolding record_count
start_zero b k i e =
    let ls : List Layer = (generation_of b).base in
    sym (ap (λ (j : ℕ). record_count (layers_below j ls)) e ∙ ap record_count (below_none ls))

pub start_word : (b : List ℕ) (k : ℕ) → Installed b → (k ≡ 0 → ⊥) → k ≤ length (generation_of b).base → word (ends_offset - 8 + 8 * k) b ≡ record_count (layers_below k (generation_of b).base)
start_word b zero i n h = absurd (n refl)
start_word b (suc k) i n h =
    let e : ends_offset - 8 + 8 * suc k ≡ ends_offset + 8 * k = omega arith in
    ap (λ (x : ℕ). word x b) e ∙ (generation_in b i).end_word k (omega arith)

-- The top's records are those past the base's.
pub top_is : (b : List ℕ) (x : ℕ) → Installed b → x ≡ word records_count_offset b → x ≡ length (generation_of b).top + record_count (generation_of b).base
unfolding record_count
top_is b x i e = e ∙ (generation_in b i).records_word
