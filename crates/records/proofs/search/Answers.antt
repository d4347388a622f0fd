-- `records::search` meets its contract. Assumes nothing.
use mathlib.Core.Path.{◌≡◌, sym, ap, ◌∙◌}
use Prim.Native.Nat.{ℕ, ◌/◌, ◌+◌, ◌*◌, ◌≤◌, ◌<◌, ◌-◌}
use native.Mathlib.Nat.{mul-le-mul_right}
use native.Mathlib.Omega.{arith}
use borrow.Author.Rules.{rules}
use Rattle.model.specs.declared.delta_snapshot.Slot.{Slot}
use Rattle.model.specs.Layers.{Layer}
use Rattle.records.specs.Records.{slot_order, record_at, Entries}
use Rattle.records.proofs.Places.{order_less, order_equal, order_greater, place_at, place_absent, below_mid, above_mid, below_at}
use Rattle.records.proofs.search.Invariants.{Narrowed}
use Rattle.records.proofs.search.Goals as goal

abbrev half : ℕ → ℕ → ℕ
half lo hi = lo + (hi - lo) / 2

-- An entry ends where all entries end, or before.
entry_room : (wide n i : ℕ) → i < n → i * wide + wide ≤ n * wide
entry_room wide n i h = let k : (i + 1) * wide ≤ n * wide = mul-le-mul_right wide (omega arith) in omega (arith, k)

pub loop-lo-init : goal.loop-lo-init
loop-lo-init c = (search rules, search rules, (λ l e. record { below = λ j h. absurd (omega arith); above = λ j h m. absurd (omega arith) }))

pub overflow_mul-mid : goal.overflow_mul-mid
overflow_mul-mid c =
    let a = c.args in
    omega (arith, entry_room a.wide a.n (half c.loop-lo.lo c.loop-lo.hi) (omega arith), c.requires.1)

pub compare-requires : goal.compare-requires
compare-requires c =
    let a = c.args in
    omega (arith, entry_room a.wide a.n (half c.loop-lo.lo c.loop-lo.hi) (omega arith), c.requires.0, c.requires.1)

pub loop-lo-preserved-in-Less : goal.loop-lo-preserved-in-Less
loop-lo-preserved-in-Less c =
    let said : let a = c.args in
    (k : Layer) → Entries a.wide a.n a.s.now k → c.compare.result ≡ slot_order (record_at (half c.loop-lo.lo c.loop-lo.hi) k).slot a.slot = λ k e. let a = c.args in
    c.compare.ensures ∙ ap (λ (x : Slot). slot_order x a.slot) (e.slots_are (half c.loop-lo.lo c.loop-lo.hi) (omega arith)) in
    let a = c.args in
    let m = half c.loop-lo.lo c.loop-lo.hi in (
      search rules,
      search rules,
      (λ k e. let n = e.count_is in record {
        below = below_mid k a.slot m e.rises (omega arith) (order_less _ _ (sym (said k e) ∙ c.in-Less.is));
        above = (c.loop-lo.invariant.2 k e).above;
      }),
    )

pub returns-in-Equal : goal.returns-in-Equal
returns-in-Equal c k e =
    let said : let a = c.args in
    (k : Layer) → Entries a.wide a.n a.s.now k → c.compare.result ≡ slot_order (record_at (half c.loop-lo.lo c.loop-lo.hi) k).slot a.slot = λ k e. let a = c.args in
    c.compare.ensures ∙ ap (λ (x : Slot). slot_order x a.slot) (e.slots_are (half c.loop-lo.lo c.loop-lo.hi) (omega arith)) in
    let a = c.args in
    let m = half c.loop-lo.lo c.loop-lo.hi in
    let n = e.count_is in
    let q = order_equal _ _ (sym (said k e) ∙ c.in-Equal.is) in
    place_at k a.slot m (omega arith) (below_at k a.slot m e.rises (omega arith) q) q

pub loop-lo-preserved : goal.loop-lo-preserved
loop-lo-preserved c =
    let said : let a = c.args in
    (k : Layer) → Entries a.wide a.n a.s.now k → c.compare.result ≡ slot_order (record_at (half c.loop-lo.lo c.loop-lo.hi) k).slot a.slot = λ k e. let a = c.args in
    c.compare.ensures ∙ ap (λ (x : Slot). slot_order x a.slot) (e.slots_are (half c.loop-lo.lo c.loop-lo.hi) (omega arith)) in
    let a = c.args in
    let m = half c.loop-lo.lo c.loop-lo.hi in (
      search rules,
      search rules,
      (λ k e. let n = e.count_is in record {
        below = (c.loop-lo.invariant.2 k e).below;
        above = λ j i h. above_mid k a.slot m e.rises (order_greater _ _ (sym (said k e) ∙ c.in-Greater.is)) j i (omega arith);
      }),
    )

pub returns : goal.returns
returns c k e =
    let a = c.args in
    let n = e.count_is in
    let w : Narrowed a.slot a.n c.loop-lo.lo c.loop-lo.hi k = c.loop-lo.invariant.2 k e in
    place_absent k a.slot c.loop-lo.lo (omega arith) w.below (λ h. w.above c.loop-lo.lo (omega arith) (omega arith))
