-- `layers::LentGeneration::highest` meets its contract.
use Prim.Native.Nat.{ℕ, ◌+◌, ◌-◌, ◌<◌}
use mathlib.Core.Path.{◌≡◌, sym, ap, ◌∙◌}
use native.Mathlib.Omega.{arith}
use Rattle.model.specs.Layers.{record_count}
use Rattle.image.specs.Area.{layers_below}
use Rattle.image.specs.Lent.{generation_of}
use Rattle.layers.proofs.Search.{passed_start, passed_all, passed_empty, passed_highest, first_below, none_below}
use Rattle.layers.proofs.LentGeneration.+highest.Goals as goal

pub returns-then-k-eq0 : goal.returns-then-k-eq0
returns-then-k-eq0 t c = let a = c.args in passed_all a.slot a.k a.k (generation_of a.self.bytes.now).base (passed_start _ _ _) c.if-k-eq0.true

pub layer_place-place-requires : goal.layer_place-place-requires
layer_place-place-requires t c =
    let k = c.args.k in
    let z : 0 < k = omega (arith, c.if-k-eq0.false) in
    let e : k ≡ k - 1 + 1 = omega arith in
    (omega (arith, c.requires), c.layer_start-start.ensures, c.layer_start.ensures ∙ ap (λ (i : ℕ). record_count (layers_below i (generation_of c.args.self.bytes.now).base)) e)

pub returns-then-start-eq0 : goal.returns-then-start-eq0
returns-then-start-eq0 t c =
    let a = c.args in
    let z : 0 < a.k = omega (arith, c.if-k-eq0.false) in
    let p = none_below a.self.bytes.now a.slot a.k a.k c.args.self.installed (passed_start _ _ _) z c.requires _ c.layer_place-place.ensures _ c.in_default.is in
    passed_empty a.slot (a.k - 1) a.k (generation_of a.self.bytes.now).base p (sym c.layer_start-start.ensures ∙ c.if-start-eq0.true)

pub highest-requires : goal.highest-requires
highest-requires t c =
    let z : 0 < c.args.k = omega (arith, c.if-k-eq0.false) in
    (omega arith, omega (arith, c.requires))

pub returns-in_default : goal.returns-in_default
returns-in_default t c =
    let a = c.args in
    let z : 0 < a.k = omega (arith, c.if-k-eq0.false) in
    let p = none_below a.self.bytes.now a.slot a.k a.k c.args.self.installed (passed_start _ _ _) z c.requires _ c.layer_place-place.ensures _ c.in_default.is in
    passed_highest c.highest.result a.slot (a.k - 1) a.k a.self.bytes.now p (omega arith) c.highest.ensures

pub overflow_add-result : goal.overflow_add-result
overflow_add-result t c =
    let a = c.args in
    let z : 0 < a.k = omega (arith, c.if-k-eq0.false) in
    let f = first_below a.self.bytes.now a.slot a.k a.k c.args.self.installed (passed_start _ _ _) z c.requires _ c.layer_place-place.ensures _ _ c.layer_start-start.ensures c.in-Ok.is in
    omega (arith, f.room)

pub returns : goal.returns
returns t c =
    let a = c.args in
    let z : 0 < a.k = omega (arith, c.if-k-eq0.false) in
    let f = first_below a.self.bytes.now a.slot a.k a.k c.args.self.installed (passed_start _ _ _) z c.requires _ c.layer_place-place.ensures _ _ c.layer_start-start.ensures c.in-Ok.is in
    (omega arith, f)
