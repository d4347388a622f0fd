-- `words::move_up` meets its contract.
use mathlib.Core.Path.{◌≡◌, ap, ◌∙◌}
use mathlib.Core.List.{List}
use Prim.Native.Nat.{ℕ, ◌+◌, ◌-◌}
use native.Mathlib.Omega.{arith}
use lib.ListN.{get_or, set}
use Rattle.words.proofs.Moves.{moving, moving_step}
use Rattle.words.proofs.move_up.Goals as goal

pub loop-k-preserved : goal.loop-k-preserved
loop-k-preserved c = let l = c.loop-k in
    let a = c.args in
    let j = l.k - 1 in
    let e : l.k ≡ j + 1 = omega arith in
    let p = l.invariant ∙ ap (moving a.at a.n a.by a.s.now) e in
    ap (λ (x : List ℕ). set x (a.at + a.by + j) (get_or x (a.at + j) 0)) p ∙ moving_step a.at a.n a.by a.s.now j (omega arith) (omega arith)
