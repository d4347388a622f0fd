-- `unchecked_advance::copy_back` meets its contract. Assumes nothing.
use Prim.Native.Nat.{ℕ, ◌-◌}
use mathlib.Core.Path.{◌≡◌, ap, ◌∙◌}
use native.Mathlib.Omega.{arith}
use lib.ListN.{take}
use Rattle.words.specs.Parts.{placed}
use Rattle.unchecked_advance.proofs.copy_back.Goals as goal

pub returns : goal.returns
returns c =
    let a = c.args in
    let e : a.n - 0 ≡ a.n = omega arith in
    c.place.ensures ∙ ap (λ (n : ℕ). placed 0 (take n a.work.now) a.s.now) e
