-- `words::move_down` meets its contract.
use native.Mathlib.Omega.{arith}
use mathlib.Core.Path.{◌≡◌, ap, ◌∙◌}
use mathlib.Core.List.{List}
use Prim.Native.Nat.{ℕ, ◌+◌, ◌-◌}
use native.Mathlib.Numerals.{add-one}
use lib.ListN.{length, drop, get_or, set, length-drop}
use lib.Seq.{paste, paste-suc, length-take-le}
use Rattle.words.specs.Parts.{part}
use Rattle.words.proofs.Pasting.{moved_read}
use Rattle.words.proofs.move_down.Goals as goal

pub loop-j-preserved : goal.loop-j-preserved
loop-j-preserved c = let l = c.loop-j in
    let a = c.args in
    let s = a.s.now in
    let p = part (a.at + a.by) a.n s in
    let m : length (drop (a.at + a.by) s) ≡ length s - (a.at + a.by) = length-drop (a.at + a.by) s in
    let h : length p ≡ a.n = length-take-le a.n (drop (a.at + a.by) s) (omega arith) in
    rw add-one (ap (λ (x : List ℕ). set x (a.at + l.j) (get_or x (a.at + a.by + l.j) 0)) l.invariant
    ∙ ap (set (paste s a.at p l.j) (a.at + l.j)) (moved_read s a.at a.by a.n l.j (omega arith) (omega arith))
    ∙ paste-suc s a.at p l.j 0 (omega arith) (omega arith))
