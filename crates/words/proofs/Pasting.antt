-- Bytes moved down.
use Prim.Native.Nat.{ℕ, ◌+◌, ◌-◌, ◌≤◌, ◌<◌}
use mathlib.Core.Path.{◌≡◌, sym, ap, ◌∙◌}
use mathlib.Core.List.{List}
use native.Mathlib.Omega.{arith}
use lib.ListN.{length, drop, get_or, length-drop}
use lib.Seq.{paste, drop-paste, get_or-drop, get_or-take, length-take-le}
use Rattle.words.specs.Parts.{part}

-- What a move down reads has not been written yet.
pub moved_read : (s : List ℕ) (at by n j : ℕ) → j < n → at + by + n ≤ length s
    → get_or (paste s at (part (at + by) n s) j) (at + by + j) 0 ≡ get_or (part (at + by) n s) j 0
moved_read s at by n j h k =
    let p = part (at + by) n s in
    let m : length (drop (at + by) s) ≡ length s - (at + by) = length-drop (at + by) s in
    let l : length p ≡ n = length-take-le n (drop (at + by) s) (omega arith) in
    let e : at + by + j ≡ at + j + by = omega arith in
    let d : drop (at + j) (paste s at p j) ≡ drop (at + j) s = drop-paste s at p j (omega arith) (omega arith) in
    ap (λ (i : ℕ). get_or (paste s at p j) i 0) e
    ∙ sym (get_or-drop (at + j) (paste s at p j) by 0) ∙ ap (λ (x : List ℕ). get_or x by 0) d ∙ get_or-drop (at + j) s by 0
    ∙ ap (λ (i : ℕ). get_or s i 0) (sym e)
    ∙ sym (get_or-drop (at + by) s j 0) ∙ sym (get_or-take n (drop (at + by) s) j 0 h)
