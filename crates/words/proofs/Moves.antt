-- The laws of moving and placing bytes. Assumes nothing.
use mathlib.Core.Path.{◌≡◌, sym, ap, ap₂, ◌∙◌}
use mathlib.Core.List.{List, [], ◌∷◌, ◌++◌, append_assoc}
use Prim.Native.Nat.{ℕ, suc, ◌+◌, ◌≤◌, ◌<◌, ◌-◌}
use native.Mathlib.Omega.{arith}
use lib.ListN.{length, take, drop, get_or, set, length-append, get_or-append}
use lib.Seq.{take-set-lt, take-suc-set, set-append_left, append_snoc, drop-cons, get_or-take, length-take-le, drop_at, take-append-le, take-take}
use Rattle.words.specs.Parts.{part, placed}
use Rattle.words.specs.Moved.{moved}

-- the move half way: the bytes from place k of the run on have been moved
abbrev pub moving : ℕ → ℕ → ℕ → List ℕ → ℕ → List ℕ
moving at len by s k = take (at + by + k) s ++ part (at + k) (len - k) s ++ drop (at + by + len) s

module _ (at len by : ℕ) (s : List ℕ) (j : ℕ) (h : j < len) (fits : at + by + len ≤ length s) where
  moving_read : get_or (moving at len by s (j + 1)) (at + j) 0 ≡ get_or s (at + j) 0
  moving_read =
      let a = take (at + by + (j + 1)) s in
      let n : length a ≡ at + by + (j + 1) = length-take-le (at + by + (j + 1)) s (omega arith) in
      get_or-append (a ++ part (at + (j + 1)) (len - (j + 1)) s) (drop (at + by + len) s) 0 (at + j) (simp length-append (omega arith))
      ∙ get_or-append a (part (at + (j + 1)) (len - (j + 1)) s) 0 (at + j) (omega arith)
      ∙ get_or-take (at + by + (j + 1)) s (at + j) 0 (omega arith)

  moving_set : (v : ℕ) → set (moving at len by s (j + 1)) (at + by + j) v ≡ take (at + by + j) s ++ (v ∷ part (at + (j + 1)) (len - (j + 1)) s) ++ drop (at + by + len) s
  moving_set v =
      let m = at + by + j in
      let a = take (at + by + (j + 1)) s in
      let p = part (at + (j + 1)) (len - (j + 1)) s in
      let d = drop (at + by + len) s in
      let n : length a ≡ m + 1 = length-take-le (at + by + (j + 1)) s (omega arith) ∙ omega arith in
      let e : at + by + (j + 1) ≡ suc m = omega arith in
      let f : set a m v ≡ take m s ++ (v ∷ []) = ap (λ (k : ℕ). set (take k s) m v) e ∙ sym (take-set-lt (suc m) s m v (omega arith)) ∙ take-suc-set s m v (omega arith) in
      set-append_left (a ++ p) d m v (simp length-append (omega arith))
      ∙ ap (λ (x : List ℕ). x ++ d) (set-append_left a p m v (omega arith) ∙ ap (λ (x : List ℕ). x ++ p) f ∙ append_snoc (take m s) v p)

  moving_part : get_or s (at + j) 0 ∷ part (at + (j + 1)) (len - (j + 1)) s ≡ part (at + j) (len - j) s
  moving_part =
      let e : len - j ≡ suc (len - (j + 1)) = omega arith in
      let f : at + (j + 1) ≡ suc (at + j) = omega arith in
      let b : at + j < length s = omega arith in
      rw (e, f, drop-cons s (at + j) 0)

  -- a turn of the loop
  pub moving_step : set (moving at len by s (j + 1)) (at + by + j) (get_or (moving at len by s (j + 1)) (at + j) 0) ≡ moving at len by s j
  moving_step =
      ap (set (moving at len by s (j + 1)) (at + by + j)) moving_read ∙ moving_set (get_or s (at + j) 0)
      ∙ ap (λ (x : List ℕ). take (at + by + j) s ++ x ++ drop (at + by + len) s) moving_part

-- a run moved up by as many bytes as r has, and r in the gap
pub gap_filled : (at len w : ℕ) (r s : List ℕ) → length r ≡ w → at + w + len ≤ length s
    → placed at r (moved at len w s) ≡ take at s ++ r ++ part at len s ++ drop (at + w + len) s
gap_filled at len w r s e h =
    let a = take (at + w) s in
    let p = part at len s in
    let d = drop (at + w + len) s in
    let n : length a ≡ at + w = length-take-le (at + w) s (omega arith) in
    let m : at + length r ≡ at + w = omega arith in
    let t : take at (a ++ p ++ d) ≡ take at s =
    ap (take at) (append_assoc a p d) ∙ take-append-le at a (p ++ d) (omega arith) ∙ take-take at (at + w) s (omega arith) in
    let u : drop (at + length r) (a ++ p ++ d) ≡ p ++ d =
    ap (drop (at + length r)) (append_assoc a p d) ∙ drop_at a (p ++ d) (at + length r) (omega arith) in
    ap₂ (λ (x y : List ℕ). x ++ r ++ y) t u ∙ sym (append_assoc (take at s ++ r) p d)
