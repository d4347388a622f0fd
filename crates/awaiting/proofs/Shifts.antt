-- An entry taken away, in the steps of the code.
use Prim.Native.Nat.{ℕ, ◌+◌, ◌-◌, ◌*◌, ◌≤◌, ◌<◌}
use mathlib.Core.Path.{◌≡◌, sym, ap, ◌∙◌}
use mathlib.Core.List.{List, ◌++◌, append_assoc}
use native.Mathlib.Omega.{arith}
use lib.ListN.{length, take, drop, replicate, length-append, length-drop, length-replicate}
use lib.Seq.{length-take-le}
use Rattle.layout.specs.Layout.{awaiting_size}
use Rattle.words.specs.Parts.{part, placed}
use Rattle.image.proofs.Written.{placed_after}

pub closed_up : (i n : ℕ) (s : List ℕ) {s1 s2 : List ℕ} → i < n → n * awaiting_size ≤ length s
    → s1 ≡ placed (i * awaiting_size) (part (i * awaiting_size + awaiting_size) ((n - (i + 1)) * awaiting_size) s) s → s2 ≡ placed ((n - 1) * awaiting_size) (replicate awaiting_size 0) s1
    → s2 ≡ take (i * awaiting_size) s ++ part ((i + 1) * awaiting_size) ((n - (i + 1)) * awaiting_size) s ++ replicate awaiting_size 0 ++ drop (n * awaiting_size) s
closed_up i n s h k e f =
    let p = part (i * awaiting_size + awaiting_size) ((n - (i + 1)) * awaiting_size) s in
    let z : List ℕ = replicate awaiting_size 0 in
    let a = take (i * awaiting_size) s in
    let d : length (drop (i * awaiting_size + awaiting_size) s) ≡ length s - (i * awaiting_size + awaiting_size) = length-drop (i * awaiting_size + awaiting_size) s in
    let l : length p ≡ (n - (i + 1)) * awaiting_size = length-take-le ((n - (i + 1)) * awaiting_size) (drop (i * awaiting_size + awaiting_size) s) (omega arith) in
    let y : length z ≡ awaiting_size = length-replicate {A = ℕ} awaiting_size 0 in
    let m : length (p ++ z) ≡ length p + length z = length-append p z in
    let o : i * awaiting_size + length (p ++ z) ≡ n * awaiting_size = omega arith in
    let g : i * awaiting_size + awaiting_size ≡ (i + 1) * awaiting_size = omega arith in
    f ∙ ap (placed ((n - 1) * awaiting_size) z) e ∙ placed_after (i * awaiting_size) ((n - 1) * awaiting_size) p z s (omega arith) (omega arith)
    ∙ ap (λ (j : ℕ). a ++ (p ++ z) ++ drop j s) o
    ∙ ap (λ (x : List ℕ). x ++ drop (n * awaiting_size) s) (sym (append_assoc a p z))
    ∙ ap (λ (j : ℕ). a ++ part j ((n - (i + 1)) * awaiting_size) s ++ z ++ drop (n * awaiting_size) s) g
