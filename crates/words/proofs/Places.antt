-- A field of a record written where it lies is the record replaced by one with that field. Assumes nothing.
use mathlib.Core.Path.{◌≡◌, sym, ap, ap₂, ◌∙◌}
use mathlib.Core.List.{List, ◌++◌, append_assoc}
use Prim.Native.Nat.{ℕ, suc, ◌+◌, ◌*◌, ◌/◌, ◌≤◌, ◌<◌, ◌-◌}
use native.Mathlib.Nat.{suc-mul, div-mul-le_self, mul-le-mul_right}
use native.Mathlib.Omega.{arith}
use lib.ListN.{length, take, drop, length-append, length-take, length-drop, take-append-drop}
use lib.Seq.{take-add, take-take, drop-drop, drop-append-le, length-take-le}
use borrow.Rule.Slice.PartMut.{put_mid}
use Rattle.std.specs.Int.{bytes_high_first}
use Rattle.std.proofs.lemmas.Grind.{common_steps}
use Rattle.model.specs.Numbers.{be}
use Rattle.model.proofs.NumberLaws.{length_be}
use Rattle.words.specs.Parts.{part, placed}
use Rattle.words.proofs.Numbers.{bytes_are}

pub placed_length : (at : ℕ) (v s : List ℕ) → at + length v ≤ length s → length (placed at v s) ≡ length s
placed_length at v s h = simp (length-append, length-take, length-drop) (omega arith)

pub placed_field : (b o w : ℕ) (v s : List ℕ) → o + length v ≤ w → b + w ≤ length s → placed (b + o) v s ≡ placed b (placed o v (part b w s)) s
placed_field b o w v s h k =
    let p = part b w s in
    let d = drop (b + w) s in
    let m : length (drop b s) ≡ length s - b = length-drop b s in
    let n : length p ≡ w = length-take-le w (drop b s) (omega arith) in
    let q : length (placed o v p) ≡ w = placed_length o v p (omega arith) ∙ n in
    let e : drop b s ≡ p ++ d = sym (take-append-drop w (drop b s)) ∙ ap (λ (x : List ℕ). p ++ x) (drop-drop w b s) in
    let t : take (b + o) s ≡ take b s ++ take o p = take-add b o s ∙ ap (λ (x : List ℕ). take b s ++ x) (sym (take-take o w (drop b s) (omega arith))) in
    let g : b + o + length v ≡ b + (o + length v) = omega arith in
    let u : drop (b + o + length v) s ≡ drop (o + length v) p ++ d =
    ap (λ (i : ℕ). drop i s) g ∙ sym (drop-drop (o + length v) b s) ∙ ap (drop (o + length v)) e ∙ drop-append-le (o + length v) p d (omega arith) in
    let left : placed (b + o) v s ≡ take b s ++ take o p ++ v ++ (drop (o + length v) p ++ d) = ap₂ (λ (x y : List ℕ). x ++ v ++ y) t u in
    let mid : take b s ++ take o p ++ v ++ (drop (o + length v) p ++ d) ≡ take b s ++ placed o v p ++ d = simp append_assoc in
    left ∙ mid ∙ ap (λ (i : ℕ). take b s ++ placed o v p ++ drop (b + i) s) (sym q)

-- The bytes that `to_be_bytes` gives, copied to a part of a slice.
pub placed_bytes : (at n x : ℕ) (s t : List ℕ) → t ≡ bytes_high_first n x → put_mid at (at + n - at) s t ≡ placed at (be n x) s
placed_bytes at n x s t e =
    let u : t ≡ be n x = e ∙ bytes_are n x in
    let l : length (be n x) ≡ n = length_be n x in
    grind (arith, common_steps)

-- An entry of w bytes lies within the bytes that hold it.
pub entry_fits : (w k n : ℕ) → k < n / w → k * w + w ≤ n
entry_fits w k n h =
    let p : suc k * w ≤ n / w * w = mul-le-mul_right w h in
    let q : n / w * w ≤ n = div-mul-le_self n w in
    let e : suc k * w ≡ k * w + w = suc-mul k w in
    omega arith
