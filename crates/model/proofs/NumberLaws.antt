-- Numbers and their bytes: reading them back, both ways, at any width.
use Prim.Native.Nat.{ℕ, zero, suc, ◌+◌, ◌*◌, ◌/◌, ◌%◌, ◌^◌, ◌≤◌, ◌<◌}
use mathlib.Core.Path.{◌≡◌, refl, sym, ap, ap₂, ◌∙◌}
use mathlib.Core.List.{List, [], ◌∷◌, ◌++◌}
use native.Mathlib.Nat.{pow-suc}
use native.Mathlib.Omega.{arith}
use lib.ListN.{length, take, get_or, length-append}
use lib.Seq.{take-suc}
use Rattle.model.specs.Numbers.{be, num_from, num, Bytes}

-- One byte more at the end.
pub num_from_snoc : (a : ℕ) (l : List ℕ) (x : ℕ) → num_from a (l ++ (x ∷ [])) ≡ num_from a l * 256 + x
unfolding num_from
num_from_snoc a [] x = refl
num_from_snoc a (y ∷ l) x = num_from_snoc (a * 256 + y) l x

pub length_be : (n x : ℕ) → length (be n x) ≡ n
unfolding be
length_be zero x = refl
length_be (suc n) x = length-append (be n (x / 256)) (x % 256 ∷ []) ∙ omega (arith, length_be n (x / 256))

pub num_be : (n x : ℕ) → x < 256 ^ n → num (be n x) ≡ x
unfolding be num_from
num_be zero x h = omega arith
num_be (suc n) x h =
    let e : 256 ^ suc n ≡ 256 ^ n * 256 = pow-suc 256 n in
    let g : x / 256 < 256 ^ n = omega arith in
    num_from_snoc 0 (be n (x / 256)) (x % 256) ∙ ap (λ (k : ℕ). k * 256 + x % 256) (num_be n (x / 256) g) ∙ omega arith

-- The bytes of the number that n bytes give are those bytes.
pub be_num : (l : List ℕ) → Bytes l → (n : ℕ) → n ≤ length l → be n (num (take n l)) ≡ take n l
unfolding be
be_num l b zero h = refl
be_num l b (suc n) h =
    let x : ℕ = get_or l n 0 in
    let y : ℕ = num (take n l) in
    let g : x < 256 = b n in
    let p : take (suc n) l ≡ take n l ++ (x ∷ []) = take-suc l n 0 h in
    let q : num (take (suc n) l) ≡ y * 256 + x = ap num p ∙ num_from_snoc 0 (take n l) x in
    let high : (y * 256 + x) / 256 ≡ y = omega arith in
    let low : (y * 256 + x) % 256 ≡ x = omega arith in
    ap (be (suc n)) q ∙ ap₂ (λ (u v : ℕ). be n u ++ (v ∷ [])) high low ∙ ap (λ (k : List ℕ). k ++ (x ∷ [])) (be_num l b n (omega arith)) ∙ sym p
