-- The number of a part of bytes: one byte more, two parts joined; the bytes of a number, and the number that bytes give, as std's methods have them.
use mathlib.Core.Path.{◌≡◌, refl, ap, ap₂, subst, ◌∙◌}
use mathlib.Core.List.{List, [], ◌∷◌, ◌++◌}
use Prim.Native.Nat.{ℕ, zero, suc, ◌+◌, ◌*◌, ◌/◌, ◌%◌, ◌^◌, ◌≤◌, ◌<◌}
use native.Mathlib.Nat.{pow-suc, pow-le-pow_right, mul_comm, mul_assoc, mul-one, add-zero, div-div-eq-div-mul}
use native.Mathlib.Numerals.{add-one}
use native.Mathlib.Omega.{arith}
use mir.Syntax.{w32, w64}
use lib.Dec.{lit<}
use lib.ListN.{length, drop, get_or, length-drop}
use lib.Seq.{take-suc, get_or-drop}
use Rattle.std.specs.Int.{byte_at, bytes_high_first, from_be_bytes}
use Rattle.model.specs.Numbers.{be, num_from, num, Bytes}
use Rattle.model.proofs.NumberLaws.{num_from_snoc}
use Rattle.words.specs.Parts.{part}

pub num_snoc : (l : List ℕ) (x : ℕ) → num (l ++ (x ∷ [])) ≡ num l * 256 + x
num_snoc l x = num_from_snoc 0 l x

-- one byte more of a part
pub part_more : (at i : ℕ) (s : List ℕ) → at + i < length s → part at (i + 1) s ≡ part at i s ++ (get_or s (at + i) 0 ∷ [])
part_more at i s h = rw (add-one, take-suc (drop at s) i 0 (simp length-drop (omega arith)), get_or-drop)

pub num_more : (at i x : ℕ) (s : List ℕ) → at + i < length s → x ≡ num (part at i s) → x * 256 + get_or s (at + i) 0 ≡ num (part at (i + 1) s)
num_more at i x s h e = rw (part_more at i s, num_snoc, e)

-- a number of i digits with one digit more
pub more_fits : (i x y : ℕ) → x < 256 ^ i → y < 256 → x * 256 + y < 256 ^ (i + 1)
more_fits i x y h k = rw (add-one, pow-suc) (omega arith)

-- a number of fewer than eight digits
pub seven : (i x : ℕ) → x < 256 ^ i → i < 8 → x < 2 ^ 56
seven i x h k =
    let q : i ≤ 7 = omega arith in
    let p : 256 ^ i ≤ 256 ^ 7 = pow-le-pow_right (lit< tt) q in
    omega arith

-- the first i bytes of a part, then k more
pub num_join : (at i k : ℕ) (s : List ℕ) → at + (i + k) ≤ length s
    → num (part at (i + k) s) ≡ num (part at i s) * 256 ^ k + num (part (at + i) k s)
unfolding num_from
num_join at i zero s h = simp (add-zero, mul-one)
num_join at i (suc k) s h =
    let ih : num (part at (i + k) s) ≡ num (part at i s) * 256 ^ k + num (part (at + i) k s) = num_join at i k s (omega arith) in
    let p : num (part at (i + k) s) * 256 + get_or s (at + (i + k)) 0 ≡ num (part at (i + k + 1) s) = num_more at (i + k) _ s (omega arith) refl in
    let q : num (part (at + i) k s) * 256 + get_or s (at + i + k) 0 ≡ num (part (at + i) (k + 1) s) = num_more (at + i) k _ s (omega arith) refl in
    let e : i + k + 1 ≡ i + suc k = omega arith in
    let f : k + 1 ≡ suc k = omega arith in
    let g : at + (i + k) ≡ at + i + k = omega arith in
    let b : get_or s (at + (i + k)) 0 ≡ get_or s (at + i + k) 0 = ap (λ (n : ℕ). get_or s n 0) g in
    let m : num (part at i s) * 256 ^ suc k ≡ num (part at i s) * 256 ^ k * 256 = rw (pow-suc 256 k, mul_assoc) in
    let p' : num (part at (i + k + 1) s) ≡ num (part at (i + suc k) s) = ap (λ (n : ℕ). num (part at n s)) e in
    let q' : num (part (at + i) (k + 1) s) ≡ num (part (at + i) (suc k) s) = ap (λ (n : ℕ). num (part (at + i) n s)) f in
    omega arith

-- the number of k bytes is below 256^k
pub num_below : (at k : ℕ) (s : List ℕ) → Bytes s → at + k ≤ length s → num (part at k s) < 256 ^ k
unfolding num_from
num_below at zero s f h = omega arith
num_below at (suc k) s f h =
    let e : num (part at k s) * 256 + get_or s (at + k) 0 ≡ num (part at (k + 1) s) = num_more at k (num (part at k s)) s (omega arith) refl in
    let m : num (part at k s) * 256 + get_or s (at + k) 0 < 256 ^ (k + 1) = more_fits k (num (part at k s)) (get_or s (at + k) 0) (num_below at k s f (omega arith)) (f (at + k)) in
    subst (λ (n : ℕ). num (part at n s) < 256 ^ n) (add-one k) (subst (λ (x : ℕ). x < 256 ^ (k + 1)) e m)

-- std's bytes of a number, the highest first, are the number's
high_byte : (k n : ℕ) → byte_at (suc k) n ≡ byte_at k (n / 256)
high_byte zero n = refl
high_byte (suc k) n = rw (div-div-eq-div-mul, pow-suc) (ap (λ (m : ℕ). n / m % 256) (mul_comm (256 ^ suc k) 256))

high_bytes : (k n : ℕ) → bytes_high_first (suc k) n ≡ bytes_high_first k (n / 256) ++ (n % 256 ∷ [])
high_bytes zero n = refl
high_bytes (suc k) n = ap₂ (λ (x : ℕ) (l : List ℕ). x ∷ l) (high_byte k n) (high_bytes k n)

pub bytes_are : (k n : ℕ) → bytes_high_first k n ≡ be k n
unfolding be
bytes_are zero n = refl
bytes_are (suc k) n = high_bytes k n ∙ ap (λ (l : List ℕ). l ++ (n % 256 ∷ [])) (bytes_are k (n / 256))

-- std's number of four bytes and of eight is theirs
pub from_four : (l : List ℕ) → length l ≡ 4 → from_be_bytes w32 l ≡ num l
unfolding num_from
from_four (a ∷ b ∷ c ∷ d ∷ []) h = omega arith
from_four _ h = absurd (omega arith)

pub from_eight : (l : List ℕ) → length l ≡ 8 → from_be_bytes w64 l ≡ num l
unfolding num_from
from_eight (a ∷ b ∷ c ∷ d ∷ e ∷ f ∷ g ∷ i ∷ []) h = omega arith
from_eight _ h = absurd (omega arith)
