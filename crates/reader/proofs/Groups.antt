-- A number's groups, of the bytes from a place on. Assumes nothing.
use mathlib.Core.Path.{◌≡◌, sym, ap, ◌∙◌}
use mathlib.Core.List.{List, ◌∷◌}
use Prim.Native.Nat.{ℕ, suc, ◌+◌, ◌-◌, ◌*◌, ◌^◌, ◌≤◌, ◌<◌}
use native.Mathlib.Nat.{pow-suc, pow-le-pow_right, mul-le-mul_left}
use native.Mathlib.Numerals.{add-one}
use native.Mathlib.Omega.{arith}
use borrow.Author.Tests.{le-ltb}
use lib.Dec.{lit<}
use lib.ListN.{length, drop, get_or}
use lib.Seq.{drop-cons}
use Rattle.call_list.specs.CallList.{number_from}

-- the byte at a place, and those after it
pub byte_there : (s : List ℕ) (at : ℕ) → at < length s → drop at s ≡ get_or s at 0 ∷ drop (at + 1) s
byte_there s at h = drop-cons s at 0 h ∙ ap (λ (k : ℕ). get_or s at 0 ∷ drop k s) (sym (add-one at))

-- a group that others follow
pub group_more : (k j w a b : ℕ) {x : ℕ} {l r : List ℕ} → k ≡ suc j → l ≡ x ∷ r → b ≡ x → 128 ≤ b → number_from k w a l ≡ number_from j (w * 128) (a + w * (b - 128)) r
unfolding number_from
group_more k j w a b p e d h = rw (p, e, sym d, le-ltb b 128 h)

-- the worth of a group
pub worth_more : (k w : ℕ) → w ≡ 128 ^ k → w * 128 ≡ 128 ^ (k + 1)
worth_more k w e = rw (add-one, pow-suc 128 k) (omega arith)

pub worth_fits : (k w : ℕ) → w ≡ 128 ^ k → k ≤ 8 → w ≤ 72057594037927936
worth_fits k w e h = let p : 128 ^ k ≤ 128 ^ 8 = pow-le-pow_right (lit< tt) h in omega arith

-- a group of a worth, and what is below it
pub group_fits : (w b : ℕ) → b < 128 → w * b + w ≤ w * 128
group_fits w b h = let p : w * b ≤ w * 127 = mul-le-mul_left w (omega arith) in omega arith
