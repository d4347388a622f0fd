-- Digits: a turn of the loops that write them, and how many there are. Assumes nothing.
use mathlib.Core.Path.{◌≡◌, refl, sym, ap, ◌∙◌}
use mathlib.Core.Bool.{Bool, true, false, cond}
use mathlib.Core.List.{List, [], ◌∷◌, ◌++◌}
use Prim.Native.Nat.{ℕ, zero, suc, ◌+◌, ◌-◌, ◌/◌, ◌%◌, ◌≤◌, ◌<◌, ◌^◌, ◌*◌}
use native.Mathlib.Nat.{pow-suc}
use native.Mathlib.Omega.{arith}
use borrow.Author.Tests.{lt-ltb, le-ltb}
use lib.Dec.{ltb}
use lib.ListN.{length, take, drop, set, length-append, length-drop}
use lib.Seq.{take_all}
use Rattle.words.specs.Parts.{placed}
use Rattle.digits.proofs.Writing.{drop_stored, placed_stored}
use Rattle.model.specs.declared.storage_memo.U256.{U256}
use Rattle.model.specs.declared.delta_snapshot.Slot.{Slot}
use Rattle.call_list.specs.Listing.{digit, decimal_from, decimal, hex, u256_hex, slot_hex}

pub decimal_turn : (k n : ℕ) (l : List ℕ) → 10 ≤ n → decimal_from (suc k) n l ≡ decimal_from k (n / 10) (digit (n % 10) ∷ l)
unfolding decimal_from
decimal_turn k n l h = rw (le-ltb n 10 h)

pub decimal_last : (k n : ℕ) (l : List ℕ) → n < 10 → decimal_from (suc k) n l ≡ digit n ∷ l
unfolding decimal_from
decimal_last k n l h = rw (lt-ltb n 10 h)

-- a number of one digit fewer
pub tenth_fits : (k j n : ℕ) → k ≡ suc j → n < 10 ^ k → n / 10 < 10 ^ j
tenth_fits k j n p h = let e : 10 ^ k ≡ 10 ^ j * 10 = ap (λ (m : ℕ). 10 ^ m) p ∙ pow-suc 10 j in omega arith

decimal_from_length : (k n : ℕ) (l : List ℕ) → length (decimal_from k n l) ≤ k + length l
unfolding decimal_from
decimal_from_length zero n l = omega arith
decimal_from_length (suc k) n l =
    go (ltb n 10) (decimal_from_length k (n / 10) (digit (n % 10) ∷ l)) where
      go : (b : Bool) → length (decimal_from k (n / 10) (digit (n % 10) ∷ l)) ≤ k + suc (length l)
          → length (cond b (digit n ∷ l) (decimal_from k (n / 10) (digit (n % 10) ∷ l))) ≤ suc k + length l
      go true h = omega arith
      go false h = omega arith

pub decimal_length : (n : ℕ) → length (decimal n) ≤ 20
decimal_length n = decimal_from_length 20 n []

pub hex_length : (n x : ℕ) → length (hex n x) ≡ n
unfolding hex
hex_length zero x = refl
hex_length (suc n) x = omega (arith, length-append (hex n (x / 16)) (digit (x % 16) ∷ []), hex_length n (x / 16))

pub u256_hex_length : (x : U256) → length (u256_hex x) ≡ 64
u256_hex_length x = simp (length-append, hex_length)

pub slot_hex_length : (s : Slot) → length (slot_hex s) ≡ 104
slot_hex_length s = simp (length-append, hex_length)

-- a number of more than one digit
pub two_digits : (k n : ℕ) → n < 10 ^ k → 10 ≤ n → 1 < k
two_digits zero n h t = absurd (omega arith)
two_digits (suc zero) n h t = absurd (omega arith)
two_digits (suc (suc k)) n h t = omega arith

-- a turn of the loop that writes decimals from the last on, and its end
pub decimal_step : (k j b rest : ℕ) (s : List ℕ) → k ≡ suc j → k ≤ length s → 10 ≤ rest → b ≡ digit (rest % 10)
    → decimal_from j (rest / 10) (drop j (set s j b)) ≡ decimal_from k rest (drop k s)
decimal_step k j b rest s p h t e =
    ap (decimal_from j (rest / 10)) (drop_stored s j b (omega arith) ∙ ap (λ (x : ℕ). x ∷ drop (suc j) s) e)
    ∙ sym (decimal_turn j rest (drop (suc j) s) t)
    ∙ ap (λ (m : ℕ). decimal_from m rest (drop m s)) (sym p)

pub decimal_end : (k j b rest : ℕ) (s : List ℕ) → k ≡ suc j → k ≤ length s → rest < 10 → b ≡ digit rest
    → drop j (set s j b) ≡ decimal_from k rest (drop k s)
decimal_end k j b rest s p h t e =
    drop_stored s j b (omega arith)
    ∙ ap (λ (x : ℕ). x ∷ drop (suc j) s) e
    ∙ sym (decimal_last j rest (drop (suc j) s) t)
    ∙ ap (λ (m : ℕ). decimal_from m rest (drop m s)) (sym p)

-- a turn of the loop that writes hex digits from the last on
pub hex_step : (at k j b rest : ℕ) (s : List ℕ) → k ≡ suc j → at + k ≤ length s → b ≡ digit (rest % 16)
    → placed at (hex j (rest / 16)) (set s (at + j) b) ≡ placed at (hex k rest) s
unfolding hex
hex_step at k j b rest s p h e =
    placed_stored at b (at + j) (hex j (rest / 16)) s (ap (λ (n : ℕ). at + n) (sym (hex_length j (rest / 16)))) (omega arith)
    ∙ ap (λ (x : ℕ). placed at (hex j (rest / 16) ++ (x ∷ [])) s) e
    ∙ ap (λ (m : ℕ). placed at (hex m rest) s) (sym p)

-- the digits at the end of a buffer of n bytes
pub digits_part : (k n : ℕ) (s : List ℕ) → length s ≤ n → take (n - k) (drop k s) ≡ drop k s
digits_part k n s h = take_all (n - k) (drop k s) (simp length-drop (omega arith))
