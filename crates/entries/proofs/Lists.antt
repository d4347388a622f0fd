-- Lists of entries in bytes: how many, the one at a place, and none past the last. Assumes nothing.
use mathlib.Core.Path.{◌≡◌, refl, sym, ap, ◌∙◌}
use mathlib.Core.List.{List, [], ◌∷◌, map}
use Prim.Native.Nat.{ℕ, zero, suc, ◌+◌, ◌*◌, ◌≤◌, ◌<◌}
use native.Mathlib.Nat.{suc-mul, zero-mul}
use native.Mathlib.Omega.{arith}
use lib.ListN.{length, drop, drop_of_length-le}
use lib.Seq.{drop-drop}
use Rattle.entries.specs.Lists.{entries}

module _ {A : Type 0} (rd : List ℕ → A) (w : ℕ) where
  pub length_entries : (n : ℕ) (l : List ℕ) → length (entries rd w n l) ≡ n
  unfolding entries
  length_entries zero l = refl
  length_entries (suc n) l = ap suc (length_entries n (drop w l))

  pub entry_at : (k n : ℕ) (l : List ℕ) → k < n → drop k (entries rd w n l) ≡ rd (drop (k * w) l) ∷ drop (suc k) (entries rd w n l)
  unfolding entries
  entry_at k zero l h = absurd (omega arith)
  entry_at zero (suc n) l h = ap (λ (i : ℕ). rd (drop i l) ∷ entries rd w n (drop w l)) (sym (zero-mul w))
  entry_at (suc k) (suc n) l h =
      let e : w + k * w ≡ suc k * w = omega (arith, suc-mul k w) in
      entry_at k n (drop w l) (omega arith)
      ∙ ap (λ (x : List ℕ). rd x ∷ drop (suc k) (entries rd w n (drop w l))) (drop-drop (k * w) w l ∙ ap (λ (i : ℕ). drop i l) e)

  -- Nothing is left behind the last entry.
  pub none_left : (n k : ℕ) (l : List ℕ) → n ≤ k → drop k (entries rd w n l) ≡ []
  none_left n k l h =
      let e : length (entries rd w n l) ≤ k = omega (arith, length_entries n l) in
      drop_of_length-le (entries rd w n l) e

pub map_entries : {A B : Type 0} (f : A → B) (rd : List ℕ → A) (w n : ℕ) (l : List ℕ) → map f (entries rd w n l) ≡ entries (λ x. f (rd x)) w n l
unfolding entries
map_entries f rd w zero l = refl
map_entries {B = B} f rd w (suc n) l = ap (λ (x : List B). f (rd l) ∷ x) (map_entries f rd w n (drop w l))
