-- Filling an output with entries, some and then some more, and how many are found. Assumes nothing.
use mathlib.Core.Path.{◌≡◌, refl, sym, ap, ap₂, ◌∙◌}
use mathlib.Core.Bool.{Bool, false, cond}
use mathlib.Core.List.{List, [], ◌∷◌, ◌++◌}
use Prim.Native.Nat.{ℕ, suc, ◌+◌, ◌*◌}
use native.Mathlib.Nat.{add-zero}
use native.Mathlib.Omega.{arith}
use lib.Dec.{ltb}
use lib.ListN.{length, take, drop}
use lib.Seq.{take-add}
use borrow.Author.Tests.{le-ltb}
use Rattle.words.specs.Parts.{placed}
use Rattle.bal_entries.specs.Filling.{Filled, fill_one, fill}

pub fill_append : (w most : ℕ) (xs ys : List (List ℕ)) (f : Filled) → fill w most (xs ++ ys) f ≡ fill w most ys (fill w most xs f)
unfolding fill
fill_append w most [] ys f = refl
fill_append w most (x ∷ xs) ys f = fill_append w most xs ys (fill_one w most x f)

-- Entries of the first n of some things, and then of the next m.
pub fill_more : {A : Type 0} (w most : ℕ) (b : List A → List (List ℕ)) → ((k l : List A) → b (k ++ l) ≡ b k ++ b l) → (n m : ℕ) (l l' : List A) (f g h : Filled)
    → l' ≡ drop n l → g ≡ fill w most (b (take n l)) f → h ≡ fill w most (b (take m l')) g → h ≡ fill w most (b (take (n + m) l)) f
fill_more {A} w most b add n m l l' f g h e p q =
    q
    ∙ ap₂ (λ (k : List A) (x : Filled). fill w most (b (take m k)) x) e p
    ∙ sym (fill_append w most (b (take n l)) (b (take m (drop n l))) f)
    ∙ ap (λ (k : List (List ℕ)). fill w most k f) (sym (add (take n l) (take m (drop n l))) ∙ ap b (sym (take-add n m l)))

-- How many were found.
pub fill_found : (w most : ℕ) (bs : List (List ℕ)) (f : Filled) → (fill w most bs f).found ≡ f.found + length bs
unfolding fill
fill_found w most [] f = sym (add-zero f.found)
fill_found w most (b ∷ bs) f = fill_found w most bs (fill_one w most b f) ∙ omega arith

-- Where nothing may be put, the entries are counted alone.
pub fill_counts : (w : ℕ) (bs : List (List ℕ)) (n : ℕ) (out : List ℕ) → fill w 0 bs (record { found = n; out = out }) ≡ record { found = n + length bs; out = out }
unfolding fill
fill_counts w [] n out = ap (λ (k : ℕ). record { found = k; out = out }) (sym (add-zero n))
fill_counts w (b ∷ bs) n out =
    let e : ltb n 0 ≡ false = le-ltb n 0 (omega arith) in
    let m : n + 1 + length bs ≡ n + suc (length bs) = omega arith in
    ap (λ (t : Bool). fill w 0 bs (record { found = n + 1; out = cond t (placed (n * w) b out) out })) e
    ∙ fill_counts w bs (n + 1) out
    ∙ ap (λ (k : ℕ). record { found = k; out = out }) m
