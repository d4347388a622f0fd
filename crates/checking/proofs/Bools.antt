-- Laws of Bools, of equal words and of zeros.
use Prim.Native.Nat.{ℕ, zero, suc, ◌+◌, ◌-◌, ◌*◌, ◌^◌, ◌≤◌, ◌<◌}
use mathlib.Core.Path.{◌≡◌, refl, sym, ap, ap₂, ◌∙◌}
use mathlib.Core.Bool.{Bool, true, false, not, ◌&&◌}
use mathlib.Core.List.{List, [], ◌∷◌, ◌++◌, map}
use native.Mathlib.Omega.{arith}
use lib.Dec.{eqb, leb, lit<}
use lib.ListN.{length, take, drop, get_or, replicate, take-append-drop, length-drop}
use lib.Seq.{length-take-le, take-add}
use borrow.Author.Tests.{eq-eqb, ne_eqb, lt-leb}
use Rattle.model.specs.Slots.{words_eqb}
use Rattle.model.proofs.SlotLaws.{and_false}
use Rattle.image.specs.Image.{flag, padded, entries}
use Rattle.model.proofs.WordLaws.{Fit, fit_nil, fit_cons}
use Rattle.image.proofs.Entries.{joined}
use Rattle.checking.specs.Checks.{all_zero, all_of}

-- Bools -----------------------------------------------------------------------------------------------

-- Two Bools that hold together are equal.
pub iff : (a b : Bool) → (a ≡ true → b ≡ true) → (b ≡ true → a ≡ true) → a ≡ b
iff true b f g = sym (f refl)
iff false true f g = g refl
iff false false f g = refl

pub and_assoc : (a b c : Bool) → ((a && b) && c) ≡ (a && (b && c))
and_assoc true b c = refl
and_assoc false b c = refl

-- What a test implies may be added to it.
pub and_implied : (a b : Bool) → (a ≡ true → b ≡ true) → a ≡ (a && b)
and_implied true b f = sym (f refl)
and_implied false b f = refl

-- Two conjunctions, their first and their second parts together.
pub and_swap : (a b c d : Bool) → ((a && b) && (c && d)) ≡ ((a && c) && (b && d))
and_swap false b c d = refl
and_swap true false c d = sym (and_false c)
and_swap true true c d = refl

-- What follows a test may be replaced by what is equal where the test holds.
pub and_under : (a b c : Bool) → (a ≡ true → b ≡ c) → (a && b) ≡ (a && c)
and_under true b c f = f refl
and_under false b c f = refl

pub eqb_same : (n : ℕ) → eqb n n ≡ true
eqb_same n = eq-eqb n n refl

-- Equal words -----------------------------------------------------------------------------------------

pub words_eqb_append : (a b c d : List ℕ) → length a ≡ length c → words_eqb (a ++ b) (c ++ d) ≡ (words_eqb a c && words_eqb b d)
unfolding words_eqb
words_eqb_append [] b [] d h = refl
words_eqb_append [] b (y ∷ c) d h = absurd (omega arith)
words_eqb_append (x ∷ a) b [] d h = absurd (omega arith)
words_eqb_append (x ∷ a) b (y ∷ c) d h =
    ap (λ (t : Bool). eqb x y && t) (words_eqb_append a b c d (omega arith)) ∙ sym (and_assoc (eqb x y) (words_eqb a c) (words_eqb b d))

pub words_eqb_zeros : (n : ℕ) (l : List ℕ) → length l ≡ n → words_eqb l (replicate n 0) ≡ all_zero l
unfolding words_eqb all_zero
words_eqb_zeros zero [] h = refl
words_eqb_zeros zero (x ∷ l) h = absurd (omega arith)
words_eqb_zeros (suc n) [] h = absurd (omega arith)
words_eqb_zeros (suc n) (x ∷ l) h = ap (λ (t : Bool). eqb x 0 && t) (words_eqb_zeros n l (omega arith))

-- Words are a padded list: they begin with it, and the rest is 0.
pub words_eqb_padded : (n : ℕ) (l p : List ℕ) → length l ≡ n → length p ≤ n → words_eqb l (padded n p) ≡ (words_eqb (take (length p) l) p && all_zero (drop (length p) l))
words_eqb_padded n l p h k =
    let m : length (take (length p) l) ≡ length p = length-take-le (length p) l (omega arith) in
    let z : length (drop (length p) l) ≡ n - length p = length-drop (length p) l ∙ omega arith in
    ap (λ (x : List ℕ). words_eqb x (padded n p)) (sym (take-append-drop (length p) l))
    ∙ words_eqb_append (take (length p) l) (drop (length p) l) p (replicate (n - length p) 0) m
    ∙ ap (λ (t : Bool). words_eqb (take (length p) l) p && t) (words_eqb_zeros (n - length p) (drop (length p) l) z)

-- A word is the flag that it reads as exactly when it is 0 or 1.
pub flag_eqb : (x : ℕ) → eqb x (flag (not (eqb x 0))) ≡ leb x 1
flag_eqb zero = refl
flag_eqb (suc zero) = refl
flag_eqb (suc (suc n)) = rw (ne_eqb (suc (suc n)) 0 (λ e. omega arith), ne_eqb (suc (suc n)) 1 (λ e. omega arith), lt-leb (suc (suc n)) 1 (omega arith))

-- Lists by their elements -----------------------------------------------------------------------------

-- The first n values of a function.
unfoldable pub spell : ℕ → (ℕ → ℕ) → List ℕ
spell zero f = []
spell (suc n) f = f 0 ∷ spell n (λ i. f (suc i))

pub spelled : (n : ℕ) (l : List ℕ) → length l ≡ n → l ≡ spell n (λ i. get_or l i 0)
unfolding spell
spelled zero [] h = refl
spelled zero (x ∷ l) h = absurd (omega arith)
spelled (suc n) [] h = absurd (omega arith)
spelled (suc n) (x ∷ l) h = ap (λ (k : List ℕ). x ∷ k) (spelled n l (omega arith))

-- Words that fit --------------------------------------------------------------------------------------

pub fit_take : (n : ℕ) {l : List ℕ} → Fit l → Fit (take n l)
fit_take zero p = fit_nil
fit_take (suc n) fit_nil = fit_nil
fit_take (suc n) (fit_cons h p) = fit_cons h (fit_take n p)

pub fit_drop : (n : ℕ) {l : List ℕ} → Fit l → Fit (drop n l)
fit_drop zero p = p
fit_drop (suc n) fit_nil = fit_nil
fit_drop (suc n) (fit_cons h p) = fit_drop n p

pub fit_at : {l : List ℕ} → Fit l → (i : ℕ) → get_or l i 0 < 2 ^ 64
fit_at fit_nil i = lit< tt
fit_at (fit_cons h p) zero = h
fit_at (fit_cons h p) (suc i) = fit_at p i

-- Entries ---------------------------------------------------------------------------------------------

-- Entries of w words are what they are read as, each exactly when it passes a test.
module _ {X : Type 0} (w : ℕ) (out : X → List ℕ) (rd : List ℕ → X) (test : List ℕ → Bool) (wide : (x : X) → length (out x) ≡ w) (same : (e : List ℕ) → length e ≡ w → words_eqb e (out (rd e)) ≡ test e) where
  pub entries_eqb : (n : ℕ) (l : List ℕ) → w * n ≤ length l → words_eqb (take (w * n) l) (joined out (map rd (entries w n l))) ≡ all_of test (entries w n l)
  unfolding words_eqb joined entries all_of
  entries_eqb zero l h = let e : w * 0 ≡ 0 = omega arith in ap (λ (k : ℕ). words_eqb (take k l) []) e
  entries_eqb (suc n) l h =
      let e : w * suc n ≡ w + w * n = omega arith in
      let k : length (take w l) ≡ w = length-take-le w l (omega arith) in
      let d : length (drop w l) ≡ length l - w = length-drop w l in
      ap (λ (x : List ℕ). words_eqb x (joined out (map rd (entries w (suc n) l)))) (ap (λ (m : ℕ). take m l) e ∙ take-add w (w * n) l)
      ∙ words_eqb_append (take w l) (take (w * n) (drop w l)) (out (rd (take w l))) (joined out (map rd (entries w n (drop w l)))) (k ∙ sym (wide (rd (take w l))))
      ∙ ap₂ (λ (a b : Bool). a && b) (same (take w l) k) (entries_eqb n (drop w l) (omega arith))

pub length_entries : (w n : ℕ) (l : List ℕ) → length (entries w n l) ≡ n
unfolding entries
length_entries w zero l = refl
length_entries w (suc n) l = ap suc (length_entries w n (drop w l))

-- Two tests of every entry.
pub all_of_and : (p q : List ℕ → Bool) (es : List (List ℕ)) → all_of (λ e. p e && q e) es ≡ (all_of p es && all_of q es)
unfolding all_of
all_of_and p q [] = refl
all_of_and p q (e ∷ es) = ap (λ (t : Bool). (p e && q e) && t) (all_of_and p q es) ∙ and_swap (p e) (q e) (all_of p es) (all_of q es)

-- The first of read entries, and those after them.
pub take_map : {A : Type 0} (f : List ℕ → A) (n : ℕ) (es : List (List ℕ)) → take n (map f es) ≡ map f (take n es)
take_map {A} f zero es = refl
take_map {A} f (suc n) [] = refl
take_map {A} f (suc n) (e ∷ es) = ap (λ (l : List A). f e ∷ l) (take_map f n es)

pub drop_map : {A : Type 0} (f : List ℕ → A) (n : ℕ) (es : List (List ℕ)) → drop n (map f es) ≡ map f (drop n es)
drop_map f zero es = refl
drop_map f (suc n) [] = refl
drop_map f (suc n) (e ∷ es) = drop_map f n es
