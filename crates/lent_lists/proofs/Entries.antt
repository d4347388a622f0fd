-- The entries of a span of a list are those of the part that it lends. Assumes nothing.
use mathlib.Core.Path.{◌≡◌, refl, sym, ap, ap₂, ◌∙◌}
use mathlib.Core.List.{List, [], ◌∷◌, ◌++◌, map}
use Prim.Native.Nat.{ℕ, zero, suc, ◌+◌, ◌*◌, ◌/◌, ◌≤◌, ◌<◌}
use native.Mathlib.Nat.{mul-div_cancel, suc-mul, zero-mul, zero-add, suc-add}
use native.Mathlib.Omega.{arith}
use lib.ListN.{length, take, drop, length-drop, length-map}
use lib.Seq.{take-take, drop-drop, length-take-le, take-nil}
use Rattle.model.specs.Entries.{address_of, slot_of, write_of, chunks, addresses_of, slots_of, writes_of}
use Rattle.words.specs.Parts.{part}
use Rattle.reader.specs.declared.Span.{Span}
use Rattle.reader.specs.Answers.{entries, addresses_at, writes_at, slots_at}

-- What follows a place of the first bytes.
drop_take : (i n : ℕ) (l : List ℕ) → drop i (take (i + n) l) ≡ take n (drop i l)
drop_take zero n l = ap (λ (m : ℕ). take m l) (zero-add n)
drop_take (suc i) n [] = ap (λ (x : List ℕ). drop (suc i) x) (take-nil (suc i + n)) ∙ sym (take-nil n)
drop_take (suc i) n (x ∷ l) = ap (λ (m : ℕ). drop (suc i) (take m (x ∷ l))) (suc-add i n) ∙ drop_take i n l

-- Entries of w bytes ------------------------------------------------------------------------------------

module _ (w : ℕ) where
  chunks_take : (n : ℕ) (l : List ℕ) → chunks w n (take (n * w) l) ≡ chunks w n l
  unfolding chunks
  chunks_take zero l = refl
  chunks_take (suc n) l =
      let e : suc n * w ≡ w + n * w = omega (arith, suc-mul n w) in
      ap (λ (m : ℕ). take w (take m l) ∷ chunks w n (drop w (take m l))) e
      ∙ ap₂ (λ (x y : List ℕ). x ∷ chunks w n y) (take-take w (w + n * w) l (omega arith)) (drop_take w (n * w) l)
      ∙ ap (λ (y : List (List ℕ)). take w l ∷ y) (chunks_take n (drop w l))

  pub chunks_snoc : (n : ℕ) (l : List ℕ) → chunks w (suc n) l ≡ chunks w n l ++ (part (n * w) w l ∷ [])
  unfolding chunks
  chunks_snoc zero l = ap (λ (i : ℕ). part i w l ∷ []) (sym (zero-mul w))
  chunks_snoc (suc n) l =
      let e : w + n * w ≡ suc n * w = omega (arith, suc-mul n w) in
      ap (λ (y : List (List ℕ)). take w l ∷ y) (chunks_snoc n (drop w l))
      ∙ ap (λ (y : List ℕ). take w l ∷ (chunks w n (drop w l) ++ (take w y ∷ []))) (drop-drop (n * w) w l ∙ ap (λ (i : ℕ). drop i l) e)

  chunks_count : (n : ℕ) (l : List ℕ) → length (chunks w n l) ≡ n
  unfolding chunks
  chunks_count zero l = refl
  chunks_count (suc n) l = ap suc (chunks_count n (drop w l))

  -- The entries of n * w bytes are the first n.
  pub chunks_lent : (n : ℕ) (l : List ℕ) → 0 < w → n * w ≤ length l → chunks w (length (take (n * w) l) / w) (take (n * w) l) ≡ chunks w n l
  chunks_lent n l h k =
      ap (λ (m : ℕ). chunks w (m / w) (take (n * w) l)) (length-take-le (n * w) l k)
      ∙ ap (λ (m : ℕ). chunks w m (take (n * w) l)) (mul-div_cancel n h)
      ∙ chunks_take n l

module _ {A : Type 0} (f : List ℕ → A) (w : ℕ) where
  entries_chunks : (n : ℕ) (l : List ℕ) → map f (chunks w n l) ≡ entries f w n l
  unfolding chunks entries
  entries_chunks zero l = refl
  entries_chunks (suc n) l = ap (λ (y : List A). f (take w l) ∷ y) (entries_chunks n (drop w l))

  pub entries_are : (i n : ℕ) (l : List ℕ) → 0 < w → i + n * w ≤ length l → map f (chunks w (length (part i (n * w) l) / w) (part i (n * w) l)) ≡ entries f w n (drop i l)
  entries_are i n l h k = ap (map f) (chunks_lent w n (drop i l) h (omega (arith, length-drop i l))) ∙ entries_chunks n (drop i l)

pub addresses_are : (l : List ℕ) (p : Span) → p.start + p.count * 20 ≤ length l → addresses_of (part p.start (p.count * 20) l) ≡ addresses_at l p
unfolding addresses_of
addresses_are l p h = entries_are address_of 20 p.start p.count l (omega arith) h

pub writes_are : (l : List ℕ) (p : Span) → p.start + p.count * 84 ≤ length l → writes_of (part p.start (p.count * 84) l) ≡ writes_at l p
unfolding writes_of
writes_are l p h = entries_are write_of 84 p.start p.count l (omega arith) h

pub slots_are : (l : List ℕ) (p : Span) → p.start + p.count * 52 ≤ length l → slots_of (part p.start (p.count * 52) l) ≡ slots_at l p
unfolding slots_of
slots_are l p h = entries_are slot_of 52 p.start p.count l (omega arith) h

pub writes_count : (b : List ℕ) → length (writes_of b) ≡ length b / 84
unfolding writes_of
writes_count b = length-map (chunks 84 (length b / 84) b) write_of ∙ chunks_count 84 (length b / 84) b
