-- The words of a store that hold the totals: reading them, and writing them one after the other.
use Prim.Native.Nat.{ℕ, zero, suc, ◌+◌, ◌*◌, ◌≤◌, ◌<◌}
use mathlib.Core.Path.{◌≡◌, refl, sym, ap, ap₂, ◌∙◌}
use mathlib.Core.List.{List, ◌++◌, append_assoc}
use native.Mathlib.Omega.{arith}
use lib.ListN.{length, take, drop, get_or}
use lib.Dec.{lit<, lit≤}
use lib.Seq.{drop-drop, drop_at, take_at, get_or-drop}
use Rattle.layout.specs.Layout.{accepted_offset, coalesced_offset, errors_offset, header_width, members_offset, refused_offset, rounds_offset, served_offset, totals_index, totals_offset, totals_width, valued_offset, waiting_offset}
use Rattle.model.specs.Numbers.{num}
use Rattle.model.specs.declared.read_hub.ReadTotals.{ReadTotals}
use Rattle.image.specs.Image.{words_of, read_totals}
use Rattle.words.specs.Parts.{part, placed}
use Rattle.totals.specs.Totals.{totals_of}

-- A word of bytes.
word_at : (n i : ℕ) (s : List ℕ) → i < n → get_or (words_of n s) i 0 ≡ num (part (8 * i) 8 s)
unfolding words_of
word_at zero i s h = absurd (omega arith)
word_at (suc n) zero s h = refl
word_at (suc n) (suc i) s h =
    let e : 8 + 8 * i ≡ 8 * suc i = omega arith in
    word_at n i (drop 8 s) (omega arith) ∙ ap (λ (l : List ℕ). num (take 8 l)) (drop-drop (8 * i) 8 s ∙ ap (λ (m : ℕ). drop m s) e)

-- The totals among at least the header's words of a store, word by word.
total_at : (n i : ℕ) (s : List ℕ) → header_width ≤ n → i < totals_width → get_or (drop totals_index (words_of n s)) i 0 ≡ num (part (totals_offset + 8 * i) 8 s)
total_at n i s h k =
    let e : 8 * (totals_index + i) ≡ totals_offset + 8 * i = omega arith in
    get_or-drop totals_index (words_of n s) i 0 ∙ word_at n (totals_index + i) s (omega arith) ∙ ap (λ (m : ℕ). num (part m 8 s)) e

abbrev by_words : List ℕ → ReadTotals
by_words s =
    record {
      accepted = num (part accepted_offset 8 s);
      served = num (part served_offset 8 s);
      waiting = num (part waiting_offset 8 s);
      valued = num (part valued_offset 8 s);
      refused = num (part refused_offset 8 s);
      rounds = num (part rounds_offset 8 s);
      members = num (part members_offset 8 s);
      errors = num (part errors_offset 8 s);
      coalesced = num (part coalesced_offset 8 s);
    }

words_give : (n : ℕ) (s : List ℕ) → header_width ≤ n → read_totals (drop totals_index (words_of n s)) ≡ by_words s
words_give n s h i =
    record {
      accepted = total_at n 0 s h (lit< tt) i;
      served = total_at n 1 s h (lit< tt) i;
      waiting = total_at n 2 s h (lit< tt) i;
      valued = total_at n 3 s h (lit< tt) i;
      refused = total_at n 4 s h (lit< tt) i;
      rounds = total_at n 5 s h (lit< tt) i;
      members = total_at n 6 s h (lit< tt) i;
      errors = total_at n 7 s h (lit< tt) i;
      coalesced = total_at n 8 s h (lit< tt) i;
    }

totals_by_words : (s : List ℕ) → totals_of s ≡ by_words s
unfolding totals_of
totals_by_words s = words_give header_width s (lit≤ tt)

-- The totals from the nine words, each read by itself.
pub words_read : (s : List ℕ) {x1 x2 x3 x4 x5 x6 x7 x8 x9 : ℕ} → x1 ≡ num (part accepted_offset 8 s) → x2 ≡ num (part served_offset 8 s) → x3 ≡ num (part waiting_offset 8 s) → x4 ≡ num (part valued_offset 8 s) → x5 ≡ num (part refused_offset 8 s) → x6 ≡ num (part rounds_offset 8 s) → x7 ≡ num (part members_offset 8 s) → x8 ≡ num (part errors_offset 8 s) → x9 ≡ num (part coalesced_offset 8 s)
    → ◌≡◌ {A = ReadTotals} (record { accepted = x1; served = x2; waiting = x3; valued = x4; refused = x5; rounds = x6; members = x7; errors = x8; coalesced = x9 }) (totals_of s)
words_read s {x1} {x2} {x3} {x4} {x5} {x6} {x7} {x8} {x9} p1 p2 p3 p4 p5 p6 p7 p8 p9 =
    let e : ◌≡◌ {A = ReadTotals} (record { accepted = x1; served = x2; waiting = x3; valued = x4; refused = x5; rounds = x6; members = x7; errors = x8; coalesced = x9 }) (by_words s) =
    λ i. record { accepted = p1 i; served = p2 i; waiting = p3 i; valued = p4 i; refused = p5 i; rounds = p6 i; members = p7 i; errors = p8 i; coalesced = p9 i } in
    e ∙ sym (totals_by_words s)

-- What a store's generation reads as its totals, from any number of words.
pub totals_of_words : (n : ℕ) (s : List ℕ) → header_width ≤ n → read_totals (drop totals_index (words_of n s)) ≡ totals_of s
totals_of_words n s h = words_give n s h ∙ sym (totals_by_words s)

-- A part placed over one of its length.
pub placed_over : (at : ℕ) (p w z v : List ℕ) → length p ≡ at → length w ≡ length v → placed at v (p ++ (w ++ z)) ≡ p ++ (v ++ z)
placed_over at p w z v e f =
    let d : drop (at + length v) (p ++ (w ++ z)) ≡ z = sym (drop-drop (length v) at (p ++ (w ++ z))) ∙ ap (drop (length v)) (drop_at p (w ++ z) at e) ∙ drop_at w z (length v) f in
    ap₂ (λ (x y : List ℕ). x ++ v ++ y) (take_at p (w ++ z) at e) d ∙ append_assoc p v z
