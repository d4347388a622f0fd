-- Records cut into layers by ends that rise.
use Prim.Native.Nat.{ℕ, ◌+◌, ◌-◌, ◌≤◌}
use mathlib.Core.Path.{◌≡◌, refl, sym, ap, ap₂, ◌∙◌}
use mathlib.Core.Bool.{Bool, true, false, ◌&&◌}
use mathlib.Core.List.{List, [], ◌∷◌, ◌++◌, map, append_assoc, append-nil}
use native.Mathlib.Omega.{arith}
use lib.Dec.{leb}
use lib.ListN.{length, take, drop, take-append-drop, length-drop}
use lib.Seq.{length-take-le}
use borrow.Author.Tests.{leb-true, le-leb}
use Rattle.model.specs.Layers.{Record, Layer, record_count}
use Rattle.model.proofs.SlotLaws.{and_left, and_right, and_intro, and_false}
use Rattle.image.specs.WellFormed.{rising, rising_from}
use Rattle.image.specs.Image.{flat_records, layer_ends, read_record, Cut, cut}
use Rattle.checking.specs.Checks.{ends_rise, entries_rise_from, entries_rise, layers_rise}
use Rattle.rules.specs.Rules.{all_rising}
use Rattle.checking.proofs.Bools.{take_map, drop_map}

-- Ends ------------------------------------------------------------------------------------------------

pub ends_rise_le : (n from : ℕ) (es : List ℕ) → ends_rise n from es ≡ true → from ≤ n
unfolding ends_rise
ends_rise_le n from [] h = leb-true from n h
ends_rise_le n from (e ∷ es) h =
    let a : from ≤ e = leb-true from e (and_left (leb from e) _ h) in
    let b : e ≤ n = ends_rise_le n e es (and_right (leb from e) _ h) in
    omega arith

ends_rise_snoc : (k m n from : ℕ) (es : List ℕ) → k ≤ m → m ≤ n → ends_rise k from es ≡ true → ends_rise n from (es ++ (m ∷ [])) ≡ true
unfolding ends_rise
ends_rise_snoc k m n from [] a b h = and_intro _ _ (le-leb from m (omega (arith, leb-true from k h))) (le-leb m n b)
ends_rise_snoc k m n from (e ∷ es) a b h = and_intro _ _ (and_left (leb from e) _ h) (ends_rise_snoc k m n e es a b (and_right (leb from e) _ h))

-- The ends of layers rise.
pub layer_ends_rise : (ls : List Layer) (n : ℕ) → record_count ls ≤ n → ends_rise n 0 (layer_ends ls) ≡ true
unfolding ends_rise layer_ends record_count
layer_ends_rise [] n h = le-leb 0 n (omega arith)
layer_ends_rise (l ∷ ls) n h = ends_rise_snoc (record_count ls) (record_count (l ∷ ls)) n 0 (layer_ends ls) (omega arith) h (layer_ends_rise ls (record_count ls) (omega arith))

-- Ends that rise cut records into layers with these ends, and lose none.
pub record CutSays (b : List Layer) (es : List ℕ) (rs : List Record) (c : Cut) : Type 0 where
  pub ends : layer_ends c.base ≡ layer_ends b ++ es
  pub flat : flat_records (c.top ∷ c.base) ≡ flat_records b ++ rs

pub cut_says : (n from : ℕ) (es : List ℕ) (rs : List Record) (b : List Layer) → record_count b ≡ from → length rs ≡ n - from → ends_rise n from es ≡ true → CutSays b es rs (cut from es rs b)
unfolding ends_rise layer_ends flat_records record_count cut
cut_says n from [] rs b h k e = record { ends = sym (append-nil (layer_ends b)); flat = refl }
cut_says n from (x ∷ es) rs b h k e =
    let t : Layer = take (x - from) rs in
    let d : Layer = drop (x - from) rs in
    let p : from ≤ x = leb-true from x (and_left (leb from x) _ e) in
    let r : ends_rise n x es ≡ true = and_right (leb from x) _ e in
    let q : x ≤ n = ends_rise_le n x es r in
    let m : length t ≡ x - from = length-take-le (x - from) rs (omega arith) in
    let c : record_count (t ∷ b) ≡ x = omega arith in
    let says : CutSays (t ∷ b) es d (cut x es d (t ∷ b)) = cut_says n x es d (t ∷ b) c (length-drop (x - from) rs ∙ omega arith) r in
    record {
      ends = says.ends ∙ append_assoc (layer_ends b) (record_count (t ∷ b) ∷ []) es ∙ ap (λ (y : ℕ). layer_ends b ++ (y ∷ es)) c;
      flat = says.flat ∙ append_assoc (flat_records b) t d ∙ ap (λ (y : List Record). flat_records b ++ y) (take-append-drop (x - from) rs);
    }

pub length_cut : (from : ℕ) (es : List ℕ) (rs : List Record) (b : List Layer) → length (cut from es rs b).base ≡ length es + length b
unfolding cut
length_cut from [] rs b = omega arith
length_cut from (x ∷ es) rs b = length_cut x es (drop (x - from) rs) (take (x - from) rs ∷ b) ∙ omega arith

-- Layers ----------------------------------------------------------------------------------------------

rising_entries_from : (e : List ℕ) (es : List (List ℕ)) → rising_from (read_record e).slot (map read_record es) ≡ entries_rise_from e es
unfolding rising_from entries_rise_from
rising_entries_from e [] = refl
rising_entries_from e (f ∷ es) = rw (rising_entries_from f es)

pub rising_entries : (es : List (List ℕ)) → rising (map read_record es) ≡ entries_rise es
rising_entries [] = refl
rising_entries (e ∷ es) = rising_entries_from e es

pub all_rising_cut : (from : ℕ) (ends : List ℕ) (es : List (List ℕ)) (b : List Layer) → let c : Cut = cut from ends (map read_record es) b in all_rising (c.top ∷ c.base) ≡ (layers_rise from ends es && all_rising b)
unfolding all_rising layers_rise cut
all_rising_cut from [] es b = ap (λ (t : Bool). t && all_rising b) (rising_entries es)
all_rising_cut from (x ∷ ends) es b =
    let k : ℕ = x - from in
    ap₂ (λ (d t : Layer). let c : Cut = cut x ends d (t ∷ b) in all_rising (c.top ∷ c.base)) (drop_map read_record k es) (take_map read_record k es)
    ∙ all_rising_cut x ends (drop k es) (map read_record (take k es) ∷ b)
    ∙ ap (λ (t : Bool). layers_rise x ends (drop k es) && (t && all_rising b)) (rising_entries (take k es))
    ∙ turn (layers_rise x ends (drop k es)) (entries_rise (take k es)) (all_rising b)
  where
    turn : (a b c : Bool) → (a && (b && c)) ≡ ((b && a) && c)
    turn false b c = simp and_false
    turn true false c = refl
    turn true true c = refl
