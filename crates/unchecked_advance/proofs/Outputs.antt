-- The output of an advance, half way: the slots that are still to be put, at their place. Assumes nothing.
use Rattle.std.specs.Prelude.{is_ok, is_some, Err, Ok}
use Prim.Native.Nat.{ℕ, zero, suc, ◌+◌, ◌*◌, ◌/◌, ◌≤◌, ◌<◌}
use mathlib.Core.Path.{◌≡◌, sym, ap, ap₂, ◌∙◌}
use mathlib.Core.Bool.{Bool, true, false, cond}
use mathlib.Core.List.{List, [], ◌∷◌, ◌++◌, map, append_assoc, append-nil}
use native.Mathlib.Numerals.{add-one}
use native.Mathlib.Omega.{arith}
use lib.ListN.{length, take, drop, length-append, length-drop, take-append-drop}
use lib.Seq.{take-add, drop-drop, take_at, drop_at, length-take-le}
use Rattle.model.specs.declared.delta_snapshot.Slot.{Slot}
use Rattle.model.specs.Numbers.{be, Bytes}
use Rattle.model.specs.Layers.{Layer, find}
use Rattle.model.specs.Entries.{number_at, slot_of, write_of, chunks, writes_of, slot_bytes, slots_bytes, with_slots}
use Rattle.model.proofs.NumberLaws.{be_num}
use Rattle.model.proofs.EntryLaws.{bytes_drop, bytes_take, SlotFits, slot_of_fits, length_slot, Each, each_none, each_more}
use Rattle.words.specs.Parts.{part, placed}
use Rattle.words.proofs.Places.{entry_fits}
use Rattle.image.specs.WellFormed.{rising}
use Rattle.records.specs.Records.{Found}
use Rattle.records.specs.Records.{place_in}
use Rattle.records.proofs.Places.{found_content, absent_none}
use Rattle.seed.proofs.Entries.{write_at, writes_end}
use Rattle.unchecked_advance.specs.Outputs.{applied_in}

-- Whether the search found a slot says whether the layer has a record of it.
pub found_in : (l : Layer) (t : Slot) (f : Found) → rising l ≡ true → f ≡ place_in t l → is_ok f ≡ is_some (find t l)
found_in l t (Ok i) r p = sym (ap is_some (found_content l t i (sym p)))
found_in l t (Err i) r p = sym (ap is_some (absent_none l t i r (sym p)))

-- A slot's bytes ----------------------------------------------------------------------------------------

module _ (d : List ℕ) (f : Bytes d) (h : 52 ≤ length d) where
  field : (o n : ℕ) → o + n ≤ 52 → be n (number_at o n d) ≡ take n (drop o d)
  field o n g = be_num (drop o d) (bytes_drop o d f) n (omega (arith, length-drop o d))

  slot_is : slot_bytes (slot_of d) ≡ take 52 d
  unfolding slot_bytes
  slot_is =
      ap₂ ◌++◌ (ap₂ ◌++◌ (ap₂ ◌++◌ (ap₂ ◌++◌ (ap₂ ◌++◌ (ap₂ ◌++◌ (field 0 4 (omega arith)) (field 4 8 (omega arith)) ∙ sym (take-add 4 8 d)) (field 12 8 (omega arith)) ∙ sym (take-add 12 8 d)) (field 20 8 (omega arith)) ∙ sym (take-add 20 8 d)) (field 28 8 (omega arith)) ∙ sym (take-add 28 8 d)) (field 36 8 (omega arith)) ∙ sym (take-add 36 8 d)) (field 44 8 (omega arith))
      ∙ sym (take-add 44 8 d)

pub slot_at : (at : ℕ) (w : List ℕ) → Bytes w → at + 52 ≤ length w → part at 52 w ≡ slot_bytes (slot_of (drop at w))
slot_at at w f h = sym (slot_is (drop at w) (bytes_drop at w f) (omega (arith, length-drop at w)))

-- The slots of writes read from bytes fit.
applied_more : (x : Bool) (s : Slot) {ss : List Slot} → SlotFits s → Each SlotFits ss → Each SlotFits (cond x (s ∷ ss) ss)
applied_more true s f fs = each_more f fs
applied_more false s f fs = fs

applied_from : (t : Layer) (n : ℕ) (b : List ℕ) → Bytes b → Each SlotFits (applied_in t (map write_of (chunks 84 n b)))
unfolding applied_in chunks
applied_from t zero b f = each_none
applied_from t (suc n) b f = applied_more (is_some (find (slot_of (take 84 b)) t)) _ (slot_of_fits (take 84 b) (bytes_take 84 b f)) (applied_from t n (drop 84 b) (bytes_drop 84 b f))

pub applied_fit : (t : Layer) (b : List ℕ) → Bytes b → Each SlotFits (applied_in t (writes_of b))
unfolding writes_of
applied_fit t b f = applied_from t (length b / 84) b f

-- The output half way -----------------------------------------------------------------------------------

-- k slots were put; these follow.
abbrev pub put_at : ℕ → List Slot → List ℕ → List ℕ
put_at k ss out = take (k * 52) out ++ slots_bytes ss ++ drop ((k + length ss) * 52) out

pub put_start : (ss : List Slot) (out : List ℕ) → put_at 0 ss out ≡ with_slots ss out
put_start ss out =
    let e : (0 + length ss) * 52 ≡ 52 * length ss = omega arith in
    ap (λ (n : ℕ). slots_bytes ss ++ drop n out) e

pub put_end : (k : ℕ) (ss : List Slot) (out : List ℕ) → ss ≡ [] → put_at k ss out ≡ out
unfolding slots_bytes
put_end k ss out h =
    let e : (k + 0) * 52 ≡ k * 52 = omega arith in
    ap (λ (x : List Slot). put_at k x out) h ∙ ap₂ (λ (x : List ℕ) (n : ℕ). x ++ drop n out) (append-nil (take (k * 52) out)) e ∙ take-append-drop (k * 52) out

pub put_next : (k : ℕ) (s : Slot) (ss : List Slot) (out : List ℕ) → k * 52 + 52 ≤ length out → put_at (k + 1) ss (placed (k * 52) (slot_bytes s) out) ≡ put_at k (s ∷ ss) out
unfolding slots_bytes
put_next k s ss out h =
    let sb : List ℕ = slot_bytes s in
    let p : List ℕ = take (k * 52) out ++ sb in
    let d : List ℕ = drop (k * 52 + length sb) out in
    let m : length sb ≡ 52 = length_slot s in
    let n : length p ≡ (k + 1) * 52 = length-append (take (k * 52) out) sb ∙ omega (arith, length-take-le (k * 52) out (omega arith), m) in
    let t : take ((k + 1) * 52) (p ++ d) ≡ p = take_at p d ((k + 1) * 52) n in
    let e : (k + 1 + length ss) * 52 ≡ (k + 1) * 52 + length ss * 52 = omega arith in
    let g : k * 52 + length sb + length ss * 52 ≡ (k + suc (length ss)) * 52 = omega arith in
    let u : drop ((k + 1 + length ss) * 52) (p ++ d) ≡ drop ((k + suc (length ss)) * 52) out =
    ap (λ (i : ℕ). drop i (p ++ d)) e ∙ sym (drop-drop (length ss * 52) ((k + 1) * 52) (p ++ d))
    ∙ ap (drop (length ss * 52)) (drop_at p d ((k + 1) * 52) n) ∙ drop-drop (length ss * 52) (k * 52 + length sb) out ∙ ap (λ (i : ℕ). drop i out) g in
    ap₂ (λ (x y : List ℕ). x ++ slots_bytes ss ++ y) t u
    ∙ ap (λ (x : List ℕ). x ++ drop ((k + suc (length ss)) * 52) out) (append_assoc (take (k * 52) out) sb (slots_bytes ss))

-- Along the list ----------------------------------------------------------------------------------------

-- The writes before i are done, and k slots were put: what is still to be put gives the whole.
pub record Putting (t : Layer) (writes before out : List ℕ) (k i : ℕ) : Type 0 where
  pub output_is : put_at k (applied_in t (drop i (writes_of writes))) out ≡ with_slots (applied_in t (writes_of writes)) before
  pub count_is : k + length (applied_in t (drop i (writes_of writes))) ≡ length (applied_in t (writes_of writes))
  pub few : k ≤ i

pub putting_start : (t : Layer) (writes out : List ℕ) → Putting t writes out out 0 0
putting_start t writes out = record { output_is = put_start (applied_in t (writes_of writes)) out; count_is = omega arith; few = omega arith }

-- Past the last write.
pub putting_end : {t : Layer} {writes before out : List ℕ} {k i : ℕ} → Putting t writes before out k i → length writes / 84 ≤ i
    → (out ≡ with_slots (applied_in t (writes_of writes)) before) × (k ≡ length (applied_in t (writes_of writes)))
unfolding applied_in
putting_end {t} {writes} {before} {out} {k} {i} h g =
    let e : applied_in t (drop i (writes_of writes)) ≡ [] = ap (applied_in t) (writes_end i writes g) in
    (sym (put_end k (applied_in t (drop i (writes_of writes))) out e) ∙ h.output_is, omega (arith, ap length e, h.count_is))

-- Write i, by its slot u, and by r, whether the top has a record of it.
module _ {t : Layer} {writes before out : List ℕ} {k i : ℕ} (h : Putting t writes before out k i) (g : i < length writes / 84) {u : Slot} {r : Bool} (p : u ≡ slot_of (drop (i * 84) writes)) (q : r ≡ is_some (find u t)) where
  abbrev slot_here : Slot
  slot_here = slot_of (drop (i * 84) writes)

  abbrev rest : List Slot
  rest = applied_in t (drop (i + 1) (writes_of writes))

  here_is : (x : Bool) → r ≡ x → applied_in t (drop i (writes_of writes)) ≡ cond x (slot_here ∷ rest) rest
  unfolding applied_in
  here_is x e =
      ap (applied_in t) (write_at i writes g)
      ∙ ap₂ (λ (y : Bool) (j : ℕ). cond y (slot_here ∷ applied_in t (drop j (writes_of writes))) (applied_in t (drop j (writes_of writes)))) (ap (λ (y : Slot). is_some (find y t)) (sym p) ∙ sym q ∙ e) (sym (add-one i))

  pub putting_skip : r ≡ false → Putting t writes before out k (i + 1)
  putting_skip e = record {
    output_is = sym (ap (λ (ss : List Slot). put_at k ss out) (here_is false e)) ∙ h.output_is;
    count_is = sym (ap (λ (ss : List Slot). k + length ss) (here_is false e)) ∙ h.count_is;
    few = omega (arith, h.few);
  }

  pub putting_next : {n : ℕ} {after : List ℕ} → length writes / 84 * 52 ≤ length out → Bytes writes → r ≡ true → n ≡ 52 → after ≡ placed (k * 52) (part (i * 84) n writes) out → Putting t writes before after (k + 1) (i + 1)
  putting_next room f e m o =
      let n = here_is true e in
      let fits = entry_fits 84 i (length writes) g in
      record {
        output_is =
            ap (put_at (k + 1) rest) (o ∙ ap (λ (j : ℕ). placed (k * 52) (part (i * 84) j writes) out) m ∙ ap (λ (x : List ℕ). placed (k * 52) x out) (slot_at (i * 84) writes f (omega (arith, fits))))
            ∙ put_next k slot_here rest out (omega (arith, h.few, room)) ∙ sym (ap (λ (ss : List Slot). put_at k ss out) n) ∙ h.output_is;
        count_is = omega (arith, ap length n, h.count_is);
        few = omega (arith, h.few);
      }
