-- The links of the chain of checks, each with what the earlier ones have shown.
use Rattle.std.specs.Prelude.{is_some}
use Prim.Native.Nat.{ℕ, suc, ◌+◌, ◌-◌, ◌*◌, ◌≤◌, ◌<◌}
use mathlib.Core.Path.{◌≡◌, refl, sym, ap, ap₂, ◌∙◌}
use mathlib.Core.Bool.{true, false, ◌&&◌, cond}
use mathlib.Core.List.{List, [], ◌∷◌, map}
use native.Mathlib.Omega.{arith}
use lib.Dec.{eqb, leb, ltb}
use lib.ListN.{length, take, drop, get_or, length-map}
use lib.Seq.{get_or-take, get_or_at, get_or-drop, length-take-le}
use borrow.Author.Tests.{leb-true, le-leb, lt-leb, eq-eqb, ne_eqb}
use Rattle.layout.specs.Layout.{awaiting_count_index, awaiting_offset, awaiting_table, capacity_index, config_width, depth_index, ends_limit, ends_offset, generation_width, header_width, idle_index, installed_index, installed_offset, magic, max_depth_index, number_index, record_size, record_width, records_count_index, records_offset, retention_index, table_width}
use Rattle.model.specs.declared.delta_snapshot.Retention.{Retention}
use Rattle.model.specs.declared.delta_snapshot.Retention.TheVariants.{Unbounded, IdleBlocks}
use Rattle.model.specs.Numbers.{Bytes}
use Rattle.model.specs.Layers.{Record, Layer, record_count}
use Rattle.model.proofs.SlotLaws.{and_left, and_right, and_true, and_false}
use Rattle.image.specs.WellFormed.{rising}
use Rattle.model.specs.Refusals.{store_words}
use Rattle.image.specs.Image.{words_of, flat_records, layer_ends, read_record, read_retention, entries, Cut, cut, decode}
use Rattle.image.specs.Area.{records_of}
use Rattle.image.proofs.Words.{length_words_of}
use Rattle.image.proofs.Entries.{length_ends}
use Rattle.rules.specs.Rules.{cross_rules, all_rising}
use Rattle.rules.proofs.LayerLaws.{rules_mean}
use Rattle.checking.specs.declared.Counted.{Counted}
use Rattle.checking.specs.Checks.{all_zero, config_right, anchor_right, counts_right, ends_rise, ends_right, reads_right, area_right, records_right, layers_rise, cross_right, parts_right, rules_right, store_right, bytes_right, capacity_of, parts_in, rules_in, rows}
use Rattle.checking.proofs.Bools.{length_entries}
use Rattle.checking.proofs.Cuts.{CutSays, cut_says, length_cut, all_rising_cut}
use Rattle.checking.proofs.Parts.{rest, rows_area}
use Rattle.checking.proofs.Steps.{zero_tail}
use Rattle.checking.proofs.Decode.{four_parts, decode_law}

-- A generation's parts ----------------------------------------------------------------------------------

pub ends_say : (d n : ℕ) (l : List ℕ) → ends_right d n l ≡ true → ends_rise n 0 (take (suc d) l) ≡ true
unfolding ends_right
ends_say d n l e = and_left (ends_rise n 0 (take (suc d) l)) _ e

-- The rules across layers -------------------------------------------------------------------------------

-- The last end of some layers is the number of their records.
last_end : (ls : List Layer) (d : ℕ) → length ls ≡ suc d → get_or (layer_ends ls) d 0 ≡ record_count ls
unfolding layer_ends
last_end [] d h = absurd (omega arith)
last_end (l ∷ ls) d h = get_or_at (layer_ends ls) (record_count (l ∷ ls)) [] 0 d (length_ends ls ∙ omega arith)

-- Over records that ends cut into layers that rise, the rules say what they say of the layers.
cross_law : (R : Retention) (number d n : ℕ) (E : List ℕ) (es : List (List ℕ)) → length es ≡ n → d < length E → ends_rise n 0 (take (suc d) E) ≡ true → layers_rise 0 (take (suc d) E) es ≡ true →
    cross_rules R number (get_or E d 0) (map read_record es) ≡ cross_right R number (cut 0 (take (suc d) E) (map read_record es) [])
unfolding cross_right record_count flat_records layer_ends all_rising
cross_law R number d n E es h j e r =
    let ends : List ℕ = take (suc d) E in
    let c : Cut = cut 0 ends (map read_record es) [] in
    let says : CutSays [] ends (map read_record es) c = cut_says n 0 ends (map read_record es) [] refl (length-map es read_record ∙ omega arith) e in
    let deep : length c.base ≡ suc d = length_cut 0 ends (map read_record es) [] ∙ omega (arith, length-take-le (suc d) E (omega arith)) in
    let up : all_rising (c.top ∷ c.base) ≡ true = all_rising_cut 0 ends es [] ∙ and_true _ ∙ r in
    let top : get_or E d 0 ≡ record_count c.base = sym (get_or-take (suc d) E d 0 (omega arith)) ∙ ap (λ (l : List ℕ). get_or l d 0) (sym says.ends) ∙ last_end c.base d deep in
    ap₂ (λ (k : ℕ) (l : List Record). cross_rules R number k l) top (sym says.flat)
    ∙ rules_mean R number c.top c.base (and_left (rising c.top) _ up) (and_right (rising c.top) _ up)

-- What the checks of the parts say of the records.
record Records (s : List ℕ) : Type 0 where
  ends : ends_rise (get_or (words_of header_width s) records_count_index 0) 0 (take (suc (get_or (words_of header_width s) depth_index 0)) (words_of ends_limit (drop ends_offset s))) ≡ true
  rise : layers_rise 0 (take (suc (get_or (words_of header_width s) depth_index 0)) (words_of ends_limit (drop ends_offset s))) (entries record_width (get_or (words_of header_width s) records_count_index 0) (words_of (record_width * capacity_of s) (drop records_offset s))) ≡ true

records_say : (s : List ℕ) → parts_in s ≡ true → Records s
unfolding parts_right records_right
records_say s e =
    let h : List ℕ = words_of header_width s in
    let E : List ℕ = words_of ends_limit (drop ends_offset s) in
    let e₁ = and_right (anchor_right h) _ e in
    let e₂ = and_right (counts_right h) _ e₁ in
    let e₃ = and_right (ends_right (get_or h depth_index 0) (get_or h records_count_index 0) E) _ e₂ in
    let e₄ = and_right (reads_right (get_or h awaiting_count_index 0) h (words_of awaiting_table (drop awaiting_offset s))) _ e₃ in
    record {
      ends = ends_say (get_or h depth_index 0) (get_or h records_count_index 0) E (and_left (ends_right (get_or h depth_index 0) (get_or h records_count_index 0) E) _ e₂);
      rise = and_right (area_right (get_or h number_index 0) (get_or h records_count_index 0) (words_of (record_width * capacity_of s) (drop records_offset s))) _ e₄;
    }

-- The rules, of the numbers that were read.
pub rules_law : (c : Counted) (top f idle number : ℕ) →
    let s : List ℕ = c.bytes.now in
    let h : List ℕ = words_of header_width s in
    parts_in s ≡ true → top ≡ get_or (words_of ends_limit (drop ends_offset s)) c.depth 0 → f ≡ get_or h retention_index 0 → idle ≡ get_or h idle_index 0 → number ≡ get_or h number_index 0 →
    cross_rules (cond (eqb f 0) Unbounded (IdleBlocks idle)) number top (records_of c.records (take (length s - records_offset) (drop records_offset s))) ≡ rules_in s
unfolding rules_right records_of
rules_law c top f idle number e pt pf pi pu =
    let s : List ℕ = c.bytes.now in
    let h : List ℕ = words_of header_width s in
    let n : ℕ = c.records in
    let E : List ℕ = words_of ends_limit (drop ends_offset s) in
    let area : List ℕ = drop records_offset s in
    let k : Records s = records_say s e in
    let R : Retention = read_retention (drop retention_index h) in
    let room : get_or h records_count_index 0 ≤ capacity_of s = omega (arith, c.few, c.records_is, c.capacity_is) in
    let deep : get_or h depth_index 0 < length E = omega (arith, c.shallow, c.depth_is, length_words_of ends_limit (drop ends_offset s)) in
    let kept : cond (eqb f 0) Unbounded (IdleBlocks idle) ≡ R = ap₂ (λ (x y : ℕ). cond (eqb x 0) Unbounded (IdleBlocks y)) (pf ∙ sym (get_or-drop retention_index h 0 0)) (pi ∙ sym (get_or-drop retention_index h 1 0)) in
    let es : entries record_width n (words_of (record_width * n) (take (length s - records_offset) (drop records_offset s))) ≡ entries record_width (get_or h records_count_index 0) (words_of (record_width * capacity_of s) area) =
    ap (λ (l : List ℕ). entries record_width n (words_of (record_width * n) l)) (rest records_offset s) ∙ rows_area n n area (omega arith) ∙ ap (λ (x : ℕ). rows record_width x area) c.records_is ∙ sym (rows_area (get_or h records_count_index 0) (capacity_of s) area room) in
    ap₂ (λ (x : Retention) (y : List (List ℕ)). cross_rules x number top (map read_record y)) kept es
    ∙ ap₂ (λ (x y : ℕ). cross_rules R x y (map read_record (entries record_width (get_or h records_count_index 0) (words_of (record_width * capacity_of s) area)))) pu (pt ∙ ap (λ (x : ℕ). get_or E x 0) c.depth_is)
    ∙ cross_law R (get_or h number_index 0) (get_or h depth_index 0) (get_or h records_count_index 0) E (entries record_width (get_or h records_count_index 0) (words_of (record_width * capacity_of s) area)) (length_entries record_width (get_or h records_count_index 0) _) deep k.ends k.rise

-- The store ---------------------------------------------------------------------------------------------

-- What the first check says.
pub config_sized : (s : List ℕ) → config_right (words_of header_width s) ≡ true → (capacity_of s ≤ 4096) × (get_or (words_of header_width s) max_depth_index 0 ≤ 255)
unfolding config_right
config_sized s e =
    let h : List ℕ = words_of header_width s in
    let e₁ = and_right (eqb (get_or h 0 0) magic) _ e in
    let e₂ = and_right (ltb 0 (get_or h capacity_index 0)) _ e₁ in
    let e₃ = and_right (leb (get_or h capacity_index 0) 4096) _ e₂ in
    let e₄ = and_right (ltb 0 (get_or h max_depth_index 0)) _ e₃ in
    (leb-true _ _ (and_left (leb (get_or h capacity_index 0) 4096) _ e₂), leb-true _ _ (and_left (leb (get_or h max_depth_index 0) 255) _ e₄))

-- Bytes that are too short, or whose first words are not right, are no store.
pub is_cut : (s : List ℕ) → Bytes s → length s < records_offset + record_size * capacity_of s → false ≡ is_some (decode s)
is_cut s b h = sym (decode_law s b ∙ rw (lt-leb (8 * store_words (capacity_of s)) (length s) (omega arith)))

pub is_odd : (s : List ℕ) → Bytes s → config_right (words_of header_width s) ≡ false → false ≡ is_some (decode s)
unfolding bytes_right store_right
is_odd s b h = sym (decode_law s b ∙ rw h (and_false (leb (8 * store_words (capacity_of s)) (length s))))

-- Of others, either all is 0 from word 5 on, or the generation decides.
module _ (s : List ℕ) (b : Bytes s) (c : config_right (words_of header_width s) ≡ true) (l : records_offset + record_size * capacity_of s ≤ length s) where
  pub is_bare : (x : ℕ) → x ≡ get_or (words_of header_width s) installed_index 0 → x ≡ 0 → all_zero (drop installed_offset (take (records_offset + record_size * capacity_of s) s)) ≡ is_some (decode s)
  unfolding bytes_right store_right
  is_bare x p h =
      let z : get_or (words_of header_width s) installed_index 0 ≡ 0 = sym p ∙ h in
      let e : config_width + (generation_width + table_width + record_width * capacity_of s) ≡ store_words (capacity_of s) = omega arith in
      zero_tail config_width (generation_width + table_width + record_width * capacity_of s) 0 installed_offset (records_offset + record_size * capacity_of s) s refl (omega arith) l
      ∙ ap (λ (n : ℕ). all_zero (drop 5 (words_of n s))) e
      ∙ ap (λ (ws : List ℕ). all_zero (drop 5 ws)) (four_parts (capacity_of s) s)
      ∙ sym (decode_law s b ∙ rw (le-leb (8 * store_words (capacity_of s)) (length s) (omega arith), c, eq-eqb (get_or (words_of header_width s) installed_index 0) 0 z))

  pub is_full : (x : ℕ) → x ≡ get_or (words_of header_width s) installed_index 0 → (x ≡ 0 → ⊥) → (parts_in s && rules_in s) ≡ is_some (decode s)
  unfolding bytes_right store_right
  is_full x p h = sym (decode_law s b ∙ rw (le-leb (8 * store_words (capacity_of s)) (length s) (omega arith), c, ne_eqb (get_or (words_of header_width s) installed_index 0) 0 (λ z. h (p ∙ z))))
