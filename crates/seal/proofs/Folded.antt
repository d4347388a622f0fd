-- A seal over a fold: the folded layer's records, those of the top behind them, and the ends of both.
use Prim.Native.Nat.{ℕ, suc, ◌+◌, ◌-◌, ◌*◌, ◌≤◌}
use mathlib.Core.Path.{◌≡◌, refl, sym, ap, ap₂, ◌∙◌}
use mathlib.Core.Bool.{cond}
use mathlib.Core.List.{List, [], ◌∷◌, ◌++◌, append_assoc}
use native.Mathlib.Omega.{arith}
use lib.Dec.{eqb}
use lib.ListN.{length, take, drop, replicate, length-append, length-drop, length-replicate}
use lib.Seq.{take_at, drop_at, drop-drop, take_all}
use borrow.Author.Tests.{eq-eqb, ne_eqb}
use borrow.Rule.Slice.PartMut.{put_mid}
use Rattle.layout.specs.Layout.{capacity_offset, record_size, record_width, records_offset}
use Rattle.model.specs.declared.storage_memo.ReadAnchor.{ReadAnchor}
use Rattle.model.specs.Numbers.{Bytes}
use Rattle.model.specs.Layers.{Record, Layer, record_count}
use Rattle.model.specs.Advance.{is_void, seal}
use Rattle.model.specs.Store.{Config}
use Rattle.model.specs.Refusals.{store_size}
use Rattle.words.specs.Parts.{placed}
use Rattle.image.specs.Image.{bytes_of, all_record_words, flat_records, layer_ends, overlay}
use Rattle.image.specs.Area.{with_records}
use Rattle.image.specs.Lent.{store_of, generation_of, Installed}
use Rattle.image.proofs.Words.{length_bytes_of}
use Rattle.image.proofs.Entries.{length_records}
use Rattle.image.proofs.Areas.{word, words_append}
use Rattle.image.proofs.Lent.{generation_in}
use Rattle.image.proofs.Written.{bytes_append}
use Rattle.header.proofs.Segments.{zero_bytes}
use Rattle.top.proofs.Changed.{top_exact}
use Rattle.top.proofs.Tops.{lent_back}
use Rattle.seal.specs.Sealed.{begun_on, header_words, with_layer, topped_up}
use Rattle.seal.proofs.Headers.{layer_added, length_header, record_bytes, begun_bytes, placed_next}

-- The bytes of records.
abbrev pub bytes_in : List Record → List ℕ
bytes_in rs = bytes_of (all_record_words rs)

pub length_in : (rs : List Record) → length (bytes_in rs) ≡ record_size * length rs
length_in rs = length_bytes_of (all_record_words rs) ∙ omega (arith, length_records rs)

-- The top's records in the bytes of a store.
top_part : (b : List ℕ) → Bytes b → Installed b → take (record_size * length (generation_of b).top) (drop (records_offset + record_size * record_count (generation_of b).base) b) ≡ bytes_in (generation_of b).top
unfolding with_records
top_part b f h =
    let t : Layer = (generation_of b).top in
    let d : List ℕ = drop (records_offset + record_size * record_count (generation_of b).base) b in
    ap (take (record_size * length t)) (sym (top_exact b (store_of b) (generation_of b) f h.is_store h.installs)) ∙ take_at (bytes_in t) (drop (record_size * length t) d) (record_size * length t) (length_in t)

-- The top placed behind `left` records, in the steps that the code takes.
pub topped_by : (s w : List ℕ) (left x n capacity : ℕ) {t u : List ℕ} → Bytes s → Installed s → x ≡ record_count (generation_of s).base → n ≡ length (generation_of s).top → capacity ≡ word capacity_offset s
    → t ≡ placed (records_offset + record_size * left) (take (records_offset + record_size * x + record_size * n - (records_offset + record_size * x)) (drop (records_offset + record_size * x) s)) w
    → u ≡ placed (records_offset + record_size * left + record_size * n) (replicate (record_size * (capacity - (left + n))) 0) t
    → u ≡ topped_up left (store_of s).config.capacity (generation_of s).top w
topped_by s w left x n capacity {t} {u} f h ex en ec p q =
    let top : Layer = (generation_of s).top in
    let cap : ℕ = (store_of s).config.capacity in
    let c : capacity ≡ cap = ec ∙ (generation_in s h).store.capacity_word in
    let i : records_offset + record_size * x + record_size * n - (records_offset + record_size * x) ≡ record_size * length top = omega arith in
    let r : take (records_offset + record_size * x + record_size * n - (records_offset + record_size * x)) (drop (records_offset + record_size * x) s) ≡ bytes_in top =
    ap₂ (λ (j k : ℕ). take j (drop (records_offset + record_size * k) s)) i ex ∙ top_part s f h in
    let a : records_offset + record_size * left + record_size * n ≡ records_offset + record_size * (left + length top) = omega arith in
    let z : record_size * (capacity - (left + n)) ≡ record_size * (cap - (left + length top)) = ap₂ (λ (j k : ℕ). record_size * (j - (left + k))) c en in
    q ∙ ap (λ (y : List ℕ). placed (records_offset + record_size * left + record_size * n) (replicate (record_size * (capacity - (left + n))) 0) y) (p ∙ ap (λ (y : List ℕ). placed (records_offset + record_size * left) y w) r)
    ∙ ap₂ (λ (j k : ℕ). placed j (replicate k 0) (placed (records_offset + record_size * left) (bytes_in top) w)) a z

-- The record area -------------------------------------------------------------------------------------

-- The records of two layers and zeros.
pub two_layers : (capacity : ℕ) (l t : Layer) → record_bytes capacity (l ++ t) ≡ bytes_in l ++ (bytes_in t ++ replicate (record_size * (capacity - (length l + length t))) 0)
two_layers capacity l t =
    let z : ℕ = record_width * capacity - length (all_record_words (l ++ t)) in
    let e : 8 * z ≡ record_size * (capacity - (length l + length t)) = omega (arith, length_records (l ++ t), length-append l t) in
    bytes_append (all_record_words (l ++ t)) (replicate z 0)
    ∙ ap₂ (λ (x y : List ℕ). x ++ y) (ap bytes_of (words_append l t) ∙ bytes_append (all_record_words l) (all_record_words t)) (zero_bytes z ∙ ap (λ (i : ℕ). replicate {A = ℕ} i 0) e)
    ∙ append_assoc (bytes_in l) (bytes_in t) (replicate (record_size * (capacity - (length l + length t))) 0)

-- A header, over what stood there; a folded layer's records written behind it; the top's records behind those.
module _ (hd w : List ℕ) (l t : Layer) (capacity : ℕ) (long : length hd ≡ records_offset) (fits : length l + length t ≤ capacity) where
  layer_written : {x y ys : List ℕ} → x ≡ hd ++ drop records_offset w → ys ≡ with_records l (take (length x - records_offset) (drop records_offset x)) → y ≡ put_mid records_offset (length x - records_offset) x ys
      → y ≡ (hd ++ bytes_in l) ++ drop (records_offset + record_size * length l) w
  unfolding with_records
  layer_written {x} {y} {ys} e f g =
      let d : drop records_offset x ≡ drop records_offset w = ap (drop records_offset) e ∙ drop_at hd (drop records_offset w) records_offset long in
      let all : take (length x - records_offset) (drop records_offset x) ≡ drop records_offset w = take_all (length x - records_offset) (drop records_offset x) (omega (arith, length-drop records_offset x)) ∙ d in
      let front : take records_offset x ≡ hd = ap (take records_offset) e ∙ take_at hd (drop records_offset w) records_offset long in
      g ∙ lent_back records_offset x ys
      ∙ ap₂ (λ (p q : List ℕ). p ++ q) front (f ∙ ap (λ (q : List ℕ). bytes_in l ++ drop (record_size * length l) q) all ∙ ap (λ (q : List ℕ). bytes_in l ++ q) (drop-drop (record_size * length l) records_offset w))
      ∙ sym (append_assoc hd (bytes_in l) (drop (records_offset + record_size * length l) w))

  area_written : {y u : List ℕ} → y ≡ (hd ++ bytes_in l) ++ drop (records_offset + record_size * length l) w → u ≡ topped_up (length l) capacity t y
      → u ≡ hd ++ (record_bytes capacity (l ++ t) ++ drop (store_size capacity) w)
  area_written {y} {u} e f =
      let z : List ℕ = replicate (record_size * (capacity - (length l + length t))) 0 in
      let r : List ℕ = drop (store_size capacity) w in
      let n1 : length (hd ++ bytes_in l) ≡ records_offset + record_size * length l = length-append hd (bytes_in l) ∙ omega (arith, length_in l) in
      let n2 : length ((hd ++ bytes_in l) ++ bytes_in t) ≡ records_offset + record_size * (length l + length t) = length-append (hd ++ bytes_in l) (bytes_in t) ∙ omega (arith, length_in t) in
      let at2 : records_offset + record_size * length l + length (bytes_in t) ≡ records_offset + record_size * (length l + length t) = omega (arith, length_in t) in
      let at3 : records_offset + record_size * (length l + length t) + length z ≡ store_size capacity = omega (arith, length-replicate {A = ℕ} (record_size * (capacity - (length l + length t))) 0) in
      f ∙ ap (λ (q : List ℕ). placed (records_offset + record_size * (length l + length t)) z q)
      (ap (λ (q : List ℕ). placed (records_offset + record_size * length l) (bytes_in t) q) e ∙ placed_next (hd ++ bytes_in l) (bytes_in t) w (records_offset + record_size * length l) (records_offset + record_size * (length l + length t)) n1 at2)
      ∙ placed_next ((hd ++ bytes_in l) ++ bytes_in t) z w (records_offset + record_size * (length l + length t)) (store_size capacity) n2 at3
      ∙ group hd (bytes_in l) (bytes_in t) z r
      ∙ ap (λ (q : List ℕ). hd ++ (q ++ r)) (sym (two_layers capacity l t))
    where
      group : (a b c d e : List ℕ) → (((a ++ b) ++ c) ++ d) ++ e ≡ a ++ ((b ++ (c ++ d)) ++ e)
      group a b c d e = simp append_assoc

-- The layers ------------------------------------------------------------------------------------------

-- An empty folded layer is void: the top is the only layer. Else the top stands over it.
module _ (cfg : Config) (a : ReadAnchor) (t : Layer) (w u v : List ℕ) (left total : ℕ) where
  layers_written : (l : Layer) → length l + length t ≤ cfg.capacity → left ≡ length l → total ≡ left + length t
      → u ≡ bytes_of (header_words cfg a 0 0 []) ++ (record_bytes cfg.capacity (l ++ t) ++ drop (store_size cfg.capacity) w)
      → v ≡ cond (eqb left 0) (with_layer 0 total u) (with_layer 1 total (with_layer 0 left u))
      → v ≡ overlay (begun_on cfg a (seal t (l ∷ []))) w
  unfolding seal is_void layer_ends record_count flat_records
  layers_written [] fits el et p q =
      let x : List ℕ = record_bytes cfg.capacity t ++ drop (store_size cfg.capacity) w in
      let n : total ≡ length t + 0 = omega arith in
      q ∙ rw (eq-eqb left 0 el)
      (ap (with_layer 0 total) p ∙ layer_added cfg a 0 0 0 total [] x refl (omega arith)
      ∙ ap (λ (k : ℕ). bytes_of (header_words cfg a 0 k (k ∷ [])) ++ x) n
      ∙ sym (begun_bytes cfg a (t ∷ []) w (omega arith) (omega arith)))
  layers_written (r ∷ l) fits el et p q =
      let x : List ℕ = record_bytes cfg.capacity ((r ∷ l) ++ t) ++ drop (store_size cfg.capacity) w in
      let m : left ≡ suc (length l) + 0 = omega arith in
      let n : total ≡ length t + (suc (length l) + 0) = omega arith in
      q ∙ rw (ne_eqb left 0 (λ z. omega arith))
      (ap (λ (y : List ℕ). with_layer 1 total (with_layer 0 left y)) p
      ∙ ap (with_layer 1 total) (layer_added cfg a 0 0 0 left [] x refl (omega arith))
      ∙ layer_added cfg a 0 left 1 total (left ∷ []) x refl (omega arith)
      ∙ ap₂ (λ (i k : ℕ). bytes_of (header_words cfg a 1 k (i ∷ k ∷ [])) ++ x) m n
      ∙ sym (begun_bytes cfg a (t ∷ (r ∷ l) ∷ []) w (omega arith) (omega arith)))

-- A seal over a fold, in the steps that the code takes.
pub folded_by : (cfg : Config) (a : ReadAnchor) (l t : Layer) (w : List ℕ) (left total : ℕ) {x y ys u v : List ℕ} → length l + length t ≤ cfg.capacity → left ≡ length l → total ≡ left + length t
    → x ≡ bytes_of (header_words cfg a 0 0 []) ++ drop records_offset w
    → ys ≡ with_records l (take (length x - records_offset) (drop records_offset x))
    → y ≡ put_mid records_offset (length x - records_offset) x ys
    → u ≡ topped_up left cfg.capacity t y
    → v ≡ cond (eqb left 0) (with_layer 0 total u) (with_layer 1 total (with_layer 0 left u))
    → v ≡ overlay (begun_on cfg a (seal t (l ∷ []))) w
folded_by cfg a l t w left total {x} {y} {ys} {u} {v} fits el et p1 p2 p3 p4 p5 =
    let hd : List ℕ = bytes_of (header_words cfg a 0 0 []) in
    let long : length hd ≡ records_offset = length_header cfg a 0 0 [] (omega arith) in
    let area : u ≡ hd ++ (record_bytes cfg.capacity (l ++ t) ++ drop (store_size cfg.capacity) w) =
    area_written hd w l t cfg.capacity long fits (layer_written hd w l t cfg.capacity long fits p1 p2 p3) (p4 ∙ ap (λ (k : ℕ). topped_up k cfg.capacity t y) el) in
    layers_written cfg a t w u v left total l fits el et area p5
