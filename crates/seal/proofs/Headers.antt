-- The bytes of a header as it is written: empty, with layer ends copied, with a layer more; and the image of a store that begins over a base.
use Rattle.std.specs.Prelude.{Some}
use Prim.Native.Nat.{ℕ, pred, ◌+◌, ◌-◌, ◌*◌, ◌≤◌, ◌<◌}
use mathlib.Core.Path.{◌≡◌, refl, sym, ap, ap₂, ◌∙◌}
use mathlib.Core.List.{List, [], ◌∷◌, ◌++◌, append_assoc, append-nil}
use native.Mathlib.Omega.{arith}
use lib.ListN.{length, drop, replicate, length-append, length-replicate, replicate-append-replicate}
use lib.Seq.{take_at, drop_at, drop-drop}
use Rattle.layout.specs.Layout.{awaiting_count_offset, awaiting_table, awaiting_table_size, counts_width, depth_offset, ends_limit, ends_offset, ends_size, installed_offset, record_size, record_width, records_count_offset, records_offset, table_width}
use Rattle.model.specs.declared.storage_memo.ReadAnchor.{ReadAnchor}
use Rattle.model.specs.Numbers.{be}
use Rattle.model.proofs.NumberLaws.{length_be}
use Rattle.model.specs.Layers.{Record, Layer, record_count}
use Rattle.model.specs.Advance.{void_base}
use Rattle.model.specs.Store.{Config, new_generation}
use Rattle.model.specs.Refusals.{store_size}
use Rattle.words.specs.Parts.{placed}
use Rattle.image.specs.Image.{bytes_of, hash_words, all_record_words, all_pending_words, flat_records, layer_ends, padded, config_words, image_words, image, overlay}
use Rattle.image.proofs.Words.{length_bytes_of, length_padded}
use Rattle.image.proofs.Entries.{length_records, length_flat, length_ends}
use Rattle.image.proofs.Written.{bytes_append}
use Rattle.header.proofs.Segments.{zero_bytes, placed_over, placed_zeros, first_word, next_word}
use Rattle.header.proofs.Images.{length_hash, length_retention}
use Rattle.header.proofs.Begun.{anchor_bytes, length_config, length_anchor}
use Rattle.seal.specs.Sealed.{begun_on, header_words}

-- The header in segments ------------------------------------------------------------------------------

-- The bytes before the depth: what the open set, the mark and the anchor.
abbrev front : Config → ReadAnchor → List ℕ
front cfg a = bytes_of (config_words cfg ++ (1 ∷ a.number ∷ hash_words a.hash))

length_front : (cfg : Config) (a : ReadAnchor) → length (front cfg a) ≡ depth_offset
length_front cfg a =
    length_bytes_of (config_words cfg ++ (1 ∷ a.number ∷ hash_words a.hash))
    ∙ omega (arith, length-append (config_words cfg) (1 ∷ a.number ∷ hash_words a.hash), length_hash a.hash, length_retention cfg.retention)

regroup : (x n d k : ℕ) (c h z e p w : List ℕ) → c ++ ((x ∷ n ∷ (h ++ (d ∷ k ∷ z))) ++ ((e ++ p) ++ w)) ≡ (c ++ (x ∷ n ∷ h)) ++ ((d ∷ k ∷ []) ++ (z ++ (e ++ (p ++ w))))
regroup x n d k c h z e p w = simp append_assoc

six_bytes : (p q r s t u x : List ℕ) → bytes_of (p ++ (q ++ (r ++ (s ++ (t ++ u))))) ++ x ≡ bytes_of p ++ (bytes_of q ++ (bytes_of r ++ (bytes_of s ++ (bytes_of t ++ (bytes_of u ++ x)))))
six_bytes p q r s t u x = simp (bytes_append, append_assoc)

-- Depth and number of records, totals, layer ends, and zeros to the records.
header_split : (cfg : Config) (a : ReadAnchor) (d n : ℕ) (es x : List ℕ) →
    bytes_of (header_words cfg a d n es) ++ x ≡ front cfg a ++ (bytes_of (d ∷ n ∷ []) ++ (replicate (ends_offset - awaiting_count_offset) 0 ++ (bytes_of es ++ (replicate (8 * (ends_limit - length es)) 0 ++ (replicate awaiting_table_size 0 ++ x)))))
unfolding header_words
header_split cfg a d n es x =
    let z : List ℕ = replicate 10 0 in
    let p : List ℕ = replicate (ends_limit - length es) 0 in
    let w : List ℕ = replicate awaiting_table 0 in
    let c : List ℕ = config_words cfg ++ (1 ∷ a.number ∷ hash_words a.hash) in
    ap (λ (l : List ℕ). bytes_of l ++ x) (regroup 1 a.number d n (config_words cfg) (hash_words a.hash) z es p w)
    ∙ six_bytes c (d ∷ n ∷ []) z es p w x
    ∙ ap₂ (λ (k l : List ℕ). bytes_of c ++ (bytes_of (d ∷ n ∷ []) ++ (k ++ (bytes_of es ++ l)))) (zero_bytes 10)
    (ap₂ (λ (k l : List ℕ). k ++ (l ++ x)) (zero_bytes (ends_limit - length es)) (zero_bytes awaiting_table))

-- With no layer yet, it is zeros past the anchor.
header_empty : (cfg : Config) (a : ReadAnchor) (x : List ℕ) → bytes_of (header_words cfg a 0 0 []) ++ x ≡ bytes_of (config_words cfg) ++ (anchor_bytes a ++ (replicate (records_offset - depth_offset) 0 ++ x))
unfolding header_words
header_empty cfg a x =
    let h : List ℕ = 1 ∷ a.number ∷ hash_words a.hash in
    let z : replicate {A = ℕ} counts_width 0 ++ (replicate ends_limit 0 ++ replicate awaiting_table 0) ≡ replicate (counts_width + table_width) 0 =
    ap (λ (l : List ℕ). replicate {A = ℕ} counts_width 0 ++ l) (replicate-append-replicate ends_limit awaiting_table 0) ∙ replicate-append-replicate counts_width table_width 0 in
    let e : header_words cfg a 0 0 [] ≡ config_words cfg ++ (h ++ replicate (counts_width + table_width) 0) =
    ap (λ (l : List ℕ). config_words cfg ++ (1 ∷ a.number ∷ l)) (append_assoc (hash_words a.hash) (replicate counts_width 0) (replicate ends_limit 0 ++ replicate awaiting_table 0)
    ∙ ap (λ (l : List ℕ). hash_words a.hash ++ l) z) in
    ap (λ (l : List ℕ). bytes_of l ++ x) e ∙ three (config_words cfg) h (replicate (counts_width + table_width) 0)
    ∙ ap (λ (l : List ℕ). bytes_of (config_words cfg) ++ (anchor_bytes a ++ (l ++ x))) (zero_bytes (counts_width + table_width))
  where
    three : (p q r : List ℕ) → bytes_of (p ++ (q ++ r)) ++ x ≡ bytes_of p ++ (bytes_of q ++ (bytes_of r ++ x))
    three p q r = simp (bytes_append, append_assoc)

-- Writing it ------------------------------------------------------------------------------------------

-- Zeros over the header, what the open set, then the anchor.
pub header_written : (cfg : Config) (a : ReadAnchor) (p w t u v : List ℕ) → p ≡ bytes_of (config_words cfg)
    → t ≡ placed 0 (replicate records_offset 0) w → u ≡ placed 0 p t → v ≡ placed installed_offset (anchor_bytes a) u → v ≡ bytes_of (header_words cfg a 0 0 []) ++ drop records_offset w
header_written cfg a p w t u v q e f r =
    let c : List ℕ = bytes_of (config_words cfg) in
    let x : List ℕ = drop records_offset w in
    let one : t ≡ replicate records_offset 0 ++ x = e ∙ ap (λ (k : ℕ). replicate {A = ℕ} records_offset 0 ++ drop k w) (length-replicate {A = ℕ} records_offset 0) in
    let two : u ≡ c ++ (replicate (records_offset - installed_offset) 0 ++ x) =
    f ∙ ap₂ (λ (k l : List ℕ). placed 0 k l) q one ∙ placed_zeros [] c x 0 records_offset refl (omega (arith, length_config cfg)) ∙ ap (λ (k : ℕ). c ++ (replicate (records_offset - k) 0 ++ x)) (length_config cfg) in
    r ∙ ap (placed installed_offset (anchor_bytes a)) two
    ∙ placed_zeros c (anchor_bytes a) x installed_offset (records_offset - installed_offset) (length_config cfg) (omega (arith, length_anchor a))
    ∙ ap (λ (k : ℕ). c ++ (anchor_bytes a ++ (replicate (records_offset - installed_offset - k) 0 ++ x))) (length_anchor a)
    ∙ sym (header_empty cfg a x)

-- The place of the layer ends.
length_before : (cfg : Config) (a : ReadAnchor) (d n : ℕ) → length (front cfg a ++ (bytes_of (d ∷ n ∷ []) ++ replicate (ends_offset - awaiting_count_offset) 0)) ≡ ends_offset
length_before cfg a d n =
    length-append (front cfg a) (bytes_of (d ∷ n ∷ []) ++ replicate (ends_offset - awaiting_count_offset) 0)
    ∙ omega (arith, length_front cfg a, length-append (bytes_of (d ∷ n ∷ [])) (replicate (ends_offset - awaiting_count_offset) 0), length_bytes_of (d ∷ n ∷ []), length-replicate {A = ℕ} 80 0)

joined : (p q r s : List ℕ) → p ++ (q ++ (r ++ s)) ≡ (p ++ (q ++ r)) ++ s
joined p q r s = simp append_assoc

-- Layer ends copied into a header that has none.
pub ends_copied : (cfg : Config) (a : ReadAnchor) (d n : ℕ) (es x : List ℕ) → length es ≤ ends_limit → placed ends_offset (bytes_of es) (bytes_of (header_words cfg a d n []) ++ x) ≡ bytes_of (header_words cfg a d n es) ++ x
unfolding bytes_of
ends_copied cfg a d n es x h =
    let f : List ℕ = front cfg a in
    let b : List ℕ = bytes_of (d ∷ n ∷ []) in
    let z : List ℕ = replicate (ends_offset - awaiting_count_offset) 0 in
    let y : List ℕ = replicate awaiting_table_size 0 ++ x in
    let m : length (bytes_of es) ≤ ends_size = omega (arith, length_bytes_of es) in
    let k : ends_size - length (bytes_of es) ≡ 8 * (ends_limit - length es) = omega (arith, length_bytes_of es) in
    ap (placed ends_offset (bytes_of es)) (header_split cfg a d n [] x ∙ joined f b z (replicate ends_size 0 ++ y))
    ∙ placed_zeros (f ++ (b ++ z)) (bytes_of es) y ends_offset ends_size (length_before cfg a d n) m
    ∙ ap (λ (i : ℕ). (f ++ (b ++ z)) ++ (bytes_of es ++ (replicate i 0 ++ y))) k
    ∙ sym (header_split cfg a d n es x ∙ joined f b z _)

-- A layer more: its number in the place of the depth, and its end twice.
pub layer_added : (cfg : Config) (a : ReadAnchor) (d m k n : ℕ) (es x : List ℕ) → k ≡ length es → k < ends_limit →
    placed (ends_offset + 8 * k) (be 8 n) (placed depth_offset (bytes_of (k ∷ n ∷ [])) (bytes_of (header_words cfg a d m es) ++ x)) ≡ bytes_of (header_words cfg a k n (es ++ (n ∷ []))) ++ x
unfolding bytes_of
layer_added cfg a d m k n es x e h =
    let f : List ℕ = front cfg a in
    let b : List ℕ = bytes_of (k ∷ n ∷ []) in
    let z : List ℕ = replicate (ends_offset - awaiting_count_offset) 0 in
    let c : List ℕ = bytes_of es in
    let y : List ℕ = replicate awaiting_table_size 0 ++ x in
    let free : ℕ = 8 * (ends_limit - length es) in
    let p : List ℕ = f ++ (b ++ (z ++ c)) in
    let len : length p ≡ ends_offset + 8 * k =
    ap length (joined f b z c) ∙ length-append (f ++ (b ++ z)) c ∙ omega (arith, length_before cfg a k n, length_bytes_of es) in
    let one : placed depth_offset b (bytes_of (header_words cfg a d m es) ++ x) ≡ p ++ (replicate free 0 ++ y) =
    ap (placed depth_offset b) (header_split cfg a d m es x)
    ∙ placed_over f b (bytes_of (d ∷ m ∷ [])) (z ++ (c ++ (replicate free 0 ++ y))) depth_offset (length_front cfg a) (length_bytes_of (k ∷ n ∷ []) ∙ sym (length_bytes_of (d ∷ m ∷ [])))
    ∙ far f b z c (replicate free 0 ++ y) in
    let left : free - length (be 8 n) ≡ 8 * (ends_limit - length (es ++ (n ∷ []))) = omega (arith, length_be 8 n, length-append es (n ∷ [])) in
    let last : bytes_of (es ++ (n ∷ [])) ≡ c ++ be 8 n = bytes_append es (n ∷ []) ∙ ap (λ (l : List ℕ). c ++ l) (append-nil (be 8 n)) in
    ap (placed (ends_offset + 8 * k) (be 8 n)) one
    ∙ placed_zeros p (be 8 n) y (ends_offset + 8 * k) free len (omega (arith, length_be 8 n))
    ∙ ap (λ (i : ℕ). p ++ (be 8 n ++ (replicate i 0 ++ y))) left
    ∙ near f b z c (be 8 n) _
    ∙ ap (λ (l : List ℕ). f ++ (b ++ (z ++ (l ++ (replicate (8 * (ends_limit - length (es ++ (n ∷ [])))) 0 ++ y))))) (sym last)
    ∙ sym (header_split cfg a k n (es ++ (n ∷ [])) x)
  where
    far : (p q r s t : List ℕ) → p ++ (q ++ (r ++ (s ++ t))) ≡ (p ++ (q ++ (r ++ s))) ++ t
    far p q r s t = simp append_assoc

    near : (p q r s t u : List ℕ) → (p ++ (q ++ (r ++ s))) ++ (t ++ u) ≡ p ++ (q ++ (r ++ ((s ++ t) ++ u)))
    near p q r s t u = simp append_assoc

-- The whole store -------------------------------------------------------------------------------------

pub length_header : (cfg : Config) (a : ReadAnchor) (d n : ℕ) (es : List ℕ) → length es ≤ ends_limit → length (bytes_of (header_words cfg a d n es)) ≡ records_offset
unfolding header_words
length_header cfg a d n es h =
    let g : List ℕ = 1 ∷ a.number ∷ (hash_words a.hash ++ (d ∷ n ∷ replicate 10 0)) in
    let y : List ℕ = padded ends_limit es ++ replicate awaiting_table 0 in
    length_bytes_of (header_words cfg a d n es)
    ∙ omega (arith, length-append (config_words cfg) (g ++ y), length-append g y, length-append (hash_words a.hash) (d ∷ n ∷ replicate 10 0), length-append (padded ends_limit es) (replicate awaiting_table 0), length_padded ends_limit es h, length-replicate {A = ℕ} awaiting_table 0, length-replicate {A = ℕ} 10 0, length_hash a.hash, length_retention cfg.retention)

-- The bytes of records, and zeros to the capacity.
abbrev pub record_bytes : ℕ → List Record → List ℕ
record_bytes capacity rs = bytes_of (padded (record_width * capacity) (all_record_words rs))

pub length_record_bytes : (capacity : ℕ) (rs : List Record) → length rs ≤ capacity → length (record_bytes capacity rs) ≡ record_size * capacity
length_record_bytes n rs h =
    length_bytes_of (padded (record_width * n) (all_record_words rs)) ∙ omega (arith, length_padded (record_width * n) (all_record_words rs) (omega (arith, length_records rs)))

last_regroup : (c g e a r : List ℕ) → c ++ (g ++ (e ++ (a ++ r))) ≡ (c ++ (g ++ (e ++ a))) ++ r
last_regroup c g e a r = simp append_assoc

begun_image : (cfg : Config) (a : ReadAnchor) (b : List Layer) →
    image (record { config = cfg; installed = Some (new_generation a b []) }) ≡ bytes_of (header_words cfg a (pred (length b)) (record_count b) (layer_ends b)) ++ record_bytes cfg.capacity (flat_records b)
unfolding image image_words header_words record_count flat_records all_pending_words
begun_image cfg a b =
    let r : List ℕ = padded (record_width * cfg.capacity) (all_record_words (flat_records b)) in
    let g : List ℕ = 1 ∷ a.number ∷ (hash_words a.hash ++ (pred (length b) ∷ record_count b ∷ replicate 10 0)) in
    let e : List ℕ = padded ends_limit (layer_ends b) in
    let n : 0 + record_count b ≡ record_count b = omega arith in
    ap₂ (λ (l : List Record) (k : ℕ). bytes_of (config_words cfg ++ ((1 ∷ a.number ∷ (hash_words a.hash ++ (pred (length b) ∷ k ∷ replicate 10 0))) ++ (e ++ (replicate awaiting_table 0 ++ padded (record_width * cfg.capacity) (all_record_words l)))))) (append-nil (flat_records b)) n
    ∙ ap bytes_of (last_regroup (config_words cfg) g e (replicate awaiting_table 0) r)
    ∙ bytes_append (config_words cfg ++ (g ++ (e ++ replicate awaiting_table 0))) r

-- The store that begins over a base, on bytes: its header, its records, and what follows.
pub begun_bytes : (cfg : Config) (a : ReadAnchor) (b : List Layer) (w : List ℕ) → length b ≤ ends_limit → record_count b ≤ cfg.capacity →
    overlay (begun_on cfg a b) w ≡ bytes_of (header_words cfg a (pred (length b)) (record_count b) (layer_ends b)) ++ (record_bytes cfg.capacity (flat_records b) ++ drop (store_size cfg.capacity) w)
begun_bytes cfg a b w h k =
    let hd : List ℕ = bytes_of (header_words cfg a (pred (length b)) (record_count b) (layer_ends b)) in
    let r : List ℕ = record_bytes cfg.capacity (flat_records b) in
    let n : length (hd ++ r) ≡ store_size cfg.capacity =
    length-append hd r ∙ omega (arith, length_header cfg a (pred (length b)) (record_count b) (layer_ends b) (omega (arith, length_ends b)), length_record_bytes cfg.capacity (flat_records b) (omega (arith, length_flat b))) in
    ap (λ (l : List ℕ). l ++ drop (length l) w) (begun_image cfg a b)
    ∙ ap (λ (i : ℕ). (hd ++ r) ++ drop i w) n
    ∙ append_assoc hd r (drop (store_size cfg.capacity) w)

-- Bytes placed after others that were placed over w.
pub placed_next : (p x w : List ℕ) (at n : ℕ) → length p ≡ at → at + length x ≡ n → placed at x (p ++ drop at w) ≡ (p ++ x) ++ drop n w
placed_next p x w at n h k =
    ap₂ (λ (y z : List ℕ). y ++ x ++ z) (take_at p (drop at w) at h)
    (sym (drop-drop (length x) at (p ++ drop at w)) ∙ ap (drop (length x)) (drop_at p (drop at w) at h) ∙ drop-drop (length x) at w ∙ ap (λ (i : ℕ). drop i w) k)

-- Records placed after a header.
pub records_placed : (hd r w : List ℕ) (n : ℕ) → length hd ≡ records_offset → length r ≡ record_size * n → placed records_offset r (hd ++ drop records_offset w) ≡ hd ++ (r ++ drop (store_size n) w)
records_placed hd r w n h k = placed_next hd r w records_offset (store_size n) h (omega arith) ∙ append_assoc hd r (drop (store_size n) w)

-- With one empty layer: the empty header, and zeros.
pub void_bytes : (cfg : Config) (a : ReadAnchor) (n : ℕ) (w t u : List ℕ) → n ≡ cfg.capacity → t ≡ bytes_of (header_words cfg a 0 0 []) ++ drop records_offset w → u ≡ placed records_offset (replicate (record_size * n) 0) t → u ≡ overlay (begun_on cfg a void_base) w
unfolding header_words layer_ends record_count flat_records all_record_words
void_bytes cfg a n w t u e p q =
    let hd : List ℕ = bytes_of (header_words cfg a 0 0 []) in
    let z : List ℕ = replicate (record_size * n) 0 in
    let k : 8 * (record_width * cfg.capacity - 0) ≡ record_size * n = omega arith in
    let r : z ≡ record_bytes cfg.capacity [] = sym (zero_bytes (record_width * cfg.capacity - 0) ∙ ap (λ (i : ℕ). replicate {A = ℕ} i 0) k) in
    q ∙ ap (placed records_offset z) p ∙ records_placed hd z w n (length_header cfg a 0 0 [] (omega arith)) (length-replicate {A = ℕ} (record_size * n) 0)
    ∙ ap₂ (λ (l : List ℕ) (i : ℕ). hd ++ (l ++ drop (store_size i) w)) r e
    ∙ sym (begun_bytes cfg a void_base w (omega arith) (omega arith))

-- Depth and number of records written one after the other.
pub two_words : (k n : ℕ) (s t u : List ℕ) → awaiting_count_offset ≤ length s → t ≡ placed depth_offset (be 8 k) s → u ≡ placed records_count_offset (be 8 n) t → u ≡ placed depth_offset (bytes_of (k ∷ n ∷ [])) s
two_words k n s t u h e f = next_word depth_offset records_count_offset n (k ∷ []) s refl h (first_word depth_offset k s e) f
