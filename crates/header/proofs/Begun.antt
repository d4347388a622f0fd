-- How the bytes of a store change where a fresh generation is installed, and how an open leaves them.
use Rattle.std.specs.Prelude.{None, Some}
use Prim.Native.Nat.{ℕ, ◌+◌, ◌-◌, ◌*◌, ◌≤◌, max}
use mathlib.Core.Path.{◌≡◌, refl, sym, ap, ap₂, ◌∙◌}
use mathlib.Core.List.{List, [], ◌∷◌, ◌++◌, append_assoc}
use native.Mathlib.Omega.{arith}
use lib.ListN.{length, take, drop, replicate, length-append, length-replicate, replicate-append-replicate, take-append-drop}
use lib.Seq.{length-take-le}
use Rattle.layout.specs.Layout.{awaiting_table, capacity_offset, counts_width, depth_offset, ends_limit, generation_width, installed_offset, magic, record_size, record_width, records_offset, table_width}
use Rattle.model.specs.declared.storage_memo.ReadAnchor.{ReadAnchor}
use Rattle.model.specs.declared.delta_snapshot.Retention.{Retention}
use Rattle.model.specs.Numbers.{Bytes}
use Rattle.model.specs.Layers.{record_count}
use Rattle.model.specs.Advance.{void_base}
use Rattle.model.specs.Store.{Config, Store, new_generation}
use Rattle.model.specs.Refusals.{store_size}
use Rattle.words.specs.Parts.{placed}
use Rattle.image.specs.Image.{bytes_of, retention_words, hash_words, all_record_words, all_pending_words, flat_records, layer_ends, config_words, installed_words, image_words, image, decode, overlay}
use Rattle.image.proofs.Words.{length_bytes_of}
use Rattle.image.proofs.ReadBack.{decode_some, length_image}
use Rattle.image.proofs.Written.{bytes_append}
use Rattle.header.proofs.Segments.{zero_bytes, placed_over, placed_zeros}
use Rattle.image.specs.Lent.{store_of, IsStore}
use Rattle.image.proofs.Areas.{word}
use Rattle.image.proofs.Lent.{store_in}
use Rattle.header.specs.Header.{config_of, begun, empty}
use Rattle.header.proofs.Images.{store_split, length_retention, length_hash}

-- Empty tables are zeros, and so are those of a base of one empty layer.
padded_tables : (n : ℕ) → replicate {A = ℕ} ends_limit 0 ++ (replicate awaiting_table 0 ++ replicate (record_width * n - 0) 0) ≡ replicate (table_width + record_width * n) 0
padded_tables n =
    let e : record_width * n - 0 ≡ record_width * n = omega arith in
    let f : ends_limit + (awaiting_table + record_width * n) ≡ table_width + record_width * n = omega arith in
    ap (λ (k : ℕ). replicate {A = ℕ} ends_limit 0 ++ (replicate awaiting_table 0 ++ replicate k 0)) e
    ∙ ap (λ (l : List ℕ). replicate {A = ℕ} ends_limit 0 ++ l) (replicate-append-replicate awaiting_table (record_width * n) 0)
    ∙ replicate-append-replicate ends_limit (awaiting_table + record_width * n) 0
    ∙ ap (λ (k : ℕ). replicate {A = ℕ} k 0) f

-- The words of a fresh generation: the mark, the anchor, and zeros.
fresh_words : (n : ℕ) (a : ReadAnchor) → installed_words n (Some (new_generation a void_base [])) ≡ (1 ∷ a.number ∷ hash_words a.hash) ++ replicate (counts_width + table_width + record_width * n) 0
unfolding layer_ends record_count flat_records all_record_words all_pending_words
fresh_words n a =
    let t : List ℕ = replicate ends_limit 0 ++ (replicate awaiting_table 0 ++ replicate (record_width * n - 0) 0) in
    let e : counts_width + (table_width + record_width * n) ≡ counts_width + table_width + record_width * n = omega arith in
    ap (λ (l : List ℕ). 1 ∷ a.number ∷ l) (append_assoc (hash_words a.hash) (replicate counts_width 0) t
    ∙ ap (λ (l : List ℕ). hash_words a.hash ++ l) (ap (λ (l : List ℕ). replicate {A = ℕ} counts_width 0 ++ l) (padded_tables n) ∙ replicate-append-replicate counts_width (table_width + record_width * n) 0 ∙ ap (λ (k : ℕ). replicate {A = ℕ} k 0) e))

-- The words of a store with nothing installed, after those that the open set.
none_words : (n : ℕ) → installed_words n None ≡ replicate (generation_width + table_width + record_width * n) 0
none_words n =
    let e : generation_width + (table_width + record_width * n) ≡ generation_width + table_width + record_width * n = omega arith in
    ap (λ (l : List ℕ). replicate {A = ℕ} generation_width 0 ++ l) (padded_tables n) ∙ replicate-append-replicate generation_width (table_width + record_width * n) 0 ∙ ap (λ (k : ℕ). replicate {A = ℕ} k 0) e

pub length_config : (cfg : Config) → length (bytes_of (config_words cfg)) ≡ installed_offset
length_config cfg = length_bytes_of (config_words cfg) ∙ omega (arith, length_retention cfg.retention)

-- The bytes of the mark and the anchor of a fresh generation.
abbrev pub anchor_bytes : ReadAnchor → List ℕ
anchor_bytes a = bytes_of (1 ∷ a.number ∷ hash_words a.hash)

pub length_anchor : (a : ReadAnchor) → length (anchor_bytes a) ≡ depth_offset - installed_offset
length_anchor a = length_bytes_of (1 ∷ a.number ∷ hash_words a.hash) ∙ omega (arith, length_hash a.hash)

-- A store with a fresh generation, and one with none.
abbrev begun_store : Config → ReadAnchor → Store
begun_store cfg a = record { config = cfg; installed = Some (new_generation a void_base []) }

abbrev empty_store : Config → Store
empty_store cfg = record { config = cfg; installed = None }

-- Their images.
begun_image : (cfg : Config) (a : ReadAnchor) → image (begun_store cfg a) ≡ bytes_of (config_words cfg) ++ (anchor_bytes a ++ replicate (store_size cfg.capacity - installed_offset - (depth_offset - installed_offset)) 0)
unfolding image image_words
begun_image cfg a =
    let n : ℕ = cfg.capacity in
    let e : 8 * (counts_width + table_width + record_width * n) ≡ store_size n - installed_offset - (depth_offset - installed_offset) = omega arith in
    ap (λ (l : List ℕ). bytes_of (config_words cfg ++ l)) (fresh_words n a)
    ∙ bytes_append (config_words cfg) _
    ∙ ap (λ (l : List ℕ). bytes_of (config_words cfg) ++ l) (bytes_append (1 ∷ a.number ∷ hash_words a.hash) (replicate (counts_width + table_width + record_width * n) 0)
    ∙ ap (λ (l : List ℕ). anchor_bytes a ++ l) (zero_bytes (counts_width + table_width + record_width * n) ∙ ap (λ (k : ℕ). replicate {A = ℕ} k 0) e))

empty_image : (cfg : Config) → image (empty_store cfg) ≡ bytes_of (config_words cfg) ++ replicate (store_size cfg.capacity - installed_offset) 0
unfolding image image_words
empty_image cfg =
    let n : ℕ = cfg.capacity in
    let e : 8 * (generation_width + table_width + record_width * n) ≡ store_size n - installed_offset = omega arith in
    ap (λ (l : List ℕ). bytes_of (config_words cfg ++ l)) (none_words n)
    ∙ bytes_append (config_words cfg) _
    ∙ ap (λ (l : List ℕ). bytes_of (config_words cfg) ++ l) (zero_bytes (generation_width + table_width + record_width * n) ∙ ap (λ (k : ℕ). replicate {A = ℕ} k 0) e)

-- They take as many bytes as the capacity asks for.
length_begun : (cfg : Config) (a : ReadAnchor) → length (image (begun_store cfg a)) ≡ store_size cfg.capacity
length_begun cfg a =
    let z : List ℕ = replicate (store_size cfg.capacity - installed_offset - (depth_offset - installed_offset)) 0 in
    ap length (begun_image cfg a) ∙ length-append (bytes_of (config_words cfg)) (anchor_bytes a ++ z)
    ∙ omega (arith, length-append (anchor_bytes a) z, length_config cfg, length_anchor a, length-replicate {A = ℕ} (store_size cfg.capacity - installed_offset - (depth_offset - installed_offset)) 0)

length_empty : (cfg : Config) → length (image (empty_store cfg)) ≡ store_size cfg.capacity
length_empty cfg =
    ap length (empty_image cfg) ∙ length-append (bytes_of (config_words cfg)) (replicate (store_size cfg.capacity - installed_offset) 0)
    ∙ omega (arith, length_config cfg, length-replicate {A = ℕ} (store_size cfg.capacity - installed_offset) 0)

-- A fresh generation: zeros from word 5 to the store's end, then the mark and the anchor.
pub fresh_bytes : (b : List ℕ) (st : Store) (a : ReadAnchor) → Bytes b → decode b ≡ Some st →
    overlay (begun st.config a) b ≡ placed installed_offset (anchor_bytes a) (placed installed_offset (replicate (store_size st.config.capacity - installed_offset) 0) b)
unfolding image image_words
fresh_bytes b st a f e =
    let cfg : Config = st.config in
    let size : ℕ = store_size cfg.capacity in
    let c : List ℕ = bytes_of (config_words cfg) in
    let y : List ℕ = bytes_of (installed_words cfg.capacity st.installed) in
    let z : List ℕ = replicate (size - installed_offset) 0 in
    let r : List ℕ = drop size b in
    let n : length (image st) ≡ size = length_image st (decode_some b st e).right in
    let p : image st ≡ c ++ y = bytes_append (config_words cfg) (installed_words cfg.capacity st.installed) in
    let q : b ≡ c ++ (y ++ r) = store_split b st f e ∙ ap₂ (λ (l : List ℕ) (k : ℕ). l ++ drop k b) p n ∙ append_assoc c y r in
    let len : length z ≡ length y = length-replicate {A = ℕ} (size - installed_offset) 0 ∙ omega (arith, n, ap length p, length-append c y, length_config cfg) in
    let left : overlay (begun cfg a) b ≡ c ++ (anchor_bytes a ++ (replicate (size - installed_offset - (depth_offset - installed_offset)) 0 ++ r)) =
    ap₂ (λ (l : List ℕ) (k : ℕ). l ++ drop k b) (begun_image cfg a) (length_begun cfg a)
    ∙ append_assoc c (anchor_bytes a ++ replicate (size - installed_offset - (depth_offset - installed_offset)) 0) r
    ∙ ap (λ (l : List ℕ). c ++ l) (append_assoc (anchor_bytes a) (replicate (size - installed_offset - (depth_offset - installed_offset)) 0) r) in
    let inner : placed installed_offset z b ≡ c ++ (z ++ r) = ap (placed installed_offset z) q ∙ placed_over c z y r installed_offset (length_config cfg) len in
    left
    ∙ ap (λ (k : ℕ). c ++ (anchor_bytes a ++ (replicate (size - installed_offset - k) 0 ++ r))) (sym (length_anchor a))
    ∙ sym (ap (placed installed_offset (anchor_bytes a)) inner ∙ placed_zeros c (anchor_bytes a) r installed_offset (size - installed_offset) (length_config cfg) (omega (arith, length_anchor a)))

-- An open: zeros to the store's end, then what it sets.
pub open_bytes : (b : List ℕ) (cfg : Config) → store_size cfg.capacity ≤ length b →
    overlay (empty cfg) b ≡ placed 0 (bytes_of (config_words cfg)) (placed 0 (replicate (store_size cfg.capacity) 0) b)
open_bytes b cfg h =
    let size : ℕ = store_size cfg.capacity in
    let c : List ℕ = bytes_of (config_words cfg) in
    let z : List ℕ = replicate size 0 in
    let r : List ℕ = drop size b in
    let len : length z ≡ length (take size b) = length-replicate {A = ℕ} size 0 ∙ sym (length-take-le size b h) in
    let inner : placed 0 z b ≡ z ++ r = ap (placed 0 z) (sym (take-append-drop size b)) ∙ placed_over [] z (take size b) r 0 refl len in
    ap₂ (λ (l : List ℕ) (k : ℕ). l ++ drop k b) (empty_image cfg) (length_empty cfg)
    ∙ append_assoc c (replicate (size - installed_offset) 0) r
    ∙ ap (λ (k : ℕ). c ++ (replicate (size - k) 0 ++ r)) (sym (length_config cfg))
    ∙ sym (ap (placed 0 c) inner ∙ placed_zeros [] c r 0 size refl (omega (arith, length_config cfg)))

-- The same in the steps that the code takes.
pub begun_by : (b : List ℕ) (a : ReadAnchor) (n : ℕ) (t u : List ℕ) → Bytes b → IsStore b → n ≡ word capacity_offset b
    → t ≡ placed installed_offset (replicate (records_offset - installed_offset + record_size * n) 0) b → u ≡ placed installed_offset (anchor_bytes a) t → u ≡ overlay (begun (store_of b).config a) b
begun_by b a n t u f e q p r =
    let k : n ≡ (store_of b).config.capacity = q ∙ (store_in b e).capacity_word in
    let m : records_offset - installed_offset + record_size * n ≡ store_size (store_of b).config.capacity - installed_offset = omega arith in
    r ∙ ap (placed installed_offset (anchor_bytes a)) (p ∙ ap (λ (i : ℕ). placed installed_offset (replicate i 0) b) m) ∙ sym (fresh_bytes b (store_of b) a f e)

pub opened_by : (b : List ℕ) (n d depth : ℕ) (R : Retention) (ws t u : List ℕ) → store_size n ≤ length b → depth ≡ max 1 d → ws ≡ retention_words R
    → t ≡ placed 0 (replicate (records_offset + record_size * n) 0) b → u ≡ placed 0 (bytes_of (magic ∷ n ∷ depth ∷ ws)) t → u ≡ overlay (empty (config_of n d R)) b
opened_by b n d depth R ws t u h q w p r =
    let m : records_offset + record_size * n ≡ store_size n = omega arith in
    r ∙ ap₂ (λ (x y : List ℕ). placed 0 (bytes_of (magic ∷ n ∷ depth ∷ x)) y) w (p ∙ ap (λ (i : ℕ). placed 0 (replicate i 0) b) m)
    ∙ ap (λ (i : ℕ). placed 0 (bytes_of (magic ∷ n ∷ i ∷ retention_words R)) (placed 0 (replicate (store_size n) 0) b)) q
    ∙ sym (open_bytes b (config_of n d R) h)
