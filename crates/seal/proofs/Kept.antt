-- A seal without a fold: the parts of the store that are copied, and what they come to.
use Rattle.std.specs.Prelude.{Option, Some}
use Prim.Native.Nat.{ℕ, pred, ◌+◌, ◌-◌, ◌*◌, ◌≤◌}
use mathlib.Core.Path.{◌≡◌, refl, sym, ap, ap₂, ◌∙◌}
use mathlib.Core.Bool.{cond}
use mathlib.Core.List.{List, [], ◌∷◌, ◌++◌, append_assoc}
use native.Mathlib.Omega.{arith}
use lib.ListN.{length, take, drop, replicate, length-append}
use lib.Seq.{take_at, drop_at}
use Rattle.layout.specs.Layout.{awaiting_table, capacity_offset, depth_offset, ends_limit, ends_offset, installed_offset, record_size, record_width, records_count_offset, records_offset}
use Rattle.model.specs.declared.storage_memo.ReadAnchor.{ReadAnchor}
use Rattle.model.specs.Numbers.{be, Bytes}
use Rattle.model.specs.Layers.{Layer, record_count}
use Rattle.model.specs.Advance.{is_void, seal}
use Rattle.model.proofs.SlotLaws.{split}
use Rattle.model.specs.Store.{Config, Generation, Store, chain}
use Rattle.model.specs.Refusals.{store_size}
use Rattle.words.specs.Parts.{placed}
use Rattle.image.specs.Image.{bytes_of, hash_words, totals_words, all_record_words, all_pending_words, flat_records, layer_ends, padded, config_words, generation_words, installed_words, image_words, image, overlay}
use Rattle.image.specs.Lent.{store_of, generation_of, IsStore, Installed}
use Rattle.image.proofs.Words.{length_bytes_of}
use Rattle.image.proofs.Entries.{length_ends, length_flat}
use Rattle.image.proofs.ReadBack.{length_image}
use Rattle.image.proofs.Areas.{word, GenerationBytes}
use Rattle.image.proofs.Lent.{generation_in}
use Rattle.image.proofs.Written.{bytes_append}
use Rattle.header.proofs.Images.{store_split, length_hash, length_retention}
use Rattle.header.proofs.Begun.{length_config}
use Rattle.seal.specs.Sealed.{begun_on, header_words}
use Rattle.seal.proofs.Headers.{ends_copied, layer_added, length_header, record_bytes, length_record_bytes, begun_bytes, records_placed}

-- A part in the middle.
middle : (p q r b : List ℕ) (a n : ℕ) → b ≡ p ++ (q ++ r) → length p ≡ a → length q ≡ n → take n (drop a b) ≡ q
middle p q r b a n e f g = ap (λ (l : List ℕ). take n (drop a l)) e ∙ ap (take n) (drop_at p (q ++ r) a f) ∙ take_at q r n g

-- What the open set, in the bytes of a store.
pub config_part : (b : List ℕ) → Bytes b → IsStore b → take installed_offset b ≡ bytes_of (config_words (store_of b).config)
unfolding image image_words
config_part b f e =
    let st : Store = store_of b in
    let c : List ℕ = config_words st.config in
    let y : List ℕ = installed_words st.config.capacity st.installed in
    let r : List ℕ = drop (length (image st)) b in
    middle [] (bytes_of c) (bytes_of y ++ r) b 0 installed_offset (store_split b st f e ∙ ap (λ (l : List ℕ). l ++ r) (bytes_append c y) ∙ append_assoc (bytes_of c) (bytes_of y) r) refl (length_config st.config)

three : (p q r x : List ℕ) → bytes_of (p ++ (q ++ r)) ++ x ≡ bytes_of p ++ (bytes_of q ++ (bytes_of r ++ x))
three p q r x = simp (bytes_append, append_assoc)

front_regroup : (c g e p a r : List ℕ) → c ++ (g ++ ((e ++ p) ++ (a ++ r))) ≡ (c ++ g) ++ (e ++ (p ++ (a ++ r)))
front_regroup c g e p a r = simp append_assoc

back_regroup : (c g e a r : List ℕ) → c ++ (g ++ (e ++ (a ++ r))) ≡ (c ++ (g ++ (e ++ a))) ++ r
back_regroup c g e a r = simp append_assoc

two : (p q x : List ℕ) → bytes_of (p ++ q) ++ x ≡ bytes_of p ++ (bytes_of q ++ x)
two p q x = simp (bytes_append, append_assoc)

-- The layer ends and the records in the bytes of a store.
module _ (b : List ℕ) (f : Bytes b) (h : Installed b) where
  abbrev st : Store
  st = store_of b

  abbrev g : Generation
  g = generation_of b

  abbrev size : ℕ
  size = store_size st.config.capacity

  abbrev all_words : List ℕ
  all_words = config_words st.config ++ installed_words st.config.capacity (Some g)

  known : GenerationBytes b st g
  known = generation_in b h

  split_in : b ≡ bytes_of all_words ++ drop size b
  unfolding image image_words
  split_in =
      store_split b st f h.is_store
      ∙ ap (λ (n : ℕ). image st ++ drop n b) (length_image st known.store.right)
      ∙ ap (λ (x : Option Generation). bytes_of (config_words st.config ++ installed_words st.config.capacity x) ++ drop size b) h.installs

  -- The words of its parts.
  abbrev ends : List ℕ
  ends = layer_ends g.base

  abbrev awaiting : List ℕ
  awaiting = padded awaiting_table (all_pending_words g.pending)

  abbrev records : List ℕ
  records = padded (record_width * st.config.capacity) (all_record_words (flat_records (chain g)))

  length_generation : length (generation_words g) ≡ 19
  length_generation =
      omega (arith, length_hash g.anchor.hash, length-append (hash_words g.anchor.hash) (pred (length g.base) ∷ record_count (chain g) ∷ length g.pending ∷ totals_words g.totals))

  ends_part : take (8 * length g.base) (drop ends_offset b) ≡ bytes_of (layer_ends g.base)
  ends_part =
      let c : List ℕ = config_words st.config in
      let p : List ℕ = replicate (ends_limit - length ends) 0 ++ (awaiting ++ records) in
      let n : length (bytes_of (c ++ generation_words g)) ≡ ends_offset =
      length_bytes_of (c ++ generation_words g) ∙ omega (arith, length-append c (generation_words g), length_generation, length_retention st.config.retention) in
      let m : length (bytes_of ends) ≡ 8 * length g.base = length_bytes_of ends ∙ ap (λ (i : ℕ). 8 * i) (length_ends g.base) in
      middle (bytes_of (c ++ generation_words g)) (bytes_of ends) (bytes_of p ++ drop size b) b ends_offset (8 * length g.base)
      (split_in ∙ ap (λ (l : List ℕ). bytes_of l ++ drop size b) (front_regroup c (generation_words g) ends (replicate (ends_limit - length ends) 0) awaiting records) ∙ three (c ++ generation_words g) ends p (drop size b)) n m

  few : record_count (chain g) ≤ st.config.capacity
  few = known.facts.few_records

  length_area : length (record_bytes st.config.capacity (flat_records (chain g))) ≡ record_size * st.config.capacity
  length_area = length_record_bytes st.config.capacity (flat_records (chain g)) (omega (arith, few, length_flat (chain g)))

  -- The bytes from the records on.
  pub records_rest : drop records_offset b ≡ record_bytes st.config.capacity (flat_records (chain g)) ++ drop size b
  unfolding image image_words
  records_rest =
      let c : List ℕ = config_words st.config in
      let q : List ℕ = c ++ (generation_words g ++ (padded ends_limit ends ++ awaiting)) in
      let whole : all_words ≡ q ++ records = back_regroup c (generation_words g) (padded ends_limit ends) awaiting records in
      let all : length (bytes_of all_words) ≡ size =
      ap (λ (x : Option Generation). length (bytes_of (c ++ installed_words st.config.capacity x))) (sym h.installs) ∙ length_image st known.store.right in
      let n : length (bytes_of q) ≡ records_offset = omega (arith, all, length_area, ap (λ (l : List ℕ). length (bytes_of l)) whole, ap length (bytes_append q records), length-append (bytes_of q) (bytes_of records)) in
      ap (drop records_offset) (split_in ∙ ap (λ (l : List ℕ). bytes_of l ++ drop size b) whole ∙ two q records (drop size b)) ∙ drop_at (bytes_of q) (bytes_of records ++ drop size b) records_offset n

  records_part : take (record_size * st.config.capacity) (drop records_offset b) ≡ record_bytes st.config.capacity (flat_records (chain g))
  records_part = ap (take (record_size * st.config.capacity)) records_rest ∙ take_at (bytes_of records) (drop size b) (record_size * st.config.capacity) length_area

-- The layers that stay under a sealed top ---------------------------------------------------------------

abbrev pub kept : List Layer → List Layer
kept b = cond (is_void b) [] b

pub kept_count : (t : Layer) (b : List Layer) → record_count (t ∷ kept b) ≡ record_count (t ∷ b)
unfolding is_void record_count
kept_count t [] = refl
kept_count t ([] ∷ []) = refl
kept_count t ([] ∷ (l ∷ ls)) = refl
kept_count t ((r ∷ l) ∷ ls) = refl

kept_flat : (t : Layer) (b : List Layer) → flat_records (t ∷ kept b) ≡ flat_records (t ∷ b)
unfolding is_void flat_records
kept_flat t [] = refl
kept_flat t ([] ∷ []) = refl
kept_flat t ([] ∷ (l ∷ ls)) = refl
kept_flat t ((r ∷ l) ∷ ls) = refl

kept_few : (b : List Layer) → length (kept b) ≤ length b
unfolding is_void
kept_few [] = omega arith
kept_few ([] ∷ []) = omega arith
kept_few ([] ∷ (l ∷ ls)) = omega arith
kept_few ((r ∷ l) ∷ ls) = omega arith

pub kept_within : (b : List Layer) (k : ℕ) → k ≡ length (kept b) → length b ≤ 255 → k ≤ 255
kept_within b k e h = omega (arith, kept_few b)

kept_ends : (b : List ℕ) → Bytes b → Installed b → take (8 * length (kept (generation_of b).base)) (drop ends_offset b) ≡ bytes_of (layer_ends (kept (generation_of b).base))
unfolding layer_ends bytes_of
kept_ends b f h = split (is_void (generation_of b).base) (λ y. rw y) (λ y. rw y (ends_part b f h))

-- A seal without a fold, in the steps that the code takes.
module _ (s w : List ℕ) (child : ReadAnchor) (k n capacity : ℕ) (f : Bytes s) (h : Installed s) where
  pub sealed_by : {t u v x : List ℕ} → length (generation_of s).base ≤ 255 → k ≡ length (kept (generation_of s).base) → n ≡ word records_count_offset s → capacity ≡ word capacity_offset s
      → t ≡ bytes_of (header_words (store_of s).config child 0 0 []) ++ drop records_offset w
      → u ≡ placed ends_offset (take (ends_offset + 8 * k - ends_offset) (drop ends_offset s)) t
      → v ≡ placed (ends_offset + 8 * k) (be 8 n) (placed depth_offset (bytes_of (k ∷ n ∷ [])) u)
      → x ≡ placed records_offset (take (records_offset + record_size * capacity - records_offset) (drop records_offset s)) v
      → x ≡ overlay (begun_on (store_of s).config child (seal (generation_of s).top (generation_of s).base)) w
  unfolding seal layer_ends
  sealed_by {t} {u} {v} {x} few ek en ec e1 e2 e3 e4 =
      let cfg : Config = (store_of s).config in
      let gn : Generation = generation_of s in
      let ls : List Layer = kept gn.base in
      let es : List ℕ = layer_ends ls in
      let y : List ℕ = drop records_offset w in
      let bytes : GenerationBytes s (store_of s) gn = generation_in s h in
      let limit : length ls ≤ 255 = omega (arith, kept_few gn.base) in
      let i : ends_offset + 8 * k - ends_offset ≡ 8 * length ls = omega arith in
      let j : records_offset + record_size * capacity - records_offset ≡ record_size * cfg.capacity = omega (arith, bytes.store.capacity_word) in
      let count : n ≡ record_count (gn.top ∷ ls) = en ∙ bytes.records_word ∙ sym (kept_count gn.top gn.base) in
      let a : take (ends_offset + 8 * k - ends_offset) (drop ends_offset s) ≡ bytes_of es = ap (λ (q : ℕ). take q (drop ends_offset s)) i ∙ kept_ends s f h in
      let r : take (records_offset + record_size * capacity - records_offset) (drop records_offset s) ≡ record_bytes cfg.capacity (flat_records (gn.top ∷ ls)) =
      ap (λ (q : ℕ). take q (drop records_offset s)) j ∙ records_part s f h ∙ ap (record_bytes cfg.capacity) (sym (kept_flat gn.top gn.base)) in
      let es' : List ℕ = es ++ (n ∷ []) in
      let hd : List ℕ = bytes_of (header_words cfg child k n es') in
      let p2 : u ≡ bytes_of (header_words cfg child 0 0 es) ++ y = e2 ∙ ap₂ (placed ends_offset) a e1 ∙ ends_copied cfg child 0 0 es y (omega (arith, length_ends ls)) in
      let p3 : v ≡ hd ++ y = e3 ∙ ap (λ (l : List ℕ). placed (ends_offset + 8 * k) (be 8 n) (placed depth_offset (bytes_of (k ∷ n ∷ [])) l)) p2 ∙ layer_added cfg child 0 0 k n es y (ek ∙ sym (length_ends ls)) (omega arith) in
      let total : record_count (gn.top ∷ ls) ≤ cfg.capacity = omega (arith, kept_count gn.top gn.base, bytes.facts.few_records) in
      let lh : length hd ≡ records_offset = length_header cfg child k n es' (omega (arith, length-append es (n ∷ []), length_ends ls)) in
      let lr : length (record_bytes cfg.capacity (flat_records (gn.top ∷ ls))) ≡ record_size * cfg.capacity = length_record_bytes cfg.capacity (flat_records (gn.top ∷ ls)) (omega (arith, length_flat (gn.top ∷ ls))) in
      e4 ∙ ap₂ (placed records_offset) r p3
      ∙ records_placed hd (record_bytes cfg.capacity (flat_records (gn.top ∷ ls))) w cfg.capacity lh lr
      ∙ ap₂ (λ (p q : ℕ). bytes_of (header_words cfg child p q (es ++ (q ∷ []))) ++ (record_bytes cfg.capacity (flat_records (gn.top ∷ ls)) ++ drop (store_size cfg.capacity) w)) ek count
      ∙ sym (begun_bytes cfg child (gn.top ∷ ls) w (omega arith) total)
