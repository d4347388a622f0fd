-- How the bytes of a store change where its generation gets another top.
use Rattle.std.specs.Prelude.{Option, Some}
use Prim.Native.Nat.{ℕ, pred, ◌+◌, ◌-◌, ◌*◌, ◌≤◌}
use mathlib.Core.Path.{◌≡◌, sym, ap, ap₂, subst, ◌∙◌}
use mathlib.Core.Bool.{true}
use mathlib.Core.List.{List, [], ◌∷◌, ◌++◌, append_assoc, append-nil}
use native.Mathlib.Omega.{arith}
use lib.ListN.{length, take, drop, replicate, length-append, length-replicate, replicate-append-replicate}
use lib.Seq.{take_at, drop_at, drop-append-add}
use Rattle.layout.specs.Layout.{awaiting_count_index, awaiting_count_offset, awaiting_table, ends_limit, record_size, record_width, records_count_index, records_count_offset, records_index, records_offset, table_width, totals_index}
use Rattle.model.specs.Numbers.{be, Bytes}
use Rattle.model.proofs.NumberLaws.{length_be}
use Rattle.model.specs.Layers.{Layer, record_count}
use Rattle.model.specs.Store.{Config, Generation, Store, chain, with_top}
use Rattle.model.specs.Refusals.{store_size}
use Rattle.words.specs.Parts.{placed}
use Rattle.image.specs.WellFormed.{installed_ok}
use Rattle.image.specs.Image.{bytes_of, hash_words, totals_words, all_record_words, all_pending_words, flat_records, layer_ends, padded, config_words, generation_words, installed_words, image_words, image, decode, overlay}
use Rattle.image.specs.Area.{with_records}
use Rattle.image.proofs.Words.{length_bytes_of, length_padded}
use Rattle.image.proofs.Entries.{length_records, length_flat}
use Rattle.image.proofs.Facts.{GenerationFacts, generation_facts, StoreFacts, store_facts}
use Rattle.image.proofs.Extent.{Room, room}
use Rattle.image.proofs.ReadBack.{decode_some, length_image}
use Rattle.image.proofs.Areas.{words_append}
use Rattle.image.proofs.Written.{bytes_append}
use Rattle.top.specs.Top.{topped}
use Rattle.header.proofs.Segments.{zero_bytes, placed_over}
use Rattle.header.proofs.Images.{store_split, length_retention, length_hash}

-- Zeros are left of the zeros after own, where more than own is dropped.
drop_zeros : (own rest : List ℕ) (k j m n : ℕ) → k ≡ length own + j → m ≡ j + n → drop k (own ++ (replicate m 0 ++ rest)) ≡ replicate n 0 ++ rest
drop_zeros own rest k j m n p q =
    ap₂ (λ (x y : ℕ). drop x (own ++ (replicate y 0 ++ rest))) p q
    ∙ drop-append-add own (replicate (j + n) 0 ++ rest) j
    ∙ ap (λ (l : List ℕ). drop j (l ++ rest)) (sym (replicate-append-replicate j n 0))
    ∙ ap (drop j) (append_assoc (replicate j 0) (replicate n 0) rest)
    ∙ drop_at (replicate j 0) (replicate n 0 ++ rest) j (length-replicate {A = ℕ} j 0)

-- Six segments: the second replaced, and the fifth, of which the new one may be longer.
module _ (h n m r t u n' t' : List ℕ) (at ts k : ℕ) (b : List ℕ) where
  replaced : b ≡ h ++ (n ++ (m ++ (r ++ (t ++ u)))) → length h ≡ at → length n' ≡ length n → length h + (length n + (length m + length r)) ≡ ts →
      placed at n' (take ts b ++ (t' ++ drop k (drop ts b))) ≡ h ++ (n' ++ (m ++ (r ++ (t' ++ drop k (t ++ u)))))
  replaced e a f g =
      let p : List ℕ = h ++ (n ++ (m ++ r)) in
      let q : b ≡ p ++ (t ++ u) = e ∙ simp append_assoc in
      let i : length p ≡ ts = length-append h (n ++ (m ++ r)) ∙ omega (arith, length-append n (m ++ r), length-append m r) in
      let v : List ℕ = t' ++ drop k (t ++ u) in
      let c : take ts b ++ (t' ++ drop k (drop ts b)) ≡ h ++ (n ++ (m ++ (r ++ v))) =
      ap (λ (l : List ℕ). take ts l ++ (t' ++ drop k (drop ts l))) q
      ∙ ap₂ (λ (x y : List ℕ). x ++ (t' ++ drop k y)) (take_at p (t ++ u) ts i) (drop_at p (t ++ u) ts i)
      ∙ append_assoc h (n ++ (m ++ r)) v
      ∙ ap (λ (l : List ℕ). h ++ l) (append_assoc n (m ++ r) v)
      ∙ ap (λ (l : List ℕ). h ++ (n ++ l)) (append_assoc m r v) in
      ap (placed at n') c ∙ placed_over h n' n (m ++ (r ++ v)) at a f

-- The words of a store with a generation: before the number of records, and between it and the records.
abbrev before_count : Config → Generation → List ℕ
before_count cfg g = config_words cfg ++ (1 ∷ g.anchor.number ∷ (hash_words g.anchor.hash ++ (pred (length g.base) ∷ [])))

abbrev after_count : Generation → List ℕ
after_count g = length g.pending ∷ (totals_words g.totals ++ (padded ends_limit (layer_ends g.base) ++ padded awaiting_table (all_pending_words g.pending)))

length_before : (cfg : Config) (g : Generation) → length (before_count cfg g) ≡ records_count_index
length_before cfg g =
    length-append (config_words cfg) _
    ∙ omega (arith, length_retention cfg.retention, length_hash g.anchor.hash, length-append (hash_words g.anchor.hash) (pred (length g.base) ∷ []))

length_after : (cfg : Config) (g : Generation) → Room cfg.capacity (layer_ends g.base) (all_pending_words g.pending) (all_record_words (flat_records (chain g))) → length (after_count g) ≡ records_index - awaiting_count_index
length_after cfg g h =
    let e : List ℕ = padded ends_limit (layer_ends g.base) in
    let a : List ℕ = padded awaiting_table (all_pending_words g.pending) in
    let x : length e ≡ ends_limit = length_padded ends_limit (layer_ends g.base) h.ends_room in
    let y : length a ≡ awaiting_table = length_padded awaiting_table (all_pending_words g.pending) h.awaiting_room in
    let z : length (e ++ a) ≡ table_width = length-append e a ∙ omega arith in
    let t : length (totals_words g.totals ++ (e ++ a)) ≡ records_index - totals_index = length-append (totals_words g.totals) (e ++ a) ∙ omega arith in
    omega arith

-- The words of the records: those of the base, those of the top, and zeros.
record_words_split : (capacity : ℕ) (g : Generation) →
    padded (record_width * capacity) (all_record_words (flat_records (chain g))) ≡ all_record_words (flat_records g.base) ++ (all_record_words g.top ++ replicate (record_width * capacity - record_width * record_count (chain g)) 0)
unfolding flat_records
record_words_split n g =
    let w : List ℕ = all_record_words (flat_records (chain g)) in
    let e : length w ≡ record_width * record_count (chain g) = length_records (flat_records (chain g)) ∙ ap (λ (k : ℕ). record_width * k) (length_flat (chain g)) in
    ap (λ (k : ℕ). w ++ replicate (record_width * n - k) 0) e
    ∙ ap (λ (l : List ℕ). l ++ replicate (record_width * n - record_width * record_count (chain g)) 0) (words_append (flat_records g.base) g.top)
    ∙ append_assoc (all_record_words (flat_records g.base)) (all_record_words g.top) _

regroup : (x n d k p : ℕ) (c h t e a r : List ℕ) →
    c ++ ((x ∷ n ∷ (h ++ (d ∷ k ∷ p ∷ t))) ++ (e ++ (a ++ r))) ≡ (c ++ (x ∷ n ∷ (h ++ (d ∷ [])))) ++ (k ∷ ((p ∷ (t ++ (e ++ a))) ++ r))
regroup x n d k p c h t e a r = simp append_assoc

-- All words of a store with a generation.
words_split : (cfg : Config) (g : Generation) →
    config_words cfg ++ installed_words cfg.capacity (Some g)
    ≡ before_count cfg g ++ (record_count (chain g) ∷ (after_count g ++ (all_record_words (flat_records g.base) ++ (all_record_words g.top ++ replicate (record_width * cfg.capacity - record_width * record_count (chain g)) 0))))
words_split cfg g =
    let e : List ℕ = padded ends_limit (layer_ends g.base) in
    let a : List ℕ = padded awaiting_table (all_pending_words g.pending) in
    ap (λ (l : List ℕ). config_words cfg ++ (generation_words g ++ (e ++ (a ++ l)))) (record_words_split cfg.capacity g)
    ∙ regroup 1 g.anchor.number (pred (length g.base)) (record_count (chain g)) (length g.pending) (config_words cfg) (hash_words g.anchor.hash) (totals_words g.totals) e a _

-- The bytes of a store with a generation, in segments, over what follows.
bytes_split : (cfg : Config) (g : Generation) (rest : List ℕ) →
    bytes_of (config_words cfg ++ installed_words cfg.capacity (Some g)) ++ rest
    ≡ bytes_of (before_count cfg g) ++ (be 8 (record_count (chain g)) ++ (bytes_of (after_count g) ++ (bytes_of (all_record_words (flat_records g.base)) ++ (bytes_of (all_record_words g.top) ++ (replicate (record_size * (cfg.capacity - record_count (chain g))) 0 ++ rest)))))
unfolding bytes_of
bytes_split cfg g rest =
    let n : ℕ = record_width * cfg.capacity - record_width * record_count (chain g) in
    let z : List ℕ = replicate n 0 in
    let t : List ℕ = all_record_words g.top in
    let r : List ℕ = all_record_words (flat_records g.base) in
    let e : 8 * n ≡ record_size * (cfg.capacity - record_count (chain g)) = omega arith in
    ap (λ (l : List ℕ). bytes_of l ++ rest) (words_split cfg g)
    ∙ ap (λ (l : List ℕ). l ++ rest) (bytes_append (before_count cfg g) _
    ∙ ap (λ (l : List ℕ). bytes_of (before_count cfg g) ++ (be 8 (record_count (chain g)) ++ l)) (bytes_append (after_count g) (r ++ (t ++ z))
    ∙ ap (λ (l : List ℕ). bytes_of (after_count g) ++ l) (bytes_append r (t ++ z)
    ∙ ap (λ (l : List ℕ). bytes_of r ++ l) (bytes_append t z
    ∙ ap (λ (l : List ℕ). bytes_of t ++ l) (zero_bytes n ∙ ap (λ (k : ℕ). replicate {A = ℕ} k 0) e)))))
    ∙ flat (bytes_of (before_count cfg g)) (be 8 (record_count (chain g))) (bytes_of (after_count g)) (bytes_of r) (bytes_of t) _ rest
  where
    flat : (p q r s t u v : List ℕ) → (p ++ (q ++ (r ++ (s ++ (t ++ u))))) ++ v ≡ p ++ (q ++ (r ++ (s ++ (t ++ (u ++ v)))))
    flat p q r s t u v = simp append_assoc

module _ (b : List ℕ) (st : Store) (g : Generation) (f : Bytes b) (e : decode b ≡ Some st) (i : st.installed ≡ Some g) where
  store_right : StoreFacts st
  store_right = store_facts st (decode_some b st e).right

  generation_right : GenerationFacts st.config g
  generation_right = generation_facts st.config g (subst (λ (x : Option Generation). installed_ok st.config x ≡ true) i store_right.installed_right)

  -- What follows the store.
  abbrev rest : List ℕ
  rest = drop (store_size st.config.capacity) b

  -- The bytes of a store with a generation, in segments.
  split_bytes : b ≡ bytes_of (before_count st.config g) ++ (be 8 (record_count (chain g)) ++ (bytes_of (after_count g) ++ (bytes_of (all_record_words (flat_records g.base)) ++ (bytes_of (all_record_words g.top) ++ (replicate (record_size * (st.config.capacity - record_count (chain g))) 0 ++ rest)))))
  unfolding image image_words
  split_bytes =
      store_split b st f e
      ∙ ap (λ (n : ℕ). image st ++ drop n b) (length_image st (decode_some b st e).right)
      ∙ ap (λ (x : Option Generation). bytes_of (config_words st.config ++ installed_words st.config.capacity x) ++ rest) i
      ∙ bytes_split st.config g rest

  -- Zeros are left of the zeros past a longer top.
  zeros_left : (t : Layer) → length g.top ≤ length t → record_count (t ∷ g.base) ≤ st.config.capacity →
      drop (record_size * length t) (bytes_of (all_record_words g.top) ++ (replicate (record_size * (st.config.capacity - record_count (chain g))) 0 ++ rest))
      ≡ replicate (record_size * (st.config.capacity - record_count (t ∷ g.base))) 0 ++ rest
  unfolding record_count
  zeros_left t h k =
      let own : List ℕ = bytes_of (all_record_words g.top) in
      let j : ℕ = record_size * (length t - length g.top) in
      let n : length own ≡ record_size * length g.top = length_bytes_of (all_record_words g.top) ∙ omega (arith, length_records g.top) in
      drop_zeros own rest (record_size * length t) j (record_size * (st.config.capacity - record_count (chain g))) (record_size * (st.config.capacity - record_count (t ∷ g.base))) (omega arith) (omega arith)

  length_head : length (bytes_of (before_count st.config g)) ≡ records_count_offset
  length_head = length_bytes_of (before_count st.config g) ∙ ap (λ (n : ℕ). 8 * n) (length_before st.config g)

  length_middle : length (bytes_of (after_count g)) ≡ records_offset - awaiting_count_offset
  length_middle = length_bytes_of (after_count g) ∙ ap (λ (n : ℕ). 8 * n) (length_after st.config g (room st.config g store_right.config_right generation_right))

  length_base : length (bytes_of (all_record_words (flat_records g.base))) ≡ record_size * record_count g.base
  length_base = length_bytes_of (all_record_words (flat_records g.base)) ∙ omega (arith, length_records (flat_records g.base), length_flat g.base)

  -- The store with another top.
  abbrev with_new : Layer → Store
  with_new t = record { config = st.config; installed = Some (with_top g t) }

  -- Its image takes as many bytes.
  length_topped : (t : Layer) → record_count (t ∷ g.base) ≤ st.config.capacity → length (image (with_new t)) ≡ store_size st.config.capacity
  unfolding image image_words record_count
  length_topped t k =
      let h : List ℕ = bytes_of (before_count st.config g) in
      let n : List ℕ = be 8 (record_count (t ∷ g.base)) in
      let m : List ℕ = bytes_of (after_count g) in
      let r : List ℕ = bytes_of (all_record_words (flat_records g.base)) in
      let o : List ℕ = bytes_of (all_record_words t) in
      let z : List ℕ = replicate (record_size * (st.config.capacity - record_count (t ∷ g.base))) 0 in
      let own : length o ≡ record_size * length t = length_bytes_of (all_record_words t) ∙ omega (arith, length_records t) in
      let None : length (z ++ []) ≡ record_size * (st.config.capacity - record_count (t ∷ g.base)) = ap length (append-nil z) ∙ length-replicate {A = ℕ} _ 0 in
      ap length (sym (append-nil (image (with_new t))) ∙ bytes_split st.config (with_top g t) [])
      ∙ length-append h (n ++ (m ++ (r ++ (o ++ (z ++ [])))))
      ∙ omega (arith, length-append n (m ++ (r ++ (o ++ (z ++ [])))), length-append m (r ++ (o ++ (z ++ []))), length-append r (o ++ (z ++ [])), length-append o (z ++ []), length_head, length_middle, length_base, length_be 8 (record_count (t ∷ g.base)))

  -- Where the records of the top begin.
  abbrev top_at : ℕ
  top_at = records_offset + record_size * record_count g.base

  -- Another top: its records stand where the old ones stood, and the number of all records in its word of the header.
  pub new_top : (t : Layer) → length g.top ≤ length t → record_count (t ∷ g.base) ≤ st.config.capacity →
      overlay (topped st.config g t) b ≡ placed records_count_offset (be 8 (record_count (t ∷ g.base))) (take top_at b ++ with_records t (drop top_at b))
  unfolding with_records image image_words
  new_top t h k =
      let n : ℕ = record_count (chain g) in
      let n' : ℕ = record_count (t ∷ g.base) in
      let u : List ℕ = replicate (record_size * (st.config.capacity - n)) 0 ++ rest in
      let hd : List ℕ = bytes_of (before_count st.config g) in
      let md : List ℕ = bytes_of (after_count g) in
      let bs : List ℕ = bytes_of (all_record_words (flat_records g.base)) in
      let o : List ℕ = bytes_of (all_record_words t) in
      ap (λ (x : ℕ). image (with_new t) ++ drop x b) (length_topped t k)
      ∙ bytes_split st.config (with_top g t) rest
      ∙ ap (λ (l : List ℕ). hd ++ (be 8 n' ++ (md ++ (bs ++ (o ++ l))))) (sym (zeros_left t h k))
      ∙ sym (replaced hd (be 8 n) md bs (bytes_of (all_record_words g.top)) u (be 8 n') o records_count_offset top_at (record_size * length t) b split_bytes length_head
      (length_be 8 n' ∙ sym (length_be 8 n)) (omega (arith, length_head, length_middle, length_base, length_be 8 n)))

  -- The bytes from the top on are those of its records and what follows them.
  pub top_exact : with_records g.top (drop top_at b) ≡ drop top_at b
  unfolding with_records
  top_exact =
      let n : ℕ = record_count (chain g) in
      let u : List ℕ = replicate (record_size * (st.config.capacity - n)) 0 ++ rest in
      let hd : List ℕ = bytes_of (before_count st.config g) in
      let md : List ℕ = bytes_of (after_count g) in
      let bs : List ℕ = bytes_of (all_record_words (flat_records g.base)) in
      let o : List ℕ = bytes_of (all_record_words g.top) in
      let p : List ℕ = hd ++ (be 8 n ++ (md ++ bs)) in
      let q : b ≡ p ++ (o ++ u) = split_bytes ∙ sym (append_assoc hd (be 8 n ++ (md ++ bs)) (o ++ u) ∙ ap (λ (l : List ℕ). hd ++ l) (append_assoc (be 8 n) (md ++ bs) (o ++ u) ∙ ap (λ (l : List ℕ). be 8 n ++ l) (append_assoc md bs (o ++ u)))) in
      let i : length p ≡ top_at = length-append hd (be 8 n ++ (md ++ bs)) ∙ omega (arith, length-append (be 8 n) (md ++ bs), length-append md bs, length_head, length_middle, length_base, length_be 8 n) in
      let m : length o ≡ record_size * length g.top = length_bytes_of (all_record_words g.top) ∙ omega (arith, length_records g.top) in
      let d : drop top_at b ≡ o ++ u = ap (drop top_at) q ∙ drop_at p (o ++ u) top_at i in
      ap (λ (l : List ℕ). o ++ drop (record_size * length g.top) l) d ∙ ap (λ (l : List ℕ). o ++ l) (drop_at o u (record_size * length g.top) m) ∙ sym d
