-- Bytes that are a store, part by part: each word of the header, the layer ends, and the records of each layer and of the top.
use Rattle.std.specs.Prelude.{None, Option, Some}
use Prim.Native.Nat.{ℕ, zero, suc, pred, ◌+◌, ◌-◌, ◌*◌, ◌^◌, ◌≤◌, ◌<◌}
use mathlib.Core.Path.{◌≡◌, refl, sym, ap, subst, ◌∙◌}
use mathlib.Core.Bool.{Bool, true, ◌&&◌, cond}
use mathlib.Core.List.{List, [], ◌∷◌, ◌++◌, map, append_assoc, append-nil}
use native.Mathlib.Omega.{arith}
use lib.Dec.{eqb, ltb, lit<}
use lib.ListN.{length, take, drop, get_or, replicate, take-append-drop, get_or-append}
use borrow.Author.Tests.{ltb-true, ltb-false}
use lib.Seq.{drop-length, take_at, drop_at, drop-drop, drop-cons, get_or-drop, get_or_at}
use Rattle.layout.specs.Layout.{awaiting_count_index, awaiting_count_offset, awaiting_index, awaiting_offset, awaiting_width, capacity_index, capacity_offset, depth_index, depth_offset, ends_index, ends_offset, hash_index, hash_offset, idle_index, idle_offset, installed_index, installed_offset, magic, max_depth_index, max_depth_offset, number_index, number_offset, record_size, record_width, records_count_index, records_count_offset, records_index, records_offset, retention_index, retention_offset, totals_index, totals_offset}
use Rattle.model.specs.declared.delta_snapshot.Retention.{Retention}
use Rattle.model.specs.declared.delta_snapshot.Retention.TheVariants.{Unbounded, IdleBlocks}
use Rattle.model.specs.Numbers.{num}
use Rattle.model.specs.Layers.{LayerOf, Record, Layer, held_value, freshest_use, record_count}
use Rattle.model.specs.Store.{Config, Generation, Store, chain}
use Rattle.model.proofs.SlotLaws.{split, and_left, and_right, and_intro}
use Rattle.model.specs.Contents.{content_fits, content_ok}
use Rattle.image.specs.WellFormed.{slot_fits, every, rising, chain_ok, installed_ok, well_formed}
use Rattle.model.specs.Refusals.{store_words}
use Rattle.image.specs.Image.{words_of, retention_words, hash_words, totals_words, record_words, all_record_words, all_pending_words, flat_records, layer_ends, padded, config_words, generation_words, table_words, installed_words, image_words, read_record, read_pending, entries, read_hash, decode}
use Rattle.image.specs.Area.{records_of, pending_of, layers_below}
use Rattle.image.specs.Lent.{layer_of}
use Rattle.image.proofs.Entries.{length_records, read_records, length_flat, length_ends, length_pending, read_pendings}
use Rattle.image.proofs.Facts.{ConfigFacts, GenerationFacts, generation_facts, StoreFacts, store_facts}
use Rattle.image.proofs.Extent.{room}
use Rattle.image.proofs.ReadBack.{drop_ends, drop_awaiting, Begins, decode_some}
use Rattle.model.specs.declared.storage_memo.U256.{U256}

-- Words by place --------------------------------------------------------------------------------------

-- The word at place i of bytes.
pub word_at : (n i : ℕ) (b : List ℕ) → i < n → num (take 8 (drop (8 * i) b)) ≡ get_or (words_of n b) i 0
unfolding words_of
word_at zero i b h = absurd (omega arith)
word_at (suc n) zero b h = refl
word_at (suc n) (suc i) b h =
    let e : 8 * suc i ≡ 8 + 8 * i = omega arith in
    ap (λ (k : ℕ). num (take 8 (drop k b))) e
    ∙ ap (λ (l : List ℕ). num (take 8 l)) (sym (drop-drop (8 * i) 8 b))
    ∙ word_at n i (drop 8 b) (omega arith)

-- The n words from place m on.
words_take : (n k : ℕ) (b : List ℕ) → n ≤ k → take n (words_of k b) ≡ words_of n b
unfolding words_of
words_take zero k b h = refl
words_take (suc n) zero b h = absurd (omega arith)
words_take (suc n) (suc k) b h = ap (λ (l : List ℕ). num (take 8 b) ∷ l) (words_take n k (drop 8 b) (omega arith))

pub words_part : (m n k : ℕ) (b : List ℕ) → m + n ≤ k → take n (drop m (words_of k b)) ≡ words_of n (drop (8 * m) b)
unfolding words_of
words_part zero n k b h = words_take n k b (omega arith)
words_part (suc m) n zero b h = absurd (omega arith)
words_part (suc m) n (suc k) b h =
    let e : 8 + 8 * m ≡ 8 * suc m = omega arith in
    words_part m n k (drop 8 b) (omega arith) ∙ ap (words_of n) (drop-drop (8 * m) 8 b ∙ ap (λ (i : ℕ). drop i b) e)

-- Layers and their records ----------------------------------------------------------------------------

flat_append : {A : Type 0} (xs ys : List (LayerOf A)) → flat_records (xs ++ ys) ≡ flat_records ys ++ flat_records xs
unfolding flat_records
flat_append {A} [] ys = sym (append-nil (flat_records ys))
flat_append {A} (x ∷ xs) ys = ap (λ (l : LayerOf A). l ++ x) (flat_append xs ys) ∙ append_assoc (flat_records ys) (flat_records xs) x

pub words_append : (xs ys : List Record) → all_record_words (xs ++ ys) ≡ all_record_words xs ++ all_record_words ys
unfolding all_record_words
words_append [] ys = refl
words_append (r ∷ xs) ys = ap (λ (l : List ℕ). record_words r ++ l) (words_append xs ys) ∙ sym (append_assoc (record_words r) (all_record_words xs) (all_record_words ys))

-- The records of a layer l over the layers ls and under the layers p.
flat_split : {A : Type 0} (p : List (LayerOf A)) (l : LayerOf A) (ls : List (LayerOf A)) → flat_records (p ++ (l ∷ ls)) ≡ flat_records ls ++ (l ++ flat_records p)
unfolding flat_records
flat_split p l ls = flat_append p (l ∷ ls) ∙ append_assoc (flat_records ls) l (flat_records p)

layer_words : (p : List Layer) (l : Layer) (ls : List Layer) (rest : List ℕ) →
    take (record_width * length l) (drop (record_width * record_count ls) (all_record_words (flat_records (p ++ (l ∷ ls))) ++ rest)) ≡ all_record_words l
layer_words p l ls rest =
    let below : List ℕ = all_record_words (flat_records ls) in
    let own : List ℕ = all_record_words l in
    let above : List ℕ = all_record_words (flat_records p) in
    let e : all_record_words (flat_records (p ++ (l ∷ ls))) ≡ below ++ (own ++ above) =
    ap all_record_words (flat_split p l ls) ∙ words_append (flat_records ls) (l ++ flat_records p) ∙ ap (λ (x : List ℕ). below ++ x) (words_append l (flat_records p)) in
    let f : all_record_words (flat_records (p ++ (l ∷ ls))) ++ rest ≡ below ++ (own ++ (above ++ rest)) =
    ap (λ (x : List ℕ). x ++ rest) e ∙ append_assoc below (own ++ above) rest ∙ ap (λ (x : List ℕ). below ++ x) (append_assoc own above rest) in
    let n : length below ≡ record_width * record_count ls = length_records (flat_records ls) ∙ ap (λ (k : ℕ). record_width * k) (length_flat ls) in
    ap (λ (x : List ℕ). take (record_width * length l) (drop (record_width * record_count ls) x)) f
    ∙ ap (take (record_width * length l)) (drop_at below (own ++ (above ++ rest)) (record_width * record_count ls) n)
    ∙ take_at own (above ++ rest) (record_width * length l) (length_records l)

read_layer : (l : Layer) → map read_record (entries record_width (length l) (all_record_words l)) ≡ l
read_layer l = ap (λ (w : List ℕ). map read_record (entries record_width (length l) w)) (sym (append-nil (all_record_words l))) ∙ read_records l []

-- The number of records of some layers is at least that of one and those below it.
count_split : {A : Type 0} (p : List (LayerOf A)) (l : LayerOf A) (ls : List (LayerOf A)) → record_count ls + length l ≤ record_count (p ++ (l ∷ ls))
unfolding record_count
count_split [] l ls = omega arith
count_split (x ∷ p) l ls = omega (arith, count_split p l ls)

-- What a right chain says of each of its layers: it rises, and its records fit.
abbrev pub fitting : Layer → Bool
fitting l = every (λ s c. slot_fits s && content_fits c) l

record LayerRight (l : Layer) : Type 0 where
  rises : rising l ≡ true
  fits : fitting l ≡ true

right_split : (now : ℕ) (p : List Layer) (l : Layer) (ls : List Layer) → chain_ok now (p ++ (l ∷ ls)) ≡ true → LayerRight l
unfolding chain_ok
right_split now [] l ls e =
    let right : Bool = every (λ s c. content_ok now (held_value s ls) (freshest_use s ls) c) l in
    let rest : Bool = fitting l && chain_ok now ls in
    let q : rest ≡ true = and_right right rest (and_right (rising l) (right && rest) e) in
    record { rises = and_left (rising l) (right && rest) e; fits = and_left (fitting l) (chain_ok now ls) q }
right_split now (x ∷ p) l ls e =
    let k : List Layer = p ++ (l ∷ ls) in
    let right : Bool = every (λ s c. content_ok now (held_value s k) (freshest_use s k) c) x in
    let rest : Bool = fitting x && chain_ok now k in
    let q : rest ≡ true = and_right right rest (and_right (rising x) (right && rest) e) in
    right_split now p l ls (and_right (fitting x) (chain_ok now k) q)

-- In a layer whose records fit, the first word of each slot is below 2^32.
narrow : (l : Layer) → fitting l ≡ true → every (λ s c. ltb s.address.w0 (2 ^ 32)) l ≡ true
unfolding every slot_fits
narrow [] e = refl
narrow (r ∷ l) e =
    let w : Bool = ltb r.slot.address.w0 (2 ^ 32) in
    let x : Bool = slot_fits r.slot in
    let y : Bool = content_fits r.content in
    let p : x ≡ true = and_left x y (and_left (x && y) (fitting l) e) in
    and_intro w _ (and_left w _ (and_left _ _ p)) (narrow l (and_right (x && y) (fitting l) e))

-- Layer ends ------------------------------------------------------------------------------------------

pub below_suc : {A : Type 0} (k : ℕ) (b : List (LayerOf A)) → k < length b → layers_below (suc k) b ≡ layer_of k b ∷ layers_below k b
below_suc k b h =
    let e : suc (length b - suc k) ≡ length b - k = omega arith in
    drop-cons b (length b - suc k) [] (omega arith) ∙ ap (λ (i : ℕ). layer_of k b ∷ drop i b) e

pub below_none : {A : Type 0} (b : List (LayerOf A)) → layers_below 0 b ≡ []
below_none b = let e : length b - 0 ≡ length b = omega arith in ap (λ (i : ℕ). drop i b) e ∙ drop-length b

pub below_all : {A : Type 0} (b : List (LayerOf A)) → layers_below (length b) b ≡ b
below_all b = let e : length b - length b ≡ 0 = omega arith in ap (λ (i : ℕ). drop i b) e

-- The end of the layer of number k.
ends_at : {A : Type 0} (ls : List (LayerOf A)) (k : ℕ) → k < length ls → get_or (layer_ends ls) k 0 ≡ record_count (layers_below (suc k) ls)
unfolding layer_ends
ends_at [] k h = absurd (omega arith)
ends_at (l ∷ ls) k h =
    let r : List ℕ = record_count (l ∷ ls) ∷ [] in
    split (ltb k (length ls))
    (λ t. let j : k < length ls = ltb-true k (length ls) t in
    let e : suc (length ls - suc k) ≡ suc (length ls) - suc k = omega arith in
    get_or-append (layer_ends ls) r 0 k (omega (arith, length_ends ls)) ∙ ends_at ls k j ∙ ap (λ (i : ℕ). record_count (drop i (l ∷ ls))) e)
    (λ t. let j : length ls ≤ k = ltb-false k (length ls) t in
    let e : 0 ≡ suc (length ls) - suc k = omega arith in
    get_or_at (layer_ends ls) (record_count (l ∷ ls)) [] 0 k (omega (arith, length_ends ls)) ∙ ap (λ (i : ℕ). record_count (drop i (l ∷ ls))) e)

-- The header ------------------------------------------------------------------------------------------

-- A retention takes two words.
retention_two : (R : Retention) → retention_words R ≡ get_or (retention_words R) 0 0 ∷ get_or (retention_words R) 1 0 ∷ []
retention_two Unbounded = refl
retention_two (IdleBlocks n) = refl

-- A hash, known or not, takes five.
hash_five : (h : Option U256) → let w : List ℕ = hash_words h in w ≡ get_or w 0 0 ∷ get_or w 1 0 ∷ get_or w 2 0 ∷ get_or w 3 0 ∷ get_or w 4 0 ∷ []
hash_five None = refl
hash_five (Some h) = refl

-- The words of the header one by one: 5 of the open, then 19 of a generation.
abbrev config_list : Config → List ℕ → List ℕ
config_list cfg t = let w : List ℕ = retention_words cfg.retention in magic ∷ cfg.capacity ∷ cfg.max_depth ∷ get_or w 0 0 ∷ get_or w 1 0 ∷ t

abbrev generation_list : Generation → List ℕ → List ℕ
generation_list g t =
    let w : List ℕ = hash_words g.anchor.hash in
    1 ∷ g.anchor.number ∷ get_or w 0 0 ∷ get_or w 1 0 ∷ get_or w 2 0 ∷ get_or w 3 0 ∷ get_or w 4 0
    ∷ pred (length g.base) ∷ record_count (chain g) ∷ length g.pending ∷ (totals_words g.totals ++ t)

config_is : (cfg : Config) (t : List ℕ) → config_words cfg ++ t ≡ config_list cfg t
config_is cfg t = ap (λ (w : List ℕ). (magic ∷ cfg.capacity ∷ cfg.max_depth ∷ w) ++ t) (retention_two cfg.retention)

generation_is : (g : Generation) (t : List ℕ) → generation_words g ++ t ≡ generation_list g t
generation_is g t =
    ap (λ (w : List ℕ). (1 ∷ g.anchor.number ∷ (w ++ (pred (length g.base) ∷ record_count (chain g) ∷ length g.pending ∷ totals_words g.totals))) ++ t)
    (hash_five g.anchor.hash)

-- The tables of a generation.
abbrev tables : Config → Generation → List ℕ
tables cfg g = table_words cfg.capacity (layer_ends g.base) (all_pending_words g.pending) (all_record_words (flat_records (chain g)))

-- The words of a store, of one with a generation, and of one with none.
image_is : (st : Store) → image_words st ≡ config_list st.config (installed_words st.config.capacity st.installed)
unfolding image_words
image_is st = config_is st.config (installed_words st.config.capacity st.installed)

installed_is : (st : Store) (g : Generation) → st.installed ≡ Some g → image_words st ≡ config_list st.config (generation_list g (tables st.config g))
installed_is st g e =
    image_is st
    ∙ ap (λ (i : Option Generation). config_list st.config (installed_words st.config.capacity i)) e
    ∙ ap (config_list st.config) (generation_is g (tables st.config g))

none_is : (st : Store) → st.installed ≡ None → image_words st ≡ config_list st.config (installed_words st.config.capacity None)
none_is st e = image_is st ∙ ap (λ (i : Option Generation). config_list st.config (installed_words st.config.capacity i)) e

-- What the words of a retention and of a hash read as.
pub retention_read : (R : Retention) → cond (eqb (get_or (retention_words R) 0 0) 0) Unbounded (IdleBlocks (get_or (retention_words R) 1 0)) ≡ R
retention_read Unbounded = refl
retention_read (IdleBlocks n) = refl

pub hash_read : (h : Option U256) → read_hash (hash_words h) ≡ h
hash_read None = refl
hash_read (Some h) = refl

-- Bytes that are a store ------------------------------------------------------------------------------

-- The word of eight bytes at a place.
abbrev pub word : ℕ → List ℕ → ℕ
word at b = num (take 8 (drop at b))

-- What bytes that are the store st say, word by word of what the open set.
pub record StoreBytes (b : List ℕ) (st : Store) : Type 0 where
  pub right : well_formed st ≡ true
  pub long : records_offset + record_size * st.config.capacity ≤ length b
  pub capacity_limit : st.config.capacity ≤ 4096
  pub depth_limit : st.config.max_depth ≤ 255
  pub words : (i : ℕ) → i < store_words st.config.capacity → word (8 * i) b ≡ get_or (image_words st) i 0
  pub magic_word : word 0 b ≡ magic
  pub capacity_word : word capacity_offset b ≡ st.config.capacity
  pub depth_limit_word : word max_depth_offset b ≡ st.config.max_depth
  pub retention_word : word retention_offset b ≡ get_or (retention_words st.config.retention) 0 0
  pub idle_word : word idle_offset b ≡ get_or (retention_words st.config.retention) 1 0
  pub none_word : st.installed ≡ None → word installed_offset b ≡ 0

-- A layer whose records stand from record number `from` on.
pub record Area (b : List ℕ) (from : ℕ) (l : Layer) : Type 0 where
  pub room : records_offset + record_size * (from + length l) ≤ length b
  pub reads : records_of (length l) (drop (records_offset + record_size * from) b) ≡ l
  pub rises : rising l ≡ true
  pub fits : fitting l ≡ true
  pub narrow : every (λ s c. ltb s.address.w0 (2 ^ 32)) l ≡ true

-- What bytes that are a store with the generation g say of it.
pub record GenerationBytes (b : List ℕ) (st : Store) (g : Generation) : Type 0 where
  pub store : StoreBytes b st
  pub facts : GenerationFacts st.config g
  pub installed_word : word installed_offset b ≡ 1
  pub number_word : word number_offset b ≡ g.anchor.number
  pub hash_word : (j : ℕ) → j < 5 → word (hash_offset + 8 * j) b ≡ get_or (hash_words g.anchor.hash) j 0
  pub depth_word : word depth_offset b ≡ pred (length g.base)
  pub records_word : word records_count_offset b ≡ record_count (chain g)
  pub pending_word : word awaiting_count_offset b ≡ length g.pending
  pub totals_word : (j : ℕ) → j < 9 → word (totals_offset + 8 * j) b ≡ get_or (totals_words g.totals) j 0
  pub end_word : (k : ℕ) → k < length g.base → word (ends_offset + 8 * k) b ≡ record_count (layers_below (suc k) g.base)
  pub layer : (k : ℕ) (l : Layer) → layers_below (suc k) g.base ≡ l ∷ layers_below k g.base → Area b (record_count (layers_below k g.base)) l
  pub top : Area b (record_count g.base) g.top
  pub awaiting : pending_of (length g.pending) (drop awaiting_offset b) ≡ g.pending

pub store_bytes : (b : List ℕ) (st : Store) → decode b ≡ Some st → StoreBytes b st
store_bytes b st e =
    let h : Begins b st = decode_some b st e in
    let f : StoreFacts st = store_facts st h.right in
    let n : ℕ = store_words st.config.capacity in
    let w : (i : ℕ) → i < n → word (8 * i) b ≡ get_or (image_words st) i 0 = λ i k. word_at n i b k ∙ ap (λ (l : List ℕ). get_or l i 0) h.words in
    let c : (i : ℕ) → i < records_index → word (8 * i) b ≡ get_or (config_list st.config (installed_words st.config.capacity st.installed)) i 0 =
    λ i k. w i (omega arith) ∙ ap (λ (l : List ℕ). get_or l i 0) (image_is st) in
    record {
      right = h.right;
      long = omega (arith, h.long);
      capacity_limit = f.config_right.capacity_limit;
      depth_limit = f.config_right.depth_limit;
      words = w;
      magic_word = c 0 (lit< tt);
      capacity_word = c capacity_index (lit< tt);
      depth_limit_word = c max_depth_index (lit< tt);
      retention_word = c retention_index (lit< tt);
      idle_word = c idle_index (lit< tt);
      none_word = λ z. w installed_index (omega arith) ∙ ap (λ (l : List ℕ). get_or l installed_index 0) (none_is st z);
    }

-- A store with a generation: its words from a place on, its layers, its awaiting slots.
module _ (b : List ℕ) (st : Store) (g : Generation) (e : decode b ≡ Some st) (i : st.installed ≡ Some g) where
  abbrev all_words : List ℕ
  all_words = config_list st.config (generation_list g (tables st.config g))

  store_right : StoreFacts st
  store_right = store_facts st (decode_some b st e).right

  generation_right : GenerationFacts st.config g
  generation_right = generation_facts st.config g (subst (λ (x : Option Generation). installed_ok st.config x ≡ true) i store_right.installed_right)

  words_are : words_of (store_words st.config.capacity) b ≡ all_words
  words_are = (decode_some b st e).words ∙ installed_is st g i

  word_from : (m j : ℕ) → m + j < records_index → word (8 * m + 8 * j) b ≡ get_or (drop m all_words) j 0
  word_from m j h =
      let k : 8 * m + 8 * j ≡ 8 * (m + j) = omega arith in
      ap (λ (x : ℕ). word x b) k
      ∙ word_at (store_words st.config.capacity) (m + j) b (omega arith)
      ∙ ap (λ (l : List ℕ). get_or l (m + j) 0) words_are
      ∙ sym (get_or-drop m all_words j 0)

  record_words_are : drop records_index all_words ≡ padded (record_width * st.config.capacity) (all_record_words (flat_records (chain g)))
  record_words_are = drop_awaiting st.config.capacity _ _ _ (room st.config g store_right.config_right generation_right)

  -- A layer over others in the chain.
  layer_area : (p : List Layer) (l : Layer) (ls : List Layer) → chain g ≡ p ++ (l ∷ ls) → Area b (record_count ls) l
  unfolding records_of
  layer_area p l ls q =
      let cap : ℕ = st.config.capacity in
      let n : ℕ = record_count ls in
      let m : ℕ = record_width * length l in
      let f : GenerationFacts st.config g = generation_right in
      let fit : n + length l ≤ cap = omega (arith, count_split p l ls, ap record_count q) in
      let long : 8 * store_words cap ≤ length b = (decode_some b st e).long in
      let r : LayerRight l = right_split g.anchor.number p l ls (subst (λ (x : List Layer). chain_ok g.anchor.number x ≡ true) q f.chain_right) in
      let k : records_offset + record_size * n ≡ 8 * (records_index + record_width * n) = omega arith in
      let tail : List ℕ = replicate (record_width * cap - length (all_record_words (flat_records (chain g)))) 0 in
      let part : words_of m (drop (records_offset + record_size * n) b) ≡ all_record_words l =
      ap (λ (x : ℕ). words_of m (drop x b)) k
      ∙ sym (words_part (records_index + record_width * n) m (store_words cap) b (omega arith))
      ∙ ap (λ (x : List ℕ). take m (drop (records_index + record_width * n) x)) words_are
      ∙ ap (take m) (sym (drop-drop (record_width * n) records_index all_words) ∙ ap (drop (record_width * n)) record_words_are)
      ∙ ap (λ (x : List Layer). take m (drop (record_width * n) (all_record_words (flat_records x) ++ tail))) q
      ∙ layer_words p l ls tail in
      record {
        room = omega arith;
        reads = ap (λ (x : List ℕ). map read_record (entries record_width (length l) x)) part ∙ read_layer l;
        rises = r.rises;
        fits = r.fits;
        narrow = narrow l r.fits;
      }

  awaiting_words : words_of (awaiting_width * length g.pending) (drop awaiting_offset b) ≡ all_pending_words g.pending
  awaiting_words =
      let cap : ℕ = st.config.capacity in
      let n : ℕ = awaiting_width * length g.pending in
      let f : GenerationFacts st.config g = generation_right in
      let a : List ℕ = all_pending_words g.pending in
      sym (words_part awaiting_index n (store_words cap) b (omega arith))
      ∙ ap (λ (x : List ℕ). take n (drop awaiting_index x)) words_are
      ∙ ap (take n) (drop_ends cap _ a _ (room st.config g store_right.config_right f) ∙ append_assoc a _ _)
      ∙ take_at a _ n (length_pending g.pending)

  pub generation_bytes : GenerationBytes b st g
  unfolding pending_of
  generation_bytes =
      let f : GenerationFacts st.config g = generation_right in
      let c : ConfigFacts st.config = store_right.config_right in
      let t : List ℕ = tables st.config g in
      let ends : List ℕ = layer_ends g.base in
      let hash : List ℕ = hash_words g.anchor.hash in
      record {
        store = store_bytes b st e;
        facts = f;
        installed_word = word_from installed_index 0 (lit< tt);
        number_word = word_from number_index 0 (lit< tt);
        hash_word = λ j h. word_from hash_index j (omega arith) ∙ ap (λ (x : List ℕ). get_or (x ++ drop depth_index all_words) j 0) (sym (hash_five g.anchor.hash)) ∙ get_or-append hash (drop depth_index all_words) 0 j (omega (arith, ap length (hash_five g.anchor.hash)));
        depth_word = word_from depth_index 0 (lit< tt);
        records_word = word_from records_count_index 0 (lit< tt);
        pending_word = word_from awaiting_count_index 0 (lit< tt);
        totals_word = λ j h. word_from totals_index j (omega arith) ∙ get_or-append (totals_words g.totals) t 0 j h;
        end_word = λ k h. word_from ends_index k (omega arith)
            ∙ ap (λ (x : List ℕ). get_or x k 0) (append_assoc ends _ _)
            ∙ get_or-append ends _ 0 k (omega (arith, length_ends g.base))
            ∙ ends_at g.base k h;
        layer = λ k l q. layer_area (g.top ∷ take (length g.base - suc k) g.base) l (layers_below k g.base) (ap (λ (x : List Layer). g.top ∷ x) (sym (take-append-drop (length g.base - suc k) g.base) ∙ ap (λ (x : List Layer). take (length g.base - suc k) g.base ++ x) q));
        top = layer_area [] g.top g.base refl;
        awaiting = ap (λ (x : List ℕ). map read_pending (entries awaiting_width (length g.pending) x)) (awaiting_words ∙ sym (append-nil (all_pending_words g.pending))) ∙ read_pendings g.pending [];
      }
