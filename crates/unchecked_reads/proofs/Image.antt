-- The image of a store with a generation in segments: before the number of awaiting slots, up to their area, the area, the records; other awaiting slots and other totals.
use Rattle.std.specs.Prelude.{Option, Some}
use Prim.Native.Nat.{ℕ, pred, ◌-◌, ◌*◌, ◌^◌, ◌≤◌, ◌<◌}
use mathlib.Core.Path.{◌≡◌, sym, ap, ap₂, subst, ◌∙◌}
use mathlib.Core.List.{List, [], ◌∷◌, ◌++◌, append_assoc, append-nil}
use native.Mathlib.Omega.{arith}
use lib.ListN.{length, take, drop, length-append, length-drop, drop_of_length-le}
use lib.Seq.{take_at, drop_at, take_all}
use borrow.Rule.Slice.PartMut.{put_mid}
use Rattle.layout.specs.Layout.{awaiting_count_offset, awaiting_offset, awaiting_table, awaiting_table_size, ends_limit, ends_offset, header_width, record_size, record_width, totals_index, totals_offset, totals_width}
use Rattle.model.specs.declared.read_hub.ReadTotals.{ReadTotals}
use Rattle.model.specs.Numbers.{be, Bytes}
use Rattle.model.proofs.NumberLaws.{length_be}
use Rattle.model.specs.Layers.{Layer, record_count}
use Rattle.model.specs.Reads.{Pending, queued, remove_pending, remove_all_pending}
use Rattle.model.specs.declared.delta_snapshot.Slot.{Slot}
use Rattle.model.specs.Slots.{slot_eqb}
use Rattle.model.proofs.SlotLaws.{split}
use Rattle.model.specs.Entries.{with_slots}
use Rattle.model.specs.Store.{Config, Generation, Store, chain, with_reads}
use Rattle.model.specs.Refusals.{store_size}
use Rattle.words.specs.Parts.{placed}
use Rattle.image.specs.WellFormed.{all_waiters, pending_ok}
use Rattle.image.specs.Image.{bytes_of, words_of, hash_words, totals_words, all_record_words, all_pending_words, flat_records, layer_ends, padded, config_words, image_words, image, read_totals, overlay}
use Rattle.image.specs.Area.{pending_of, with_pending}
use Rattle.image.specs.Lent.{store_of, generation_of, Installed}
use Rattle.model.proofs.WordLaws.{Fit}
use Rattle.image.proofs.Words.{length_bytes_of, length_padded, length_words_of, words_of_bytes}
use Rattle.image.proofs.Entries.{length_records, length_flat, length_ends, length_pending}
use Rattle.image.proofs.Areas.{words_part, GenerationBytes}
use Rattle.image.proofs.Extent.{fit_totals}
use Rattle.image.proofs.Lent.{store_in, generation_in}
use Rattle.image.proofs.ReadBack.{decode_some, length_image}
use Rattle.image.proofs.Written.{bytes_append}
use Rattle.awaiting.specs.Awaiting.{Rising, Ready, Holds, Lists}
use Rattle.awaiting.proofs.Area.{area_of, area_changed, ready_area}
use Rattle.totals.specs.Totals.{Small, totals_of, with_totals}
use Rattle.totals.proofs.Bounds.{small_of}
use Rattle.totals.proofs.InStore.{store_with_totals}
use Rattle.header.proofs.Segments.{placed_over}
use Rattle.header.proofs.Images.{store_split, length_retention, length_hash}
use Rattle.settling.specs.Settling.{Settled}
use Rattle.unchecked_reads.specs.Inner.{reading, awaited}

-- Segments ---------------------------------------------------------------------------------------------

-- The words before the number of awaiting slots, those between it and the awaiting area, and those of the records.
abbrev before : Config → Generation → List ℕ
before cfg g = config_words cfg ++ (1 ∷ g.anchor.number ∷ (hash_words g.anchor.hash ++ (pred (length g.base) ∷ record_count (chain g) ∷ [])))

abbrev between : Generation → List ℕ
between g = totals_words g.totals ++ padded ends_limit (layer_ends g.base)

abbrev records : Config → Generation → List ℕ
records cfg g = padded (record_width * cfg.capacity) (all_record_words (flat_records (chain g)))

regroup : (x n d k p : ℕ) (c h t e a r : List ℕ) →
    c ++ ((x ∷ n ∷ (h ++ (d ∷ k ∷ p ∷ t))) ++ (e ++ (a ++ r))) ≡ (c ++ (x ∷ n ∷ (h ++ (d ∷ k ∷ [])))) ++ (p ∷ ((t ++ e) ++ (a ++ r)))
regroup x n d k p c h t e a r = simp append_assoc

-- A store's words.
abbrev stored : Config → Generation → Store
stored cfg g = record { config = cfg; installed = Some g }

words_split : (cfg : Config) (g : Generation) → image_words (stored cfg g) ≡ before cfg g ++ (length g.pending ∷ (between g ++ (padded awaiting_table (all_pending_words g.pending) ++ records cfg g)))
unfolding image_words
words_split cfg g =
    regroup 1 g.anchor.number (pred (length g.base)) (record_count (chain g)) (length g.pending) (config_words cfg) (hash_words g.anchor.hash) (totals_words g.totals) (padded ends_limit (layer_ends g.base)) (padded awaiting_table (all_pending_words g.pending)) (records cfg g)

-- Its bytes, over what follows.
bytes_split : (cfg : Config) (g : Generation) (rest : List ℕ) →
    image (stored cfg g) ++ rest ≡ bytes_of (before cfg g) ++ (be 8 (length g.pending) ++ (bytes_of (between g) ++ (area_of g.pending ++ (bytes_of (records cfg g) ++ rest))))
unfolding image bytes_of
bytes_split cfg g rest =
    let a : List ℕ = padded awaiting_table (all_pending_words g.pending) in
    let n : ℕ = length g.pending in
    ap (λ (l : List ℕ). bytes_of l ++ rest) (words_split cfg g)
    ∙ ap (λ (l : List ℕ). l ++ rest) (bytes_append (before cfg g) (n ∷ (between g ++ (a ++ records cfg g)))
    ∙ ap (λ (l : List ℕ). bytes_of (before cfg g) ++ (be 8 n ++ l)) (bytes_append (between g) (a ++ records cfg g)
    ∙ ap (λ (l : List ℕ). bytes_of (between g) ++ l) (bytes_append a (records cfg g))))
    ∙ flat (bytes_of (before cfg g)) (be 8 n) (bytes_of (between g)) (area_of g.pending) (bytes_of (records cfg g)) rest
  where
    flat : (p q r s t u : List ℕ) → (p ++ (q ++ (r ++ (s ++ t)))) ++ u ≡ p ++ (q ++ (r ++ (s ++ (t ++ u))))
    flat p q r s t u = simp append_assoc

length_before : (cfg : Config) (g : Generation) → length (bytes_of (before cfg g)) ≡ awaiting_count_offset
length_before cfg g =
    let t : List ℕ = pred (length g.base) ∷ record_count (chain g) ∷ [] in
    length_bytes_of (before cfg g)
    ∙ omega (arith, length-append (config_words cfg) (1 ∷ g.anchor.number ∷ (hash_words g.anchor.hash ++ t)), length_retention cfg.retention, length_hash g.anchor.hash, length-append (hash_words g.anchor.hash) t)

-- What a generation must have for its image to have the store's size.
pub record Sized (cfg : Config) (g : Generation) : Type 0 where
  pub few_layers : length g.base ≤ ends_limit
  pub few_pending : length g.pending ≤ 64
  pub few_records : record_count (chain g) ≤ cfg.capacity

module _ (cfg : Config) (g : Generation) (k : Sized cfg g) where
  length_between : length (bytes_of (between g)) ≡ awaiting_offset - totals_offset
  length_between =
      let e : List ℕ = padded ends_limit (layer_ends g.base) in
      let n : length (layer_ends g.base) ≤ ends_limit = omega (arith, length_ends g.base, k.few_layers) in
      length_bytes_of (between g) ∙ omega (arith, length-append (totals_words g.totals) e, length_padded ends_limit (layer_ends g.base) n)

  length_area : length (area_of g.pending) ≡ awaiting_table_size
  length_area =
      let n : length (all_pending_words g.pending) ≤ awaiting_table = omega (arith, length_pending g.pending, k.few_pending) in
      length_bytes_of (padded awaiting_table (all_pending_words g.pending)) ∙ omega (arith, length_padded awaiting_table (all_pending_words g.pending) n)

  length_record_bytes : length (bytes_of (records cfg g)) ≡ record_size * cfg.capacity
  length_record_bytes =
      let r : List ℕ = all_record_words (flat_records (chain g)) in
      let n : length r ≤ record_width * cfg.capacity = omega (arith, length_records (flat_records (chain g)), length_flat (chain g), k.few_records) in
      length_bytes_of (records cfg g) ∙ omega (arith, length_padded (record_width * cfg.capacity) r n)

  -- The image has the store's size.
  pub image_size : length (image (stored cfg g)) ≡ store_size cfg.capacity
  image_size =
      let h : List ℕ = bytes_of (before cfg g) in
      let n : List ℕ = be 8 (length g.pending) in
      let m : List ℕ = bytes_of (between g) in
      let a : List ℕ = area_of g.pending in
      let r : List ℕ = bytes_of (records cfg g) in
      ap length (sym (append-nil (image (stored cfg g))) ∙ bytes_split cfg g [])
      ∙ length-append h (n ++ (m ++ (a ++ (r ++ []))))
      ∙ omega (arith, length-append n (m ++ (a ++ (r ++ []))), length-append m (a ++ (r ++ [])), length-append a (r ++ []), ap length (append-nil r), length_before cfg g, length_between, length_area, length_record_bytes, length_be 8 (length g.pending))

  -- The store laid over bytes.
  pub laid : (b : List ℕ) → overlay (Some (stored cfg g)) b ≡ image (stored cfg g) ++ drop (store_size cfg.capacity) b
  laid b = ap (λ (n : ℕ). image (stored cfg g) ++ drop n b) image_size

  -- The bytes from the awaiting area on.
  pub area_on : (rest : List ℕ) → drop awaiting_offset (image (stored cfg g) ++ rest) ≡ area_of g.pending ++ (bytes_of (records cfg g) ++ rest)
  area_on rest =
      let h : List ℕ = bytes_of (before cfg g) in
      let n : List ℕ = be 8 (length g.pending) in
      let m : List ℕ = bytes_of (between g) in
      let z : List ℕ = area_of g.pending ++ (bytes_of (records cfg g) ++ rest) in
      let e : length (h ++ (n ++ m)) ≡ awaiting_offset = length-append h (n ++ m) ∙ omega (arith, length-append n m, length_before cfg g, length_between, length_be 8 (length g.pending)) in
      ap (drop awaiting_offset) (bytes_split cfg g rest ∙ sym (append_assoc h (n ++ m) z ∙ ap (λ (l : List ℕ). h ++ l) (append_assoc n m z))) ∙ drop_at (h ++ (n ++ m)) z awaiting_offset e

  -- Other awaiting slots: their area and, in word 14, their number.
  pub area_set : (q : List Pending) (rest : List ℕ) → length q ≤ 64 →
      placed awaiting_count_offset (be 8 (length q)) (take awaiting_offset (image (stored cfg g) ++ rest) ++ with_pending (length g.pending) q (drop awaiting_offset (image (stored cfg g) ++ rest)))
      ≡ image (stored cfg (with_reads g g.top q g.totals)) ++ rest
  area_set q rest c =
      let h : List ℕ = bytes_of (before cfg g) in
      let n : List ℕ = be 8 (length g.pending) in
      let m : List ℕ = bytes_of (between g) in
      let w : List ℕ = bytes_of (records cfg g) ++ rest in
      let z : List ℕ = area_of g.pending ++ w in
      let b : List ℕ = image (stored cfg g) ++ rest in
      let e : length (h ++ (n ++ m)) ≡ awaiting_offset = length-append h (n ++ m) ∙ omega (arith, length-append n m, length_before cfg g, length_between, length_be 8 (length g.pending)) in
      let s : b ≡ (h ++ (n ++ m)) ++ z = bytes_split cfg g rest ∙ sym (append_assoc h (n ++ m) z ∙ ap (λ (l : List ℕ). h ++ l) (append_assoc n m z)) in
      let t : take awaiting_offset b ≡ h ++ (n ++ m) = ap (take awaiting_offset) s ∙ take_at (h ++ (n ++ m)) z awaiting_offset e in
      let u : with_pending (length g.pending) q (drop awaiting_offset b) ≡ area_of q ++ w = ap (with_pending (length g.pending) q) (area_on rest) ∙ area_changed g.pending q w k.few_pending c in
      ap₂ (λ (x y : List ℕ). placed awaiting_count_offset (be 8 (length q)) (x ++ y)) t u
      ∙ ap (placed awaiting_count_offset (be 8 (length q))) (append_assoc h (n ++ m) (area_of q ++ w) ∙ ap (λ (l : List ℕ). h ++ l) (append_assoc n m (area_of q ++ w)))
      ∙ placed_over h (be 8 (length q)) n (m ++ (area_of q ++ w)) awaiting_count_offset (length_before cfg g) (length_be 8 (length q) ∙ sym (length_be 8 (length g.pending)))
      ∙ sym (bytes_split cfg (with_reads g g.top q g.totals) rest)

  -- As many other awaiting slots: their area alone.
  pub area_same : (q : List Pending) (rest : List ℕ) → length q ≡ length g.pending →
      take awaiting_offset (image (stored cfg g) ++ rest) ++ with_pending (length g.pending) q (drop awaiting_offset (image (stored cfg g) ++ rest))
      ≡ image (stored cfg (with_reads g g.top q g.totals)) ++ rest
  area_same q rest c =
      let h : List ℕ = bytes_of (before cfg g) in
      let n : List ℕ = be 8 (length g.pending) in
      let m : List ℕ = bytes_of (between g) in
      let w : List ℕ = bytes_of (records cfg g) ++ rest in
      let z : List ℕ = area_of g.pending ++ w in
      let b : List ℕ = image (stored cfg g) ++ rest in
      let d : length q ≤ 64 = omega (arith, k.few_pending) in
      let e : length (h ++ (n ++ m)) ≡ awaiting_offset = length-append h (n ++ m) ∙ omega (arith, length-append n m, length_before cfg g, length_between, length_be 8 (length g.pending)) in
      let s : b ≡ (h ++ (n ++ m)) ++ z = bytes_split cfg g rest ∙ sym (append_assoc h (n ++ m) z ∙ ap (λ (l : List ℕ). h ++ l) (append_assoc n m z)) in
      let t : take awaiting_offset b ≡ h ++ (n ++ m) = ap (take awaiting_offset) s ∙ take_at (h ++ (n ++ m)) z awaiting_offset e in
      let u : with_pending (length g.pending) q (drop awaiting_offset b) ≡ area_of q ++ w = ap (with_pending (length g.pending) q) (area_on rest) ∙ area_changed g.pending q w k.few_pending d in
      ap₂ (λ (x y : List ℕ). x ++ y) t u
      ∙ append_assoc h (n ++ m) (area_of q ++ w) ∙ ap (λ (l : List ℕ). h ++ l) (append_assoc n m (area_of q ++ w))
      ∙ ap (λ (i : ℕ). h ++ (be 8 i ++ (m ++ (area_of q ++ w)))) (sym c)
      ∙ sym (bytes_split cfg (with_reads g g.top q g.totals) rest)

  -- The totals in the image.
  pub totals_in : (rest : List ℕ) → Fit (totals_words g.totals) → totals_of (image (stored cfg g) ++ rest) ≡ g.totals
  unfolding totals_of
  totals_in rest f =
      let s : List ℕ = image (stored cfg g) ++ rest in
      let h : List ℕ = bytes_of (before cfg g) in
      let n : List ℕ = be 8 (length g.pending) in
      let t : List ℕ = totals_words g.totals in
      let e : List ℕ = padded ends_limit (layer_ends g.base) in
      let z : List ℕ = area_of g.pending ++ (bytes_of (records cfg g) ++ rest) in
      let p : s ≡ (h ++ n) ++ (bytes_of t ++ (bytes_of e ++ z)) =
      bytes_split cfg g rest ∙ sym (append_assoc h n (bytes_of (between g) ++ z))
      ∙ ap (λ (l : List ℕ). (h ++ n) ++ l) (ap (λ (l : List ℕ). l ++ z) (bytes_append t e) ∙ append_assoc (bytes_of t) (bytes_of e) z) in
      let i : length (h ++ n) ≡ totals_offset = length-append h n ∙ omega (arith, length_before cfg g, length_be 8 (length g.pending)) in
      let d : drop totals_offset s ≡ bytes_of t ++ (bytes_of e ++ z) = ap (drop totals_offset) p ∙ drop_at (h ++ n) (bytes_of t ++ (bytes_of e ++ z)) totals_offset i in
      let w : List ℕ = drop totals_index (words_of header_width s) in
      let j : length w ≤ totals_width = omega (arith, length-drop totals_index (words_of header_width s), length_words_of header_width s) in
      let q : w ≡ t = sym (take_all totals_width w j) ∙ words_part totals_index totals_width header_width s (omega arith) ∙ ap (words_of totals_width) d ∙ words_of_bytes (bytes_of e ++ z) f in
      ap read_totals q

fit_small : (t : ReadTotals) → Small t → Fit (totals_words t)
fit_small t f = fit_totals t (omega arith) (omega arith) (omega arith) (omega arith) (omega arith) (omega arith) (omega arith) (omega arith) (omega arith)

-- Fewer awaiting slots are left.
length_less_one : (t : Slot) (q : List Pending) → length (remove_pending t q) ≤ length q
unfolding remove_pending
length_less_one t [] = omega arith
length_less_one t (w ∷ q) = split (slot_eqb w.slot t) (λ p. rw p (omega arith)) (λ p. let k : length (remove_pending t q) ≤ length q = length_less_one t q in rw p (omega arith))

length_less : (ss : List Slot) (q : List Pending) → length (remove_all_pending ss q) ≤ length q
unfolding remove_all_pending
length_less [] q = omega arith
length_less (t ∷ ss) q = omega (arith, length_less ss (remove_pending t q), length_less_one t q)

-- A list of the queue of equal awaiting slots.
pub lists_as : {n : ℕ} {o out : List ℕ} {p q : List Pending} → p ≡ q → Lists n o p out → Lists n o q out
lists_as {n} {o} {out} e l = record { count_is = l.count_is ∙ ap (λ (x : List Pending). length (queued x)) e; output_is = l.output_is ∙ ap (λ (x : List Pending). with_slots (queued x) out) e }

-- Bytes that are a store ---------------------------------------------------------------------------------

-- What the part from the awaiting slots on lends.
abbrev pub area_lent : List ℕ → List ℕ
area_lent b = take (length b - awaiting_offset) (drop awaiting_offset b)

pub area_rest : (b : List ℕ) → area_lent b ≡ drop awaiting_offset b
area_rest b = take_all (length b - awaiting_offset) (drop awaiting_offset b) (omega (arith, length-drop awaiting_offset b))

pub sized : (b : List ℕ) → Installed b → Sized (store_of b).config (generation_of b)
sized b h =
    let k : GenerationBytes b (store_of b) (generation_of b) = generation_in b h in
    let d : (store_of b).config.max_depth ≤ 255 = (store_in b h.is_store).depth_limit in
    record { few_layers = omega (arith, k.facts.few_layers); few_pending = k.facts.few_pending; few_records = k.facts.few_records }

module _ (b : List ℕ) (h : Installed b) where
  abbrev pub gen : Generation
  gen = generation_of b

  abbrev pub cfg : Config
  cfg = (store_of b).config

  abbrev pub rest : List ℕ
  rest = drop (store_size cfg.capacity) b

  pub few_waiters : all_waiters gen.pending < 2 ^ 32
  few_waiters = let k = (generation_in b h).facts.totals_add_up in omega (arith, k.waiting_is, k.adds_up, k.accepted_limit)

  pub totals_small : Small gen.totals
  totals_small = small_of gen.pending gen.totals (generation_in b h).facts.totals_add_up

  pub removed_few : (ss : List Slot) → length (remove_all_pending ss gen.pending) ≤ 64
  removed_few ss = omega (arith, length_less ss gen.pending, (generation_in b h).facts.few_pending)

  -- The bytes are the image and what follows.
  pub as_image : Bytes b → b ≡ image (stored cfg gen) ++ rest
  as_image f =
      store_split b (store_of b) f h.is_store
      ∙ ap (λ (n : ℕ). image (store_of b) ++ drop n b) (length_image (store_of b) (decode_some b (store_of b) h.is_store).right)
      ∙ ap (λ (i : Option Generation). image (record { config = cfg; installed = i }) ++ rest) h.installs

  -- The awaiting area is ready for a change, and reads as the awaiting slots.
  pub area_ready : Bytes b → Ready (length gen.pending) (area_lent b) × (pending_of (length gen.pending) (area_lent b) ≡ gen.pending)
  area_ready f =
      let k = (generation_in b h).facts in
      let w : List ℕ = bytes_of (records cfg gen) ++ rest in
      let e : area_lent b ≡ area_of gen.pending ++ w = area_rest b ∙ ap (drop awaiting_offset) (as_image f) ∙ area_on cfg gen (sized b h) rest in
      subst (λ (x : List ℕ). Ready (length gen.pending) x × (pending_of (length gen.pending) x ≡ gen.pending)) (sym e) (ready_area gen.pending w k.pending_right k.few_pending few_waiters)

  -- Other awaiting slots.
  sized_with : (t : Layer) (q : List Pending) (r : ReadTotals) → length q ≤ 64 → record_count (t ∷ gen.base) ≤ cfg.capacity → Sized cfg (with_reads gen t q r)
  sized_with t q r c d = record { few_layers = (sized b h).few_layers; few_pending = c; few_records = d }

  pub awaiting_set : (f : Bytes b) (q : List Pending) → length q ≤ 64 → placed awaiting_count_offset (be 8 (length q)) (take awaiting_offset b ++ with_pending (length gen.pending) q (drop awaiting_offset b)) ≡ overlay (awaited cfg gen q) b
  awaiting_set f q c =
      ap (λ (x : List ℕ). placed awaiting_count_offset (be 8 (length q)) (take awaiting_offset x ++ with_pending (length gen.pending) q (drop awaiting_offset x))) (as_image f)
      ∙ area_set cfg gen (sized b h) q rest c
      ∙ sym (laid cfg (with_reads gen gen.top q gen.totals) (sized_with gen.top q gen.totals c (sized b h).few_records) b)

  pub awaiting_same : (f : Bytes b) (q : List Pending) → length q ≡ length gen.pending → take awaiting_offset b ++ with_pending (length gen.pending) q (drop awaiting_offset b) ≡ overlay (awaited cfg gen q) b
  awaiting_same f q c =
      ap (λ (x : List ℕ). take awaiting_offset x ++ with_pending (length gen.pending) q (drop awaiting_offset x)) (as_image f)
      ∙ area_same cfg gen (sized b h) q rest c
      ∙ sym (laid cfg (with_reads gen gen.top q gen.totals) (sized_with gen.top q gen.totals (omega (arith, c, (sized b h).few_pending)) (sized b h).few_records) b)

  -- Other totals after another top or other awaiting slots.
  module _ (t : Layer) (q : List Pending) (c : length q ≤ 64) (d : record_count (t ∷ gen.base) ≤ cfg.capacity) where
    pub totals_read : (r : ReadTotals) → Small r → totals_of (overlay (reading cfg gen t q r) b) ≡ r
    totals_read r f =
        let k : Sized cfg (with_reads gen t q r) = sized_with t q r c d in
        ap totals_of (laid cfg (with_reads gen t q r) k b) ∙ totals_in cfg (with_reads gen t q r) k rest (fit_small r f)

    pub totals_set : (r r' : ReadTotals) → with_totals r' (overlay (reading cfg gen t q r) b) ≡ overlay (reading cfg gen t q r') b
    totals_set r r' =
        ap (with_totals r') (laid cfg (with_reads gen t q r) (sized_with t q r c d) b)
        ∙ store_with_totals cfg (with_reads gen t q r) r r' rest
        ∙ sym (laid cfg (with_reads gen t q r') (sized_with t q r' c d) b)

    -- What counting a call asks of the bytes then, and what it leaves.
    module _ (u : List ℕ) (e : u ≡ overlay (reading cfg gen t q gen.totals) b) where
      pub counts_in : ends_offset ≤ length u
      counts_in =
          let k : Sized cfg (with_reads gen t q gen.totals) = sized_with t q gen.totals c d in
          let i : List ℕ = image (stored cfg (with_reads gen t q gen.totals)) in
          let n : length u ≡ length (i ++ rest) = ap length (e ∙ laid cfg (with_reads gen t q gen.totals) k b) in
          omega (arith, n, length-append i rest, image_size cfg (with_reads gen t q gen.totals) k)

      pub counts_of : totals_of u ≡ gen.totals
      counts_of = ap totals_of e ∙ totals_read gen.totals totals_small

      pub counts_small : Small (totals_of u)
      counts_small = subst Small (sym counts_of) totals_small

      pub counted : (F : ReadTotals → ReadTotals) {w : List ℕ} → w ≡ with_totals (F (totals_of u)) u → w ≡ overlay (reading cfg gen t q (F gen.totals)) b
      counted F r = r ∙ ap₂ (λ (x : ReadTotals) (y : List ℕ). with_totals (F x) y) counts_of e ∙ totals_set gen.totals (F gen.totals)

    -- Other awaiting slots after another top.
    pub after_settled : (s u : List ℕ) → Settled s b t → u ≡ overlay (awaited (store_of s).config (generation_of s) q) s → u ≡ overlay (reading cfg gen t q gen.totals) b
    after_settled s u m e =
        let x : Generation = with_reads gen t q gen.totals in
        let y : Generation = with_reads gen t gen.pending gen.totals in
        let k : Sized cfg x = sized_with t q gen.totals c d in
        let j : Sized cfg y = sized_with t gen.pending gen.totals (sized b h).few_pending d in
        let n : ℕ = store_size cfg.capacity in
        let z : drop n s ≡ rest = ap (drop n) (m.bytes_are ∙ laid cfg y j b) ∙ drop_at (image (stored cfg y)) rest n (image_size cfg y j) in
        e ∙ ap₂ (λ (i : Config) (w : Generation). overlay (awaited i w q) s) m.config_is m.generation_is ∙ laid cfg x k s ∙ ap (λ (w : List ℕ). image (stored cfg x) ++ w) z ∙ sym (laid cfg x k b)

  -- The awaiting area, of the number n of awaiting slots: what it reads as, and what a look-up asks.
  module _ (n : ℕ) (p : n ≡ length gen.pending) where
    pub reads_as : pending_of n (area_lent b) ≡ gen.pending
    reads_as = ap₂ pending_of p (area_rest b) ∙ (generation_in b h).awaiting

    pub asks_rising : Rising n (area_lent b)
    asks_rising =
        let k = generation_in b h in
        record { room = omega (arith, p, k.facts.few_pending, (store_in b h.is_store).long, ap length (area_rest b), length-drop awaiting_offset b); ok = ap pending_ok reads_as ∙ k.facts.pending_right }

  -- What a change asks, and what it leaves.
  module _ (f : Bytes b) (n : ℕ) (p : n ≡ length gen.pending) where
    pub asks : Ready n (area_lent b)
    asks = subst (λ (i : ℕ). Ready i (area_lent b)) (sym p) (area_ready f).0

    back : (q : List Pending) (ys : List ℕ) → ys ≡ with_pending n q (area_lent b) → put_mid awaiting_offset (length b - awaiting_offset) b ys ≡ take awaiting_offset b ++ with_pending (length gen.pending) q (drop awaiting_offset b)
    back q ys e =
        let m : length (drop awaiting_offset b) ≤ length b - awaiting_offset = omega (arith, length-drop awaiting_offset b) in
        ap (λ (x : List ℕ). take awaiting_offset b ++ (ys ++ x)) (drop_of_length-le (drop awaiting_offset b) m) ∙ ap (λ (x : List ℕ). take awaiting_offset b ++ x) (append-nil ys ∙ e ∙ ap₂ (λ (i : ℕ) (x : List ℕ). with_pending i q x) p (area_rest b))

    -- A change that leaves as many awaiting slots.
    pub same_number : (q : List Pending) (ys : List ℕ) → ys ≡ with_pending n q (area_lent b) → length q ≡ length gen.pending → put_mid awaiting_offset (length b - awaiting_offset) b ys ≡ overlay (awaited cfg gen q) b
    same_number q ys e c = back q ys e ∙ awaiting_same f q c

    -- A change, and the number of awaiting slots written.
    pub new_number : (q q' : List Pending) (k : ℕ) (ys u : List ℕ) → Holds k ys n q' (area_lent b) → q' ≡ q → length q ≤ 64 → u ≡ placed awaiting_count_offset (be 8 k) (put_mid awaiting_offset (length b - awaiting_offset) b ys) → u ≡ overlay (awaited cfg gen q) b
    new_number q q' k ys u hold s c e =
        e ∙ ap₂ (λ (i : ℕ) (x : List ℕ). placed awaiting_count_offset (be 8 i) x) (hold.count_is ∙ ap length s) (back q ys (hold.bytes_are ∙ ap (λ (x : List Pending). with_pending n x (area_lent b)) s)) ∙ awaiting_set f q c
