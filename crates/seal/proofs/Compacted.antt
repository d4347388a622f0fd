-- The fold of a base in the bytes of a store, and the seal over it; whether a fold is due.
use Prim.Native.Nat.{ℕ, ◌+◌, ◌-◌, ◌*◌, ◌≤◌, ◌<◌}
use mathlib.Core.Path.{◌≡◌, sym, ap, ap₂, subst, ◌∙◌}
use mathlib.Core.Bool.{Bool, true, false, cond}
use mathlib.Core.List.{List, [], ◌∷◌, ◌++◌, append_assoc}
use native.Mathlib.Omega.{arith}
use lib.Dec.{eqb, ltb}
use lib.ListN.{length, take, drop, replicate, length-drop}
use lib.Seq.{drop_at, take_all}
use borrow.Author.Tests.{lt-ltb, le-ltb}
use borrow.Rule.Slice.PartMut.{put_mid}
use Rattle.layout.specs.Layout.{max_depth_offset, record_size, records_offset}
use Rattle.model.specs.declared.storage_memo.ReadAnchor.{ReadAnchor}
use Rattle.model.specs.declared.delta_snapshot.Retention.{Retention}
use Rattle.model.specs.declared.delta_snapshot.CompactionReport.{CompactionReport}
use Rattle.model.specs.Numbers.{Bytes}
use Rattle.model.specs.Layers.{Record, Layer, record_count}
use Rattle.model.specs.Advance.{Compaction, no_compaction, compact, compact_if, compact_base, seal}
use Rattle.model.specs.Store.{Generation}
use Rattle.model.specs.Refusals.{store_size}
use Rattle.image.specs.WellFormed.{chain_ok}
use Rattle.image.specs.Image.{bytes_of, flat_records, overlay}
use Rattle.image.specs.Area.{records_of, with_records}
use Rattle.image.specs.Lent.{store_of, generation_of, Installed}
use Rattle.image.proofs.Entries.{length_flat, fit_chain}
use Rattle.image.proofs.RecordsOk.{layer_ok}
use Rattle.image.proofs.Areas.{word, GenerationBytes}
use Rattle.image.proofs.Lent.{generation_in}
use Rattle.records.proofs.Again.{records_back}
use Rattle.rules.specs.Rules.{all_rising}
use Rattle.counts.proofs.LayerCounts.{chain_rises}
use Rattle.fold.specs.Fold.{folded, dropped_in}
use Rattle.fold.proofs.FoldedLaws.{compact_is}
use Rattle.fold.proofs.FitLaws.{folded_short}
use Rattle.seal.specs.Sealed.{begun_on, compacted, Sealed, header_words, with_layer, topped_up}
use Rattle.seal.proofs.Kept.{records_rest}
use Rattle.seal.proofs.Folded.{bytes_in, length_in, two_layers, folded_by}

-- The base's records ------------------------------------------------------------------------------------

pub base_right : (b : List ℕ) → Installed b → chain_ok (generation_of b).anchor.number (generation_of b).base ≡ true
base_right b h = let w : GenerationBytes b (store_of b) (generation_of b) = generation_in b h in (layer_ok (generation_of b).anchor.number (generation_of b).top (generation_of b).base w.facts.chain_right).below_ok

pub base_rises : (b : List ℕ) → Installed b → all_rising (generation_of b).base ≡ true
base_rises b h = chain_rises (generation_of b).anchor.number (generation_of b).base (base_right b h)

-- The part from the records on, as it is lent.
abbrev area : List ℕ → List ℕ
area b = take (length b - records_offset) (drop records_offset b)

area_is : (b : List ℕ) → area b ≡ drop records_offset b
area_is b = take_all (length b - records_offset) (drop records_offset b) (omega (arith, length-drop records_offset b))

pub length_part : (b : List ℕ) → length (area b) ≡ length b - records_offset
length_part b = ap length (area_is b) ∙ length-drop records_offset b

-- The records that it begins with are the base's, as they stand.
base_reads : (b : List ℕ) (n : ℕ) → Bytes b → Installed b → n ≡ record_count (generation_of b).base → records_of n (area b) ≡ flat_records (generation_of b).base
unfolding with_records flat_records
base_reads b n f h e =
    let g : Generation = generation_of b in
    let cap : ℕ = (store_of b).config.capacity in
    let rs : List Record = flat_records g.base in
    let z : List ℕ = replicate (record_size * (cap - (length rs + length g.top))) 0 in
    let q : List ℕ = (bytes_in g.top ++ z) ++ drop (store_size cap) b in
    let split : area b ≡ bytes_in rs ++ q =
    area_is b ∙ records_rest b f h ∙ ap (λ (l : List ℕ). l ++ drop (store_size cap) b) (two_layers cap rs g.top) ∙ append_assoc (bytes_in rs) (bytes_in g.top ++ z) (drop (store_size cap) b) in
    let whole : area b ≡ with_records rs (area b) = split ∙ ap (λ (l : List ℕ). bytes_in rs ++ l) (sym (ap (drop (record_size * length rs)) split ∙ drop_at (bytes_in rs) q (record_size * length rs) (length_in rs))) in
    ap₂ records_of (e ∙ sym (length_flat g.base)) whole ∙ records_back rs (area b) (fit_chain g.anchor.number g.base (base_right b h))

-- What a fold asks for.
pub fold_asks : (b : List ℕ) (n : ℕ) → Installed b → n ≡ record_count (generation_of b).base → (n * record_size ≤ length (area b)) × (n ≤ 4096)
unfolding record_count
fold_asks b n h e =
    let w : GenerationBytes b (store_of b) (generation_of b) = generation_in b h in
    let few : length (generation_of b).top + record_count (generation_of b).base ≤ (store_of b).config.capacity = w.facts.few_records in
    (omega (arith, length_part b, w.store.long), omega (arith, w.store.capacity_limit))

-- There is room in the work area for as many records as the base has, and fewer of them with the top are within the capacity.
pub fold_room : (b w : List ℕ) (n : ℕ) → Installed b → n ≡ record_count (generation_of b).base → store_size (store_of b).config.capacity ≤ length w → records_offset + n * record_size ≤ length w
unfolding record_count
fold_room b w n h e k =
    let few : length (generation_of b).top + record_count (generation_of b).base ≤ (store_of b).config.capacity = (generation_in b h).facts.few_records in
    omega arith

pub fold_total : (b : List ℕ) (left top : ℕ) → Installed b → left ≤ record_count (generation_of b).base → top ≡ length (generation_of b).top → left + top ≤ 4096
unfolding record_count
fold_total b left top h k e =
    let w : GenerationBytes b (store_of b) (generation_of b) = generation_in b h in
    let few : length (generation_of b).top + record_count (generation_of b).base ≤ (store_of b).config.capacity = w.facts.few_records in
    omega (arith, w.store.capacity_limit)

-- The seal over the fold --------------------------------------------------------------------------------

module _ (s : List ℕ) (R : Retention) (number base left dropped : ℕ) (f : Bytes s) (h : Installed s)
    (eR : R ≡ (store_of s).config.retention) (en : number ≡ (generation_of s).anchor.number) (eb : base ≡ record_count (generation_of s).base)
    (el : left ≡ length (folded R number (records_of base (area s)))) (ed : dropped ≡ dropped_in R number (records_of base (area s))) where
  abbrev g : Generation
  g = generation_of s

  abbrev rs : Layer
  rs = records_of base (area s)

  -- The fold in the model.
  fold_is : compact (store_of s).config.retention g.anchor.number g.base ≡ record { base = folded R number rs ∷ []; report = record { merged = length g.base; left = length (folded R number rs); dropped = dropped_in R number rs } }
  fold_is = ap₂ (λ (x : Retention) (n : ℕ). compact x n g.base) (sym eR) (sym en) ∙ compact_is R number rs g.base (base_reads s base f h eb) (base_rises s h)

  pub left_few : left ≤ record_count g.base
  left_few = omega (arith, folded_short R number rs, ap length (base_reads s base f h eb), length_flat g.base)

  pub report_is : (merged : ℕ) → merged ≡ length g.base → record { merged = merged; left = left; dropped = dropped } ≡ (compact (store_of s).config.retention g.anchor.number g.base).report
  report_is merged em = (λ i. record { merged = em i; left = el i; dropped = ed i }) ∙ sym (ap (λ (k : Compaction). k.report) fold_is)

  pub compacted_by : (w : List ℕ) (child : ReadAnchor) (top : ℕ) {x y ys u v : List ℕ} → top ≡ length g.top
      → x ≡ bytes_of (header_words (store_of s).config child 0 0 []) ++ drop records_offset w
      → ys ≡ with_records (folded R number rs) (area x)
      → y ≡ put_mid records_offset (length x - records_offset) x ys
      → u ≡ topped_up left (store_of s).config.capacity g.top y
      → v ≡ cond (eqb left 0) (with_layer 0 (left + top) u) (with_layer 1 (left + top) (with_layer 0 left u))
      → v ≡ overlay (begun_on (store_of s).config child (seal g.top (compact (store_of s).config.retention g.anchor.number g.base).base)) w
  unfolding record_count
  compacted_by w child top et p1 p2 p3 p4 p5 =
      let few : length g.top + record_count g.base ≤ (store_of s).config.capacity = (generation_in s h).facts.few_records in
      folded_by (store_of s).config child (folded R number rs) g.top w left (left + top) (omega (arith, left_few)) el (omega arith) p1 p2 p3 p4 p5
      ∙ ap (λ (k : Compaction). overlay (begun_on (store_of s).config child (seal g.top k.base)) w) (sym fold_is)

-- Whether a fold is due ---------------------------------------------------------------------------------

due_is : (s : List ℕ) (due : Bool) → ltb (store_of s).config.max_depth (length (generation_of s).base) ≡ due → compact_if due (store_of s).config.retention (generation_of s).anchor.number (generation_of s).base ≡ compacted (store_of s).config (generation_of s)
unfolding compact_base
due_is s due e = ap (λ (t : Bool). compact_if t (store_of s).config.retention (generation_of s).anchor.number (generation_of s).base) (sym e)

module _ (s : List ℕ) (limit n : ℕ) (h : Installed s) (p : limit ≡ word max_depth_offset s) (q : n ≡ length (generation_of s).base) where
  limit_is : limit ≡ (store_of s).config.max_depth
  limit_is = p ∙ (generation_in s h).store.depth_limit_word

  fold_due : limit < n → compact (store_of s).config.retention (generation_of s).anchor.number (generation_of s).base ≡ compacted (store_of s).config (generation_of s)
  fold_due l = due_is s true (lt-ltb (store_of s).config.max_depth (length (generation_of s).base) (omega (arith, limit_is)))

  fold_not_due : n ≤ limit → record { base = (generation_of s).base; report = no_compaction } ≡ compacted (store_of s).config (generation_of s)
  fold_not_due l = due_is s false (le-ltb (store_of s).config.max_depth (length (generation_of s).base) (omega (arith, limit_is)))

  -- What was sealed, of a fold that is due and of one that is not.
  pub sealed_due : {c : CompactionReport} {x y : List ℕ} (child : ReadAnchor) → limit < n
      → Sealed c x y (store_of s).config child (generation_of s).top (compact (store_of s).config.retention (generation_of s).anchor.number (generation_of s).base)
      → Sealed c x y (store_of s).config child (generation_of s).top (compacted (store_of s).config (generation_of s))
  sealed_due {c} {x} {y} child l z = subst (λ (k : Compaction). Sealed c x y (store_of s).config child (generation_of s).top k) (fold_due l) z

  pub sealed_not_due : {c : CompactionReport} {x y : List ℕ} (child : ReadAnchor) → n ≤ limit → x ≡ overlay (begun_on (store_of s).config child (seal (generation_of s).top (generation_of s).base)) y → c ≡ no_compaction
      → Sealed c x y (store_of s).config child (generation_of s).top (compacted (store_of s).config (generation_of s))
  sealed_not_due {c} {x} {y} child l e r = subst (λ (k : Compaction). Sealed c x y (store_of s).config child (generation_of s).top k) (fold_not_due l) (record { bytes_are = e; report_is = r })

  pub layers_few : n ≤ limit → length (generation_of s).base ≤ 255
  layers_few l = omega (arith, limit_is, (generation_in s h).store.depth_limit)
