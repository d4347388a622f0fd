-- The totals of a store's generation, in the bytes of its image.
use Rattle.std.specs.Prelude.{None, Option, Some}
use Prim.Native.Nat.{ℕ, pred, ◌*◌}
use mathlib.Core.Path.{◌≡◌, refl, sym, ap, ◌∙◌}
use mathlib.Core.List.{List, [], ◌∷◌, ◌++◌, append_assoc}
use native.Mathlib.Omega.{arith}
use lib.ListN.{length, drop}
use lib.Seq.{drop_at}
use Rattle.layout.specs.Layout.{magic, totals_index, totals_offset}
use Rattle.model.specs.declared.delta_snapshot.Retention.{Retention}
use Rattle.model.specs.declared.delta_snapshot.Retention.TheVariants.{Unbounded, IdleBlocks}
use Rattle.model.specs.declared.read_hub.ReadTotals.{ReadTotals}
use Rattle.model.specs.Layers.{record_count}
use Rattle.model.specs.Store.{Config, Generation, Store, chain}
use Rattle.model.specs.Refusals.{store_words}
use Rattle.image.specs.Image.{bytes_of, retention_words, hash_words, totals_words, layer_ends, flat_records, all_pending_words, all_record_words, table_words, read_totals, image_words, image}
use Rattle.image.proofs.Words.{length_bytes_of}
use Rattle.image.proofs.ReadBack.{Begins}
use Rattle.totals.specs.Totals.{totals_of, with_totals}
use Rattle.totals.proofs.Places.{totals_of_words, placed_over}
use Rattle.image.proofs.Written.{bytes_append}
use Rattle.model.specs.declared.storage_memo.U256.{U256}

-- The words before the totals, and those after them.
abbrev before : ℕ → ℕ → Retention → ℕ → Option U256 → ℕ → ℕ → ℕ → List ℕ
before c d R n k x y z = (magic ∷ c ∷ d ∷ retention_words R) ++ (1 ∷ n ∷ (hash_words k ++ (x ∷ y ∷ z ∷ [])))

length_words_before : (c d : ℕ) (R : Retention) (n : ℕ) (k : Option U256) (x y z : ℕ) → length (before c d R n k x y z) ≡ totals_index
length_words_before c d Unbounded n None x y z = refl
length_words_before c d Unbounded n (Some h) x y z = refl
length_words_before c d (IdleBlocks i) n None x y z = refl
length_words_before c d (IdleBlocks i) n (Some h) x y z = refl

apart : (c d : ℕ) (R : Retention) (n : ℕ) (k : Option U256) (x y z : ℕ) (ts rest : List ℕ)
    → (magic ∷ c ∷ d ∷ retention_words R) ++ ((1 ∷ n ∷ (hash_words k ++ (x ∷ y ∷ z ∷ ts))) ++ rest) ≡ before c d R n k x y z ++ (ts ++ rest)
apart c d Unbounded n None x y z ts rest = refl
apart c d Unbounded n (Some h) x y z ts rest = refl
apart c d (IdleBlocks i) n None x y z ts rest = refl
apart c d (IdleBlocks i) n (Some h) x y z ts rest = refl

-- A store with a generation that has the given totals.
abbrev pub store_with : Config → Generation → ReadTotals → Store
store_with cfg g t = record { config = cfg; installed = Some (record { anchor = g.anchor; base = g.base; top = g.top; pending = g.pending; totals = t }) }

module _ (cfg : Config) (g : Generation) where
  abbrev head : List ℕ
  head = before cfg.capacity cfg.max_depth cfg.retention g.anchor.number g.anchor.hash (pred (length g.base)) (record_count (chain g)) (length g.pending)

  abbrev tail : List ℕ
  tail = table_words cfg.capacity (layer_ends g.base) (all_pending_words g.pending) (all_record_words (flat_records (chain g)))

  head_length : length head ≡ totals_index
  head_length = length_words_before cfg.capacity cfg.max_depth cfg.retention g.anchor.number g.anchor.hash (pred (length g.base)) (record_count (chain g)) (length g.pending)

  words_apart : (t : ReadTotals) → image_words (store_with cfg g t) ≡ head ++ (totals_words t ++ tail)
  unfolding image_words
  words_apart t = apart cfg.capacity cfg.max_depth cfg.retention g.anchor.number g.anchor.hash (pred (length g.base)) (record_count (chain g)) (length g.pending) (totals_words t) tail

  image_apart : (t : ReadTotals) (rest : List ℕ) → image (store_with cfg g t) ++ rest ≡ bytes_of head ++ (bytes_of (totals_words t) ++ (bytes_of tail ++ rest))
  unfolding image
  image_apart t rest =
      ap (λ (l : List ℕ). bytes_of l ++ rest) (words_apart t)
      ∙ ap (λ (l : List ℕ). l ++ rest) (bytes_append head (totals_words t ++ tail) ∙ ap (λ (l : List ℕ). bytes_of head ++ l) (bytes_append (totals_words t) tail))
      ∙ simp append_assoc

  -- Bytes that begin with a store's words give its totals.
  pub totals_of_store : (t : ReadTotals) (b : List ℕ) → Begins b (store_with cfg g t) → totals_of b ≡ t
  totals_of_store t b k =
      let n : ℕ = store_words cfg.capacity in
      sym (totals_of_words n b (omega arith))
      ∙ ap (λ (l : List ℕ). read_totals (drop totals_index l)) (k.words ∙ words_apart t)
      ∙ ap read_totals (drop_at head (totals_words t ++ tail) totals_index head_length)

  -- Other totals put into a store's image make the image of the store with those totals.
  pub store_with_totals : (t t' : ReadTotals) (rest : List ℕ) → with_totals t' (image (store_with cfg g t) ++ rest) ≡ image (store_with cfg g t') ++ rest
  store_with_totals t t' rest =
      let p : List ℕ = bytes_of head in
      let z : List ℕ = bytes_of tail ++ rest in
      let e : length p ≡ totals_offset = length_bytes_of head ∙ ap (λ (n : ℕ). 8 * n) head_length in
      let f : length (bytes_of (totals_words t)) ≡ length (bytes_of (totals_words t')) = length_bytes_of (totals_words t) ∙ sym (length_bytes_of (totals_words t')) in
      ap (with_totals t') (image_apart t rest) ∙ placed_over totals_offset p (bytes_of (totals_words t)) z (bytes_of (totals_words t')) e f ∙ sym (image_apart t' rest)
