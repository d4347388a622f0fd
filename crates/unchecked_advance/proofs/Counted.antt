-- Held and live of an installed generation are those of the records in the store's bytes. Assumes nothing.
use Prim.Native.Nat.{ℕ, ◌+◌, ◌-◌, ◌*◌, ◌≤◌}
use mathlib.Core.Path.{◌≡◌, sym, ap, ap₂, ◌∙◌}
use mathlib.Core.List.{List, [], ◌++◌, append_assoc}
use native.Mathlib.Omega.{arith}
use lib.ListN.{length, take, drop, replicate, length-drop}
use lib.Seq.{drop_at, take_all}
use Rattle.layout.specs.Layout.{record_size, records_offset}
use Rattle.model.specs.declared.delta_snapshot.Retention.{Retention}
use Rattle.model.specs.Numbers.{Bytes}
use Rattle.model.specs.Layers.{Record, Layer, record_count}
use Rattle.model.specs.Store.{Generation, chain}
use Rattle.model.specs.Refusals.{store_size}
use Rattle.image.specs.Image.{bytes_of, all_record_words, flat_records}
use Rattle.image.specs.Area.{records_of, with_records}
use Rattle.image.specs.Lent.{store_of, generation_of, Installed}
use Rattle.image.proofs.Entries.{length_flat, fit_chain}
use Rattle.image.proofs.Areas.{GenerationBytes}
use Rattle.image.proofs.Lent.{generation_in}
use Rattle.records.proofs.Again.{records_back}
use Rattle.counts.specs.declared.Counts.{Counts}
use Rattle.counts.specs.Counts.{held_in, live_in}
use Rattle.counts.proofs.LayerCounts as layer_counts
use Rattle.seal.proofs.Kept.{records_rest}
use Rattle.seal.proofs.Folded.{bytes_in, length_in, two_layers}
use Rattle.unchecked_advance.specs.Inner.{CountedAs}

-- The part from the records on, as it is lent.
abbrev area : List ℕ → List ℕ
area b = take (length b - records_offset) (drop records_offset b)

area_is : (b : List ℕ) → area b ≡ drop records_offset b
area_is b = take_all (length b - records_offset) (drop records_offset b) (omega (arith, length-drop records_offset b))

module _ (b : List ℕ) (base top : ℕ) (h : Installed b) (eb : base ≡ record_count (generation_of b).base) (et : top ≡ length (generation_of b).top) where
  pub counts_ask : ((base + top) * record_size ≤ length (area b)) × (base + top ≤ 4096)
  unfolding record_count
  counts_ask =
      let w : GenerationBytes b (store_of b) (generation_of b) = generation_in b h in
      let few : length (generation_of b).top + record_count (generation_of b).base ≤ (store_of b).config.capacity = w.facts.few_records in
      (omega (arith, ap length (area_is b), length-drop records_offset b, w.store.long), omega (arith, w.store.capacity_limit))

  -- The records that it begins with are those of the chain.
  chain_reads : Bytes b → records_of (base + top) (area b) ≡ flat_records (chain (generation_of b))
  unfolding with_records record_count all_record_words bytes_of
  chain_reads f =
      let g : Generation = generation_of b in
      let cap : ℕ = (store_of b).config.capacity in
      let rs : List Record = flat_records (chain g) in
      let z : List ℕ = replicate (record_size * (cap - (0 + length rs))) 0 in
      let q : List ℕ = z ++ drop (store_size cap) b in
      let split : area b ≡ bytes_in rs ++ q =
      area_is b ∙ records_rest b f h ∙ ap (λ (l : List ℕ). l ++ drop (store_size cap) b) (two_layers cap [] rs) ∙ append_assoc (bytes_in rs) z (drop (store_size cap) b) in
      let whole : area b ≡ with_records rs (area b) = split ∙ ap (λ (l : List ℕ). bytes_in rs ++ l) (sym (ap (drop (record_size * length rs)) split ∙ drop_at (bytes_in rs) q (record_size * length rs) (length_in rs))) in
      let n : base + top ≡ length rs = omega (arith, length_flat (chain g)) in
      ap₂ records_of n whole ∙ records_back rs (area b) (fit_chain g.anchor.number (chain g) (generation_in b h).facts.chain_right)

  pub counted : (R : Retention) (number : ℕ) (c : Counts) → Bytes b → R ≡ (store_of b).config.retention → number ≡ (generation_of b).anchor.number
      → (c.held ≡ held_in (records_of (base + top) (area b))) × (c.live ≡ live_in R number (records_of (base + top) (area b))) → CountedAs c (store_of b).config.retention (generation_of b)
  counted R number c f eR en p =
      let g : Generation = generation_of b in
      let rises = layer_counts.chain_rises g.anchor.number (chain g) (generation_in b h).facts.chain_right in
      let rs : Layer = records_of (base + top) (area b) in
      record {
        held_is = p.0 ∙ layer_counts.held_is rs (chain g) (chain_reads f) rises;
        live_is =
            p.1 ∙ ap₂ (λ (x : Retention) (n : ℕ). live_in x n rs) eR en
            ∙ layer_counts.live_is rs (chain g) (chain_reads f) rises (store_of b).config.retention g.anchor.number;
      }
