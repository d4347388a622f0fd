-- What the parts of an advance on a known store speak of.
use Rattle.std.specs.Prelude.{ℕ, ◌≡◌, Bool, cond, List, [], ltb, length, Some}
use Rattle.model.specs.declared.delta_snapshot.Retention.{Retention}
use Rattle.model.specs.declared.read_hub.CarryOutcome.{CarryOutcome}
use Rattle.model.specs.Layers.{held_count, live_count, record_count}
use Rattle.model.specs.declared.delta_snapshot.CompactionReport.{CompactionReport}
use Rattle.model.specs.Entries.{addresses_of, writes_of}
use Rattle.model.specs.Store.{Config, Generation, chain, Performed, after_writes, new_generation}
use Rattle.model.specs.Refusals.{refuse, ok, if_installed}
use Rattle.image.specs.Image.{overlay, BytesResult}
use Rattle.image.specs.Lent.{store_of, generation_of, IsStore, Installed}
use Rattle.counts.specs.declared.Counts.{Counts}
use Rattle.seed.specs.Writes.{seeded_in}
use Rattle.unchecked_advance.specs.Outputs.{applied_in}

-- The counts are held and live of a generation at its number.
pub record CountedAs (c : Counts) (R : Retention) (g : Generation) : Type 0 where
  pub held_is : c.held ≡ held_count (chain g)
  pub live_is : c.live ≡ live_count R g.anchor.number (chain g)

-- How many writes of a list were applied to a store, and, where none was, its counts.
pub record CountsBefore (applied : ℕ) (c : Counts) (b writes : List ℕ) : Type 0 where
  pub applied_is : applied ≡ length (applied_in (generation_of b).top (writes_of writes))
  pub counts_are : applied ≡ 0 → CountedAs c (store_of b).config.retention (generation_of b)

-- Whether what a call leaves has more records than the capacity.
abbrev pub too_many : Config → Performed → Bool
too_many cfg p = if_installed p.installed (λ g. ltb cfg.capacity (record_count (chain g)))

-- What a call that no other condition refuses comes to on a store's bytes: 23, or what it performs.
abbrev pub ended : Config → Performed → List ℕ → BytesResult
ended cfg p s =
    cond (too_many cfg p) (record { bytes = s; answer = refuse 23 })
    (record { bytes = overlay (Some (record { config = cfg; installed = p.installed })) s; answer = ok p.report })

-- What the writes of an advance perform over the store that it began in the work area.
abbrev pub writing : List ℕ → List ℕ → List ℕ → CarryOutcome → CompactionReport → Performed
writing w addresses writes outcome c =
    after_writes (store_of w).config (generation_of w).anchor (generation_of w).base outcome c (seeded_in w (addresses_of addresses) (writes_of writes))

-- The work area holds a store that an advance began, with the configuration of the store s.
pub record Ready (w s : List ℕ) : Type 0 where
  pub is_store : IsStore s
  pub installed : Installed w
  pub config_is : (store_of w).config ≡ (store_of s).config
  pub generation_is : generation_of w ≡ new_generation (generation_of w).anchor (generation_of w).base []
