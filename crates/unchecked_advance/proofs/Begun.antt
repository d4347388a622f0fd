-- The kinds of an advance: current, cold and carried. Assumes nothing.
use Rattle.std.specs.Prelude.{Ok}
use Prim.Native.Nat.{ℕ, suc}
use mathlib.Core.Path.{◌≡◌, refl, sym, ap, ap₂, subst, ◌∙◌}
use mathlib.Core.Bool.{true}
use mathlib.Core.List.{List, [], ◌∷◌}
use Rattle.model.specs.declared.read_hub.CarryOutcome.{CarryOutcome}
use Rattle.model.specs.declared.read_hub.Lineage.{Lineage}
use Rattle.model.specs.declared.bal_prefetch.BalSkip.{BalSkip}
use Rattle.model.specs.declared.storage_memo.ReadAnchor.{ReadAnchor}
use Rattle.model.specs.declared.storage_memo.Address.{Address}
use Rattle.model.specs.Layers.{Layer, find, held_value, slots, all_slots, held_count}
use Rattle.model.specs.declared.read_hub.CarryOutcome.TheVariants.{Carried, Cold, AlreadyCurrent}
use Rattle.model.specs.Advance.{no_writes, no_compaction, seal, void_base, Write, skip_of}
use Rattle.model.specs.Entries.{chunks, addresses_of, writes_of}
use Rattle.model.specs.Store.{Config, Generation, chain, Performed, after_writes, new_generation, cold_advance, carry, already_current, advanced}
use Rattle.model.specs.Refusals.{ok}
use Rattle.image.specs.WellFormed.{anchor_fits}
use Rattle.image.specs.Image.{overlay}
use Rattle.image.specs.Lent.{store_of, generation_of, IsStore, Installed}
use Rattle.counts.specs.declared.Counts.{Counts}
use Rattle.model.specs.declared.delta_snapshot.CompactionReport.{CompactionReport}
use Rattle.seal.specs.Sealed.{begun_on, compacted, Sealed}
use Rattle.seal.proofs.Decoded.{Begun, cold_begun, carried_begun}
use Rattle.seed.specs.Writes.{seeded_over}
use Rattle.replies.specs.Replies.{AdvanceReply}
use Rattle.replies.specs.Replies.{advance_reply, AdvancedAs}
use Rattle.replies.specs.Replies.{lent_prepared}
use Rattle.unchecked_advance.specs.Inner.{CountedAs, ended, writing, Ready}

-- The installed anchor's.
pub current_is : (b : List ℕ) (c : Counts) → CountedAs c (store_of b).config.retention (generation_of b)
    → (out : List ℕ) → advance_reply (Ok (record { outcome = AlreadyCurrent; writes = record { applied = 0; overwritten = 0; skipped = 0 }; held = c.held; live = c.live; compaction = record { merged = 0; left = 0; dropped = 0 } })) out
    ≡ ok (already_current (store_of b).config (generation_of b))
unfolding chunks
current_is b c k out = λ i. ok (advanced (record { outcome = AlreadyCurrent; writes = no_writes; held = k.held_is i; live = k.live_is i; compaction = no_compaction }))

-- A store begun is ready for the writes.
begun_ready : (w s : List ℕ) (child : ReadAnchor) (base : List Layer) → IsStore s → Begun w (store_of s).config child base → Ready w s
begun_ready w s child base e h =
    record {
      is_store = e;
      installed = h.holds;
      config_is = h.config_is;
      generation_is = h.generation_of_it ∙ sym (ap (λ (g : Generation). new_generation g.anchor g.base []) h.generation_of_it);
    }

-- The writes over it.
abbrev written : Config → Generation → CarryOutcome → CompactionReport → List Address → List Write → Performed
written x g o c relevance ws = after_writes x g.anchor g.base o c (seeded_over x g relevance ws)

held_under : (b : List Layer) → held_count ([] ∷ b) ≡ held_count b
unfolding held_count held_value all_slots slots find
held_under b = refl

module _ (s w : List ℕ) (child : ReadAnchor) (e : IsStore s) (fit : anchor_fits child ≡ true) (w' : List ℕ) (q : w' ≡ overlay (begun_on (store_of s).config child void_base) w) where
  cold_there : Begun w' (store_of s).config child void_base
  cold_there = subst (λ (x : List ℕ). Begun x (store_of s).config child void_base) (sym q) (cold_begun s w child e fit)

  pub cold_ready : Ready w' s
  cold_ready = begun_ready w' s child void_base e cold_there

  pub cold_is : (r : AdvanceReply) (after out' out addresses writes : List ℕ) (l : Lineage) (x : BalSkip) (k : ℕ) → x ≡ skip_of k →
      AdvancedAs r after out' (ended (store_of s).config (writing w' addresses writes (Cold l x) no_compaction) s) out
      → AdvancedAs r after out' (ended (store_of s).config (cold_advance (store_of s).config child l (lent_prepared k addresses writes)) s) out
  unfolding cold_advance
  cold_is r after out' out addresses writes l x k m h =
      let p : writing w' addresses writes (Cold l x) no_compaction ≡ cold_advance (store_of s).config child l (lent_prepared k addresses writes) =
      ap₂ (λ (y : Config) (g : Generation). written y g (Cold l x) no_compaction (addresses_of addresses) (writes_of writes)) cold_there.config_is cold_there.generation_of_it
      ∙ ap (λ (y : BalSkip). written (store_of s).config (new_generation child void_base []) (Cold l y) no_compaction (addresses_of addresses) (writes_of writes)) m in
      subst (λ (x : Performed). AdvancedAs r after out' (ended (store_of s).config x s) out) p h

module _ (s w : List ℕ) (child : ReadAnchor) (i : Installed s) (fit : anchor_fits child ≡ true) (next : child.number ≡ suc (generation_of s).anchor.number) (w' : List ℕ) (c : CompactionReport)
    (q : Sealed c w' w (store_of s).config child (generation_of s).top (compacted (store_of s).config (generation_of s))) where
  abbrev base : List Layer
  base = seal (generation_of s).top (compacted (store_of s).config (generation_of s)).base

  carried_there : Begun w' (store_of s).config child base
  carried_there = subst (λ (x : List ℕ). Begun x (store_of s).config child base) (sym q.bytes_are) (carried_begun s w child i fit next)

  pub carried_ready : Ready w' s
  carried_ready = begun_ready w' s child base i.is_store carried_there

  pub carried_is : (r : AdvanceReply) (after out' out addresses writes : List ℕ) (cc : Counts) (k : ℕ) → CountedAs cc (store_of w').config.retention (generation_of w') →
      AdvancedAs r after out' (ended (store_of s).config (writing w' addresses writes (Carried cc.held) c) s) out
      → AdvancedAs r after out' (ended (store_of s).config (carry (store_of s).config (generation_of s) child (lent_prepared k addresses writes)) s) out
  unfolding carry
  carried_is r after out' out addresses writes cc k y h =
      let held : cc.held ≡ held_count base = y.held_is ∙ ap (λ (g : Generation). held_count (chain g)) carried_there.generation_of_it ∙ held_under base in
      let p : writing w' addresses writes (Carried cc.held) c ≡ carry (store_of s).config (generation_of s) child (lent_prepared k addresses writes) =
      ap₂ (λ (x : Config) (g : Generation). written x g (Carried cc.held) c (addresses_of addresses) (writes_of writes)) carried_there.config_is carried_there.generation_of_it
      ∙ ap₂ (λ (n : ℕ) (y : CompactionReport). written (store_of s).config (new_generation child base []) (Carried n) y (addresses_of addresses) (writes_of writes)) held q.report_is in
      subst (λ (x : Performed). AdvancedAs r after out' (ended (store_of s).config x s) out) p h
