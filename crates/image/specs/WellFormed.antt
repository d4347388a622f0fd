-- When a store is well formed: document 01's rule, a definition for each of its parts.
use Rattle.std.specs.Prelude.{ℕ, suc, ◌+◌, ◌^◌, Bool, true, ◌&&◌, List, [], ◌∷◌, eqb, leb, ltb, length, None, Option, Some}
use Rattle.model.specs.declared.storage_memo.Address.{Address}
use Rattle.model.specs.declared.delta_snapshot.Slot.{Slot}
use Rattle.model.specs.declared.storage_memo.ReadAnchor.{ReadAnchor}
use Rattle.model.specs.declared.delta_snapshot.Retention.{Retention}
use Rattle.model.specs.declared.delta_snapshot.Retention.TheVariants.{Unbounded, IdleBlocks}
use Rattle.model.specs.Slots.{slot_ltb, fits_64, u256_fits}
use Rattle.model.specs.Contents.{content_fits, content_ok, top_content_ok}
use Rattle.model.specs.Layers.{LayerOf, Layer, held_value, freshest_use, record_count}
use Rattle.model.specs.declared.read_hub.ReadTotals.{ReadTotals}
use Rattle.model.specs.Reads.{Pending}
use Rattle.model.specs.Store.{Config, Generation, Store, chain}
use Rattle.model.specs.declared.storage_memo.U256.{U256}

-- Numbers fit the fields of the code's types ----------------------------------------------------------

abbrev pub address_fits : Address → Bool
address_fits a = ltb a.w0 (2 ^ 32) && (fits_64 a.w1 && fits_64 a.w2)

unfoldable pub slot_fits : Slot → Bool
slot_fits s = address_fits s.address && u256_fits s.index

abbrev pub hash_fits : Option U256 → Bool
hash_fits None = true
hash_fits (Some h) = u256_fits h

unfoldable pub anchor_fits : ReadAnchor → Bool
anchor_fits a = fits_64 a.number && hash_fits a.hash

abbrev pub retention_fits : Retention → Bool
retention_fits Unbounded = true
retention_fits (IdleBlocks n) = fits_64 n

-- Records ---------------------------------------------------------------------------------------------

-- Every record of a layer passes a test.
unfoldable pub every : {A : Type 0} → (Slot → A → Bool) → LayerOf A → Bool
every p [] = true
every p (r ∷ l) = p r.slot r.content && every p l

-- The slots of a layer rise strictly, and come after the given one.
unfoldable pub rising_from : {A : Type 0} → Slot → LayerOf A → Bool
rising_from s [] = true
rising_from s (r ∷ l) = slot_ltb s r.slot && rising_from r.slot l

abbrev pub rising : {A : Type 0} → LayerOf A → Bool
rising [] = true
rising (r ∷ l) = rising_from r.slot l

-- Every layer rises, and each of its records is right over the layers below and fits. That records rise by layer, too, is enforced by `flat_records` and the layer ends (Image).
unfoldable pub chain_ok : ℕ → List Layer → Bool
chain_ok now [] = true
chain_ok now (l ∷ ls) =
    rising l
    && (every (λ s c. content_ok now (held_value s ls) (freshest_use s ls) c) l
    && (every (λ s c. slot_fits s && content_fits c) l && chain_ok now ls))

-- The records of a generation: the chain's, and those of the top over the base.
unfoldable pub records_ok : Retention → Generation → Bool
records_ok R g =
    chain_ok g.anchor.number (chain g) && every (λ s c. top_content_ok R g.anchor.number (freshest_use s g.base) c) g.top

-- Reads -----------------------------------------------------------------------------------------------

-- The awaiting slots rise strictly, come after the given one, fit, and each has a waiter.
unfoldable pub pending_ok_from : Slot → List Pending → Bool
pending_ok_from s [] = true
pending_ok_from s (w ∷ q) = slot_ltb s w.slot && (slot_fits w.slot && (ltb 0 w.waiters && pending_ok_from w.slot q))

unfoldable pub pending_ok : List Pending → Bool
pending_ok [] = true
pending_ok (w ∷ q) = slot_fits w.slot && (ltb 0 w.waiters && pending_ok_from w.slot q)

-- The waiters of all awaiting slots.
unfoldable pub all_waiters : List Pending → ℕ
all_waiters [] = 0
all_waiters (w ∷ q) = w.waiters + all_waiters q

-- The read totals add up, and accepted reads are at most 4,294,967,295. Waiting is the sum of the awaiting slots' waiters.
unfoldable pub totals_ok : List Pending → ReadTotals → Bool
totals_ok q t =
    leb t.accepted 4294967295
    && (eqb t.accepted (t.served + t.waiting + t.valued + t.refused)
    && (eqb t.waiting (all_waiters q)
    && (eqb (t.coalesced + t.members + length q) (t.waiting + t.valued + t.refused)
    && (leb t.rounds t.members && leb t.errors t.members))))

-- The store -------------------------------------------------------------------------------------------

-- Capacity and depth limit are within their limits.
unfoldable pub config_ok : Config → Bool
config_ok cfg =
    ltb 0 cfg.capacity && (leb cfg.capacity 4096 && (ltb 0 cfg.max_depth && (leb cfg.max_depth 255 && retention_fits cfg.retention)))

-- Depth and records are within their limits. A base of depth d has d + 1 layers.
unfoldable pub sizes_ok : Config → Generation → Bool
sizes_ok cfg g = ltb 0 (length g.base) && (leb (length g.base) (suc cfg.max_depth) && leb (record_count (chain g)) cfg.capacity)

unfoldable pub generation_ok : Config → Generation → Bool
generation_ok cfg g =
    anchor_fits g.anchor
    && (records_ok cfg.retention g
    && (sizes_ok cfg g && (pending_ok g.pending && (leb (length g.pending) 64 && totals_ok g.pending g.totals))))

-- With nothing installed a store holds nothing: there is no generation to hold records, and `installed_words` (Image) has every word of it 0.
abbrev pub installed_ok : Config → Option Generation → Bool
installed_ok cfg None = true
installed_ok cfg (Some g) = generation_ok cfg g

unfoldable pub well_formed : Store → Bool
well_formed st = config_ok st.config && installed_ok st.config st.installed
