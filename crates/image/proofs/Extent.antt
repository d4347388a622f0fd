-- The words of a well-formed store: there are as many as its capacity asks for, and each has 64 bits.
use Rattle.std.specs.Prelude.{None, Option, Some}
use Prim.Native.Nat.{ℕ, suc, pred, ◌+◌, ◌*◌, ◌^◌, ◌≤◌, ◌<◌}
use mathlib.Core.Path.{◌≡◌, refl, ap, ◌∙◌}
use mathlib.Core.Bool.{Bool, true}
use mathlib.Core.List.{List, [], ◌++◌}
use native.Mathlib.Omega.{arith}
use lib.Dec.{lit<, lit≤}
use lib.ListN.{length, replicate, length-append}
use Rattle.layout.specs.Layout.{awaiting_table, ends_limit, generation_width, record_width, table_width}
use Rattle.model.specs.declared.delta_snapshot.Retention.{Retention}
use Rattle.model.specs.declared.delta_snapshot.Retention.TheVariants.{Unbounded, IdleBlocks}
use Rattle.model.specs.declared.read_hub.ReadTotals.{ReadTotals}
use Rattle.model.specs.Layers.{record_count}
use Rattle.model.specs.Reads.{Pending}
use Rattle.model.specs.Store.{Config, Generation, Store, chain}
use Rattle.model.proofs.SlotLaws.{and_left, and_right}
use Rattle.model.specs.Slots.{fits_64}
use Rattle.image.specs.WellFormed.{hash_fits, anchor_fits, retention_fits, all_waiters, installed_ok, well_formed}
use Rattle.model.specs.Refusals.{store_words}
use Rattle.image.specs.Image.{retention_words, hash_words, totals_words, all_record_words, all_pending_words, flat_records, layer_ends, padded, config_words, generation_words, table_words, installed_words, image_words}
use Rattle.model.proofs.WordLaws.{Fit, fit_nil, fit_cons, fit_append, fit_zeros, fits, fit_u256}
use Rattle.image.proofs.Words.{length_padded, fit_padded}
use Rattle.image.proofs.Entries.{fit_chain, fit_ends, fit_pendings, length_records, length_flat, length_ends, length_pending}
use Rattle.image.proofs.Facts.{ConfigFacts, TotalsFacts, GenerationFacts, generation_facts, StoreFacts, store_facts}
use Rattle.model.specs.declared.storage_memo.U256.{U256}

-- Lengths ---------------------------------------------------------------------------------------------

length_retention : (R : Retention) → length (retention_words R) ≡ 2
length_retention Unbounded = refl
length_retention (IdleBlocks n) = refl

length_hash : (h : Option U256) → length (hash_words h) ≡ 5
length_hash None = refl
length_hash (Some h) = refl

length_generation : (g : Generation) → length (generation_words g) ≡ 19
length_generation g = ap (λ (n : ℕ). suc (suc n)) (length-append (hash_words g.anchor.hash) _) ∙ omega (arith, length_hash g.anchor.hash)

-- The parts of the tables fit their places.
pub record Room (capacity : ℕ) (ends awaiting records : List ℕ) : Type 0 where
  pub ends_room : length ends ≤ ends_limit
  pub awaiting_room : length awaiting ≤ awaiting_table
  pub records_room : length records ≤ record_width * capacity

length_tables : (capacity : ℕ) (e a r : List ℕ) → Room capacity e a r → length (table_words capacity e a r) ≡ table_width + record_width * capacity
length_tables n e a r h =
    length-append (padded ends_limit e) (padded awaiting_table a ++ padded (record_width * n) r)
    ∙ omega (arith, length-append (padded awaiting_table a) (padded (record_width * n) r), length_padded ends_limit e h.ends_room, length_padded awaiting_table a h.awaiting_room, length_padded (record_width * n) r h.records_room)

-- Empty tables fit, and so do those of a generation.
empty_room : (capacity : ℕ) → Room capacity [] [] []
empty_room n = record { ends_room = lit≤ tt; awaiting_room = lit≤ tt; records_room = omega arith }

pub room : (cfg : Config) (g : Generation) → ConfigFacts cfg → GenerationFacts cfg g → Room cfg.capacity (layer_ends g.base) (all_pending_words g.pending) (all_record_words (flat_records (chain g)))
room cfg g c f =
    record {
      ends_room = omega (arith, length_ends g.base);
      awaiting_room = omega (arith, length_pending g.pending);
      records_room = omega (arith, length_records (flat_records (chain g)), length_flat (chain g));
    }

length_installed : (cfg : Config) (i : Option Generation) → ConfigFacts cfg → installed_ok cfg i ≡ true → length (installed_words cfg.capacity i) ≡ generation_width + table_width + record_width * cfg.capacity
length_installed cfg None c e =
    length-append (replicate {A = ℕ} generation_width 0) (table_words cfg.capacity [] [] [])
    ∙ omega (arith, length_tables cfg.capacity [] [] [] (empty_room cfg.capacity))
length_installed cfg (Some g) c e =
    length-append (generation_words g) _
    ∙ omega (arith, length_generation g, length_tables _ _ _ _ (room cfg g c (generation_facts cfg g e)))

pub length_image_words : (st : Store) → well_formed st ≡ true → length (image_words st) ≡ store_words st.config.capacity
unfolding image_words
length_image_words st e =
    let f : StoreFacts st = store_facts st e in
    length-append (config_words st.config) (installed_words st.config.capacity st.installed)
    ∙ omega (arith, length_retention st.config.retention, length_installed st.config st.installed f.config_right f.installed_right)

-- Words fit -------------------------------------------------------------------------------------------

fit_retention : (R : Retention) → retention_fits R ≡ true → Fit (retention_words R)
fit_retention Unbounded e = fit_cons (lit< tt) (fit_cons (lit< tt) fit_nil)
fit_retention (IdleBlocks n) e = fit_cons (lit< tt) (fit_cons (fits n e) fit_nil)

fit_hash : (h : Option U256) → hash_fits h ≡ true → Fit (hash_words h)
fit_hash None e = fit_zeros 5
fit_hash (Some h) e = fit_cons (lit< tt) (fit_u256 h e)

-- Read totals, each of which fits a word.
pub fit_totals : (t : ReadTotals) → t.accepted < 2 ^ 64 → t.served < 2 ^ 64 → t.waiting < 2 ^ 64 → t.valued < 2 ^ 64 → t.refused < 2 ^ 64 → t.rounds < 2 ^ 64 → t.members < 2 ^ 64 → t.errors < 2 ^ 64 → t.coalesced < 2 ^ 64 → Fit (totals_words t)
fit_totals t a b c d e f g h i = fit_cons a (fit_cons b (fit_cons c (fit_cons d (fit_cons e (fit_cons f (fit_cons g (fit_cons h (fit_cons i fit_nil))))))))

right_totals : (q : List Pending) (t : ReadTotals) → TotalsFacts q t → Fit (totals_words t)
right_totals q t f = fit_totals t (omega arith) (omega arith) (omega arith) (omega arith) (omega arith) (omega arith) (omega arith) (omega arith) (omega arith)

fit_generation : (cfg : Config) (g : Generation) → ConfigFacts cfg → GenerationFacts cfg g → Fit (generation_words g)
unfolding anchor_fits
fit_generation cfg g c f =
    let depth : pred (length g.base) < 2 ^ 64 = omega arith in
    let records : record_count (chain g) < 2 ^ 64 = omega arith in
    let awaiting : length g.pending < 2 ^ 64 = omega arith in
    let n : Bool = fits_64 g.anchor.number in
    let h : Bool = hash_fits g.anchor.hash in
    fit_cons (lit< tt) (fit_cons (fits g.anchor.number (and_left n h f.anchor_fit))
    (fit_append (fit_hash g.anchor.hash (and_right n h f.anchor_fit))
    (fit_cons depth (fit_cons records (fit_cons awaiting (right_totals g.pending g.totals f.totals_add_up))))))

fit_tables : (capacity : ℕ) {e a r : List ℕ} → Fit e → Fit a → Fit r → Fit (table_words capacity e a r)
fit_tables n p q s = fit_append (fit_padded ends_limit p) (fit_append (fit_padded awaiting_table q) (fit_padded (record_width * n) s))

fit_installed : (cfg : Config) (i : Option Generation) → ConfigFacts cfg → installed_ok cfg i ≡ true → Fit (installed_words cfg.capacity i)
unfolding record_count
fit_installed cfg None c e = fit_append (fit_zeros 19) (fit_tables cfg.capacity fit_nil fit_nil fit_nil)
fit_installed cfg (Some g) c e =
    let f : GenerationFacts cfg g = generation_facts cfg g e in
    let t : TotalsFacts g.pending g.totals = f.totals_add_up in
    let below : record_count g.base < 2 ^ 64 = omega arith in
    let waiters : all_waiters g.pending < 2 ^ 64 = omega arith in
    fit_append (fit_generation cfg g c f) (fit_tables cfg.capacity (fit_ends g.base below) (fit_pendings g.pending f.pending_right waiters) (fit_chain g.anchor.number (chain g) f.chain_right))

pub fit_image_words : (st : Store) → well_formed st ≡ true → Fit (image_words st)
unfolding image_words
fit_image_words st e =
    let f : StoreFacts st = store_facts st e in
    let n : st.config.capacity < 2 ^ 64 = omega arith in
    let d : st.config.max_depth < 2 ^ 64 = omega arith in
    fit_append (fit_cons (lit< tt) (fit_cons n (fit_cons d (fit_retention st.config.retention f.config_right.retention_fit))))
    (fit_installed st.config st.installed f.config_right f.installed_right)
