-- The image of a well-formed store reads back as that store, and bytes that are a store begin with its image.
use Rattle.std.specs.Prelude.{None, Option, Some}
use Prim.Native.Nat.{ℕ, suc, pred, ◌*◌, ◌^◌, ◌≤◌, ◌<◌}
use mathlib.Core.Path.{◌≡◌, refl, sym, ap, ap₂, subst, ◌∙◌}
use mathlib.Core.Bool.{Bool, true, false, ◌&&◌, cond}
use mathlib.Core.List.{List, [], ◌∷◌, ◌++◌, map, append_assoc}
use native.Mathlib.Omega.{arith}
use lib.Dec.{leb}
use lib.ListN.{length, take, drop, length-append}
use lib.Seq.{take_at, drop_at, drop-drop}
use borrow.Author.Tests.{leb-true, le-leb}
use Rattle.layout.specs.Layout.{awaiting_table, awaiting_width, ends_limit, record_width, table_width}
use Rattle.model.specs.declared.storage_memo.ReadAnchor.{ReadAnchor}
use Rattle.model.specs.declared.delta_snapshot.Retention.{Retention}
use Rattle.model.specs.declared.delta_snapshot.Retention.TheVariants.{Unbounded, IdleBlocks}
use Rattle.model.specs.declared.read_hub.ReadTotals.{ReadTotals}
use Rattle.model.specs.Slots.{words_eqb}
use Rattle.model.specs.Layers.{Record, Layer, record_count}
use Rattle.model.specs.Reads.{Pending}
use Rattle.model.specs.Store.{Config, Generation, Store, chain, Memory}
use Rattle.model.specs.Refusals.{store_size, store_words}
use Rattle.model.proofs.SlotLaws.{and_left, and_right, and_intro, words_eqb_true, words_eqb_refl}
use Rattle.image.specs.WellFormed.{installed_ok, well_formed}
use Rattle.model.specs.Numbers.{num, Bytes}
use Rattle.image.specs.Image.{bytes_of, words_of, all_record_words, all_pending_words, flat_records, layer_ends, padded, config_words, generation_words, table_words, installed_words, image_words, image, read_record, read_pending, entries, Cut, cut, read_generation, read_store, decode}
use Rattle.image.specs.Claims.{ImageReadsBack}
use Rattle.image.proofs.Words.{length_padded, length_bytes_of, length_words_of, second_word, words_of_bytes, bytes_of_words}
use Rattle.image.proofs.Entries.{read_records, length_flat, length_ends, cut_back, read_pendings}
use Rattle.image.proofs.Facts.{ConfigFacts, GenerationFacts, generation_facts, StoreFacts, store_facts}
use Rattle.image.proofs.Extent.{Room, room, length_image_words, fit_image_words}
use Rattle.model.specs.declared.storage_memo.U256.{U256}

-- The tables ------------------------------------------------------------------------------------------

-- Where the tables begin: their parts, each followed by the words after it.
module _ (capacity : ℕ) (e a r : List ℕ) (h : Room capacity e a r) where
  take_ends : (n : ℕ) → length e ≡ n → take n (table_words capacity e a r) ≡ e
  take_ends n k = ap (take n) (append_assoc e _ _) ∙ take_at e _ n k

  pub drop_ends : drop ends_limit (table_words capacity e a r) ≡ padded awaiting_table a ++ padded (record_width * capacity) r
  drop_ends = drop_at (padded ends_limit e) _ ends_limit (length_padded ends_limit e h.ends_room)

  pub drop_awaiting : drop table_width (table_words capacity e a r) ≡ padded (record_width * capacity) r
  drop_awaiting =
      sym (drop-drop awaiting_table ends_limit (table_words capacity e a r))
      ∙ ap (drop awaiting_table) drop_ends
      ∙ drop_at (padded awaiting_table a) _ awaiting_table (length_padded awaiting_table a h.awaiting_room)

-- Reading ---------------------------------------------------------------------------------------------

-- A generation of an anchor, layer ends, records, awaiting slots and totals.
abbrev assembled : ReadAnchor → List ℕ → List Record → List Pending → ReadTotals → Generation
assembled a es rs q t = record { anchor = a; base = (cut 0 es rs []).base; top = (cut 0 es rs []).top; pending = q; totals = t }

-- The header of a generation is read as it is, after any five words and before any tables.
read_header : (v w x y z n : ℕ) (h : Option U256) (b : List Layer) (top : Layer) (q : List Pending) (s : ReadTotals) (t : List ℕ) →
    let a : ReadAnchor = record { number = n; hash = h } in
    read_generation (v ∷ w ∷ x ∷ y ∷ z ∷ (generation_words (record { anchor = a; base = b; top = top; pending = q; totals = s }) ++ t))
    ≡ assembled a (take (suc (pred (length b))) t) (map read_record (entries record_width (record_count (top ∷ b)) (drop table_width t))) (map read_pending (entries awaiting_width (length q) (drop ends_limit t))) s
unfolding read_generation
read_header v w x y z n None b top q s t = refl
read_header v w x y z n (Some h) b top q s t = refl

read_installed : (cfg : Config) (g : Generation) (v w x y z : ℕ) → ConfigFacts cfg → GenerationFacts cfg g → read_generation (v ∷ w ∷ x ∷ y ∷ z ∷ installed_words cfg.capacity (Some g)) ≡ g
unfolding flat_records
read_installed cfg g v w x y z c f =
    let e : List ℕ = layer_ends g.base in
    let a : List ℕ = all_pending_words g.pending in
    let r : List ℕ = all_record_words (flat_records (chain g)) in
    let t : List ℕ = table_words cfg.capacity e a r in
    let h : Room cfg.capacity e a r = room cfg g c f in
    let depth : length e ≡ suc (pred (length g.base)) = omega (arith, length_ends g.base) in
    let ends : take (suc (pred (length g.base))) t ≡ e = take_ends cfg.capacity e a r h (suc (pred (length g.base))) depth in
    let records : map read_record (entries record_width (record_count (chain g)) (drop table_width t)) ≡ flat_records (chain g) =
    ap (λ (l : List ℕ). map read_record (entries record_width (record_count (chain g)) l)) (drop_awaiting cfg.capacity e a r h)
    ∙ ap (λ (n : ℕ). map read_record (entries record_width n (padded (record_width * cfg.capacity) r))) (sym (length_flat (chain g)))
    ∙ read_records (flat_records (chain g)) _ in
    let awaiting : map read_pending (entries awaiting_width (length g.pending) (drop ends_limit t)) ≡ g.pending =
    ap (λ (l : List ℕ). map read_pending (entries awaiting_width (length g.pending) l)) (drop_ends cfg.capacity e a r h ∙ append_assoc a _ _)
    ∙ read_pendings g.pending _ in
    read_header v w x y z g.anchor.number g.anchor.hash g.base g.top g.pending g.totals t
    ∙ ap₂ (λ (es : List ℕ) (rs : List Record). assembled g.anchor es rs (map read_pending (entries awaiting_width (length g.pending) (drop ends_limit t))) g.totals) ends records
    ∙ ap₂ (λ (k : Cut) (q : List Pending). record { anchor = g.anchor; base = k.base; top = k.top; pending = q; totals = g.totals }) (cut_back g.base g.top) awaiting

-- A store's words of its parts.
read_parts : (n d : ℕ) (R : Retention) (i : Option Generation) →
    let cfg : Config = record { capacity = n; max_depth = d; retention = R } in
    ConfigFacts cfg → installed_ok cfg i ≡ true → read_store (config_words cfg ++ installed_words n i) ≡ record { config = cfg; installed = i }
unfolding read_store
read_parts n d Unbounded None c e = refl
read_parts n d (IdleBlocks k) None c e = refl
read_parts n d Unbounded (Some g) c e =
    ap (λ (x : Generation). record { config = record { capacity = n; max_depth = d; retention = Unbounded }; installed = Some x }) (read_installed _ g _ _ _ _ _ c (generation_facts _ g e))
read_parts n d (IdleBlocks k) (Some g) c e =
    ap (λ (x : Generation). record { config = record { capacity = n; max_depth = d; retention = IdleBlocks k }; installed = Some x }) (read_installed _ g _ _ _ _ _ c (generation_facts _ g e))

read_image_words : (st : Store) → well_formed st ≡ true → read_store (image_words st) ≡ st
unfolding image_words
read_image_words st e =
    let f : StoreFacts st = store_facts st e in
    read_parts st.config.capacity st.config.max_depth st.config.retention st.installed f.config_right f.installed_right

-- Decoding --------------------------------------------------------------------------------------------

-- Bytes that begin with the words of a well-formed state.
pub record Begins (b : List ℕ) (st : Store) : Type 0 where
  pub right : well_formed st ≡ true
  pub long : 8 * store_words st.config.capacity ≤ length b
  pub words : words_of (store_words st.config.capacity) b ≡ image_words st

-- What decides whether bytes of n words ws that read as a state are a store.
abbrev is_store : ℕ → List ℕ → List ℕ → Store → Bool
is_store n b ws st = leb (8 * n) (length b) && (well_formed st && words_eqb ws (image_words st))

abbrev decided : ℕ → List ℕ → List ℕ → Store → Memory
decided n b ws st = cond (is_store n b ws st) (Some st) None

decode_begins : (b : List ℕ) (st : Store) → num (take 8 (drop 8 b)) ≡ st.config.capacity → Begins b st → decode b ≡ Some st
unfolding decode
decode_begins b st k h =
    let n : ℕ = store_words st.config.capacity in
    let ws : List ℕ = image_words st in
    ap (λ (c : ℕ). let l : List ℕ = words_of (store_words c) b in decided (store_words c) b l (read_store l)) k
    ∙ ap (λ (l : List ℕ). decided n b l (read_store l)) h.words
    ∙ ap (decided n b ws) (read_image_words st h.right)
    ∙ ap (λ (t : Bool). cond t (Some st) None) (and_intro _ _ (le-leb (8 * n) (length b) h.long) (and_intro _ _ h.right (words_eqb_refl ws)))

pub decided_some : (t : Bool) (x st : Store) → cond t (Some x) None ≡ Some st → (t ≡ true) × (x ≡ st)
decided_some true x st e = (refl, cc)
decided_some false x st e = let z : ◌≡◌ {A = ℕ} 0 1 = cc in absurd (omega arith)

pub decode_some : (b : List ℕ) (st : Store) → decode b ≡ Some st → Begins b st
unfolding decode
decode_some b st e =
    let n : ℕ = store_words (num (take 8 (drop 8 b))) in
    let ws : List ℕ = words_of n b in
    let d : (is_store n b ws (read_store ws) ≡ true) × (read_store ws ≡ st) = decided_some _ (read_store ws) st e in
    let p : is_store n b ws st ≡ true = subst (λ (x : Store). is_store n b ws x ≡ true) d.1 d.0 in
    let x : Bool = leb (8 * n) (length b) in
    let y : Bool = well_formed st in
    let z : Bool = words_eqb ws (image_words st) in
    let q : (y && z) ≡ true = and_right x (y && z) p in
    let right : y ≡ true = and_left y z q in
    let words : ws ≡ image_words st = words_eqb_true ws (image_words st) (and_right y z q) in
    let m : n ≡ store_words st.config.capacity = sym (length_words_of n b) ∙ ap length words ∙ length_image_words st right in
    let long : 8 * n ≤ length b = leb-true (8 * n) (length b) (and_left x (y && z) p) in
    record { right = right; long = omega arith; words = ap (λ (k : ℕ). words_of k b) (sym m) ∙ words }

-- The claim -------------------------------------------------------------------------------------------

pub length_image : (st : Store) → well_formed st ≡ true → length (image st) ≡ store_size st.config.capacity
unfolding image
length_image st e = length_bytes_of (image_words st) ∙ omega (arith, length_image_words st e)

capacity_word : (st : Store) (rest : List ℕ) → well_formed st ≡ true → num (take 8 (drop 8 (image st ++ rest))) ≡ st.config.capacity
unfolding image image_words
capacity_word st rest e =
    let f : StoreFacts st = store_facts st e in
    let h : st.config.capacity < 2 ^ 64 = omega arith in
    second_word _ st.config.capacity _ rest h

pub decode_image : (st : Store) (rest : List ℕ) → well_formed st ≡ true → decode (image st ++ rest) ≡ Some st
unfolding image
decode_image st rest e =
    let n : length (image_words st) ≡ store_words st.config.capacity = length_image_words st e in
    decode_begins (image st ++ rest) st (capacity_word st rest e) (record {
      right = e;
      long = omega (arith, length-append (image st) rest, length_image st e);
      words = ap (λ (k : ℕ). words_of k (image st ++ rest)) (sym n) ∙ words_of_bytes rest (fit_image_words st e);
    })

begins_image : (b : List ℕ) (st : Store) → Bytes b → Begins b st → take (length (image st)) b ≡ image st
unfolding image
begins_image b st f h =
    let n : ℕ = store_words st.config.capacity in
    let e : length (image st) ≡ 8 * n = length_image st h.right ∙ omega arith in
    ap (λ (k : ℕ). take k b) e ∙ sym (bytes_of_words n b f h.long) ∙ ap bytes_of h.words

pub image_reads_back : ImageReadsBack
image_reads_back = record {
  size = length_image;
  reads_back = decode_image;
  is_image = λ b st f e. let h : Begins b st = decode_some b st e in (h.right, begins_image b st f h);
}
