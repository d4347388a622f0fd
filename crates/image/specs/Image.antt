-- The image of a store in bytes (docs/LAYOUT.md), and which bytes are a store.
use Rattle.std.specs.Prelude.{ℕ, zero, suc, pred, ◌-◌, ◌*◌, Bool, true, false, not, ◌&&◌, cond, List, [], ◌∷◌, ◌++◌, map, eqb, leb, length, take, drop, get_or, replicate, None, Option, Some}
use Rattle.layout.specs.Layout.{awaiting_count_index, awaiting_index, awaiting_table, awaiting_width, capacity_index, capacity_offset, depth_index, ends_index, ends_limit, generation_width, hash_index, installed_index, magic, max_depth_index, number_index, record_width, records_count_index, records_index, retention_index, slot_width, taken_index, totals_index, waiters_index}
use Rattle.model.specs.declared.delta_snapshot.Slot.{Slot}
use Rattle.model.specs.declared.delta_snapshot.Retention.{Retention}
use Rattle.model.specs.declared.delta_snapshot.Retention.TheVariants.{Unbounded, IdleBlocks}
use Rattle.model.specs.Slots.{slot_words, u256_words, read_u256, words_eqb}
use Rattle.model.specs.declared.delta_snapshot.Content.{Content}
use Rattle.model.specs.Contents.{content_words, read_content}
use Rattle.model.specs.Layers.{LayerOf, Record, record_count}
use Rattle.model.specs.declared.read_hub.ReadTotals.{ReadTotals}
use Rattle.model.specs.Reads.{Pending}
use Rattle.model.specs.Store.{Config, Generation, Store, Call, chain, Memory}
use Rattle.model.specs.Numbers.{be, num}
use Rattle.model.specs.Refusals.{LentCall, StepResult, Answer, refused, step, store_words}
use Rattle.words.specs.Parts.{part}
use Rattle.image.specs.WellFormed.{well_formed}
use Rattle.model.specs.declared.storage_memo.U256.{U256}

-- Words in bytes --------------------------------------------------------------------------------------

-- The bytes of words, eight a word, and the first n words that bytes give.
unfoldable pub bytes_of : List ℕ → List ℕ
bytes_of [] = []
bytes_of (w ∷ ws) = be 8 w ++ bytes_of ws

unfoldable pub words_of : ℕ → List ℕ → List ℕ
words_of zero l = []
words_of (suc n) l = num (take 8 l) ∷ words_of n (drop 8 l)

-- A state's words -------------------------------------------------------------------------------------

abbrev pub flag : Bool → ℕ
flag true = 1
flag false = 0

abbrev pub retention_words : Retention → List ℕ
retention_words Unbounded = 0 ∷ 0 ∷ []
retention_words (IdleBlocks n) = 1 ∷ n ∷ []

abbrev pub hash_words : Option U256 → List ℕ
hash_words None = 0 ∷ 0 ∷ 0 ∷ 0 ∷ 0 ∷ []
hash_words (Some h) = 1 ∷ u256_words h

abbrev pub totals_words : ReadTotals → List ℕ
totals_words t = t.accepted ∷ t.served ∷ t.waiting ∷ t.valued ∷ t.refused ∷ t.rounds ∷ t.members ∷ t.errors ∷ t.coalesced ∷ []

-- A record's words, and an awaiting slot's: so many as `record_width` and `awaiting_width` say.
abbrev pub record_words : Record → List ℕ
record_words r = slot_words r.slot ++ content_words r.content

abbrev pub pending_words : Pending → List ℕ
pending_words w = slot_words w.slot ++ (w.waiters ∷ flag w.taken ∷ 0 ∷ [])

unfoldable pub all_record_words : List Record → List ℕ
all_record_words [] = []
all_record_words (r ∷ rs) = record_words r ++ all_record_words rs

unfoldable pub all_pending_words : List Pending → List ℕ
all_pending_words [] = []
all_pending_words (w ∷ q) = pending_words w ++ all_pending_words q

-- The records of layers (the newest first) in the store's order: the lowest layer first. That records rise by layer is enforced here: the words have to be those of the layers' records in this order.
unfoldable pub flat_records : {A : Type 0} → List (LayerOf A) → LayerOf A
flat_records [] = []
flat_records (l ∷ ls) = flat_records ls ++ l

-- For each layer, the lowest first, the number of records of it and all below.
unfoldable pub layer_ends : {A : Type 0} → List (LayerOf A) → List ℕ
layer_ends [] = []
layer_ends (l ∷ ls) = layer_ends ls ++ (record_count (l ∷ ls) ∷ [])

-- A list filled up with 0 to a length: unused words are 0.
abbrev pub padded : ℕ → List ℕ → List ℕ
padded n l = l ++ replicate (n - length l) 0

-- Words 0 to 4: what the open set.
abbrev pub config_words : Config → List ℕ
config_words cfg = magic ∷ cfg.capacity ∷ cfg.max_depth ∷ retention_words cfg.retention

-- Words 5 to 23: whether a generation is installed, its anchor, depth, numbers of records and awaiting slots, totals.
abbrev pub generation_words : Generation → List ℕ
generation_words g =
    1 ∷ g.anchor.number
    ∷ (hash_words g.anchor.hash ++ (pred (length g.base) ∷ record_count (chain g) ∷ length g.pending ∷ totals_words g.totals))

-- After the header: the layer ends, the awaiting slots, the records up to the capacity.
abbrev pub table_words : ℕ → List ℕ → List ℕ → List ℕ → List ℕ
table_words capacity ends awaiting records = padded ends_limit ends ++ (padded awaiting_table awaiting ++ padded (record_width * capacity) records)

-- With nothing installed all these words are 0: that a store then holds nothing is enforced here.
abbrev pub installed_words : ℕ → Option Generation → List ℕ
installed_words capacity None = replicate generation_width 0 ++ table_words capacity [] [] []
installed_words capacity (Some g) =
    generation_words g
    ++ table_words capacity (layer_ends g.base) (all_pending_words g.pending) (all_record_words (flat_records (chain g)))

unfoldable pub image_words : Store → List ℕ
image_words st = config_words st.config ++ installed_words st.config.capacity st.installed

-- The image of a store.
unfoldable pub image : Store → List ℕ
image st = bytes_of (image_words st)

-- Reading a state ---------------------------------------------------------------------------------------

abbrev pub read_slot : List ℕ → Slot
read_slot l = record { address = record { w0 = get_or l 0 0; w1 = get_or l 1 0; w2 = get_or l 2 0 }; index = read_u256 (drop 3 l) }

abbrev pub read_record : List ℕ → Record
read_record l = record { slot = read_slot l; content = read_content (drop slot_width l) }

abbrev pub read_pending : List ℕ → Pending
read_pending l = record { slot = read_slot l; waiters = get_or l waiters_index 0; taken = not (eqb (get_or l taken_index 0) 0) }

-- n entries of w words each.
unfoldable pub entries : ℕ → ℕ → List ℕ → List (List ℕ)
entries w zero l = []
entries w (suc n) l = take w l ∷ entries w n (drop w l)

-- The layers (the newest first) that ends cut records into, and what is left above them; the records before `from` are cut already, into `b`.
pub record CutOf (A : Type 0) : Type 0 where
  pub base : List (LayerOf A)
  pub top : LayerOf A

abbrev pub Cut : Type 0
Cut = CutOf Content

unfoldable pub cut : {A : Type 0} → ℕ → List ℕ → LayerOf A → List (LayerOf A) → CutOf A
cut from [] rs b = record { base = b; top = rs }
cut from (e ∷ es) rs b = cut e es (drop (e - from) rs) (take (e - from) rs ∷ b)

abbrev pub read_retention : List ℕ → Retention
read_retention l = cond (eqb (get_or l 0 0) 0) Unbounded (IdleBlocks (get_or l 1 0))

abbrev pub read_hash : List ℕ → Option U256
read_hash l = cond (eqb (get_or l 0 0) 0) None (Some (read_u256 (drop 1 l)))

abbrev pub read_totals : List ℕ → ReadTotals
read_totals l =
    record {
      accepted = get_or l 0 0;
      served = get_or l 1 0;
      waiting = get_or l 2 0;
      valued = get_or l 3 0;
      refused = get_or l 4 0;
      rounds = get_or l 5 0;
      members = get_or l 6 0;
      errors = get_or l 7 0;
      coalesced = get_or l 8 0;
    }

-- The generation that the words of a store give.
unfoldable pub read_generation : List ℕ → Generation
read_generation l =
    let c : Cut = cut 0 (part ends_index (suc (get_or l depth_index 0)) l) (map read_record (entries record_width (get_or l records_count_index 0) (drop records_index l))) [] in
    record {
      anchor = record { number = get_or l number_index 0; hash = read_hash (drop hash_index l) };
      base = c.base;
      top = c.top;
      pending = map read_pending (entries awaiting_width (get_or l awaiting_count_index 0) (drop awaiting_index l));
      totals = read_totals (drop totals_index l);
    }

unfoldable pub read_store : List ℕ → Store
read_store l =
    record {
      config = record { capacity = get_or l capacity_index 0; max_depth = get_or l max_depth_index 0; retention = read_retention (drop retention_index l) };
      installed = cond (eqb (get_or l installed_index 0) 0) None (Some (read_generation l));
    }

-- The lent bytes as a store: they begin with the image of the well-formed state that they read as, or they are not a store. Bytes past the image are no part of it.
unfoldable pub decode : List ℕ → Memory
decode b =
    let n : ℕ = store_words (num (take 8 (drop capacity_offset b))) in
    let ws : List ℕ = words_of n b in
    let st : Store = read_store ws in
    cond (leb (8 * n) (length b) && (well_formed st && words_eqb ws (image_words st))) (Some st) None

-- Calls on bytes ----------------------------------------------------------------------------------------

-- The lent bytes after an accepted call: the new image, and past it the bytes as they were.
abbrev pub overlay : Memory → List ℕ → List ℕ
overlay None b = b
overlay (Some st) b = image st ++ drop (length (image st)) b

abbrev pub bytes_after : StepResult → List ℕ → List ℕ
bytes_after o b = cond (refused o.answer) b (overlay o.memory b)

-- A call on lent bytes, with the sizes of its work area and output: its answer, and the bytes after it.
pub record BytesCall : Type 0 where
  pub call : Call
  pub work_bytes : ℕ
  pub output_entries : ℕ

pub record BytesResult : Type 0 where
  pub bytes : List ℕ
  pub answer : Answer

abbrev pub lent_call : ℕ → BytesCall → LentCall
lent_call n c = record { call = c.call; lent = record { store_bytes = n; work_bytes = c.work_bytes; output_entries = c.output_entries } }

unfoldable pub bytes_step : List ℕ → BytesCall → BytesResult
bytes_step b c = let o : StepResult = step (decode b) (lent_call (length b) c) in record { bytes = bytes_after o b; answer = o.answer }

-- The answers of a list of calls on lent bytes, and the bytes after it.
unfoldable pub bytes_trace : List ℕ → List BytesCall → List Answer
bytes_trace b [] = []
bytes_trace b (c ∷ cs) = let o : BytesResult = bytes_step b c in o.answer ∷ bytes_trace o.bytes cs

unfoldable pub bytes_final : List ℕ → List BytesCall → List ℕ
bytes_final b [] = b
bytes_final b (c ∷ cs) = bytes_final (bytes_step b c).bytes cs
