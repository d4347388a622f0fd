-- The store, its calls, and what an accepted call does.
use Rattle.std.specs.Prelude.{ℕ, suc, max, cond, List, [], ◌∷◌, length, None, Option, Some}
use Rattle.model.specs.Slots.{Address, Value, Hash, Slot, ReadAnchor, anchor_eqb, Retention}
use Rattle.model.specs.Contents.{touch}
use Rattle.model.specs.Layers.{Layer, find, insert, held_value, freshest_use, resolved_through_policy, settle, held_count, live_count}
use Rattle.model.specs.Advance.{Lineage, skip_of, CarryOutcome, AlreadyCurrent, Carried, Cold, classify_link, carries, void_base, no_compaction, Compaction, CompactionReport, compact_base, seal, Write, no_writes, SeededTop, seed_final_writes, DeltaReport}
use Rattle.model.specs.Reads.{Pending, Member, ReadTotals, waiters_of, is_awaiting, join, queued, take_queued, remove_all_pending, woken, member_slots, valued_slots, refused_slots, settle_members, no_reads, count_served, count_waiting, count_answer}

-- What an open sets: capacity in records, depth limit, retention.
pub record Config : Type 0 where
  pub capacity : ℕ
  pub max_depth : ℕ
  pub retention : Retention

-- The installed generation: its anchor, the base of sealed layers (the newest first), its own top, the slots that await an answer, and the totals of its reads.
pub record Generation : Type 0 where
  pub anchor : ReadAnchor
  pub base : List Layer
  pub top : Layer
  pub pending : List Pending
  pub totals : ReadTotals

-- A store: what its open set, and the generation if one is installed.
pub record Store : Type 0 where
  pub config : Config
  pub installed : Option Generation

-- The calls on one slot, call codes 4 to 7.
pub data SlotCall : Type 0 where
  look : Slot → SlotCall
  get : Slot → SlotCall
  put : Slot → Value → SlotCall
  read : Slot → SlotCall

-- The calls that name an anchor, call codes 4 to 9. `answer_failed` is the answer of a round that failed as a whole.
pub data AnchoredCall : Type 0 where
  on_slot : SlotCall → AnchoredCall
  take : AnchoredCall
  answer : List Member → AnchoredCall
  answer_failed : List Slot → AnchoredCall

-- What was prepared for an advance: skip, relevant addresses and writes.
pub record Prepared : Type 0 where
  pub skip : ℕ
  pub relevance : List Address
  pub writes : List Write

-- The calls of demand 3. `advance` has child, parent hash and what was prepared.
pub data StoreCall : Type 0 where
  install : ReadAnchor → StoreCall
  advance : ReadAnchor → Hash → Prepared → StoreCall
  at_anchor : ReadAnchor → AnchoredCall → StoreCall

-- Every call: an open with capacity, depth limit and retention, or a call of demand 3.
pub data Call : Type 0 where
  open_store : ℕ → ℕ → Retention → Call
  on_store : StoreCall → Call

-- What an accepted call answers.
pub data Report : Type 0 where
  opened : Report
  -- an install: whether the anchor was installed already
  anchor_same : Report
  anchor_fresh : Report
  advanced : DeltaReport → Report
  -- a look, get or read of a served slot; a look or get of another
  value : Value → Report
  no_value : Report
  stored : Report
  -- a read that waits: the slot's waiters
  waiting : ℕ → Report
  -- a take: the slots listed
  listed : List Slot → Report
  -- an answer: members, member errors, waiters woken
  answered : ℕ → ℕ → ℕ → Report

-- The top over the base.
abbrev pub chain : Generation → List Layer
chain g = g.top ∷ g.base

-- What a look of a slot answers (`resolved`, `snapshot_value`): document 01's served.
abbrev pub resolved : Retention → Generation → Slot → Option Value
resolved R g s = resolved_through_policy R g.anchor.number (freshest_use s (chain g)) (held_value s (chain g))

-- The value that a slot is served with, if one is installed.
abbrev pub served_value : Retention → Option Generation → Slot → Option Value
served_value R None s = None
served_value R (Some g) s = resolved R g s

-- A generation at an anchor with a base and a top; nothing awaits and the totals are 0.
abbrev pub new_generation : ReadAnchor → List Layer → Layer → Generation
new_generation a b t = record { anchor = a; base = b; top = t; pending = []; totals = no_reads }

-- A generation with another top, and one with other awaiting slots and totals too.
abbrev pub with_top : Generation → Layer → Generation
with_top g t = record { anchor = g.anchor; base = g.base; top = t; pending = g.pending; totals = g.totals }

abbrev pub with_reads : Generation → Layer → List Pending → ReadTotals → Generation
with_reads g t q r = record { anchor = g.anchor; base = g.base; top = t; pending = q; totals = r }

-- What an accepted call leaves installed, and its report.
pub record Performed : Type 0 where
  pub installed : Option Generation
  pub report : Report

abbrev pub performed : Generation → Report → Performed
performed g r = record { installed = Some g; report = r }

-- install (`for_anchor`) -------------------------------------------------------------------------------

-- Another anchor starts empty with no base.
abbrev pub fresh : ReadAnchor → Performed
fresh a = performed (new_generation a void_base []) anchor_fresh

-- advance (`apply_prepared`) ---------------------------------------------------------------------------

-- The generation over a base after the writes, and its report.
abbrev pub after_writes : Config → ReadAnchor → List Layer → CarryOutcome → CompactionReport → SeededTop → Performed
after_writes cfg child b outcome c z =
    let held : ℕ = held_count (z.top ∷ b) in
    let live : ℕ = live_count cfg.retention child.number (z.top ∷ b) in
    performed (new_generation child b z.top)
    (advanced (record { outcome = outcome; writes = z.applied_writes; held = held; live = live; compaction = c }))

-- A carry: the parent's base folded at the parent's number if due, its top sealed, then the writes.
unfoldable pub carry : Config → Generation → ReadAnchor → Prepared → Performed
carry cfg g child p =
    let f : Compaction = compact_base cfg.retention cfg.max_depth g.anchor.number g.base in
    let b : List Layer = seal g.top f.base in
    after_writes cfg child b (Carried (held_count b)) f.report (seed_final_writes cfg.retention child.number p.relevance b p.writes [])

-- A cold advance: the base is empty before the writes.
unfoldable pub cold_advance : Config → ReadAnchor → Lineage → Prepared → Performed
cold_advance cfg child l p =
    after_writes cfg child void_base (Cold l (skip_of p.skip)) no_compaction
    (seed_final_writes cfg.retention child.number p.relevance void_base p.writes [])

-- The report of an advance to the installed anchor.
abbrev pub already_current : Config → Generation → Report
already_current cfg g =
    let live : ℕ = live_count cfg.retention g.anchor.number (chain g) in
    advanced (record { outcome = AlreadyCurrent; writes = no_writes; held = held_count (chain g); live = live; compaction = no_compaction })

-- Carried if linked and not skipped, else cold with both.
abbrev pub carry_or_cold : Config → Generation → ReadAnchor → Lineage → Prepared → Performed
carry_or_cold cfg g child l p = cond (carries l (skip_of p.skip)) (carry cfg g child p) (cold_advance cfg child l p)

-- get, read, answer ------------------------------------------------------------------------------------

-- The top after a use of a slot at the installed number.
abbrev pub touched_top : Generation → Slot → Layer
touched_top g s = insert s (touch g.anchor.number (find s g.top)) g.top

-- The answer of a look or get.
abbrev pub value_report : Option Value → Report
value_report None = no_value
value_report (Some v) = value v

-- A get (`StorageView::get`), of what a look answers: a served slot's own use is set to now.
abbrev pub perform_get : Generation → Slot → Option Value → Performed
perform_get g s None = performed g no_value
perform_get g s (Some v) = performed (with_top g (touched_top g s)) (value v)

-- A read, of what a look answers: served as a get, else the slot awaits an answer.
abbrev pub perform_read : Generation → Slot → Option Value → Performed
perform_read g s None =
    performed (with_reads g g.top (join s g.pending) (count_waiting (is_awaiting s g.pending) g.totals)) (waiting (suc (waiters_of s g.pending)))
perform_read g s (Some v) = performed (with_reads g (touched_top g s) g.pending (count_served g.totals)) (value v)

-- An answer to some slots: of the new top, the slots that it gives a value and those that it refuses, and the member errors.
abbrev pub perform_answer : Generation → Layer → List Slot → List Slot → List Slot → ℕ → Performed
perform_answer g t ss vs rs e =
    let q : List Pending = g.pending in
    performed (with_reads g t (remove_all_pending ss q) (count_answer (length ss) e (woken vs q) (woken rs q) g.totals))
    (answered (length ss) e (woken ss q))

-- The calls --------------------------------------------------------------------------------------------

-- A call on a slot, and any call at the installed anchor.
abbrev pub perform_slot : Config → Generation → SlotCall → Performed
perform_slot cfg g (look s) = performed g (value_report (resolved cfg.retention g s))
perform_slot cfg g (get s) = perform_get g s (resolved cfg.retention g s)
perform_slot cfg g (put s v) = performed (with_top g (settle g.anchor.number s v g.top)) stored
perform_slot cfg g (read s) = perform_read g s (resolved cfg.retention g s)

abbrev pub perform_at : Config → Generation → AnchoredCall → Performed
perform_at cfg g (on_slot c) = perform_slot cfg g c
perform_at cfg g take = performed (with_reads g g.top (take_queued g.pending) g.totals) (listed (queued g.pending))
perform_at cfg g (answer ms) =
    perform_answer g (settle_members g.anchor.number ms g.top) (member_slots ms) (valued_slots ms) (refused_slots ms)
    (length (refused_slots ms))
perform_at cfg g (answer_failed ss) = perform_answer g g.top ss [] ss 0

-- With a generation installed, and with none: then nothing but an install or an advance is accepted, and the case of another call is a filler, refused by 21.
abbrev pub perform_some : Config → Generation → StoreCall → Performed
perform_some cfg g (install a) = cond (anchor_eqb g.anchor a) (performed g anchor_same) (fresh a)
perform_some cfg g (advance child parent_hash p) =
    cond (anchor_eqb g.anchor child) (performed g (already_current cfg g))
    (carry_or_cold cfg g child (classify_link (Some g.anchor) child parent_hash) p)
perform_some cfg g (at_anchor a c) = perform_at cfg g c

abbrev pub perform_none : Config → StoreCall → Performed
perform_none cfg (install a) = fresh a
perform_none cfg (advance child parent_hash p) = cold_advance cfg child (classify_link None child parent_hash) p
perform_none cfg (at_anchor a c) = record { installed = None; report = no_value }

-- What a call of demand 3 does if it is accepted.
unfoldable pub perform : Config → Option Generation → StoreCall → Performed
perform cfg None c = perform_none cfg c
perform cfg (Some g) c = perform_some cfg g c

-- The lent bytes as a call finds them: a store, or none.
abbrev pub Memory : Type 0
Memory = Option Store

-- What an accepted call leaves in the lent bytes, and its report.
pub record Accepted : Type 0 where
  pub memory : Memory
  pub report : Report

-- A store after a call of demand 3.
abbrev pub after_call : Config → Performed → Accepted
after_call cfg p = record { memory = Some (record { config = cfg; installed = p.installed }); report = p.report }

-- What a call does if it is accepted. An open starts anew, with a depth limit of at least 1. (On memory that is no store another call is refused by 20: that case is a filler.)
unfoldable pub accept : Memory → Call → Accepted
accept m (open_store capacity depth R) =
    record { memory = Some (record { config = record { capacity = capacity; max_depth = max 1 depth; retention = R }; installed = None }); report = opened }
accept None (on_store c) = record { memory = None; report = no_value }
accept (Some st) (on_store c) = after_call st.config (perform st.config st.installed c)
