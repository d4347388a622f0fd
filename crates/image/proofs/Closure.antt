-- From any well-formed memory every call leaves a well-formed one.
use Rattle.std.specs.Prelude.{None, Option, Some, is_some}
use Prim.Native.Nat.{ℕ, suc, ◌+◌, ◌≤◌, ◌<◌, max}
use native.Mathlib.Omega.{arith}
use mathlib.Core.Path.{◌≡◌, refl}
use mathlib.Core.Bool.{Bool, true, false, not, ◌&&◌, ◌||◌}
use mathlib.Core.List.{List, []}
use lib.Dec.{eqb, leb, ltb}
use lib.ListN.{length}
use borrow.Author.Tests.{le-leb, ltb-true, ltb-false, lt-ltb, eqb-false}
use Rattle.model.specs.declared.delta_snapshot.Slot.{Slot}
use Rattle.model.specs.declared.storage_memo.ReadAnchor.{ReadAnchor}
use Rattle.model.specs.declared.delta_snapshot.Retention.{Retention}
use Rattle.model.specs.Slots.{Value, anchor_eqb, fits_64}
use Rattle.model.specs.Layers.{Layer, record_count}
use Rattle.model.specs.declared.read_hub.ReadTotals.{ReadTotals}
use Rattle.model.specs.declared.read_hub.Lineage.{Lineage}
use Rattle.model.specs.Advance.{skip_of, classify_link, carries, void_base, compact, compact_if, compact_base, is_void, seal, seed_final_writes}
use Rattle.model.specs.Reads.{Pending, is_awaiting, woken, refused_slots, valued_slots}
use Rattle.model.specs.Store.{Config, Generation, look, get, put, read, AnchoredCall, on_slot, take, answer, answer_failed, Prepared, StoreCall, install, advance, at_anchor, Call, open_store, on_store, chain, resolved, new_generation, with_reads, carry, cold_advance, touched_top, perform_get, perform_read, perform_answer, perform_at, perform_some, perform_none, perform, Memory, accept}
use Rattle.model.specs.Refusals.{Lent, answered_slots, if_installed, refusal, conclude, step, capacity_out_of_range, depth_out_of_range, answer_names_twice, answered_not_taken, reads_exhausted, queue_full, over_capacity}
use Rattle.image.specs.WellFormed.{anchor_fits, retention_fits, slot_fits, every, records_ok, chain_ok, config_ok, sizes_ok, generation_ok, installed_ok, well_formed}
use Rattle.image.specs.Claims.{writes_fit, anchored_fits, store_call_fits, call_fits, memory_ok, Closure}
use Rattle.model.proofs.SlotLaws.{split, not_both, and_left, and_right, and_intro, or_false_left, or_false_right}
use Rattle.model.proofs.Acceptance.{Unrefused, unrefused}
use Rattle.model.proofs.RuleLaws.{linked, carries_both}
use Rattle.image.proofs.Facts.{GenerationFacts, generation_facts}
use Rattle.image.proofs.RecordsOk.{layer_ok, chain_ok_layer, TopOk, top_ok_empty, top_ok_settle, top_ok_touch, top_ok_seed_final_writes, top_ok_settle_members, carried_base_ok}
use Rattle.image.proofs.PendingOk.{woken_members, length_refused}
use Rattle.image.proofs.ReadsOk.{ReadsOk, totals_ok_facts, reads_ok_none, reads_ok_served, reads_ok_waiting, reads_ok_take, reads_ok_answer}

-- The parts of a well-formed generation but for the number of its records.
pub record GenerationOk (cfg : Config) (g : Generation) : Type 0 where
  pub anchor_fit : anchor_fits g.anchor ≡ true
  pub records_right : TopOk cfg.retention g.anchor.number g.base g.top
  pub some_layer : 0 < length g.base
  pub few_layers : length g.base ≤ suc cfg.max_depth
  pub reads_right : ReadsOk g.pending g.totals

-- From the test to its parts, and back.
pub generation_parts : (cfg : Config) (g : Generation) → generation_ok cfg g ≡ true → GenerationOk cfg g
unfolding generation_ok records_ok
generation_parts cfg g e =
    let n : ℕ = g.anchor.number in
    let k : GenerationFacts cfg g = generation_facts cfg g e in
    let r : records_ok cfg.retention g ≡ true = and_left (records_ok cfg.retention g) _ (and_right (anchor_fits g.anchor) _ e) in
    record {
      anchor_fit = k.anchor_fit;
      records_right = record { chain_right = layer_ok n g.top g.base k.chain_right; uses_served = and_right (chain_ok n (chain g)) _ r };
      some_layer = k.some_layer;
      few_layers = k.few_layers;
      reads_right = record { pending_right = k.pending_right; few_pending = k.few_pending; totals_add_up = k.totals_add_up };
    }

pub generation_ok_parts : (cfg : Config) (g : Generation) → GenerationOk cfg g → ltb cfg.capacity (record_count (chain g)) ≡ false → generation_ok cfg g ≡ true
unfolding generation_ok records_ok sizes_ok
generation_ok_parts cfg g k e =
    and_intro _ _ k.anchor_fit
    (and_intro _ _ (and_intro _ _ (chain_ok_layer g.anchor.number g.top g.base k.records_right.chain_right) k.records_right.uses_served)
    (and_intro _ _ (and_intro _ _ (lt-ltb _ _ k.some_layer) (and_intro _ _ (le-leb _ _ k.few_layers) (le-leb _ _ (ltb-false cfg.capacity (record_count (chain g)) e))))
    (and_intro _ _ k.reads_right.pending_right
    (and_intro _ _ (le-leb _ _ k.reads_right.few_pending) (totals_ok_facts g.pending g.totals k.reads_right.totals_add_up)))))

pub number_fits : (a : ReadAnchor) → anchor_fits a ≡ true → fits_64 a.number ≡ true
unfolding anchor_fits
number_fits a e = and_left (fits_64 a.number) _ e

-- What a call of demand 3 leaves installed.
abbrev InstalledOk : Config → Option Generation → Type 0
InstalledOk cfg None = Unit {0}
InstalledOk cfg (Some g) = GenerationOk cfg g

not_false : (b : Bool) → not b ≡ false → b ≡ true
not_false true e = refl
not_false false e = not_both refl e

-- A round that failed as a whole gives no slot a value.
woken_none : (ss : List Slot) (q : List Pending) → woken [] q + woken ss q ≡ woken ss q
unfolding woken
woken_none ss q = omega arith

-- Install and advance ---------------------------------------------------------------------------------

void_base_ok : (n : ℕ) → chain_ok n void_base ≡ true
unfolding chain_ok every
void_base_ok n = refl

-- A new generation over a right base.
new_ok : (cfg : Config) (a : ReadAnchor) (b : List Layer) (l : Layer) → anchor_fits a ≡ true → 0 < length b → length b ≤ suc cfg.max_depth → TopOk cfg.retention a.number b l → GenerationOk cfg (new_generation a b l)
new_ok cfg a b l f p q t = record { anchor_fit = f; records_right = t; some_layer = p; few_layers = q; reads_right = reads_ok_none }

-- An install's.
pub fresh_ok : (cfg : Config) (a : ReadAnchor) → anchor_fits a ≡ true → GenerationOk cfg (new_generation a void_base [])
fresh_ok cfg a f = new_ok cfg a void_base [] f (omega arith) (omega arith) (top_ok_empty cfg.retention a.number void_base (void_base_ok a.number))

-- A fold leaves at most as many layers as the limit, and a seal adds at most one.
length_compact : (R : Retention) (n limit : ℕ) (b : List Layer) → 0 < limit → length (compact_if (ltb limit (length b)) R n b).base ≤ limit
unfolding compact
length_compact R n limit b h = split (ltb limit (length b)) (λ e. rw e h) (λ e. rw e (ltb-false _ _ e))

length_seal : (t : Layer) (b : List Layer) → (0 < length (seal t b)) × (length (seal t b) ≤ suc (length b))
unfolding seal
length_seal t b = split (is_void b) (λ e. rw e (omega arith, omega arith)) (λ e. rw e (omega arith, omega arith))

module _ (cfg : Config) (child : ReadAnchor) (p : Prepared) (child_fits : anchor_fits child ≡ true) (writes : writes_fit p.writes ≡ true) where
  -- An advance's, over the base that it starts from.
  seeded_ok : (b : List Layer) → 0 < length b → length b ≤ suc cfg.max_depth → chain_ok child.number b ≡ true → GenerationOk cfg (new_generation child b (seed_final_writes cfg.retention child.number p.relevance b p.writes []).top)
  seeded_ok b some_layer q k =
      new_ok cfg child b _ child_fits some_layer q
      (top_ok_seed_final_writes cfg.retention child.number p.relevance b p.writes [] (number_fits child child_fits) writes (top_ok_empty cfg.retention child.number b k))

  cold_ok : (l : Lineage) → InstalledOk cfg (cold_advance cfg child l p).installed
  unfolding cold_advance
  cold_ok l = seeded_ok void_base (omega arith) (omega arith) (void_base_ok child.number)

  pub carry_ok : (g : Generation) → GenerationOk cfg g → 0 < cfg.max_depth → child.number ≡ suc g.anchor.number → InstalledOk cfg (carry cfg g child p).installed
  unfolding carry compact_base
  carry_ok g k h e =
      let n : ℕ = g.anchor.number in
      let due : Bool = ltb cfg.max_depth (length g.base) in
      let f : List Layer = (compact_if due cfg.retention n g.base).base in
      let z = length_seal g.top f in
      seeded_ok (seal g.top f) z.0 (omega (arith, z.1, length_compact cfg.retention n cfg.max_depth g.base h))
      (rw e (carried_base_ok cfg.retention n due g.base g.top (number_fits g.anchor k.anchor_fit) k.records_right))

-- Calls that name an anchor ---------------------------------------------------------------------------

-- A memory with a store.
abbrev memory_of : Config → Option Generation → Memory
memory_of cfg o = Some (record { config = cfg; installed = o })

module _ (cfg : Config) (g : Generation) (k : GenerationOk cfg g) where
  number_fit : fits_64 g.anchor.number ≡ true
  number_fit = number_fits g.anchor k.anchor_fit

  touched_ok : (s : Slot) (x : Value) → slot_fits s ≡ true → resolved cfg.retention g s ≡ Some x → TopOk cfg.retention g.anchor.number g.base (touched_top g s)
  touched_ok s x f e = top_ok_touch g.top k.records_right number_fit s f x e

  -- Another top, and other awaiting slots and totals.
  changed_ok : (t : Layer) (q : List Pending) (r : ReadTotals) → TopOk cfg.retention g.anchor.number g.base t → ReadsOk q r → GenerationOk cfg (with_reads g t q r)
  changed_ok t q r a b = record { anchor_fit = k.anchor_fit; records_right = a; some_layer = k.some_layer; few_layers = k.few_layers; reads_right = b }

  get_ok : (s : Slot) → slot_fits s ≡ true → (o : Option Value) → resolved cfg.retention g s ≡ o → InstalledOk cfg (perform_get g s o).installed
  get_ok s f None e = k
  get_ok s f (Some x) e = changed_ok _ _ _ (touched_ok s x f e) k.reads_right

  module _ (l : Lent) (a : ReadAnchor) where
    read_ok : (s : Slot) → slot_fits s ≡ true → Unrefused (memory_of cfg (Some g)) l (on_store (at_anchor a (on_slot (read s)))) → (o : Option Value) → resolved cfg.retention g s ≡ o → InstalledOk cfg (perform_read g s o).installed
    unfolding reads_exhausted queue_full
    read_ok s f r None e =
        let room : (not (is_some (resolved cfg.retention g s)) && not (is_awaiting s g.pending) && leb 64 (length g.pending)) ≡ false = r.queue_has_room in
        changed_ok _ _ _ k.records_right (reads_ok_waiting g.pending g.totals k.reads_right s f r.reads_left (λ y. rw (e, y) at room))
    read_ok s f r (Some x) e = changed_ok _ _ _ (touched_ok s x f e) (reads_ok_served g.pending g.totals k.reads_right r.reads_left)

    -- An answer of either kind.
    answer_ok : (c : AnchoredCall) (t : Layer) (vs rs : List Slot) (e : ℕ) → Unrefused (memory_of cfg (Some g)) l (on_store (at_anchor a c)) → TopOk cfg.retention g.anchor.number g.base t
        → woken vs g.pending + woken rs g.pending ≡ woken (answered_slots c) g.pending → e ≤ length (answered_slots c) → InstalledOk cfg (perform_answer g t (answered_slots c) vs rs e).installed
    unfolding answer_names_twice answered_not_taken
    answer_ok c t vs rs e r h w n =
        changed_ok t _ _ h
        (reads_ok_answer g.pending g.totals k.reads_right (answered_slots c) vs rs e r.answer_names_once (not_false _ r.answered_taken) w n)

    at_ok : (c : AnchoredCall) → anchored_fits c ≡ true → Unrefused (memory_of cfg (Some g)) l (on_store (at_anchor a c)) → InstalledOk cfg (perform_at cfg g c).installed
    at_ok (on_slot (look s)) f r = k
    at_ok (on_slot (get s)) f r = get_ok s f (resolved cfg.retention g s) refl
    at_ok (on_slot (put s v)) f r = changed_ok _ _ _ (top_ok_settle g.top k.records_right number_fit s (and_left (slot_fits s) _ f) v (and_right (slot_fits s) _ f)) k.reads_right
    at_ok (on_slot (read s)) f r = read_ok s f r (resolved cfg.retention g s) refl
    at_ok take f r = changed_ok _ _ _ k.records_right (reads_ok_take g.pending g.totals k.reads_right)
    at_ok (answer ms) f r =
        answer_ok (answer ms) _ (valued_slots ms) (refused_slots ms) (length (refused_slots ms)) r
        (top_ok_settle_members cfg.retention g.anchor.number g.base ms g.top number_fit f k.records_right) (woken_members ms g.pending) (length_refused ms)
    at_ok (answer_failed ss) f r = answer_ok (answer_failed ss) g.top [] ss 0 r k.records_right (woken_none ss g.pending) (omega arith)

-- Every call ------------------------------------------------------------------------------------------

-- With a generation installed, and with none.
perform_some_ok : (cfg : Config) (g : Generation) (l : Lent) (c : StoreCall) → 0 < cfg.max_depth → GenerationOk cfg g → store_call_fits c ≡ true → Unrefused (memory_of cfg (Some g)) l (on_store c) → InstalledOk cfg (perform_some cfg g c).installed
perform_some_ok cfg g l (install a) d k f r = split (anchor_eqb g.anchor a) (λ e. rw e k) (λ e. rw e (fresh_ok cfg a f))
perform_some_ok cfg g l (advance child h p) d k f r =
    let q : Lineage = classify_link (Some g.anchor) child h in
    let cf : anchor_fits child ≡ true = and_left (anchor_fits child) _ f in
    let wf : writes_fit p.writes ≡ true = and_right (anchor_fits child) _ f in
    split (anchor_eqb g.anchor child) (λ e. rw e k) (λ e. rw e
    (split (carries q (skip_of p.skip))
    (λ y. rw y (carry_ok cfg child p cf wf g k d (linked g.anchor child h (carries_both q (skip_of p.skip) y).0).0))
    (λ y. rw y (cold_ok cfg child p cf wf q))))
perform_some_ok cfg g l (at_anchor a c) d k f r = at_ok cfg g k l a c f r

perform_none_ok : (cfg : Config) (c : StoreCall) → store_call_fits c ≡ true → InstalledOk cfg (perform_none cfg c).installed
perform_none_ok cfg (install a) f = fresh_ok cfg a f
perform_none_ok cfg (advance child h p) f = cold_ok cfg child p (and_left (anchor_fits child) _ f) (and_right (anchor_fits child) _ f) _
perform_none_ok cfg (at_anchor a c) f = tt

perform_ok : (cfg : Config) (o : Option Generation) (l : Lent) (c : StoreCall) → 0 < cfg.max_depth → installed_ok cfg o ≡ true → store_call_fits c ≡ true → Unrefused (memory_of cfg o) l (on_store c) → InstalledOk cfg (perform cfg o c).installed
unfolding perform
perform_ok cfg None l c d e f r = perform_none_ok cfg c f
perform_ok cfg (Some g) l c d e f r = perform_some_ok cfg g l c d (generation_parts cfg g e) f r

-- What is installed is well formed if its records are within the capacity.
installed_ok_parts : (cfg : Config) (o : Option Generation) → InstalledOk cfg o → if_installed o (λ g. ltb cfg.capacity (record_count (chain g))) ≡ false → installed_ok cfg o ≡ true
installed_ok_parts cfg None k e = refl
installed_ok_parts cfg (Some g) k e = generation_ok_parts cfg g k e

-- A store's depth limit is at least 1.
pub depth_some : (cfg : Config) → config_ok cfg ≡ true → 0 < cfg.max_depth
unfolding config_ok
depth_some cfg e =
    let x : Bool = ltb 0 cfg.capacity in
    let y : Bool = leb cfg.capacity 4096 in
    ltb-true _ _ (and_left (ltb 0 cfg.max_depth) _ (and_right y _ (and_right x _ e)))

on_store_ok : (cfg : Config) (o : Option Generation) (l : Lent) (c : StoreCall) → memory_ok (memory_of cfg o) ≡ true → store_call_fits c ≡ true → Unrefused (memory_of cfg o) l (on_store c) → memory_ok (accept (memory_of cfg o) (on_store c)).memory ≡ true
unfolding well_formed accept over_capacity
on_store_ok cfg o l c e f r =
    let k : config_ok cfg ≡ true = and_left (config_ok cfg) _ e in
    and_intro _ _ k
    (installed_ok_parts cfg (perform cfg o c).installed (perform_ok cfg o l c (depth_some cfg k) (and_right (config_ok cfg) _ e) f r) r.within_capacity)

open_ok : (m : Memory) (l : Lent) (capacity depth : ℕ) (R : Retention) → retention_fits R ≡ true → Unrefused m l (open_store capacity depth R) → memory_ok (accept m (open_store capacity depth R)).memory ≡ true
unfolding well_formed accept config_ok capacity_out_of_range depth_out_of_range
open_ok m l capacity depth R f r =
    let c : (eqb capacity 0 || ltb 4096 capacity) ≡ false = r.capacity_in_range in
    let d : ltb 255 depth ≡ false = r.depth_in_range in
    let c0 : (capacity ≡ 0 → ⊥) = eqb-false capacity 0 (or_false_left (eqb capacity 0) _ c) in
    let c1 : capacity ≤ 4096 = ltb-false 4096 capacity (or_false_right (eqb capacity 0) _ c) in
    let d1 : depth ≤ 255 = ltb-false 255 depth d in
    rw (lt-ltb 0 capacity (omega arith), le-leb capacity 4096 c1, lt-ltb 0 (max 1 depth) (omega arith), le-leb (max 1 depth) 255 (omega arith), f)

-- Bytes that are no store stay none.
accept_none : (c : StoreCall) → memory_ok (accept None (on_store c)).memory ≡ true
unfolding accept
accept_none c = refl

accept_ok : (m : Memory) (l : Lent) (c : Call) → memory_ok m ≡ true → call_fits c ≡ true → Unrefused m l c → memory_ok (accept m c).memory ≡ true
accept_ok m l (open_store capacity depth R) e f r = open_ok m l capacity depth R f r
accept_ok None l (on_store c) e f r = accept_none c
accept_ok (Some st) l (on_store c) e f r = on_store_ok st.config st.installed l c e f r

-- A refused call leaves the memory as it was.
pub closure : Closure
unfolding step
closure m c e f = go (refusal m c.lent c.call) refl
  where
    go : (o : Option ℕ) → refusal m c.lent c.call ≡ o → memory_ok (conclude o m (accept m c.call)).memory ≡ true
    go None r = accept_ok m c.lent c.call e f (unrefused m c.lent c.call r)
    go (Some n) r = e
