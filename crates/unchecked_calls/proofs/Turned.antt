-- What the table of refusals comes to for open, install, look, get and put.
use Rattle.std.specs.Prelude.{None, Option, Some}
use Prim.Native.Nat.{ℕ}
use mathlib.Core.Path.{◌≡◌, refl}
use mathlib.Core.Bool.{true, false, ◌||◌, cond}
use lib.Dec.{eqb, ltb}
use Rattle.model.specs.declared.delta_snapshot.Slot.{Slot}
use Rattle.model.specs.declared.delta_snapshot.Retention.{Retention}
use Rattle.model.specs.declared.storage_memo.ReadAnchor.{ReadAnchor}
use Rattle.model.specs.Slots.{Value, anchor_eqb}
use Rattle.model.specs.Layers.{record_count, settle}
use Rattle.model.specs.Reads.{all_taken, has_duplicate}
use Rattle.model.specs.Store.{Config, Generation, look, get, put, AnchoredCall, on_slot, StoreCall, install, at_anchor, Call, open_store, on_store, Memory, Accepted, accept, perform, chain, with_top, resolved, touched_top, value_report, fresh, anchor_same, anchor_fresh, value, no_value, stored}
use Rattle.model.specs.Refusals.{Lent, store_size, conditions, first_that_holds, refusal, not_a_store, capacity_out_of_range, depth_out_of_range, skip_with_writes, skip_out_of_range, answer_names_twice, lent_too_short, nothing_installed, another_anchor, answered_not_taken, reads_exhausted, queue_full, over_capacity, output_short_of_queue}
use Rattle.model.proofs.SlotLaws.{split}

-- The calls at an anchor that these laws are about.
pub data Plain : AnchoredCall → Type 0 where
  plain_look : (s : Slot) → Plain (on_slot (look s))
  plain_get : (s : Slot) → Plain (on_slot (get s))
  plain_put : (s : Slot) (v : Value) → Plain (on_slot (put s v))

-- A memory with a store.
abbrev pub memory_of : Config → Option Generation → Memory
memory_of cfg o = Some (record { config = cfg; installed = o })

-- 21, 22 and 23 of these calls, in this order.
pub nothing_there : (cfg : Config) (l : Lent) (a : ReadAnchor) {k : AnchoredCall} → Plain k → refusal (memory_of cfg None) l (on_store (at_anchor a k)) ≡ Some 21
unfolding refusal conditions first_that_holds not_a_store capacity_out_of_range depth_out_of_range skip_with_writes skip_out_of_range answer_names_twice lent_too_short nothing_installed has_duplicate
nothing_there cfg l a (plain_look s) = refl
nothing_there cfg l a (plain_get s) = refl
nothing_there cfg l a (plain_put s v) = refl

pub other_there : (cfg : Config) (g : Generation) (l : Lent) (a : ReadAnchor) {k : AnchoredCall} → Plain k → anchor_eqb g.anchor a ≡ false → refusal (memory_of cfg (Some g)) l (on_store (at_anchor a k)) ≡ Some 22
unfolding refusal conditions first_that_holds not_a_store capacity_out_of_range depth_out_of_range skip_with_writes skip_out_of_range answer_names_twice lent_too_short nothing_installed another_anchor has_duplicate
other_there cfg g l a (plain_look s) e = rw e
other_there cfg g l a (plain_get s) e = rw e
other_there cfg g l a (plain_put s v) e = rw e

pub this_there : (cfg : Config) (g : Generation) (l : Lent) (a : ReadAnchor) {k : AnchoredCall} → Plain k → anchor_eqb g.anchor a ≡ true →
    refusal (memory_of cfg (Some g)) l (on_store (at_anchor a k)) ≡ cond (over_capacity (memory_of cfg (Some g)) (on_store (at_anchor a k))) (Some 23) None
unfolding refusal conditions first_that_holds not_a_store capacity_out_of_range depth_out_of_range skip_with_writes skip_out_of_range answer_names_twice lent_too_short nothing_installed another_anchor answered_not_taken reads_exhausted queue_full output_short_of_queue has_duplicate all_taken
this_there cfg g l a (plain_look s) e = rw e
this_there cfg g l a (plain_get s) e = rw e
this_there cfg g l a (plain_put s v) e = rw e

-- What each of them accepted comes to.
pub look_accepted : (cfg : Config) (g : Generation) (a : ReadAnchor) (s : Slot) →
    accept (memory_of cfg (Some g)) (on_store (at_anchor a (on_slot (look s)))) ≡ record { memory = memory_of cfg (Some g); report = value_report (resolved cfg.retention g s) }
unfolding accept perform
look_accepted cfg g a s = refl

pub get_unserved : (cfg : Config) (g : Generation) (a : ReadAnchor) (s : Slot) → resolved cfg.retention g s ≡ None →
    accept (memory_of cfg (Some g)) (on_store (at_anchor a (on_slot (get s)))) ≡ record { memory = memory_of cfg (Some g); report = no_value }
unfolding accept perform
get_unserved cfg g a s e = rw e

pub get_served : (cfg : Config) (g : Generation) (a : ReadAnchor) (s : Slot) (v : Value) → resolved cfg.retention g s ≡ Some v →
    accept (memory_of cfg (Some g)) (on_store (at_anchor a (on_slot (get s)))) ≡ record { memory = memory_of cfg (Some (with_top g (touched_top g s))); report = value v }
unfolding accept perform
get_served cfg g a s v e = rw e

pub put_accepted : (cfg : Config) (g : Generation) (a : ReadAnchor) (s : Slot) (v : Value) →
    accept (memory_of cfg (Some g)) (on_store (at_anchor a (on_slot (put s v)))) ≡ record { memory = memory_of cfg (Some (with_top g (settle g.anchor.number s v g.top))); report = stored }
unfolding accept perform
put_accepted cfg g a s v = refl

-- 23 follows what the call would leave.
pub over_by : (m : Memory) (c : Call) (cfg : Config) (g : Generation) (x : Accepted) → accept m c ≡ x → x.memory ≡ memory_of cfg (Some g) → over_capacity m c ≡ ltb cfg.capacity (record_count (chain g))
unfolding over_capacity
over_by m c cfg g x e f = rw (e, f)

-- Install is never refused, and open by 1, 2 and 9.
pub install_free : (cfg : Config) (o : Option Generation) (l : Lent) (a : ReadAnchor) → refusal (memory_of cfg o) l (on_store (install a)) ≡ cond (over_capacity (memory_of cfg o) (on_store (install a))) (Some 23) None
unfolding refusal conditions first_that_holds not_a_store capacity_out_of_range depth_out_of_range skip_with_writes skip_out_of_range answer_names_twice lent_too_short nothing_installed another_anchor answered_not_taken reads_exhausted queue_full output_short_of_queue
install_free cfg o l a = refl

pub install_same : (cfg : Config) (g : Generation) (a : ReadAnchor) → anchor_eqb g.anchor a ≡ true →
    accept (memory_of cfg (Some g)) (on_store (install a)) ≡ record { memory = memory_of cfg (Some g); report = anchor_same }
unfolding accept perform
install_same cfg g a e = rw e

pub install_other : (cfg : Config) (g : Generation) (a : ReadAnchor) → anchor_eqb g.anchor a ≡ false →
    accept (memory_of cfg (Some g)) (on_store (install a)) ≡ record { memory = memory_of cfg (fresh a).installed; report = anchor_fresh }
unfolding accept perform
install_other cfg g a e = rw e

pub install_first : (cfg : Config) (a : ReadAnchor) → accept (memory_of cfg None) (on_store (install a)) ≡ record { memory = memory_of cfg (fresh a).installed; report = anchor_fresh }
unfolding accept perform
install_first cfg a = refl

-- Bytes that are no store, for every call but open.
pub no_store : (l : Lent) (c : StoreCall) → refusal None l (on_store c) ≡ Some 20
unfolding refusal conditions first_that_holds not_a_store
no_store l c = refl

pub open_table : (m : Memory) (l : Lent) (capacity depth : ℕ) (R : Retention) →
    refusal m l (open_store capacity depth R)
    ≡ cond (eqb capacity 0 || ltb 4096 capacity) (Some 1) (cond (ltb 255 depth) (Some 2) (cond (ltb l.store_bytes (store_size capacity)) (Some 9) None))
unfolding refusal conditions first_that_holds not_a_store capacity_out_of_range depth_out_of_range skip_with_writes skip_out_of_range answer_names_twice lent_too_short nothing_installed another_anchor answered_not_taken reads_exhausted queue_full over_capacity output_short_of_queue accept
open_table None l n d R = split (ltb l.store_bytes (store_size n)) (λ e. rw e) (λ e. rw e)
open_table (Some st) l n d R = split (ltb l.store_bytes (store_size n)) (λ e. rw e) (λ e. rw e)
