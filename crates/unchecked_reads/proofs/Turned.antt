-- What the table of refusals comes to for read, take and the answers.
use Rattle.std.specs.Prelude.{None, Option, Some, is_some}
use mathlib.Core.Path.{◌≡◌, refl}
use mathlib.Core.Bool.{true, false, not, ◌&&◌, cond}
use mathlib.Core.List.{List, []}
use lib.Dec.{leb, ltb}
use lib.ListN.{length}
use Rattle.model.specs.declared.delta_snapshot.Slot.{Slot}
use Rattle.model.specs.declared.storage_memo.ReadAnchor.{ReadAnchor}
use Rattle.model.specs.Slots.{Value, anchor_eqb}
use Rattle.model.specs.Reads.{Member, is_awaiting, queued, take_queued, all_taken, has_duplicate, member_slots, valued_slots, refused_slots, settle_members, count_served}
use Rattle.model.specs.Store.{Config, Generation, read, AnchoredCall, on_slot, take, answer, answer_failed, at_anchor, on_store, Performed, accept, perform, resolved, touched_top, with_reads, perform_read, perform_answer, value, listed}
use Rattle.model.specs.Refusals.{Lent, answered_slots, conditions, first_that_holds, refusal, not_a_store, capacity_out_of_range, depth_out_of_range, skip_with_writes, skip_out_of_range, answer_names_twice, lent_too_short, nothing_installed, another_anchor, answered_not_taken, reads_exhausted, queue_full, over_capacity, output_short_of_queue}
use Rattle.unchecked_calls.proofs.Turned.{memory_of}

-- 8, and then 21 and 22, of any call at an anchor.
pub twice : (cfg : Config) (o : Option Generation) (l : Lent) (a : ReadAnchor) (k : AnchoredCall) → has_duplicate (answered_slots k) ≡ true → refusal (memory_of cfg o) l (on_store (at_anchor a k)) ≡ Some 8
unfolding refusal conditions first_that_holds not_a_store capacity_out_of_range depth_out_of_range skip_with_writes skip_out_of_range answer_names_twice
twice cfg o l a k d = rw d

pub nothing_there : (cfg : Config) (l : Lent) (a : ReadAnchor) (k : AnchoredCall) → has_duplicate (answered_slots k) ≡ false → refusal (memory_of cfg None) l (on_store (at_anchor a k)) ≡ Some 21
unfolding refusal conditions first_that_holds not_a_store capacity_out_of_range depth_out_of_range skip_with_writes skip_out_of_range answer_names_twice lent_too_short nothing_installed
nothing_there cfg l a k d = rw d

pub other_there : (cfg : Config) (g : Generation) (l : Lent) (a : ReadAnchor) (k : AnchoredCall) → has_duplicate (answered_slots k) ≡ false → anchor_eqb g.anchor a ≡ false → refusal (memory_of cfg (Some g)) l (on_store (at_anchor a k)) ≡ Some 22
unfolding refusal conditions first_that_holds not_a_store capacity_out_of_range depth_out_of_range skip_with_writes skip_out_of_range answer_names_twice lent_too_short nothing_installed another_anchor
other_there cfg g l a k d e = rw (d, e)

-- A read: 25, 24, 23.
pub read_here : (cfg : Config) (g : Generation) (l : Lent) (a : ReadAnchor) (s : Slot) → anchor_eqb g.anchor a ≡ true →
    refusal (memory_of cfg (Some g)) l (on_store (at_anchor a (on_slot (read s))))
    ≡ cond (leb 4294967295 g.totals.accepted) (Some 25)
    (cond (not (is_some (resolved cfg.retention g s)) && not (is_awaiting s g.pending) && leb 64 (length g.pending)) (Some 24)
    (cond (over_capacity (memory_of cfg (Some g)) (on_store (at_anchor a (on_slot (read s))))) (Some 23) None))
unfolding refusal conditions first_that_holds not_a_store capacity_out_of_range depth_out_of_range skip_with_writes skip_out_of_range answer_names_twice lent_too_short nothing_installed another_anchor answered_not_taken reads_exhausted queue_full output_short_of_queue has_duplicate all_taken
read_here cfg g l a s e = rw e

pub read_served : (cfg : Config) (g : Generation) (a : ReadAnchor) (s : Slot) (v : Value) → resolved cfg.retention g s ≡ Some v →
    accept (memory_of cfg (Some g)) (on_store (at_anchor a (on_slot (read s)))) ≡ record { memory = memory_of cfg (Some (with_reads g (touched_top g s) g.pending (count_served g.totals))); report = value v }
unfolding accept perform
read_served cfg g a s v e = rw e

pub read_waits : (cfg : Config) (g : Generation) (a : ReadAnchor) (s : Slot) → resolved cfg.retention g s ≡ None →
    accept (memory_of cfg (Some g)) (on_store (at_anchor a (on_slot (read s)))) ≡ record { memory = memory_of cfg (perform_read g s None).installed; report = (perform_read g s None).report }
unfolding accept perform
read_waits cfg g a s e = rw e

-- A take: 23, which never holds, and 27.
pub take_here : (cfg : Config) (g : Generation) (l : Lent) (a : ReadAnchor) → anchor_eqb g.anchor a ≡ true →
    refusal (memory_of cfg (Some g)) l (on_store (at_anchor a take))
    ≡ cond (over_capacity (memory_of cfg (Some g)) (on_store (at_anchor a take))) (Some 23) (cond (ltb l.output_entries (length (queued g.pending))) (Some 27) None)
unfolding refusal conditions first_that_holds not_a_store capacity_out_of_range depth_out_of_range skip_with_writes skip_out_of_range answer_names_twice lent_too_short nothing_installed another_anchor answered_not_taken reads_exhausted queue_full output_short_of_queue has_duplicate all_taken
take_here cfg g l a e = rw e

pub take_accepted : (cfg : Config) (g : Generation) (a : ReadAnchor) →
    accept (memory_of cfg (Some g)) (on_store (at_anchor a take)) ≡ record { memory = memory_of cfg (Some (with_reads g g.top (take_queued g.pending) g.totals)); report = listed (queued g.pending) }
unfolding accept perform
take_accepted cfg g a = refl

-- An answer of either form: 26, 23.
pub answer_here : (cfg : Config) (g : Generation) (l : Lent) (a : ReadAnchor) (ms : List Member) → has_duplicate (member_slots ms) ≡ false → anchor_eqb g.anchor a ≡ true →
    refusal (memory_of cfg (Some g)) l (on_store (at_anchor a (answer ms)))
    ≡ cond (not (all_taken (member_slots ms) g.pending)) (Some 26) (cond (over_capacity (memory_of cfg (Some g)) (on_store (at_anchor a (answer ms)))) (Some 23) None)
unfolding refusal conditions first_that_holds not_a_store capacity_out_of_range depth_out_of_range skip_with_writes skip_out_of_range answer_names_twice lent_too_short nothing_installed another_anchor answered_not_taken reads_exhausted queue_full output_short_of_queue
answer_here cfg g l a ms d e = rw (d, e)

pub failed_here : (cfg : Config) (g : Generation) (l : Lent) (a : ReadAnchor) (ss : List Slot) → has_duplicate ss ≡ false → anchor_eqb g.anchor a ≡ true →
    refusal (memory_of cfg (Some g)) l (on_store (at_anchor a (answer_failed ss)))
    ≡ cond (not (all_taken ss g.pending)) (Some 26) (cond (over_capacity (memory_of cfg (Some g)) (on_store (at_anchor a (answer_failed ss)))) (Some 23) None)
unfolding refusal conditions first_that_holds not_a_store capacity_out_of_range depth_out_of_range skip_with_writes skip_out_of_range answer_names_twice lent_too_short nothing_installed another_anchor answered_not_taken reads_exhausted queue_full output_short_of_queue
failed_here cfg g l a ss d e = rw (d, e)

pub answer_accepted : (cfg : Config) (g : Generation) (a : ReadAnchor) (ms : List Member) →
    let p : Performed = perform_answer g (settle_members g.anchor.number ms g.top) (member_slots ms) (valued_slots ms) (refused_slots ms) (length (refused_slots ms)) in
    accept (memory_of cfg (Some g)) (on_store (at_anchor a (answer ms))) ≡ record { memory = memory_of cfg p.installed; report = p.report }
unfolding accept perform
answer_accepted cfg g a ms = refl

pub failed_accepted : (cfg : Config) (g : Generation) (a : ReadAnchor) (ss : List Slot) →
    let p : Performed = perform_answer g g.top ss [] ss 0 in
    accept (memory_of cfg (Some g)) (on_store (at_anchor a (answer_failed ss))) ≡ record { memory = memory_of cfg p.installed; report = p.report }
unfolding accept perform
failed_accepted cfg g a ss = refl
