-- Every refusal of a call in document 01's one order, one call, and lists of calls. Refusals 3, 4 and 5 are of call lists, 10 of final writes.
use Rattle.std.specs.Prelude.{ℕ, ◌+◌, ◌*◌, Bool, true, false, not, ◌&&◌, ◌||◌, cond, List, [], ◌∷◌, eqb, leb, ltb, length, None, Option, Some, is_some}
use Rattle.layout.specs.Layout.{record_width, records_index}
use Rattle.model.specs.Slots.{Slot, ReadAnchor, anchor_eqb}
use Rattle.model.specs.Layers.{record_count}
use Rattle.model.specs.Reads.{is_awaiting, queued, all_taken, has_duplicate, member_slots}
use Rattle.model.specs.Store.{Config, Generation, look, get, put, read, AnchoredCall, on_slot, take, answer, answer_failed, Prepared, install, advance, at_anchor, Call, open_store, on_store, Report, resolved, chain, Memory, Accepted, accept}
pub use Rattle.model.specs.declared.refusal.Refusal.{Refusal}
use Rattle.model.specs.declared.refusal.Refusal.TheVariants.{CapacityOutOfRange, DepthOutOfRange, UnknownForm, SkipWithWrites, SkipOutOfRange, NamesTwice, LentTooShort, CountsDiffer, NotAStore, NothingInstalled, AnotherAnchor, OverCapacity, QueueFull, ReadsExhausted, NotTaken, OutputTooShort}

-- The sizes of what is lent to one call: the store's and the work area's bytes, and the entries that the output holds.
-- An open asks for enough store bytes (9). For any other call they have been read before, as a store or as none (20): to it this number means nothing.
pub record Lent : Type 0 where
  pub store_bytes : ℕ
  pub work_bytes : ℕ
  pub output_entries : ℕ

-- The words of eight bytes that a store of a capacity has (docs/LAYOUT.md), and its bytes.
-- An advance's work area needs as many: it holds the store that is to be.
abbrev pub store_words : ℕ → ℕ
store_words capacity = records_index + record_width * capacity

abbrev pub store_size : ℕ → ℕ
store_size capacity = 8 * store_words capacity

abbrev pub work_size : ℕ → ℕ
work_size capacity = store_size capacity

-- The installed generation, where the bytes are a store.
abbrev pub installed_in : Memory → Option Generation
installed_in None = None
installed_in (Some st) = st.installed

-- What is asked of an open's capacity and depth, of what was prepared for an advance, of a call that names an anchor; of any other call it does not hold.
abbrev pub if_open : Call → (ℕ → ℕ → Bool) → Bool
if_open (open_store c d R) f = f c d
if_open (on_store c) f = false

abbrev pub if_advance : Call → (Prepared → Bool) → Bool
if_advance (open_store c d R) f = false
if_advance (on_store (install a)) f = false
if_advance (on_store (advance child h p)) f = f p
if_advance (on_store (at_anchor a c)) f = false

abbrev pub if_anchored : Call → (ReadAnchor → AnchoredCall → Bool) → Bool
if_anchored (open_store c d R) f = false
if_anchored (on_store (install a)) f = false
if_anchored (on_store (advance child h p)) f = false
if_anchored (on_store (at_anchor a c)) f = f a c

-- What is asked of a read's slot, and of a take.
abbrev pub if_read : AnchoredCall → (Slot → Bool) → Bool
if_read (on_slot (look s)) f = false
if_read (on_slot (get s)) f = false
if_read (on_slot (put s v)) f = false
if_read (on_slot (read s)) f = f s
if_read take f = false
if_read (answer ms) f = false
if_read (answer_failed ss) f = false

abbrev pub is_take : AnchoredCall → Bool
is_take (on_slot c) = false
is_take take = true
is_take (answer ms) = false
is_take (answer_failed ss) = false

-- The slots that an answer names.
abbrev pub answered_slots : AnchoredCall → List Slot
answered_slots (on_slot c) = []
answered_slots take = []
answered_slots (answer ms) = member_slots ms
answered_slots (answer_failed ss) = ss

-- What is asked of the store, and of the installed generation; without one it does not hold.
abbrev pub if_store : Memory → (Config → Bool) → Bool
if_store None f = false
if_store (Some st) f = f st.config

abbrev pub if_installed : Option Generation → (Generation → Bool) → Bool
if_installed None f = false
if_installed (Some g) f = f g

-- 20: the lent bytes are not a store. (Not for open.)
unfoldable pub not_a_store : Memory → Call → Bool
not_a_store None c = not (if_open c (λ capacity depth. true))
not_a_store (Some st) c = false

-- 1: capacity is 0 or above 4,096 records. 2: depth limit is above 255.
unfoldable pub capacity_out_of_range : Call → Bool
capacity_out_of_range c = if_open c (λ capacity depth. eqb capacity 0 || ltb 4096 capacity)

unfoldable pub depth_out_of_range : Call → Bool
depth_out_of_range c = if_open c (λ capacity depth. ltb 255 depth)

-- 6: any skip but 0, and writes. 7: skip number above 3.
unfoldable pub skip_with_writes : Call → Bool
skip_with_writes c = if_advance c (λ p. not (eqb p.skip 0) && ltb 0 (length p.writes))

unfoldable pub skip_out_of_range : Call → Bool
skip_out_of_range c = if_advance c (λ p. ltb 3 p.skip)

-- 8: an answer names a slot twice.
unfoldable pub answer_names_twice : Call → Bool
answer_names_twice c = if_anchored c (λ a k. has_duplicate (answered_slots k))

-- 9: a lent area is too short: the store at open; the work area for the capacity, or an output of fewer entries than the writes, at an advance.
unfoldable pub lent_too_short : Memory → Lent → Call → Bool
lent_too_short m l c =
    if_open c (λ capacity depth. ltb l.store_bytes (store_size capacity))
    || if_advance c (λ p. if_store m (λ cfg. ltb l.work_bytes (work_size cfg.capacity)) || ltb l.output_entries (length p.writes))

-- 21: nothing is installed. 22: another anchor is installed than the call names.
unfoldable pub nothing_installed : Memory → Call → Bool
nothing_installed m c = if_anchored c (λ a k. not (is_some (installed_in m)))

unfoldable pub another_anchor : Memory → Call → Bool
another_anchor m c = if_anchored c (λ a k. if_installed (installed_in m) (λ g. not (anchor_eqb g.anchor a)))

-- 26: an answered slot has not been taken.
unfoldable pub answered_not_taken : Memory → Call → Bool
answered_not_taken m c = if_anchored c (λ a k. if_installed (installed_in m) (λ g. not (all_taken (answered_slots k) g.pending)))

-- 25: a read, where the generation has had 4,294,967,295 accepted reads.
unfoldable pub reads_exhausted : Memory → Call → Bool
reads_exhausted m c = if_anchored c (λ a k. if_read k (λ s. if_installed (installed_in m) (λ g. leb 4294967295 g.totals.accepted)))

-- 24: a new slot would be the 65th awaiting an answer.
unfoldable pub queue_full : Memory → Call → Bool
queue_full m c =
    if_store m (λ cfg. if_anchored c (λ a k. if_read k (λ s. if_installed (installed_in m) (λ g.
    not (is_some (resolved cfg.retention g s)) && not (is_awaiting s g.pending) && leb 64 (length g.pending)))))

-- 23: after the call there would be more records than the capacity.
unfoldable pub over_capacity : Memory → Call → Bool
over_capacity m c =
    if_store (accept m c).memory (λ cfg. if_installed (installed_in (accept m c).memory) (λ g. ltb cfg.capacity (record_count (chain g))))

-- 27: a take's output holds fewer entries than the queue.
unfoldable pub output_short_of_queue : Memory → Lent → Call → Bool
output_short_of_queue m l c = if_anchored c (λ a k. is_take k && if_installed (installed_in m) (λ g. ltb l.output_entries (length (queued g.pending))))

-- The code's refusals, and the number of each.
abbrev pub refusal_number : Refusal → ℕ
refusal_number CapacityOutOfRange = 1
refusal_number DepthOutOfRange = 2
refusal_number UnknownForm = 3
refusal_number SkipWithWrites = 6
refusal_number SkipOutOfRange = 7
refusal_number NamesTwice = 8
refusal_number LentTooShort = 9
refusal_number CountsDiffer = 10
refusal_number NotAStore = 20
refusal_number NothingInstalled = 21
refusal_number AnotherAnchor = 22
refusal_number OverCapacity = 23
refusal_number QueueFull = 24
refusal_number ReadsExhausted = 25
refusal_number NotTaken = 26
refusal_number OutputTooShort = 27

-- A refusal's number, and whether its condition holds.
pub record Condition : Type 0 where
  pub number : ℕ
  pub holds : Bool

abbrev pub condition : ℕ → Bool → Condition
condition n b = record { number = n; holds = b }

-- The refusals of a call, in document 01's order.
unfoldable pub conditions : Memory → Lent → Call → List Condition
conditions m l c =
    condition 20 (not_a_store m c)
    ∷ condition 1 (capacity_out_of_range c)
    ∷ condition 2 (depth_out_of_range c)
    ∷ condition 6 (skip_with_writes c)
    ∷ condition 7 (skip_out_of_range c)
    ∷ condition 8 (answer_names_twice c)
    ∷ condition 9 (lent_too_short m l c)
    ∷ condition 21 (nothing_installed m c)
    ∷ condition 22 (another_anchor m c)
    ∷ condition 26 (answered_not_taken m c)
    ∷ condition 25 (reads_exhausted m c)
    ∷ condition 24 (queue_full m c)
    ∷ condition 23 (over_capacity m c)
    ∷ condition 27 (output_short_of_queue m l c)
    ∷ []

-- The number of the first condition that holds, or none.
unfoldable pub first_that_holds : List Condition → Option ℕ
first_that_holds [] = None
first_that_holds (k ∷ ks) = cond k.holds (Some k.number) (first_that_holds ks)

unfoldable pub refusal : Memory → Lent → Call → Option ℕ
refusal m l c = first_that_holds (conditions m l c)

-- What a call answers: a refusal's number, or an accepted call's report.
pub data Answer : Type 0 where
  refuse : ℕ → Answer
  ok : Report → Answer

-- Whether a call was turned down.
abbrev pub refused : Answer → Bool
refused (refuse n) = true
refused (ok r) = false

-- What a call leaves: the lent bytes after it, and its answer.
pub record StepResult : Type 0 where
  pub memory : Memory
  pub answer : Answer

-- A refused call changes nothing.
abbrev pub conclude : Option ℕ → Memory → Accepted → StepResult
conclude None m a = record { memory = a.memory; answer = ok a.report }
conclude (Some n) m a = record { memory = m; answer = refuse n }

-- One call with what is lent to it.
pub record LentCall : Type 0 where
  pub call : Call
  pub lent : Lent

unfoldable pub step : Memory → LentCall → StepResult
step m c = conclude (refusal m c.lent c.call) m (accept m c.call)

-- The answers of a list of calls, and the lent bytes after it. Each call finds the bytes as the last one left them.
unfoldable pub trace : Memory → List LentCall → List Answer
trace m [] = []
trace m (c ∷ cs) = let o : StepResult = step m c in o.answer ∷ trace o.memory cs

unfoldable pub final : Memory → List LentCall → Memory
final m [] = m
final m (c ∷ cs) = final (step m c).memory cs
