-- Reads: the slots that await an answer, and the running totals of a generation's reads.
use Rattle.std.specs.Prelude.{ℕ, suc, ◌+◌, ◌-◌, Bool, true, false, ◌&&◌, ◌||◌, cond, List, [], ◌∷◌, eqb, None, Option, Some}
use Rattle.model.specs.Slots.{Value, Slot, slot_eqb, slot_ltb, mem}
use Rattle.model.specs.Layers.{Layer, settle}
pub use Rattle.model.specs.declared.read_hub.ReadTotals.{ReadTotals}

-- A slot that awaits an answer (`Pending`): the number of its waiters, and whether a take has listed it (`dispatched`).
pub record Pending : Type 0 where
  pub slot : Slot
  pub waiters : ℕ
  pub taken : Bool

-- One slot of an answer: its value, or none where its read was refused.
pub record Member : Type 0 where
  pub slot : Slot
  pub outcome : Option Value

-- The number of a slot's waiters: 0 if it awaits nothing.
unfoldable pub waiters_of : Slot → List Pending → ℕ
waiters_of s [] = 0
waiters_of s (w ∷ q) = cond (slot_eqb w.slot s) w.waiters (waiters_of s q)

-- Whether a slot awaits an answer.
unfoldable pub is_awaiting : Slot → List Pending → Bool
is_awaiting s [] = false
is_awaiting s (w ∷ q) = slot_eqb w.slot s || is_awaiting s q

-- Whether a slot awaits an answer and has been taken.
unfoldable pub is_taken : Slot → List Pending → Bool
is_taken s [] = false
is_taken s (w ∷ q) = cond (slot_eqb w.slot s) w.taken (is_taken s q)

-- An unserved read: the slot joins the queue with one waiter or, if it awaits already, gains one (coalesced); slots rise.
unfoldable pub join : Slot → List Pending → List Pending
join s [] = record { slot = s; waiters = 1; taken = false } ∷ []
join s (w ∷ q) =
    cond (slot_eqb w.slot s) (record { slot = s; waiters = suc w.waiters; taken = w.taken } ∷ q)
    (cond (slot_ltb s w.slot) (record { slot = s; waiters = 1; taken = false } ∷ w ∷ q) (w ∷ join s q))

-- The queue (document 01's term): the awaiting slots that are not taken, rising.
unfoldable pub queued : List Pending → List Slot
queued [] = []
queued (w ∷ q) = cond w.taken (queued q) (w.slot ∷ queued q)

-- The awaiting slots after a take (`take_queued`): all are taken.
unfoldable pub take_queued : List Pending → List Pending
take_queued [] = []
take_queued (w ∷ q) = record { slot = w.slot; waiters = w.waiters; taken = true } ∷ take_queued q

-- The awaiting slots without one slot, and without those that an answer names.
unfoldable pub remove_pending : Slot → List Pending → List Pending
remove_pending s [] = []
remove_pending s (w ∷ q) = cond (slot_eqb w.slot s) q (w ∷ remove_pending s q)

unfoldable pub remove_all_pending : List Slot → List Pending → List Pending
remove_all_pending [] q = q
remove_all_pending (s ∷ ss) q = remove_all_pending ss (remove_pending s q)

-- The number of waiters that an answer to these slots wakes.
unfoldable pub woken : List Slot → List Pending → ℕ
woken [] q = 0
woken (s ∷ ss) q = waiters_of s q + woken ss q

-- Whether every slot of a list has been taken.
unfoldable pub all_taken : List Slot → List Pending → Bool
all_taken [] q = true
all_taken (s ∷ ss) q = is_taken s q && all_taken ss q

-- Whether a list names a slot twice.
unfoldable pub has_duplicate : List Slot → Bool
has_duplicate [] = false
has_duplicate (s ∷ ss) = mem s ss || has_duplicate ss

-- The slots that an answer names; those that it gives a value; those that it refuses.
unfoldable pub member_slots : List Member → List Slot
member_slots [] = []
member_slots (m ∷ ms) = m.slot ∷ member_slots ms

abbrev pub if_valued : Option Value → Slot → List Slot → List Slot
if_valued None s l = l
if_valued (Some v) s l = s ∷ l

abbrev pub if_refused : Option Value → Slot → List Slot → List Slot
if_refused None s l = s ∷ l
if_refused (Some v) s l = l

unfoldable pub valued_slots : List Member → List Slot
valued_slots [] = []
valued_slots (m ∷ ms) = if_valued m.outcome m.slot (valued_slots ms)

unfoldable pub refused_slots : List Member → List Slot
refused_slots [] = []
refused_slots (m ∷ ms) = if_refused m.outcome m.slot (refused_slots ms)

-- The top after the members of an answer: a value is put, a refusal changes nothing.
abbrev pub settle_outcome : ℕ → Slot → Option Value → Layer → Layer
settle_outcome now s None l = l
settle_outcome now s (Some v) l = settle now s v l

unfoldable pub settle_members : ℕ → List Member → Layer → Layer
settle_members now [] l = l
settle_members now (m ∷ ms) l = settle_members now ms (settle_outcome now m.slot m.outcome l)

-- The running totals -------------------------------------------------------------------------------

-- The totals in the order of their fields; those of a new generation.
abbrev pub read_totals : ℕ → ℕ → ℕ → ℕ → ℕ → ℕ → ℕ → ℕ → ℕ → ReadTotals
read_totals a s w v r n m e c = record { accepted = a; served = s; waiting = w; valued = v; refused = r; rounds = n; members = m; errors = e; coalesced = c }

abbrev pub no_reads : ReadTotals
no_reads = read_totals 0 0 0 0 0 0 0 0 0

-- The totals after a served read, and after a read that waits; `joined` says whether its slot was awaiting already.
abbrev pub count_served : ReadTotals → ReadTotals
count_served t = read_totals (suc t.accepted) (suc t.served) t.waiting t.valued t.refused t.rounds t.members t.errors t.coalesced

abbrev pub count_waiting : Bool → ReadTotals → ReadTotals
count_waiting joined t =
    read_totals (suc t.accepted) t.served (suc t.waiting) t.valued t.refused
    t.rounds t.members t.errors (cond joined (suc t.coalesced) t.coalesced)

-- The totals after an answer: of its slots (members), its refused members (errors), and the waiters that it wakes with a value and refused.
-- An empty answer counts no round.
abbrev pub count_answer : ℕ → ℕ → ℕ → ℕ → ReadTotals → ReadTotals
count_answer m e v r t =
    read_totals t.accepted t.served (t.waiting - (v + r)) (t.valued + v) (t.refused + r)
    (cond (eqb m 0) t.rounds (suc t.rounds)) (t.members + m) (t.errors + e) t.coalesced
