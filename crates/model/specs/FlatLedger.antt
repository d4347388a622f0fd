-- The flat ledger: one map from slots to values and last uses, with no layers and no folds.
-- It shares with the store the types, and equality and order of slots, addresses, hashes and anchors. Its rules are its own.
use Rattle.std.specs.Prelude.{ℕ, zero, suc, ◌+◌, ◌^◌, Bool, true, false, not, ◌&&◌, ◌||◌, cond, List, [], ◌∷◌, ◌++◌, map, eqb, leb, ltb, length, None, Option, Some}
use Rattle.model.specs.Slots.{Address, address_eqb, Value, LastUse, Hash, Slot, slot_eqb, slot_ltb, mem, hash_eqb, ReadAnchor, anchor_eqb, Retention, Unbounded, IdleBlocks}
use Rattle.model.specs.Advance.{Lineage, Linked, NoParent, NotConsecutive, ParentHashUnknown, ParentHashMismatch, BalSkip, Decoded, NoAnchorHash, Rpc, Decode, CarryOutcome, AlreadyCurrent, Carried, Cold, Write, AppliedWrites, no_compaction}
use Rattle.model.specs.Reads.{Member}
use Rattle.model.specs.Store.{SlotCall, look, get, put, read, AnchoredCall, on_slot, take, answer, answer_failed, Prepared, StoreCall, install, advance, at_anchor, Call, open_store, on_store, Report, opened, anchor_same, anchor_fresh, advanced, value, no_value, stored, waiting, listed, answered}
use Rattle.model.specs.Refusals.{Answer, refuse, ok}

-- Maps from slots -----------------------------------------------------------------------------------

-- An entry of a map, and a map: one entry a slot, in no order.
pub record Entry (A : Type 0) : Type 0 where
  pub slot : Slot
  pub content : A

abbrev pub SlotMap : Type 0 → Type 0
SlotMap A = List (Entry A)

-- What a map has of a slot, or none.
unfoldable pub lookup : {A : Type 0} → Slot → SlotMap A → Option A
lookup s [] = None
lookup s (e ∷ m) = cond (slot_eqb e.slot s) (Some e.content) (lookup s m)

-- A map without some slots, and with a slot set.
unfoldable pub without : {A : Type 0} → List Slot → SlotMap A → SlotMap A
without ss [] = []
without ss (e ∷ m) = cond (mem e.slot ss) (without ss m) (e ∷ without ss m)

abbrev pub set : {A : Type 0} → Slot → A → SlotMap A → SlotMap A
set s x m = record { slot = s; content = x } ∷ without (s ∷ []) m

-- The ledger ----------------------------------------------------------------------------------------

-- What the one map has of a slot: its last use and its value.
pub record Kept : Type 0 where
  pub last_use : LastUse
  pub value : Value

abbrev pub kept : LastUse → Value → Kept
kept u v = record { last_use = u; value = v }

abbrev pub LedgerMap : Type 0
LedgerMap = SlotMap Kept

-- An awaiting slot: its waiters, and whether a take has listed it.
pub record Awaiting : Type 0 where
  pub waiters : ℕ
  pub taken : Bool

abbrev pub AwaitingMap : Type 0
AwaitingMap = SlotMap Awaiting

-- What stands under the one anchor: the map, and the awaiting slots.
pub record LedgerGeneration : Type 0 where
  pub anchor : ReadAnchor
  pub map : LedgerMap
  pub awaiting : AwaitingMap

abbrev pub ledger_generation : ReadAnchor → LedgerMap → AwaitingMap → LedgerGeneration
ledger_generation a m q = record { anchor = a; map = m; awaiting = q }

-- The ledger of an open: its retention, and its anchor with the map if there is one.
pub record Ledger : Type 0 where
  pub retention : Retention
  pub installed : Option LedgerGeneration

-- Served --------------------------------------------------------------------------------------------

-- Whether a last use serves at `now`: unbounded always; idle n as long as now is at most n above it.
abbrev pub in_date : Retention → LastUse → ℕ → Bool
in_date Unbounded u now = true
in_date (IdleBlocks n) u now = leb now (u + n)

-- The value that a slot is served with, of what the map has of it.
abbrev pub value_in_date : Retention → ℕ → Option Kept → Option Value
value_in_date R now None = None
value_in_date R now (Some k) = cond (in_date R k.last_use now) (Some k.value) None

abbrev pub ledger_resolved : Retention → LedgerGeneration → Slot → Option Value
ledger_resolved R g s = value_in_date R g.anchor.number (lookup s g.map)

-- Live: the number of entries that are in date.
unfoldable pub entries_in_date : Retention → ℕ → LedgerMap → ℕ
entries_in_date R now [] = 0
entries_in_date R now (e ∷ m) = cond (in_date R e.content.last_use now) (suc (entries_in_date R now m)) (entries_in_date R now m)

-- The link ------------------------------------------------------------------------------------------

-- How a child stands to the anchor, the first that applies. A number has 64 bits, so that nothing comes after 2^64 − 1.
abbrev pub ledger_link : Option ReadAnchor → ReadAnchor → Hash → Lineage
ledger_link None child parent_hash = NoParent
ledger_link (Some p) child parent_hash =
    cond (not (eqb child.number (p.number + 1) && ltb child.number (2 ^ 64))) NotConsecutive
    (cond (hash_eqb p.hash None) ParentHashUnknown
    (cond (not (hash_eqb p.hash (Some parent_hash))) ParentHashMismatch
    Linked))

-- The skip of a number, and whether an advance keeps the map: linked and unskipped.
abbrev pub ledger_skip : ℕ → BalSkip
ledger_skip zero = Decoded
ledger_skip (suc zero) = NoAnchorHash
ledger_skip (suc (suc zero)) = Rpc
ledger_skip (suc (suc (suc k))) = Decode

abbrev pub keeps_map : Lineage → ℕ → Bool
keeps_map Linked k = eqb k 0
keeps_map NoParent k = false
keeps_map NotConsecutive k = false
keeps_map ParentHashUnknown k = false
keeps_map ParentHashMismatch k = false

-- The writes ----------------------------------------------------------------------------------------

-- How often a list has an address. A write is relevant if the call's list has its address.
unfoldable pub times_listed : Address → List Address → ℕ
times_listed a [] = 0
times_listed a (b ∷ bs) = cond (address_eqb b a) (times_listed a bs + 1) (times_listed a bs)

abbrev pub ledger_relevant : List Address → Slot → Bool
ledger_relevant relevance s = not (eqb (times_listed s.address relevance) 0)

-- The map while the writes of an advance are made; so far, the slots of the applied writes, and the numbers of overwritten and skipped ones.
pub record Writing : Type 0 where
  pub map : LedgerMap
  pub applied : List Slot
  pub overwritten : ℕ
  pub skipped : ℕ

abbrev pub before_writes : LedgerMap → Writing
before_writes m = record { map = m; applied = []; overwritten = 0; skipped = 0 }

-- After one more write: applied with a last use, and counted as overwritten or not (1 or 0); or skipped.
abbrev pub applied_by : Write → LastUse → ℕ → Writing → Writing
applied_by w u n z =
    record { map = set w.slot (kept u w.value) z.map; applied = z.applied ++ (w.slot ∷ []); overwritten = z.overwritten + n; skipped = z.skipped }

abbrev pub skipped_by : Writing → Writing
skipped_by z = record { map = z.map; applied = z.applied; overwritten = z.overwritten; skipped = z.skipped + 1 }

-- A write to a slot that is not served: the last use is the child's number if it is relevant, else it is skipped.
abbrev pub write_unserved : ℕ → List Address → Write → Writing → Writing
write_unserved now relevance w z = cond (ledger_relevant relevance w.slot) (applied_by w now 0 z) (skipped_by z)

-- A write, of what the map has of its slot: served, or written earlier in this list, it is overwritten and the last use kept.
abbrev pub write_one : Retention → ℕ → List Address → Write → Option Kept → Writing → Writing
write_one R now relevance w None z = write_unserved now relevance w z
write_one R now relevance w (Some k) z =
    cond (in_date R k.last_use now || mem w.slot z.applied) (applied_by w k.last_use 1 z) (write_unserved now relevance w z)

-- The writes in order.
unfoldable pub write_all : Retention → ℕ → List Address → List Write → Writing → Writing
write_all R now relevance [] z = z
write_all R now relevance (w ∷ ws) z = write_all R now relevance ws (write_one R now relevance w (lookup w.slot z.map) z)

-- Awaiting slots --------------------------------------------------------------------------------------

-- A slot's waiters, and whether it is taken, after an unserved read: one waiter more.
abbrev pub one_more_waiter : Option Awaiting → Awaiting
one_more_waiter None = record { waiters = 1; taken = false }
one_more_waiter (Some w) = record { waiters = w.waiters + 1; taken = w.taken }

-- A slot put into its place in a rising list, and the slots that are not taken, rising.
unfoldable pub place : Slot → List Slot → List Slot
place s [] = s ∷ []
place s (t ∷ l) = cond (slot_ltb s t) (s ∷ t ∷ l) (t ∷ place s l)

unfoldable pub not_taken : AwaitingMap → List Slot
not_taken [] = []
not_taken (e ∷ q) = cond e.content.taken (not_taken q) (place e.slot (not_taken q))

-- The awaiting slots after a take.
abbrev pub all_marked : AwaitingMap → AwaitingMap
all_marked q = map (λ e. record { slot = e.slot; content = record { waiters = e.content.waiters; taken = true } }) q

-- The waiters of the awaiting slots that are on a list.
unfoldable pub waiters_among : List Slot → AwaitingMap → ℕ
waiters_among ss [] = 0
waiters_among ss (e ∷ q) = cond (mem e.slot ss) e.content.waiters 0 + waiters_among ss q

-- The number of members without a value.
abbrev pub count_error : Option Value → ℕ
count_error None = 1
count_error (Some v) = 0

unfoldable pub member_errors : List Member → ℕ
member_errors [] = 0
member_errors (x ∷ xs) = count_error x.outcome + member_errors xs

-- The map after the members of an answer: a value sets value and use.
abbrev pub settle_value : ℕ → Slot → Option Value → LedgerMap → LedgerMap
settle_value now s None m = m
settle_value now s (Some v) m = set s (kept now v) m

unfoldable pub settle_values : ℕ → List Member → LedgerMap → LedgerMap
settle_values now [] m = m
settle_values now (x ∷ xs) m = settle_values now xs (settle_value now x.slot x.outcome m)

-- What is compared ----------------------------------------------------------------------------------

-- An outcome without the count of carried values.
abbrev pub compared_outcome : CarryOutcome → CarryOutcome
compared_outcome AlreadyCurrent = AlreadyCurrent
compared_outcome (Carried n) = Carried 0
compared_outcome (Cold l k) = Cold l k

-- A report with 0 for what is not compared: values held or carried, and folds.
abbrev pub compared_report : Report → Report
compared_report opened = opened
compared_report anchor_same = anchor_same
compared_report anchor_fresh = anchor_fresh
compared_report (advanced d) =
    advanced (record { outcome = compared_outcome d.outcome; writes = d.writes; held = 0; live = d.live; compaction = no_compaction })
compared_report (value v) = value v
compared_report no_value = no_value
compared_report stored = stored
compared_report (waiting n) = waiting n
compared_report (listed l) = listed l
compared_report (answered m e w) = answered m e w

-- What is compared of an answer: nothing where the call was turned down.
abbrev pub compared : Answer → Option Report
compared (refuse n) = None
compared (ok r) = Some (compared_report r)

-- The calls -----------------------------------------------------------------------------------------

-- What an accepted call leaves, and its answer.
pub record LedgerPerformed : Type 0 where
  pub installed : Option LedgerGeneration
  pub report : Report

abbrev pub ledger_performed : LedgerGeneration → Report → LedgerPerformed
ledger_performed g r = record { installed = Some g; report = r }

-- An advance's report, so far as it is compared.
abbrev pub ledger_report : Retention → ReadAnchor → CarryOutcome → Writing → Report
ledger_report R a o z =
    let w : AppliedWrites = record { applied = z.applied; overwritten = z.overwritten; skipped = z.skipped } in
    advanced (record { outcome = o; writes = w; held = 0; live = entries_in_date R a.number z.map; compaction = no_compaction })

-- An advance to another anchor: the writes over what is left of the map. The awaiting slots are dropped.
unfoldable pub ledger_advance : Retention → ReadAnchor → CarryOutcome → Prepared → LedgerMap → LedgerPerformed
ledger_advance R child o p m =
    let z : Writing = write_all R child.number p.relevance p.writes (before_writes m) in
    ledger_performed (ledger_generation child z.map []) (ledger_report R child o z)

-- The map is emptied unless linked and unskipped.
abbrev pub ledger_carry_or_cold : Retention → LedgerMap → ReadAnchor → Lineage → Prepared → LedgerPerformed
ledger_carry_or_cold R m child l p =
    cond (keeps_map l p.skip) (ledger_advance R child (Carried 0) p m) (ledger_advance R child (Cold l (ledger_skip p.skip)) p [])

-- A look, a get and a read, of what a look answers: get and read set the use if served; an unserved read waits.
abbrev pub ledger_look : Option Value → Report
ledger_look None = no_value
ledger_look (Some v) = value v

abbrev pub ledger_use : LedgerGeneration → Slot → Value → LedgerGeneration
ledger_use g s v = ledger_generation g.anchor (set s (kept g.anchor.number v) g.map) g.awaiting

abbrev pub ledger_get : LedgerGeneration → Slot → Option Value → LedgerPerformed
ledger_get g s None = ledger_performed g no_value
ledger_get g s (Some v) = ledger_performed (ledger_use g s v) (value v)

abbrev pub ledger_read : LedgerGeneration → Slot → Option Value → LedgerPerformed
ledger_read g s None =
    let w : Awaiting = one_more_waiter (lookup s g.awaiting) in
    ledger_performed (ledger_generation g.anchor g.map (set s w g.awaiting)) (waiting w.waiters)
ledger_read g s (Some v) = ledger_performed (ledger_use g s v) (value v)

-- An answer to some slots, of the map after it and its member errors: the slots go, and their waiters wake.
abbrev pub ledger_answer : LedgerGeneration → LedgerMap → List Slot → ℕ → LedgerPerformed
ledger_answer g m ss errors =
    ledger_performed (ledger_generation g.anchor m (without ss g.awaiting)) (answered (length ss) errors (waiters_among ss g.awaiting))

-- A call on a slot, and any call at the one anchor. A round that fails as a whole has no member errors.
abbrev pub ledger_perform_slot : Retention → LedgerGeneration → SlotCall → LedgerPerformed
ledger_perform_slot R g (look s) = ledger_performed g (ledger_look (ledger_resolved R g s))
ledger_perform_slot R g (get s) = ledger_get g s (ledger_resolved R g s)
ledger_perform_slot R g (put s v) = ledger_performed (ledger_use g s v) stored
ledger_perform_slot R g (read s) = ledger_read g s (ledger_resolved R g s)

abbrev pub ledger_perform_at : Retention → LedgerGeneration → AnchoredCall → LedgerPerformed
ledger_perform_at R g (on_slot c) = ledger_perform_slot R g c
ledger_perform_at R g take = ledger_performed (ledger_generation g.anchor g.map (all_marked g.awaiting)) (listed (not_taken g.awaiting))
ledger_perform_at R g (answer ms) = ledger_answer g (settle_values g.anchor.number ms g.map) (map (λ x. x.slot) ms) (member_errors ms)
ledger_perform_at R g (answer_failed ss) = ledger_answer g g.map ss 0

-- install or an advance naming the installed anchor changes nothing. With no anchor an accepted call is an install or an advance: the third case is never met.
abbrev pub ledger_perform_some : Retention → LedgerGeneration → StoreCall → LedgerPerformed
ledger_perform_some R g (install a) =
    cond (anchor_eqb g.anchor a) (ledger_performed g anchor_same) (ledger_performed (ledger_generation a [] []) anchor_fresh)
ledger_perform_some R g (advance child h p) =
    cond (anchor_eqb g.anchor child) (ledger_performed g (ledger_report R g.anchor AlreadyCurrent (before_writes g.map)))
    (ledger_carry_or_cold R g.map child (ledger_link (Some g.anchor) child h) p)
ledger_perform_some R g (at_anchor a c) = ledger_perform_at R g c

abbrev pub ledger_perform_none : Retention → StoreCall → LedgerPerformed
ledger_perform_none R (install a) = ledger_performed (ledger_generation a [] []) anchor_fresh
ledger_perform_none R (advance child h p) = ledger_carry_or_cold R [] child (ledger_link None child h) p
ledger_perform_none R (at_anchor a c) = record { installed = None; report = no_value }

unfoldable pub ledger_perform : Retention → Option LedgerGeneration → StoreCall → LedgerPerformed
ledger_perform R None c = ledger_perform_none R c
ledger_perform R (Some g) c = ledger_perform_some R g c

-- An accepted call. An open starts the ledger anew, with no anchor and its retention; before it nothing else is accepted, so that the second case is never met.
pub record LedgerStepResult : Type 0 where
  pub ledger : Option Ledger
  pub report : Report

abbrev pub after_ledger_call : Retention → LedgerPerformed → LedgerStepResult
after_ledger_call R p = record { ledger = Some (record { retention = R; installed = p.installed }); report = p.report }

unfoldable pub ledger_step : Option Ledger → Call → LedgerStepResult
ledger_step l (open_store capacity depth R) = record { ledger = Some (record { retention = R; installed = None }); report = opened }
ledger_step None (on_store c) = record { ledger = None; report = no_value }
ledger_step (Some l) (on_store c) = after_ledger_call l.retention (ledger_perform l.retention l.installed c)

-- The ledger's answers over a list of calls, and the ledger after it.
-- It is fed the calls and, for each, whether it was turned down (so that flags never end first); a call turned down changes nothing.
unfoldable pub ledger_trace : Option Ledger → List Call → List Bool → List (Option Report)
ledger_trace l [] bs = []
ledger_trace l (c ∷ cs) [] = []
ledger_trace l (c ∷ cs) (true ∷ bs) = None ∷ ledger_trace l cs bs
ledger_trace l (c ∷ cs) (false ∷ bs) = let o : LedgerStepResult = ledger_step l c in Some o.report ∷ ledger_trace o.ledger cs bs

unfoldable pub ledger_final : Option Ledger → List Call → List Bool → Option Ledger
ledger_final l [] bs = l
ledger_final l (c ∷ cs) [] = l
ledger_final l (c ∷ cs) (true ∷ bs) = ledger_final l cs bs
ledger_final l (c ∷ cs) (false ∷ bs) = ledger_final (ledger_step l c).ledger cs bs

-- The value that the ledger serves a slot with, or none.
abbrev pub ledger_generation_serves : Retention → Option LedgerGeneration → Slot → Option Value
ledger_generation_serves R None s = None
ledger_generation_serves R (Some g) s = ledger_resolved R g s

abbrev pub ledger_serves : Option Ledger → Slot → Option Value
ledger_serves None s = None
ledger_serves (Some l) s = ledger_generation_serves l.retention l.installed s
