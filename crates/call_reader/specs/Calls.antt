-- What the calls that were read stand for, given the list's bytes; how what follows a code is read; and where the entries that a call names stand.
use Rattle.std.specs.Prelude.{ℕ, ◌+◌, ◌*◌, ◌≤◌, ◌≡◌, List, ◌∷◌, length, Result, Ok, Err}
use Rattle.model.specs.declared.delta_snapshot.Retention.{Retention}
use Rattle.model.specs.Store as store
use Rattle.call_list.specs.Listed as listed
use Rattle.call_list.specs.CallList.{Parsed, fault, then, parse_form, parse_retention, parse_open, parse_install, parse_advance, parse_anchored, parse_with_slot, parse_put, parse_take, parse_answer, parse_call}
use Rattle.reader.specs.declared.FaultKind.{FaultKind}
use Rattle.reader.specs.declared.FaultKind.TheVariants.{Unknown}
use Rattle.reader.specs.Answers.{addresses_at, writes_at, slots_at, members_at, MembersWithin}
use Rattle.call_reader.specs.declared.SlotCall.{SlotCall}
use Rattle.call_reader.specs.declared.SlotCall.TheVariants.{Look, Get, Put, Read}
use Rattle.call_reader.specs.declared.AnchoredCall.{AnchoredCall}
use Rattle.call_reader.specs.declared.AnchoredCall.TheVariants.{OnSlot, Take, Answer, AnswerFailed}
use Rattle.call_reader.specs.declared.Prepared.{Prepared}
use Rattle.call_reader.specs.declared.ListedCall.{ListedCall}
use Rattle.call_reader.specs.declared.ListedCall.TheVariants.{OpenDefault, OpenWith, Install, Advance, Anchored}
use Rattle.call_reader.specs.declared.AnchoredCode.{AnchoredCode}
use Rattle.call_reader.specs.declared.AnchoredCode.TheVariants as rest
use Rattle.call_reader.specs.declared.Code.{Code}
use Rattle.call_reader.specs.declared.Code.TheVariants as code

-- What was prepared for an advance.
abbrev pub prepared_of : List ℕ → Prepared → store.Prepared
prepared_of s p = record { skip = p.skip; relevance = addresses_at s p.relevance; writes = writes_at s p.writes }

-- The call on a slot.
abbrev pub slot_call_of : SlotCall → store.SlotCall
slot_call_of (Look x) = store.look x
slot_call_of (Get x) = store.get x
slot_call_of (Put x v) = store.put x v
slot_call_of (Read x) = store.read x

-- The call at an anchor.
abbrev pub anchored_of : List ℕ → AnchoredCall → store.AnchoredCall
anchored_of s (OnSlot c) = store.on_slot (slot_call_of c)
anchored_of s Take = store.take
anchored_of s (Answer p) = store.answer (members_at s p)
anchored_of s (AnswerFailed p) = store.answer_failed (slots_at s p)

-- The call of the list.
abbrev pub call_of : List ℕ → ListedCall → listed.ListedCall
call_of s (OpenDefault c) = listed.open_default c
call_of s (OpenWith c d R) = listed.open_with c (record { max_depth = d; retention = R })
call_of s (Install a) = listed.on_store (store.install a)
call_of s (Advance a h p) = listed.on_store (store.advance a h (prepared_of s p))
call_of s (Anchored a c) = listed.on_store (store.at_anchor a (anchored_of s c))

-- A retention: its form byte, and its number if it has one.
abbrev pub parse_limit : List ℕ → Parsed Retention
parse_limit l = then (parse_form l) (λ f q. parse_retention f q)

-- What stands after the anchor of a call that names one.
abbrev pub parse_rest : AnchoredCode → List ℕ → Parsed store.AnchoredCall
parse_rest rest.Look = parse_with_slot store.look
parse_rest rest.Get = parse_with_slot store.get
parse_rest rest.Put = parse_put
parse_rest rest.Read = parse_with_slot store.read
parse_rest rest.Take = parse_take
parse_rest rest.Answer = parse_answer

-- What stands after a code.
abbrev pub parse_coded : Code → List ℕ → Parsed listed.ListedCall
parse_coded code.Open = parse_open
parse_coded code.Install = parse_install
parse_coded code.Advance = parse_advance
parse_coded (code.Anchored c) = parse_anchored (parse_rest c)

-- A code byte says how what follows it is read, or it is none.
abbrev pub CodeSays : ℕ → Result Code FaultKind → Type 0
CodeSays b (Ok c) = (l : List ℕ) → parse_call (b ∷ l) ≡ parse_coded c l
CodeSays b (Err k) = (k ≡ Unknown) × ((l : List ℕ) → parse_call (b ∷ l) ≡ fault 3 (b ∷ l))

-- The addresses and the writes of an advance stand within the list.
abbrev pub PreparedWithin : List ℕ → Prepared → Type 0
PreparedWithin s p = (p.relevance.start + p.relevance.count * 20 ≤ length s) × (p.writes.start + p.writes.count * 84 ≤ length s)

-- The members of an answer stand within the list and end at the next place; the slots of a failed round stand within it.
abbrev pub AnchoredWithin : List ℕ → ℕ → AnchoredCall → Type 0
AnchoredWithin s next (OnSlot c) = Unit {0}
AnchoredWithin s next Take = Unit {0}
AnchoredWithin s next (Answer p) = MembersWithin s p next
AnchoredWithin s next (AnswerFailed p) = p.start + p.count * 52 ≤ length s

-- The entries that a call names stand within the list.
abbrev pub CallWithin : List ℕ → ℕ → ListedCall → Type 0
CallWithin s next (OpenDefault c) = Unit {0}
CallWithin s next (OpenWith c d R) = Unit {0}
CallWithin s next (Install a) = Unit {0}
CallWithin s next (Advance a h p) = PreparedWithin s p
CallWithin s next (Anchored a c) = AnchoredWithin s next c
