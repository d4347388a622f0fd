-- Faults, and entries of a call list, given its bytes.
use Rattle.std.specs.Prelude.{ℕ, suc, zero, ◌+◌, ◌*◌, ◌≤◌, ◌≡◌, cond, List, [], ◌∷◌, eqb, leb, length, take, drop, get_or, None, Some}
use Rattle.model.specs.declared.storage_memo.Address.{Address}
use Rattle.model.specs.declared.delta_snapshot.Slot.{Slot}
use Rattle.model.specs.Advance.{Write}
use Rattle.model.specs.Reads.{Member}
use Rattle.call_list.specs.CallList.{Parsed, parsed, fault, then, parse_number, parse_member}
use Rattle.model.specs.Entries.{u256_at, address_of, slot_of}
use Rattle.reader.specs.declared.Span.{Span}
use Rattle.reader.specs.declared.FaultKind.{FaultKind}
use Rattle.reader.specs.declared.FaultKind.TheVariants.{Unknown, Overlong, Ended}

-- The refusal that a fault is.
abbrev pub fault_number : FaultKind → ℕ
fault_number Unknown = 3
fault_number Overlong = 4
fault_number Ended = 5

-- Entries ---------------------------------------------------------------------------------------------

-- A run of entries: how many, and the list's bytes from the first on.
pub record Run : Type 0 where
  pub count : ℕ
  pub bytes : List ℕ

-- n entries of w bytes each.
unfoldable pub entries : {A : Type 0} → (List ℕ → A) → ℕ → ℕ → List ℕ → List A
entries f w zero l = []
entries f w (suc n) l = f (take w l) ∷ entries f w n (drop w l)

-- A write's slot and value.
abbrev pub write_of : List ℕ → Write
write_of b = record { slot = slot_of b; value = u256_at 52 b }

-- A member of an answer: a slot's 52 bytes, a form byte, and with 1 a value's 32.
abbrev pub member_size : List ℕ → ℕ
member_size l = cond (eqb (get_or l 52 0) 1) 85 53

abbrev pub member_of : List ℕ → Member
member_of l = record { slot = slot_of (take 52 l); outcome = cond (eqb (get_or l 52 0) 1) (Some (u256_at 0 (take 32 (drop 53 l)))) None }

-- n members, one after the other.
unfoldable pub members : ℕ → List ℕ → List Member
members zero l = []
members (suc n) l = member_of l ∷ members n (drop (member_size l) l)

-- The run of a span, and the entries of spans.
abbrev pub run_at : List ℕ → Span → Run
run_at s p = record { count = p.count; bytes = drop p.start s }

abbrev pub addresses_at : List ℕ → Span → List Address
addresses_at s p = entries address_of 20 p.count (drop p.start s)

abbrev pub writes_at : List ℕ → Span → List Write
writes_at s p = entries write_of 84 p.count (drop p.start s)

abbrev pub slots_at : List ℕ → Span → List Slot
slots_at s p = entries slot_of 52 p.count (drop p.start s)

abbrev pub members_at : List ℕ → Span → List Member
members_at s p = members p.count (drop p.start s)

-- A run of n entries of w bytes each: it ends where they end, or the list ends before.
abbrev pub fixed_run : ℕ → ℕ → List ℕ → Parsed Run
fixed_run w n l = cond (leb (n * w) (length l)) (parsed (record { count = n; bytes = l }) (drop (n * w) l)) (fault 5 [])

-- Past n members. 0 stands for nothing.
unfoldable pub past_members : ℕ → List ℕ → Parsed ℕ
past_members zero l = parsed 0 l
past_members (suc n) l = then (parse_member l) (λ m r. past_members n r)

-- A run of n members.
abbrev pub member_run : ℕ → List ℕ → Parsed Run
member_run n l = then (past_members n l) (λ z r. parsed (record { count = n; bytes = l }) r)

-- A count and its run.
abbrev pub parse_run : (ℕ → List ℕ → Parsed Run) → List ℕ → Parsed Run
parse_run f l = then (parse_number l) (λ n r. f n r)

-- Where the entries of a span stand: within the list, or, for members, with the places past them leading to the next place.
abbrev pub SpanWithin : ℕ → ℕ → Span → Type 0
SpanWithin w end p = p.start + p.count * w ≤ end

abbrev pub MembersWithin : List ℕ → Span → ℕ → Type 0
MembersWithin s p next = (p.start ≤ length s) × (past_members p.count (drop p.start s) ≡ parsed 0 (drop next s))
