-- Entries of lists in bytes: addresses, 32-byte numbers, slots, writes, members. Call lists and lent lists have the same.
use Rattle.std.specs.Prelude.{ℕ, zero, suc, ◌+◌, ◌*◌, ◌/◌, Bool, true, ◌&&◌, cond, List, [], ◌∷◌, ◌++◌, map, eqb, leb, length, take, drop, get_or, None, Some}
use Rattle.model.specs.Numbers.{be, num}
use Rattle.model.specs.Slots.{Address, U256, Slot}
use Rattle.model.specs.Advance.{Write}
use Rattle.model.specs.Reads.{Member}

-- The number of the n bytes at a place.
abbrev pub number_at : ℕ → ℕ → List ℕ → ℕ
number_at i n b = num (take n (drop i b))

-- A 32-byte number at a place.
abbrev pub u256_at : ℕ → List ℕ → U256
u256_at i b = record { w0 = number_at i 8 b; w1 = number_at (i + 8) 8 b; w2 = number_at (i + 16) 8 b; w3 = number_at (i + 24) 8 b }

-- An address has 20 bytes.
abbrev pub address_of : List ℕ → Address
address_of b = record { w0 = number_at 0 4 b; w1 = number_at 4 8 b; w2 = number_at 12 8 b }

-- A slot has 52, address first.
abbrev pub slot_of : List ℕ → Slot
slot_of b = record { address = address_of b; index = u256_at 20 b }

-- A write has 84: a slot and its value.
abbrev pub write_of : List ℕ → Write
write_of b = record { slot = slot_of b; value = u256_at 52 b }

-- A member of a lent answer has 85 bytes: a slot, 0 for a refusal or 1 for a value, and the value's 32 bytes, which a refusal leaves unread.
-- Any other flag byte is refused before the members are read (`flags_known`).
abbrev pub member_of : List ℕ → Member
member_of b = record { slot = slot_of b; outcome = cond (eqb (get_or b 52 0) 0) None (Some (u256_at 53 b)) }

-- The first n entries of w bytes each.
unfoldable pub chunks : ℕ → ℕ → List ℕ → List (List ℕ)
chunks w zero b = []
chunks w (suc n) b = take w b ∷ chunks w n (drop w b)

-- The addresses of a lent list: all its whole entries. Bytes at its end that are no whole entry are no entry.
unfoldable pub addresses_of : List ℕ → List Address
addresses_of b = map address_of (chunks 20 (length b / 20) b)

-- Its slots, likewise.
unfoldable pub slots_of : List ℕ → List Slot
slots_of b = map slot_of (chunks 52 (length b / 52) b)

-- Its writes.
unfoldable pub writes_of : List ℕ → List Write
writes_of b = map write_of (chunks 84 (length b / 84) b)

-- Its members.
unfoldable pub members_of : List ℕ → List Member
members_of b = map member_of (chunks 85 (length b / 85) b)

-- Whether every member of a list has a known flag byte, 0 or 1.
unfoldable pub known_flags : List (List ℕ) → Bool
known_flags [] = true
known_flags (m ∷ ms) = leb (get_or m 52 0) 1 && known_flags ms

-- The same of a lent answer's bytes.
unfoldable pub flags_known : List ℕ → Bool
flags_known b = known_flags (chunks 85 (length b / 85) b)

-- The first n entries of an output, as slots: always n of them.
abbrev pub first_slots : ℕ → List ℕ → List Slot
first_slots n out = map slot_of (chunks 52 n out)

-- A slot's 52 bytes.
unfoldable pub slot_bytes : Slot → List ℕ
slot_bytes s =
    be 4 s.address.w0 ++ be 8 s.address.w1 ++ be 8 s.address.w2
    ++ be 8 s.index.w0 ++ be 8 s.index.w1 ++ be 8 s.index.w2 ++ be 8 s.index.w3

-- The bytes of slots, one after the other.
unfoldable pub slots_bytes : List Slot → List ℕ
slots_bytes [] = []
slots_bytes (s ∷ ss) = slot_bytes s ++ slots_bytes ss

-- An output with slots at its beginning; what follows is as it was. An output holds as many entries as it has whole 52 bytes.
abbrev pub with_slots : List Slot → List ℕ → List ℕ
with_slots ss out = slots_bytes ss ++ drop (52 * length ss) out
