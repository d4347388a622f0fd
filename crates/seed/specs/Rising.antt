-- The order of addresses, lists of them that rise, and their buckets.
use Rattle.std.specs.Prelude.{◌≡◌, Bool, true, false, List, ℕ, suc, ◌*◌, ◌/◌, ◌%◌, ◌≤◌, ◌<◌, length, drop, get_or}
use Rattle.model.specs.declared.storage_memo.Address.{Address}
use Rattle.model.specs.Slots.{address_words, words_ltb}
use Rattle.model.specs.Entries.{address_of}

-- Whether an address comes before another: compared as big-endian numbers.
unfoldable pub address_ltb : Address → Address → Bool
address_ltb a b = words_ltb (address_words a) (address_words b)

-- Address i of a list in bytes.
abbrev pub address_in : ℕ → List ℕ → Address
address_in i b = address_of (drop (i * 20) b)

-- No address of a list comes before the one that it follows.
abbrev pub Rise : List ℕ → Type 0
Rise b = (i : ℕ) → suc i < length b / 20 → address_ltb (address_in (suc i) b) (address_in i b) ≡ false

-- Where a flag says so, they rise.
abbrev pub RiseIf : Bool → List ℕ → Type 0
RiseIf t b = t ≡ true → Rise b

-- The bucket of an address in a table of them.
abbrev pub bucket_of : Address → ℕ
bucket_of a = a.w2 % 65536

-- The buckets of the first n addresses are not empty.
abbrev pub Noted : ℕ → List ℕ → List ℕ → Type 0
Noted n t b = (j : ℕ) → j < n → 1 ≤ get_or t (bucket_of (address_in j b)) 0

-- What is known of a list of addresses: whether they rise, and a table with all their buckets.
pub record Indexed (rise : Bool) (t b : List ℕ) : Type 0 where
  pub rises_if : RiseIf rise b
  pub long : length t ≡ 65536
  pub noted : Noted (length b / 20) t b
