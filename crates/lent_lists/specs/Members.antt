-- Where the members of a call list's answer stand, and one of them as an entry of a lent answer.
use Rattle.std.specs.Prelude.{ℕ, ◌+◌, ◌*◌, ◌≡◌, List, length, take, drop}
use Rattle.model.specs.Entries as entries
use Rattle.words.specs.Parts.{part}
use Rattle.reader.specs.declared.Span.{Span}
use Rattle.reader.specs.Answers as list
use Rattle.reader.specs.Answers.{MembersWithin}

-- The members of a span are whole members of the list.
pub record MembersThere (l : List ℕ) (p : Span) : Type 0 where
  pub next : ℕ
  pub within : MembersWithin l p next

-- The member at a place of a list was put as entry k; r is the place after it. The entries before are as they were.
pub record PutMember (r : ℕ) (after l : List ℕ) (at : ℕ) (before : List ℕ) (k : ℕ) : Type 0 where
  pub next_is : r ≡ at + list.member_size (drop at l)
  pub same_length : length after ≡ length before
  pub before_is : take (k * 85) after ≡ take (k * 85) before
  pub member_is : entries.member_of (part (k * 85) 85 after) ≡ list.member_of (drop at l)
