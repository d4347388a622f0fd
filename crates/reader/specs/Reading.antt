-- What a reader has read from its list.
use Rattle.std.specs.Prelude.{ℕ, ◌+◌, ◌≤◌, ◌<◌, ◌≡◌, List, [], ◌∷◌, length, drop, Result, Ok, Err}
use Rattle.call_list.specs.CallList.{Parsed, parsed, fault}
use Rattle.reader.specs.declared.FaultKind.{FaultKind}
use Rattle.reader.specs.declared.FaultKind.TheVariants.{Ended}
use Rattle.reader.specs.declared.Reader.{Reader}
use Rattle.reader.specs.Answers.{fault_number}

-- What is left of the list.
abbrev pub rest : Reader → List ℕ
rest r = drop r.at r.list.now

-- What was read, seen by f, and the bytes after it; or a fault, and the bytes from its place on.
abbrev pub answer : {A B : Type 0} → (A → B) → Result A FaultKind → List ℕ → Parsed B
answer f (Ok x) l = parsed (f x) l
answer f (Err k) l = fault (fault_number k) l

-- What was read is what the definition reads. The reader has gone forward on its list, past what was read or to the fault's byte.
pub record Reads {A B : Type 0} (f : A → B) (result : Result A FaultKind) (want : List ℕ → Parsed B) (before after : Reader) : Type 0 where
  pub means : answer f result (rest after) ≡ want (rest before)
  pub forward : before.at ≤ after.at
  pub same_list : after.list.now ≡ before.list.now

-- What is read stands for itself; or for nothing.
abbrev pub as_is : {A : Type 0} → A → A
as_is x = x

abbrev pub passed : {A : Type 0} → A → ℕ
passed x = 0

-- The byte that stands next, or the list's end.
abbrev pub Stands : Result ℕ FaultKind → Reader → Type 0
Stands (Ok b) r = (r.at < length r.list.now) × (rest r ≡ b ∷ drop (r.at + 1) r.list.now)
Stands (Err k) r = (k ≡ Ended) × (r.at ≡ length r.list.now) × (rest r ≡ [])
