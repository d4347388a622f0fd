-- A list of bytes with a part moved.
use Rattle.std.specs.Prelude.{ℕ, ◌+◌, List, ◌++◌, take, drop}
use Rattle.words.specs.Parts.{part}

-- The n bytes from place `at` on stand `by` places higher; what is before and after them is as it was.
abbrev pub moved : ℕ → ℕ → ℕ → List ℕ → List ℕ
moved at n by s = take (at + by) s ++ part at n s ++ drop (at + by + n) s
