-- Parts of lists of bytes, and lists with a part replaced or moved.
use Rattle.std.specs.Prelude.{ℕ, ◌+◌, List, ◌++◌, take, drop, length}

-- The n bytes from place `at` on.
abbrev pub part : ℕ → ℕ → List ℕ → List ℕ
part at n s = take n (drop at s)

-- r stands at place `at`; what is before and after is as it was.
abbrev pub placed : ℕ → List ℕ → List ℕ → List ℕ
placed at r s = take at s ++ r ++ drop (at + length r) s
