-- A text written to an output.
use Rattle.std.specs.Prelude.{ℕ, ◌+◌, ◌≤◌, ◌≡◌, List, length}
use Rattle.words.specs.Parts.{placed}
use Rattle.digits.specs.declared.Output.{Output}

-- n bytes fit into an output from its place on.
abbrev pub Room : ℕ → Output → Type 0
Room n o = o.at + n ≤ length o.bytes.now

-- A text stands where the place was, which is now past it; what is before and after the text is as it was. The output is the one that was lent.
pub record Writes (text : List ℕ) (before after : Output) : Type 0 where
  pub bytes : after.bytes.now ≡ placed before.at text before.bytes.now
  pub next_place : after.at ≡ before.at + length text
  pub same_output : after.bytes.ghost_name ≡ before.bytes.ghost_name
