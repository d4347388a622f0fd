-- Records written one after the other.
use Rattle.std.specs.Prelude.{ℕ, ◌+◌, ◌*◌, ◌≡◌, Bool, cond, List, [], ◌∷◌, ◌++◌, length, take, drop, Some}
use Rattle.layout.specs.Layout.{record_size}
use Rattle.model.specs.Slots.{LastUse}
use Rattle.model.specs.Contents.{touch}
use Rattle.model.specs.Layers.{Record, Layer}
use Rattle.image.specs.Image.{bytes_of, all_record_words}

-- A record with another last use; its value stays.
abbrev pub renewed : LastUse → Record → Record
renewed u r = record { slot = r.slot; content = touch u (Some r.content) }

-- What is left of a slot: its newest record with a value, with the given use, or nothing.
abbrev pub kept : Bool → LastUse → Record → Layer
kept keep u r = cond keep (renewed u r ∷ []) []

-- Bytes with records stored from record c on; what is before and after is as it was.
unfoldable pub stored : ℕ → Layer → List ℕ → List ℕ
stored c l s = take (c * record_size) s ++ bytes_of (all_record_words l) ++ drop ((c + length l) * record_size) s

-- Records are stored from record c on, and the next goes to place `next`.
pub record Stored (c next : ℕ) (l : Layer) (before after : List ℕ) : Type 0 where
  pub next_is : next ≡ c + length l
  pub bytes_are : after ≡ stored c l before
