-- What an answer's values do to the top: the records that they add, and the bytes after them.
use Rattle.std.specs.Prelude.{ℕ, ◌+◌, ◌≡◌, Bool, not, ◌&&◌, cond, List, [], ◌∷◌, None, Option, Some, is_some}
use Rattle.model.specs.declared.delta_snapshot.Slot.{Slot}
use Rattle.model.specs.Slots.{Value}
use Rattle.model.specs.Layers.{Layer, find}
use Rattle.model.specs.Reads.{Member}
use Rattle.model.specs.Store.{with_top}
use Rattle.image.specs.Image.{overlay}
use Rattle.image.specs.Lent.{store_of, generation_of, Installed as HasGeneration}
use Rattle.top.specs.Top.{topped}

-- 1 where a slot has no record in a layer, else 0.
abbrev pub missing : Slot → Layer → ℕ
missing s l = cond (is_some (find s l)) 0 1

-- The records that an outcome of a slot adds.
abbrev pub adds : Option Value → Slot → Layer → ℕ
adds None s l = 0
adds (Some v) s l = missing s l

-- The records that the members of an answer to distinct slots add.
unfoldable pub added : List Member → Layer → ℕ
added [] l = 0
added (m ∷ ms) l = adds m.outcome m.slot l + added ms l

-- Whether a member adds a record.
abbrev pub adds_one : Member → Layer → Bool
adds_one m l = is_some m.outcome && not (is_some (find m.slot l))

-- The bytes of a store with another top, which are one.
pub record Settled (after before : List ℕ) (t : Layer) : Type 0 where
  pub bytes_are : after ≡ overlay (topped (store_of before).config (generation_of before) t) before
  pub installed : HasGeneration after
  pub config_is : (store_of after).config ≡ (store_of before).config
  pub generation_is : generation_of after ≡ with_top (generation_of before) t
