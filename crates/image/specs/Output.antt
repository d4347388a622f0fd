-- What a call leaves in its lent output.
use Rattle.std.specs.Prelude.{ℕ, List, []}
use Rattle.model.specs.declared.delta_snapshot.Slot.{Slot}
use Rattle.model.specs.Entries.{with_slots}
use Rattle.model.specs.Store.{Report, opened, anchor_same, anchor_fresh, advanced, value, no_value, stored, waiting, listed, answered}
use Rattle.model.specs.Refusals.{Answer, refuse, ok}

-- The slots that an accepted call puts to its output: an advance its applied writes, a take its list.
abbrev pub output_slots : Report → List Slot
output_slots opened = []
output_slots anchor_same = []
output_slots anchor_fresh = []
output_slots (advanced d) = d.writes.applied
output_slots (value v) = []
output_slots no_value = []
output_slots stored = []
output_slots (waiting n) = []
output_slots (listed ss) = ss
output_slots (answered m e w) = []

-- The output after a call: a refused call keeps every byte, an accepted one those past its last entry.
abbrev pub output_after : Answer → List ℕ → List ℕ
output_after (refuse n) out = out
output_after (ok r) out = with_slots (output_slots r) out
