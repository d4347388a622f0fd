-- An answer with an unknown flag byte is refused by 3. Assumes nothing.
use mathlib.Core.Path.{◌≡◌}
use mathlib.Core.Bool.{Bool, false}
use mathlib.Core.List.{List}
use Prim.Native.Nat.{ℕ}
use Rattle.model.specs.declared.storage_memo.ReadAnchor.{ReadAnchor}
use Rattle.model.specs.Entries.{flags_known}
use Rattle.model.specs.Refusals.{refuse}
use Rattle.replies.specs.Replies.{answer_step, Stepped}
use Rattle.unchecked_reads.proofs.Said.{stepped}
use Rattle.store.proofs.Checked.{unknown_flag}

pub flags_unknown : (b : List ℕ) (a : ReadAnchor) (members : List ℕ) (r : Bool) → r ≡ flags_known members → r ≡ false → Stepped (refuse 3) b (answer_step b a members)
flags_unknown b a members r e t = stepped (unknown_flag b a members r e t)
