-- `awaiting::Awaiting::taken_at` meets its contract.
use mathlib.Core.Path.{ap, ◌∙◌}
use mathlib.Core.Bool.{not}
use Prim.Native.Nat.{ℕ}
use lib.Dec.{eqb}
use Rattle.awaiting.proofs.Awaits.{entry_taken}
use Rattle.awaiting.proofs.Awaiting.taken_at.Goals as goal

pub returns : goal.returns
returns c =
    let a = c.args in
    ap (λ (x : ℕ). not (eqb x 0)) c.read_u64.ensures ∙ entry_taken a.i a.self.bytes.now
