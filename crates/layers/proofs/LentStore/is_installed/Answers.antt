-- `layers::LentStore::is_installed` meets its contract.
use native.Mathlib.Omega.{arith}
use mathlib.Core.Path.{ap, ◌∙◌}
use Prim.Native.Nat.{ℕ}
use mathlib.Core.Bool.{not}
use lib.Dec.{eqb}
use Rattle.image.proofs.Lent.{installed_by}
use Rattle.layers.proofs.Header.{header_room}
use Rattle.layers.proofs.LentStore.is_installed.Goals as goal

pub read_u64-requires : goal.read_u64-requires
read_u64-requires c = omega (arith, header_room _ c.args.self.is_store)

pub returns : goal.returns
returns c = ap (λ (x : ℕ). not (eqb x 0)) c.read_u64.ensures ∙ installed_by _
