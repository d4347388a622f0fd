-- The first bytes, as many as there are of 65,536, are the first 65,536.
use Prim.Native.Nat.{ℕ}
use mathlib.Core.Path.{ap, ◌∙◌}
use native.Mathlib.Nat.{min_comm}
use lib.ListN.{length, take}
use Rattle.std.proofs.lemmas.List.{take_min}
use Rattle.call_print.proofs.taken.Goals as goal

pub returns : goal.returns
returns c =
    let l = c.args.list.now in
    ap (λ (n : ℕ). take n l) (c.min.ensures ∙ min_comm (length l) 65536) ∙ take_min 65536 l
