-- `seed::note` meets its contract.
use mathlib.Core.Path.{ap, ◌∙◌}
use Prim.Native.Nat.{◌+◌, ◌%◌}
use native.Mathlib.Omega.{arith}
use Rattle.seed.specs.Rising.{bucket_of}
use Rattle.seed.proofs.Rising.{note_more}
use Rattle.seed.proofs.note.Goals as goal

pub loop-i-preserved : goal.loop-i-preserved
loop-i-preserved c = note_more c.loop-i.table c.args.addresses.now c.loop-i.i c.bucket-b.result (c.loop-i.i % 65535 + 1) (omega arith) c.loop-i.invariant (c.bucket-b.ensures ∙ ap bucket_of c.read_address.ensures) (omega arith)
