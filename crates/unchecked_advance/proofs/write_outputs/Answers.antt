-- `unchecked_advance::write_outputs` meets its contract.
use native.Mathlib.Omega.{arith}
use lib.ListN.{length-take, length-drop}
use Rattle.image.specs.Lent.{generation_of}
use Rattle.header.proofs.Segments.{known_bytes}
use Rattle.unchecked_advance.proofs.Outputs.{putting_start, putting_skip, putting_next, putting_end}
use Rattle.unchecked_advance.proofs.write_outputs.Goals.{then-in_top, else-in_top}
use Rattle.unchecked_advance.proofs.write_outputs.Goals as goal

pub loop-i-init : goal.loop-i-init
loop-i-init c = putting_start (generation_of c.args.generation.bytes.now).top c.args.writes.now c.args.out.now

pub place-requires : goal.place-requires
place-requires c = simp (length-take, length-drop) (omega (arith, c.loop-i.invariant.few, c.requires))

pub loop-i-preserved : goal.loop-i-preserved
loop-i-preserved c =
    let h = c.loop-i.invariant in
    let g = c.loop-i-test.true in
    elim c.if-in_top.branch [
      | then-in_top w ↦ rw (w.out-is, w.k-is) (putting_next h g c.write_slot_of.ensures c.in_top.ensures (omega (arith, c.requires)) (known_bytes c.args.writes.now c.type_inv.writes) w.if-in_top.true (omega arith) w.place.ensures)
      | else-in_top w ↦ rw (w.out-is, w.k-is) (putting_skip h g c.write_slot_of.ensures c.in_top.ensures w.if-in_top.false)
    ]

pub returns : goal.returns
returns c = putting_end c.loop-i.invariant c.loop-i-test.false
