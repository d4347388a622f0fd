-- `seed::seed_by` meets its contract.
use Prim.Native.Nat.{◌*◌}
use lib.ListN.{drop}
use Rattle.model.specs.Entries.{write_of}
use Rattle.header.proofs.Segments.{known_bytes}
use Rattle.seed.proofs.Seeding.{along_start, wrote_at, along_full, along_next, along_end}
use Rattle.seed.proofs.seed_by.Goals as goal

pub loop-i-init : goal.loop-i-init
loop-i-init c = let a = c.args in along_start a.s.now a.relevance.addresses.now a.writes.now (known_bytes a.s.now c.type_inv.s) c.requires

pub returns-in_err-what : goal.returns-in_err-what
returns-in_err-what c =
    let said = wrote_at _ _ _ _ _ _ (write_of (drop (c.loop-i.i * 84) c.args.writes.now)) c.write_slot_of-slot.ensures c.write_value_of-value.ensures c.apply.ensures in
    rw c.from_residual.ensures (along_full _ _ _ _ _ _ c.loop-i.invariant _ _ c.loop-i-test.true said c.in_err-what.was)

pub loop-i-preserved : goal.loop-i-preserved
loop-i-preserved c =
    let said = wrote_at _ _ _ _ _ _ (write_of (drop (c.loop-i.i * 84) c.args.writes.now)) c.write_slot_of-slot.ensures c.write_value_of-value.ensures c.apply.ensures in
    along_next _ _ _ _ _ _ c.loop-i.invariant _ _ _ (known_bytes c.args.writes.now c.type_inv.writes) (known_bytes c.apply.new.s c.type_inv.s) c.loop-i-test.true said c.in_ok-what.was _ c.count.ensures

pub returns : goal.returns
returns c = along_end _ _ _ _ _ _ c.loop-i.invariant c.loop-i-test.false
