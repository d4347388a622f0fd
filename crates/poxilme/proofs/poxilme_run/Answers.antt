-- `poxilme::poxilme_run` meets its contract: 9, or what `call_run::run` does. Assumes nothing.
use Prim.Native.Nat.{◌/◌}
use Rattle.header.proofs.Segments.{known_bytes}
use Rattle.lent_calls.proofs.Kept.{run_keeps}
use Rattle.lent_calls.proofs.Joining.{fit, exported_run}
use Rattle.lent_calls.specs.Arguments.{reply_enough}
use lib.ListN.{length}
use Rattle.poxilme.proofs.poxilme_run.Goals as goal

pub returns : goal.returns
returns c =
    let a = c.args in
    let k = c.run-r in (
      exported_run (length a.work.now) (length a.entries.now / 52) a.list.now a.from a.members.now a.s.now a.out.now a.reply.now {fits = reply_enough a.reply.now} (fit c.reply_enough.ensures c.if-not-reply_enough.false) k.new.s k.new.out k.result k.ensures c.write_reply.ensures,
      run_keeps (length a.work.now) (length a.entries.now / 52) a.list.now (known_bytes a.list.now c.type_inv.list) k.result a.from a.members.now a.s.now a.out.now k.new.s k.new.out k.ensures,
    )
