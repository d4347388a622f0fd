-- What is left of the list falls.
use lib.ListN.{length}
use Rattle.call_print.proofs.Parts.{falls}
use Rattle.call_print.proofs.print_parts.Goals as goal

pub loop-next-smaller : goal.loop-next-smaller
loop-next-smaller g c =
    let p = c.run_part-part in
    falls c.loop-next.next p.result.next (length c.args.list.now) c.in-Some.from c.in-Some.is (λ b q. ((p.ensures.more_is b q).1, (p.ensures.more_is b q).2))
