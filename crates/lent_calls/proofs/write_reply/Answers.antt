-- `lent_calls::write_reply` meets its contract.
use mathlib.Core.Path.{ap}
use native.Mathlib.Omega.{arith}
use Rattle.lent_calls.specs.ReplyWords.{reply_given}
use Rattle.lent_calls.proofs.Giving.{written_gives, first_written}
use Rattle.lent_calls.proofs.write_reply.Goals as goal

pub returns-in-Some : goal.returns-in-Some
returns-in-Some g c =
    let ws = g.T.ReplyWords.words c.in-Ok.done in
    let few = g.met.T.ReplyWords.few c.in-Ok.done in
    let first = c.in-Some.ensures.cases in
    written_gives (first_written 96 ws c.args.reply.now first.same c.write.ensures first.enough (omega (arith, few))) (ap (reply_given g.T.ReplyWords.words) c.in-Ok.is)
