-- `awaiting::Awaiting::find` meets its contract.
use Rattle.awaiting.specs.Awaiting.{as_records}
use Rattle.awaiting.specs.Lent.{all_of}
use Rattle.awaiting.proofs.Places.{rising_as}
use Rattle.awaiting.proofs.Awaits.{count_as, slot_as_read}
use Rattle.awaiting.proofs.Awaiting.find.Goals as goal

pub returns : goal.returns
returns c =
    let a = c.args.self in
    c.search.ensures (as_records (all_of a)) (record { count_is = count_as a.count a.bytes.now; slots_are = λ i h. slot_as_read a.count i a.bytes.now h; rises = rising_as (all_of a) a.rising.ok })
