-- `seed::apply` meets its contract. Assumes nothing.
use Rattle.header.proofs.Segments.{known_bytes}
use Rattle.seed.proofs.Applying.{wrote_over, wrote_new, wrote_none}
use Rattle.seed.proofs.apply.Goals as goal

pub returns-in-Overwrite : goal.returns-in-Overwrite
returns-in-Overwrite c =
    let a = c.args in
    wrote_over a.s.now a.relevance.addresses.now a.slot a.value _ c.kind-what.ensures _ _ _ _ c.in-Overwrite.is c.then_some.ensures c.set_if_room.ensures

pub returns-in-New : goal.returns-in-New
returns-in-New c =
    let a = c.args in
    wrote_new a.s.now a.relevance.addresses.now a.slot a.value _ c.kind-what.ensures _ _ _ _ c.in-New.is c.installed_number-number.ensures c.then_some-in-New.ensures c.set_if_room-in-New.ensures

pub returns-in-Skip : goal.returns-in-Skip
returns-in-Skip c =
    let a = c.args in
    wrote_none a.s.now a.relevance.addresses.now a.slot a.value _ c.kind-what.ensures (known_bytes a.s.now c.slice_known-1.given) c.requires c.in-Skip.is
