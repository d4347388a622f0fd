-- `seed::set_if_room` meets its contract. Assumes nothing.
use Rattle.top.proofs.Rooms.{room_yes}
use Rattle.seed.proofs.Applying.{settled_not, settled_so}
use Rattle.seed.proofs.set_if_room.Goals as goal

pub returns-then-not-has_room : goal.returns-then-not-has_room
returns-then-not-has_room c =
    let a = c.args in
    settled_not a.s.now a.slot a.c _ _ c.requires.1 c.has_room.ensures c.if-not-has_room.true

pub set_top-requires : goal.set_top-requires
set_top-requires c =
    record {
      installed = c.requires.0;
      place_is = c.requires.1;
      room = room_yes _ _ _ c.has_room.ensures c.if-not-has_room.false;
    }

pub returns : goal.returns
returns c =
    let a = c.args in
    settled_so a.s.now a.slot a.c _ _ c.requires.1 c.has_room.ensures _ c.if-not-has_room.false c.set_top.ensures
