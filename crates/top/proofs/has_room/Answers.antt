-- `top::has_room` meets its contract. Assumes nothing.
use native.Mathlib.Omega.{arith}
use Rattle.layers.proofs.Header.{header_room}
use Rattle.top.proofs.Rooms.{room_at, room_absent, room_fits}
use Rattle.top.proofs.has_room.Goals as goal

pub read_u64-requires : goal.read_u64-requires
read_u64-requires c = omega (arith, header_room _ c.args.generation.installed.is_store)

pub overflow_add-result : goal.overflow_add-result
overflow_add-result c = omega (arith, room_fits _ _ c.args.generation.installed c.read_u64.ensures)

pub read_u64-requires-in-Err : goal.read_u64-requires-in-Err
read_u64-requires-in-Err c = omega (arith, header_room _ c.args.generation.installed.is_store)

pub returns-in-Ok : goal.returns-in-Ok
returns-in-Ok c = room_at _ _ _ c.args.generation.installed c.in-Ok.is

pub returns-in-Err : goal.returns-in-Err
returns-in-Err c = room_absent _ _ _ _ _ c.args.generation.installed c.in-Err.is c.read_u64.ensures c.read_u64-in-Err.ensures
