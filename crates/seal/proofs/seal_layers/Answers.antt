-- `seal::seal_layers` meets its contract. Assumes nothing.
use native.Mathlib.Omega.{arith}
use Rattle.header.proofs.Segments.{known_bytes}
use Rattle.seal.proofs.Kept.{kept_within, sealed_by}
use Rattle.seal.proofs.Rooms.{store_room, work_room}
use Rattle.seal.proofs.seal_layers.Goals as goal

pub overflow_mul-k : goal.overflow_mul-k
overflow_mul-k c = omega (arith, kept_within _ _ c.kept_layers-k.ensures c.requires.1)

pub overflow_add-k : goal.overflow_add-k
overflow_add-k c = omega (arith, kept_within _ _ c.kept_layers-k.ensures c.requires.1)

pub slice_bounds-place-end : goal.slice_bounds-place-end
slice_bounds-place-end c = omega (arith, kept_within _ _ c.kept_layers-k.ensures c.requires.1, store_room _ _ c.requires.0.is_store c.read_u64-capacity.ensures)

pub place-requires : goal.place-requires
place-requires c =
    omega (arith, kept_within _ _ c.kept_layers-k.ensures c.requires.1, work_room _ _ _ c.requires.0.is_store c.read_u64-capacity.ensures c.requires.2, c.write_header.auto.work)

pub add_layer-requires : goal.add_layer-requires
add_layer-requires c =
    let room = work_room _ _ _ c.requires.0.is_store c.read_u64-capacity.ensures c.requires.2 in
    (omega (arith, kept_within _ _ c.kept_layers-k.ensures c.requires.1), omega (arith, room, c.write_header.auto.work, c.place.auto.s))

pub overflow_mul-capacity : goal.overflow_mul-capacity
overflow_mul-capacity c = omega (arith, store_room _ _ c.requires.0.is_store c.read_u64-capacity.ensures)

pub overflow_add-capacity : goal.overflow_add-capacity
overflow_add-capacity c = omega (arith, store_room _ _ c.requires.0.is_store c.read_u64-capacity.ensures)

pub slice_bounds-place-end-2 : goal.slice_bounds-place-end-2
slice_bounds-place-end-2 c = omega (arith, store_room _ _ c.requires.0.is_store c.read_u64-capacity.ensures)

pub place-requires-2 : goal.place-requires-2
place-requires-2 c =
    omega (arith, work_room _ _ _ c.requires.0.is_store c.read_u64-capacity.ensures c.requires.2, c.write_header.auto.work, c.place.auto.s, c.add_layer.auto.work)

pub returns : goal.returns
returns c =
    let a = c.args in
    let s = a.s.now in
    sealed_by s a.work.now a.child c.kept_layers-k.result c.read_u64-n.result c.read_u64-capacity.result (known_bytes s c.type_inv.s) c.requires.0
    c.requires.1 c.kept_layers-k.ensures c.read_u64-n.ensures c.read_u64-capacity.ensures c.write_header.ensures c.place.ensures c.add_layer.ensures c.place-2.ensures
