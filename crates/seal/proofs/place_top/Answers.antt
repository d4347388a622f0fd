-- `seal::place_top` meets its contract. Assumes nothing.
use native.Mathlib.Omega.{arith}
use Rattle.header.proofs.Segments.{known_bytes}
use Rattle.seal.proofs.Folded.{topped_by}
use Rattle.seal.proofs.Rooms.{base_room, top_fits, work_room}
use Rattle.seal.proofs.place_top.Goals as goal

pub overflow_mul-start : goal.overflow_mul-start
overflow_mul-start c = omega (arith, base_room _ _ c.requires.0 c.top_start.ensures)

pub overflow_add-start : goal.overflow_add-start
overflow_add-start c = omega (arith, base_room _ _ c.requires.0 c.top_start.ensures)

pub overflow_mul-at : goal.overflow_mul-at
overflow_mul-at c = omega (arith, top_fits _ _ _ _ _ c.requires.0 c.requires.1 c.top_start.ensures c.top_count-n.ensures c.read_u64-capacity.ensures)

pub overflow_add-at : goal.overflow_add-at
overflow_add-at c = omega (arith, top_fits _ _ _ _ _ c.requires.0 c.requires.1 c.top_start.ensures c.top_count-n.ensures c.read_u64-capacity.ensures)

pub overflow_mul-n : goal.overflow_mul-n
overflow_mul-n c = omega (arith, top_fits _ _ _ _ _ c.requires.0 c.requires.1 c.top_start.ensures c.top_count-n.ensures c.read_u64-capacity.ensures)

pub overflow_add-start-2 : goal.overflow_add-start-2
overflow_add-start-2 c = omega (arith, top_fits _ _ _ _ _ c.requires.0 c.requires.1 c.top_start.ensures c.top_count-n.ensures c.read_u64-capacity.ensures)

pub slice_bounds-place-end : goal.slice_bounds-place-end
slice_bounds-place-end c = omega (arith, top_fits _ _ _ _ _ c.requires.0 c.requires.1 c.top_start.ensures c.top_count-n.ensures c.read_u64-capacity.ensures)

pub place-requires : goal.place-requires
place-requires c = omega (arith, top_fits _ _ _ _ _ c.requires.0 c.requires.1 c.top_start.ensures c.top_count-n.ensures c.read_u64-capacity.ensures, work_room _ _ _ c.requires.0.is_store c.read_u64-capacity.ensures c.requires.2)

pub overflow_mul-n-2 : goal.overflow_mul-n-2
overflow_mul-n-2 c = omega (arith, top_fits _ _ _ _ _ c.requires.0 c.requires.1 c.top_start.ensures c.top_count-n.ensures c.read_u64-capacity.ensures)

pub overflow_add-at-2 : goal.overflow_add-at-2
overflow_add-at-2 c = omega (arith, top_fits _ _ _ _ _ c.requires.0 c.requires.1 c.top_start.ensures c.top_count-n.ensures c.read_u64-capacity.ensures)

pub overflow_add-left : goal.overflow_add-left
overflow_add-left c = omega (arith, top_fits _ _ _ _ _ c.requires.0 c.requires.1 c.top_start.ensures c.top_count-n.ensures c.read_u64-capacity.ensures)

pub overflow_sub-capacity : goal.overflow_sub-capacity
overflow_sub-capacity c = omega (arith, top_fits _ _ _ _ _ c.requires.0 c.requires.1 c.top_start.ensures c.top_count-n.ensures c.read_u64-capacity.ensures)

pub overflow_mul-capacity : goal.overflow_mul-capacity
overflow_mul-capacity c = omega (arith, top_fits _ _ _ _ _ c.requires.0 c.requires.1 c.top_start.ensures c.top_count-n.ensures c.read_u64-capacity.ensures)

pub clear-requires : goal.clear-requires
clear-requires c = omega (arith, top_fits _ _ _ _ _ c.requires.0 c.requires.1 c.top_start.ensures c.top_count-n.ensures c.read_u64-capacity.ensures, work_room _ _ _ c.requires.0.is_store c.read_u64-capacity.ensures c.requires.2, c.place.auto.s)

pub returns : goal.returns
returns c =
    let a = c.args in
    let s = a.s.now in
    topped_by s a.work.now a.left c.top_start.result c.top_count-n.result c.read_u64-capacity.result (known_bytes s c.type_inv.s) c.requires.0
    c.top_start.ensures c.top_count-n.ensures c.read_u64-capacity.ensures c.place.ensures c.clear.ensures
