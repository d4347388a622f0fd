-- `top::touch_top` meets its contract. Assumes nothing.
use Prim.Native.Nat.{◌+◌, ◌-◌, ◌*◌, ◌≤◌}
use native.Mathlib.Omega.{arith}
use lib.ListN.{length}
use borrow.Rule.Slice.PartMut.{same_len_mid}
use Rattle.layout.specs.Layout.{record_size, records_offset}
use Rattle.layers.proofs.Header.{header_room}
use Rattle.header.proofs.Segments.{known_bytes}
use Rattle.top.proofs.Tops.{top_fits, top_ready, top_total, top_touched}
use Rattle.top.proofs.touch_top.Goals as goal

pub overflow_mul-at : goal.overflow_mul-at
overflow_mul-at c =
    let fits : records_offset + record_size * (c.top_start-start.result + c.top_count-n.result) ≤ length c.args.s.now = top_fits _ c.requires.installed _ _ c.top_start-start.ensures c.top_count-n.ensures in
    omega (arith, fits)

pub overflow_add-at : goal.overflow_add-at
overflow_add-at c =
    let fits : records_offset + record_size * (c.top_start-start.result + c.top_count-n.result) ≤ length c.args.s.now = top_fits _ c.requires.installed _ _ c.top_start-start.ensures c.top_count-n.ensures in
    omega (arith, fits)

pub slice_bounds-touch-count : goal.slice_bounds-touch-count
slice_bounds-touch-count c =
    let fits : records_offset + record_size * (c.top_start-start.result + c.top_count-n.result) ≤ length c.args.s.now = top_fits _ c.requires.installed _ _ c.top_start-start.ensures c.top_count-n.ensures in
    omega (arith, fits)

pub slice_bounds-touch-start : goal.slice_bounds-touch-start
slice_bounds-touch-start c =
    let fits : records_offset + record_size * (c.top_start-start.result + c.top_count-n.result) ≤ length c.args.s.now = top_fits _ c.requires.installed _ _ c.top_start-start.ensures c.top_count-n.ensures in
    omega (arith, fits)

pub touch-count-requires : goal.touch-count-requires
touch-count-requires c = top_ready _ c.requires.installed _ _ c.top_start-start.ensures c.top_count-n.ensures (known_bytes c.args.s.now c.slice_known-1.given) _ _ c.requires

pub overflow_add-start : goal.overflow_add-start
overflow_add-start c = omega (arith, top_total _ c.requires.installed _ _ c.top_start-start.ensures c.top_count-n.ensures (known_bytes c.args.s.now c.slice_known-1.given) _ _ _ _ _ c.requires c.touch-count.ensures)

pub write_u64-requires : goal.write_u64-requires
write_u64-requires c =
    let s = c.args.s.now in
    let at = records_offset + record_size * c.top_start-start.result in
    omega (arith, same_len_mid at (length s - at) s c.touch-count.new.s c.touch-count.auto.s, header_room s c.requires.installed.is_store)

pub returns : goal.returns
returns c =
    let a = c.args in
    top_touched a.s.now c.requires.installed _ _ c.top_start-start.ensures c.top_count-n.ensures (known_bytes c.args.s.now c.slice_known-1.given)
    a.place a.slot _ c.touch-count.result _ _ c.requires c.installed_number-number.ensures c.touch-count.ensures c.write_u64.ensures
