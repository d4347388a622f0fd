-- `header::begin` meets its contract. Assumes nothing.
use Prim.Native.Nat.{◌+◌, ◌*◌, ◌≤◌}
use native.Mathlib.Omega.{arith}
use lib.ListN.{length}
use Rattle.layout.specs.Layout.{record_size, records_offset}
use Rattle.image.proofs.Areas.{StoreBytes}
use Rattle.image.proofs.Lent.{store_in}
use Rattle.layers.proofs.Header.{header_room}
use Rattle.header.proofs.Segments.{known_bytes}
use Rattle.header.proofs.Begun.{begun_by}
use Rattle.header.proofs.begin.Goals as goal

pub read_u64-n-requires : goal.read_u64-n-requires
read_u64-n-requires c = omega (arith, header_room _ c.requires)

pub overflow_mul-n : goal.overflow_mul-n
overflow_mul-n c =
    let size : records_offset + record_size * c.read_u64-n.result ≤ length c.args.s.now = let z : StoreBytes c.args.s.now _ = store_in c.args.s.now c.requires in
    omega (arith, c.read_u64-n.ensures, z.capacity_word, z.long) in
    omega (arith, size)

pub overflow_add-n : goal.overflow_add-n
overflow_add-n c =
    let size : records_offset + record_size * c.read_u64-n.result ≤ length c.args.s.now = let z : StoreBytes c.args.s.now _ = store_in c.args.s.now c.requires in
    omega (arith, c.read_u64-n.ensures, z.capacity_word, z.long) in
    omega (arith, size)

pub clear-requires : goal.clear-requires
clear-requires c =
    let size : records_offset + record_size * c.read_u64-n.result ≤ length c.args.s.now = let z : StoreBytes c.args.s.now _ = store_in c.args.s.now c.requires in
    omega (arith, c.read_u64-n.ensures, z.capacity_word, z.long) in
    omega (arith, size)

pub write_anchor-requires : goal.write_anchor-requires
write_anchor-requires c = omega (arith, header_room _ c.requires, c.clear.auto.s)

pub returns : goal.returns
returns c =
    let a = c.args in
    begun_by a.s.now a.anchor _ _ _ (known_bytes c.args.s.now c.slice_known-1.given) c.requires c.read_u64-n.ensures c.clear.ensures c.write_anchor.ensures
