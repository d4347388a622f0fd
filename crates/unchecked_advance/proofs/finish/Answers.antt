-- `unchecked_advance::finish` meets its contract. Assumes nothing.
use Prim.Native.Nat.{◌+◌, ◌*◌, ◌≤◌}
use native.Mathlib.Omega.{arith}
use borrow.Author.Rules.{rules}
use lib.ListN.{length}
use Rattle.layout.specs.Layout.{record_size, records_offset}
use Rattle.header.proofs.Segments.{known_bytes}
use Rattle.unchecked_advance.proofs.Finished.{seeded_full, seeded_done, size_fits, size_in, finish_full, counts_before, finish_done}
use Rattle.unchecked_advance.proofs.finish.Goals as goal

pub seed_final_writes-seeded-requires : goal.seed_final_writes-seeded-requires
seed_final_writes-seeded-requires c = c.requires.0.installed

pub returns-in_default : goal.returns-in_default
returns-in_default c =
    let a = c.args in
    finish_full a.s.now a.work.now a.addresses.now a.writes.now a.out.now a.outcome a.compaction c.requires.0 (seeded_full _ _ _ _ _ c.seed_final_writes-seeded.ensures c.in_default.is)

pub count_after-counted-requires : goal.count_after-counted-requires
count_after-counted-requires c =
    let a = c.args in
    let t = seeded_done _ _ _ _ _ _ c.seed_final_writes-seeded.ensures c.in-Some.is in
    (record { installed = (t.installed, c.requires.1); counts_before = counts_before a.s.now a.work.now a.addresses.now a.writes.now a.out.now a.outcome a.compaction c.requires.0 _ _ (known_bytes _ (search rules)) t _ c.requires.2 }
    )

pub overflow_mul-n : goal.overflow_mul-n
overflow_mul-n c = omega (arith, size_fits c.args.s.now c.args.work.now _ c.requires.0 c.read_u64.ensures)

pub overflow_add-n : goal.overflow_add-n
overflow_add-n c = omega (arith, size_fits c.args.s.now c.args.work.now _ c.requires.0 c.read_u64.ensures)

pub copy_back-requires : goal.copy_back-requires
copy_back-requires c =
    let fits : (records_offset + record_size * c.read_u64.result ≤ length c.args.s.now) × (c.read_u64.result ≤ 4096) = size_fits c.args.s.now c.args.work.now _ c.requires.0 c.read_u64.ensures in
    (size_in c.args.s.now c.args.work.now _ _ _ _ c.requires.0 (seeded_done _ _ _ _ _ _ c.seed_final_writes-seeded.ensures c.in-Some.is) c.read_u64.ensures, fits.0)

pub returns : goal.returns
returns c =
    let a = c.args in
    finish_done a.s.now a.work.now a.addresses.now a.writes.now a.out.now a.outcome a.compaction c.requires.0 _ _ (known_bytes _ (search rules)) (seeded_done _ _ _ _ _ _ c.seed_final_writes-seeded.ensures c.in-Some.is) _ _ _ _ (known_bytes a.writes.now c.type_inv.writes) c.read_u64.ensures c.copy_back.ensures c.count_after-counted.ensures.0 c.count_after-counted.ensures.1
