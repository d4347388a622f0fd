-- `records::set` meets its contract. Assumes nothing.
use Rattle.std.specs.Prelude.{Err, Ok}
use borrow.Author.Rules.{rules}
use mathlib.Core.Path.{◌≡◌}
use Prim.Native.Nat.{◌*◌, ◌≤◌, ◌<◌}
use native.Mathlib.Omega.{arith}
use lib.ListN.{length}
use Rattle.layout.specs.Layout.{record_size}
use Rattle.records.proofs.Settled.{at_lt, at_room, absent_at_most, absent_room, held_at, held_absent}
use Rattle.records.proofs.set.Goals as goal

pub overflow_mul-i : goal.overflow_mul-i
overflow_mul-i c =
    let at_i : let i = c.in-Ok.i in (i < c.args.n) × (c.args.n * record_size ≤ length c.args.s.now) = let i = c.in-Ok.i in
    let e : c.args.place ≡ Ok i = search rules in
    (at_lt c.args.place c.args.slot c.args.n c.args.s.now c.requires i e, at_room c.args.place c.args.slot c.args.n c.args.s.now c.requires i e) in
    omega (arith, at_i.0, at_i.1)

pub overflow_add-i : goal.overflow_add-i
overflow_add-i c =
    let at_i : let i = c.in-Ok.i in (i < c.args.n) × (c.args.n * record_size ≤ length c.args.s.now) = let i = c.in-Ok.i in
    let e : c.args.place ≡ Ok i = search rules in
    (at_lt c.args.place c.args.slot c.args.n c.args.s.now c.requires i e, at_room c.args.place c.args.slot c.args.n c.args.s.now c.requires i e) in
    omega (arith, at_i.0, at_i.1)

pub write_content-requires : goal.write_content-requires
write_content-requires c =
    let at_i : let i = c.in-Ok.i in (i < c.args.n) × (c.args.n * record_size ≤ length c.args.s.now) = let i = c.in-Ok.i in
    let e : c.args.place ≡ Ok i = search rules in
    (at_lt c.args.place c.args.slot c.args.n c.args.s.now c.requires i e, at_room c.args.place c.args.slot c.args.n c.args.s.now c.requires i e) in
    omega (arith, at_i.0, at_i.1)

pub insert_entry-requires : goal.insert_entry-requires
insert_entry-requires c =
    let i = c.in-Err.i in
    let e : c.args.place ≡ Err i = search rules in
    (omega arith, (absent_at_most c.args.place c.args.slot c.args.n c.args.s.now c.requires i e, absent_room c.args.place c.args.slot c.args.n c.args.s.now c.requires i e))

pub overflow_add-result : goal.overflow_add-result
overflow_add-result c =
    let a = c.args in
    let i = c.in-Err.i in
    let e : a.place ≡ Err i = search rules in
    omega (arith, absent_room a.place a.slot a.n a.s.now c.requires i e)

pub returns-in-Ok : goal.returns-in-Ok
returns-in-Ok c =
    let a = c.args in
    let i = c.in-Ok.i in
    let e : a.place ≡ Ok i = search rules in
    held_at a.place a.slot a.n a.s.now c.requires i a.c e c.write_content.ensures

pub returns-in-Err : goal.returns-in-Err
returns-in-Err c =
    let a = c.args in
    let i = c.in-Err.i in
    let e : a.place ≡ Err i = search rules in
    held_absent a.place a.slot a.n a.s.now c.requires i a.c e c.content_words.ensures c.insert_entry.ensures
