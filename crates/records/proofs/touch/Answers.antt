-- `records::touch` meets its contract. Assumes nothing.
use Rattle.std.specs.Prelude.{Err, Ok}
use borrow.Author.Rules.{rules}
use mathlib.Core.Path.{◌≡◌, subst, ◌∙◌}
use Prim.Native.Nat.{◌+◌, ◌*◌, ◌≤◌, ◌<◌}
use native.Mathlib.Omega.{arith}
use lib.ListN.{length}
use Rattle.layout.specs.Layout.{record_size}
use Rattle.model.specs.declared.delta_snapshot.Content.{Content}
use Rattle.model.specs.Contents.{use_only}
use Rattle.model.specs.Layers.{insert}
use Rattle.image.specs.Area.{records_of}
use Rattle.records.specs.Records.{Holds}
use Rattle.records.proofs.Settled.{at_lt, at_room, absent_at_most, absent_room, held_absent, touch_word, touch_count, touch_absent}
use Rattle.records.proofs.touch.Goals as goal

pub overflow_mul-i : goal.overflow_mul-i
overflow_mul-i c =
    let at_i : let i = c.in-Ok.i in (i < c.args.n) × (c.args.n * record_size ≤ length c.args.s.now) = let i = c.in-Ok.i in
    let e : c.args.place ≡ Ok i = search rules in
    (at_lt c.args.place c.args.slot c.args.n c.args.s.now c.requires i e, at_room c.args.place c.args.slot c.args.n c.args.s.now c.requires i e) in
    omega (arith, at_i.0, at_i.1)

pub overflow_add-i : goal.overflow_add-i
overflow_add-i c =
    let at_i : let i = c.in-Ok.i in (i < c.args.n) × (c.args.n * record_size ≤ length c.args.s.now) = let i = c.in-Ok.i in
    let e : c.args.place ≡ Ok i = search rules in
    (at_lt c.args.place c.args.slot c.args.n c.args.s.now c.requires i e, at_room c.args.place c.args.slot c.args.n c.args.s.now c.requires i e) in
    omega (arith, at_i.0, at_i.1)

pub write_u64-requires : goal.write_u64-requires
write_u64-requires c =
    let at_i : let i = c.in-Ok.i in (i < c.args.n) × (c.args.n * record_size ≤ length c.args.s.now) = let i = c.in-Ok.i in
    let e : c.args.place ≡ Ok i = search rules in
    (at_lt c.args.place c.args.slot c.args.n c.args.s.now c.requires i e, at_room c.args.place c.args.slot c.args.n c.args.s.now c.requires i e) in
    omega (arith, at_i.0, at_i.1)

pub insert_entry-requires : goal.insert_entry-requires
insert_entry-requires c =
    let a = c.args in
    let i = c.in-Err.i in
    let e : a.place ≡ Err i = search rules in
    (omega arith, (absent_at_most a.place a.slot a.n a.s.now c.requires i e, absent_room a.place a.slot a.n a.s.now c.requires i e))

pub overflow_add-result : goal.overflow_add-result
overflow_add-result c =
    let a = c.args in
    let i = c.in-Err.i in
    let e : a.place ≡ Err i = search rules in
    omega (arith, absent_room a.place a.slot a.n a.s.now c.requires i e)

pub returns-in-Ok : goal.returns-in-Ok
returns-in-Ok c =
    let a = c.args in
    let i = c.in-Ok.i in
    let e : a.place ≡ Ok i = search rules in
    record { count_is = touch_count a.place a.slot a.n a.s.now c.requires i a.used e; bytes_are = c.write_u64.ensures ∙ touch_word a.place a.slot a.n a.s.now c.requires i a.used e }

pub returns-in-Err : goal.returns-in-Err
returns-in-Err c =
    let a = c.args in
    let s = a.s.now in
    let i = c.in-Err.i in
    let e : a.place ≡ Err i = search rules in
    subst (λ (x : Content). Holds (a.n + 1) c.insert_entry.new.s (insert a.slot x (records_of a.n s)) s)
    (touch_absent a.place a.slot a.n s c.requires i a.used e) (held_absent a.place a.slot a.n s c.requires i (use_only a.used) e c.content_words.ensures c.insert_entry.ensures)
