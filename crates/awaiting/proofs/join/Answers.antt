-- `awaiting::join` meets its contract.
use borrow.Author.Rules.{rules}
use native.Mathlib.Omega.{arith}
use mathlib.Core.Path.{◌≡◌, sym, ap, ◌∙◌}
use Prim.Native.Nat.{◌<◌}
use Rattle.model.specs.Reads.{Pending}
use Rattle.image.specs.Area.{pending_of}
use Rattle.awaiting.proofs.Places.{pending_at, FoundAt, AbsentAt, found, absent}
use Rattle.awaiting.proofs.Awaits.{length_pending_of, pending_is}
use Rattle.awaiting.proofs.Changes.{waiters_le, absent_length, joined_found, joined_absent}
use Rattle.awaiting.proofs.join.Goals as goal

pub waiters_at-w-requires : goal.waiters_at-w-requires
waiters_at-w-requires c =
    let seen : FoundAt c.args.slot (pending_of c.args.n c.args.s.now) c.in-Ok.i = found (pending_of c.args.n c.args.s.now) c.args.slot c.in-Ok.i (sym c.find.ensures ∙ search rules) in
    let within : c.in-Ok.i < c.args.n = omega (arith, seen.inside, length_pending_of c.args.n c.args.s.now) in
    omega (arith, within, c.requires.0.few, c.requires.0.area)

pub overflow_mul-i : goal.overflow_mul-i
overflow_mul-i c =
    let seen : FoundAt c.args.slot (pending_of c.args.n c.args.s.now) c.in-Ok.i = found (pending_of c.args.n c.args.s.now) c.args.slot c.in-Ok.i (sym c.find.ensures ∙ search rules) in
    let within : c.in-Ok.i < c.args.n = omega (arith, seen.inside, length_pending_of c.args.n c.args.s.now) in
    omega (arith, within)

pub overflow_add-i : goal.overflow_add-i
overflow_add-i c =
    let seen : FoundAt c.args.slot (pending_of c.args.n c.args.s.now) c.in-Ok.i = found (pending_of c.args.n c.args.s.now) c.args.slot c.in-Ok.i (sym c.find.ensures ∙ search rules) in
    let within : c.in-Ok.i < c.args.n = omega (arith, seen.inside, length_pending_of c.args.n c.args.s.now) in
    omega (arith, within)

pub overflow_add-w : goal.overflow_add-w
overflow_add-w c =
    let seen : FoundAt c.args.slot (pending_of c.args.n c.args.s.now) c.in-Ok.i = found (pending_of c.args.n c.args.s.now) c.args.slot c.in-Ok.i (sym c.find.ensures ∙ search rules) in
    let within : c.in-Ok.i < c.args.n = omega (arith, seen.inside, length_pending_of c.args.n c.args.s.now) in
    let i = c.in-Ok.i in
    let q = pending_of c.args.n c.args.s.now in
    let e : c.waiters_at-w.result ≡ (pending_at i q).waiters = c.waiters_at-w.ensures ∙ ap (λ (w : Pending). w.waiters) (sym (pending_is c.args.n i c.args.s.now within)) in
    omega (arith, e, waiters_le q i seen.inside, c.requires.0.waiters_fit)

pub write_u64-requires : goal.write_u64-requires
write_u64-requires c =
    let seen : FoundAt c.args.slot (pending_of c.args.n c.args.s.now) c.in-Ok.i = found (pending_of c.args.n c.args.s.now) c.args.slot c.in-Ok.i (sym c.find.ensures ∙ search rules) in
    let within : c.in-Ok.i < c.args.n = omega (arith, seen.inside, length_pending_of c.args.n c.args.s.now) in
    omega (arith, within, c.requires.0.few, c.requires.0.area)

pub insert_entry-requires : goal.insert_entry-requires
insert_entry-requires c =
    let gap : AbsentAt c.args.slot (pending_of c.args.n c.args.s.now) c.in-Err.i = absent (pending_of c.args.n c.args.s.now) c.args.slot c.in-Err.i (sym c.find.ensures ∙ search rules) in
    let q = pending_of c.args.n c.args.s.now in
    let f = gap in
    let l = length_pending_of c.args.n c.args.s.now in
    (omega arith, (omega (arith, f.within), omega (arith, absent_length c.args.slot q _ f, c.requires.1, c.requires.0.area)))

pub returns-in-Ok : goal.returns-in-Ok
returns-in-Ok c =
    let seen : FoundAt c.args.slot (pending_of c.args.n c.args.s.now) c.in-Ok.i = found (pending_of c.args.n c.args.s.now) c.args.slot c.in-Ok.i (sym c.find.ensures ∙ search rules) in
    joined_found c.args.n c.in-Ok.i c.args.slot c.args.s.now c.requires.0 c.waiters_at-w.result seen c.waiters_at-w.ensures c.write_u64.ensures

pub returns-in-Err : goal.returns-in-Err
returns-in-Err c =
    let gap : AbsentAt c.args.slot (pending_of c.args.n c.args.s.now) c.in-Err.i = absent (pending_of c.args.n c.args.s.now) c.args.slot c.in-Err.i (sym c.find.ensures ∙ search rules) in
    joined_absent c.args.n c.in-Err.i c.args.slot c.args.s.now c.requires.0 gap c.insert_entry.ensures
