-- `call_run::run_calls` meets its contract. Assumes nothing.
use Prim.Native.Nat.{◌+◌, ◌/◌, ◌≤◌}
use mathlib.Core.Path.{◌≡◌, sym, ◌∙◌}
use mathlib.Core.Bool.{false}
use native.Mathlib.Omega.{arith}
use lib.Dec.{lit<}
use lib.ListN.{length}
use Rattle.call_progress.specs.Progress.{call_lines}
use Rattle.call_run.proofs.Room.{goes_on_true, goes_on_false}
use Rattle.call_run.proofs.Running.{ran_none, ran_then, same_lent}
use Rattle.call_run.proofs.run_calls.Goals as goal

pub loop-s-init : goal.loop-s-init
loop-s-init c =
    let a = c.args in
    ran_none (length a.work.now) (length a.entries.now / 52) a.list.now a.s.now a.out.now a.first c.requires.0 c.requires.1

pub goes_on-requires : goal.goes_on-requires
goes_on-requires c = c.loop-s.invariant.now_at.room

pub run_call-t-requires : goal.run_call-t-requires
run_call-t-requires c =
    let on : let l = c.loop-s in
    (l.t.ended ≡ false) × (l.t.at + call_lines ≤ length l.out) = let l = c.loop-s in
    let g = goes_on_true _ l.t.ended (length l.out) l.t.at (sym c.goes_on.ensures ∙ c.loop-s-test.true) (lit< tt) in
    (g.0, omega (arith, g.1)) in
    (c.loop-s.invariant.now_at, on.0, on.1, omega (arith, c.requires.2, c.loop-s.auto.members))

pub loop-s-smaller : goal.loop-s-smaller
loop-s-smaller c = omega (arith, c.run_call-t.ensures.forward.0, c.run_call-t.ensures.forward.1)

pub loop-s-preserved : goal.loop-s-preserved
loop-s-preserved c =
    let on : let l = c.loop-s in
    (l.t.ended ≡ false) × (l.t.at + call_lines ≤ length l.out) = let l = c.loop-s in
    let g = goes_on_true _ l.t.ended (length l.out) l.t.at (sym c.goes_on.ensures ∙ c.loop-s-test.true) (lit< tt) in
    (g.0, omega (arith, g.1)) in
    let a = c.args in
    let i = c.loop-s.auto in
    ran_then (length a.work.now) (length a.entries.now / 52) a.list.now a.s.now a.out.now a.first c.loop-s.s c.loop-s.out c.loop-s.t _ _ c.run_call-t.result
    c.loop-s.invariant on.0
    (same_lent (length a.work.now) (length c.loop-s.work) (length a.entries.now) (length c.loop-s.entries) a.list.now c.loop-s.s c.loop-s.out c.loop-s.t _ _ c.run_call-t.result i.work i.entries c.run_call-t.ensures.run)

pub shape_of-out : goal.shape_of-out
shape_of-out c = c.loop-s.invariant.same_length

pub returns : goal.returns
returns c =
    let l = c.loop-s in
    record { run = l.invariant; room = λ e. omega (arith, l.invariant.same_length, goes_on_false _ l.t.ended (length l.out) l.t.at (sym c.goes_on.ensures ∙ c.loop-s-test.false) e) }
