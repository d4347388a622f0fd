-- `call_run::run` meets its contract. Assumes nothing.
use Prim.Native.Nat.{◌/◌}
use mathlib.Core.Path.{◌≡◌, refl, sym, ◌∙◌}
use mathlib.Core.Bool.{false}
use native.Mathlib.Omega.{arith}
use lib.ListN.{length}
use Rattle.call_run.specs.Run.{too_short}
use Rattle.call_run.proofs.Room.{long_enough}
use Rattle.call_run.proofs.Ends.{ran_calls, ran_broken}
use Rattle.call_run.proofs.run.Goals as goal

pub returns-then-too_short : goal.returns-then-too_short
returns-then-too_short c = (refl, sym c.too_short.ensures ∙ c.if-too_short.true, refl, refl)

pub run_calls-last-requires : goal.run_calls-last-requires
run_calls-last-requires c =
    let long : let a = c.args in
    too_short a.list.now a.members.now a.out.now ≡ false = sym c.too_short.ensures ∙ c.if-too_short.false in
    let a = c.args in
    (record { known_is = c.is_store.ensures; ended_is = refl; room = omega arith }, refl, (long_enough a.list.now a.members.now a.out.now long).1)

pub returns-in-Some : goal.returns-in-Some
returns-in-Some c =
    let long : let a = c.args in
    too_short a.list.now a.members.now a.out.now ≡ false = sym c.too_short.ensures ∙ c.if-too_short.false in
    let a = c.args in
    rw c.from.ensures (
      long,
      ran_broken (length a.work.now) (length a.entries.now / 52) a.list.now a.s.now a.out.now a.from.at c.is_store.result _ _ c.run_calls-last.result
          c.run_calls-last.ensures.run c.in-Some.fault c.in-Some.is,
    )

pub returns : goal.returns
returns c =
    let long : let a = c.args in
    too_short a.list.now a.members.now a.out.now ≡ false = sym c.too_short.ensures ∙ c.if-too_short.false in
    let a = c.args in (
      long,
      ran_calls (length a.work.now) (length a.entries.now / 52) a.list.now a.s.now a.out.now a.from.at c.is_store.result _ _ c.run_calls-last.result
          c.run_calls-last.ensures.run c.in_default.is,
      c.run_calls-last.ensures.run.now_at.ended_is,
      c.run_calls-last.ensures.room,
    )
