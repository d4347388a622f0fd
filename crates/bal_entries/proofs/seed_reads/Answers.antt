-- `bal_entries::seed_reads` meets its contract. Assumes nothing.
use mathlib.Core.Path.{subst, ◌≡◌}
use mathlib.Core.Bool.{cond}
use Prim.Native.Nat.{ℕ, ◌+◌, ◌*◌}
use native.Mathlib.Omega.{arith}
use lib.ListN.{drop}
use lib.Dec.{ltb}
use Rattle.std.proofs.lemmas.Grind.{common_steps}
use Rattle.model.specs.declared.delta_snapshot.Slot.{Slot}
use Rattle.model.specs.Entries.{slot_bytes, u256_at}
use Rattle.words.specs.Parts.{placed}
use Rattle.entries.proofs.Numbers.{u256_first}
use Rattle.bal_entries.specs.Walking.{ReadsSeeded}
use Rattle.bal_entries.proofs.ReadWalk.{no_reads_seeded, read_seeded}
use Rattle.bal_entries.proofs.seed_reads.Goals as goal

pub loop-i-init : goal.loop-i-init
loop-i-init c =
    let a = c.args in
    no_reads_seeded a.address a.reads.now a.most a.from a.found a.out.now

pub loop-i-preserved : goal.loop-i-preserved
loop-i-preserved c =
    let l = c.loop-i in
    let a = c.args in
    let the_read : Slot = record { address = a.address; index = u256_at 0 (drop ((a.from + l.i) * 32) a.reads.now) } in
    let out_is : c.if-found-i.out ≡ cond (ltb (a.found + l.i) a.most) (placed ((a.found + l.i) * 52) (slot_bytes the_read) l.out) l.out =
    grind (arith, common_steps, u256_first ((a.from + l.i) * 32) a.reads.now) in
    read_seeded a.address a.reads.now a.most a.from a.found a.out.now l.i l.out c.if-found-i.out (omega arith) l.invariant out_is

pub returns : goal.returns
returns c =
    let l = c.loop-i in
    let a = c.args in
    let e : l.i ≡ a.count = omega arith in
    subst (λ (n : ℕ). ReadsSeeded a.address a.reads.now a.most a.from n a.found a.out.now l.out) e l.invariant
