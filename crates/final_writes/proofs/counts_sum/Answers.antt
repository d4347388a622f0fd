-- `final_writes::counts_sum` meets its contract. Assumes nothing.
use mathlib.Core.Path.{◌≡◌, sym, ap}
use mathlib.Core.List.{List}
use Prim.Native.Nat.{ℕ, ◌*◌, ◌/◌, ◌≤◌}
use native.Mathlib.Omega.{arith}
use lib.ListN.{length, drop}
use borrow.Author.Tests.{ne_eqb}
use Rattle.model.specs.Entries.{number_at}
use Rattle.words.proofs.Places.{entry_fits}
use Rattle.entries.specs.Lists.{all_entries}
use Rattle.entries.proofs.Lists.{none_left}
use Rattle.entries.proofs.Numbers.{number_in}
use Rattle.bal_entries.specs.Listed.{sum}
use Rattle.final_writes.proofs.Agreeing.{sum_at, eqb_both}
use Rattle.final_writes.proofs.counts_sum.Goals as goal

ended : (rd : List ℕ → ℕ) (w i : ℕ) (l : List ℕ) → length l / w ≤ i → sum (drop i (all_entries rd w l)) ≡ 0
unfolding sum
ended rd w i l h = ap sum (none_left rd w (length l / w) i l h)

pub overflow_mul-i : goal.overflow_mul-i
overflow_mul-i c = omega (arith, entry_fits c.args.width c.loop-i.i (length c.args.list.now) (omega arith))

pub overflow_add-i : goal.overflow_add-i
overflow_add-i c = omega (arith, entry_fits c.args.width c.loop-i.i (length c.args.list.now) (omega arith))

pub read_u64-count-requires : goal.read_u64-count-requires
read_u64-count-requires c = omega (arith, entry_fits c.args.width c.loop-i.i (length c.args.list.now) (omega arith))

pub returns-then-left-count : goal.returns-then-left-count
returns-then-left-count c =
    let l = c.loop-i in
    let a = c.args in
    let said = sum_at (number_at a.at 8) a.width l.i (length a.list.now / a.width) a.list.now (omega arith) in
    sym (ne_eqb (sum (all_entries (number_at a.at 8) a.width a.list.now)) a.total (λ e. omega (arith, e, said, number_in a.at (l.i * a.width) 8 a.list.now, c.read_u64-count.ensures, l.invariant)))

pub loop-i-preserved : goal.loop-i-preserved
loop-i-preserved c =
    let l = c.loop-i in
    let a = c.args in
    let said = sum_at (number_at a.at 8) a.width l.i (length a.list.now / a.width) a.list.now (omega arith) in
    omega (arith, said, number_in a.at (l.i * a.width) 8 a.list.now, c.read_u64-count.ensures, l.invariant)

pub returns : goal.returns
returns c =
    let l = c.loop-i in
    let a = c.args in
    let e : sum (drop l.i (all_entries (number_at a.at 8) a.width a.list.now)) ≡ 0 = ended (number_at a.at 8) a.width l.i a.list.now (omega arith) in
    eqb_both l.left 0 (sum (all_entries (number_at a.at 8) a.width a.list.now)) a.total (λ h. omega (arith, h, e, l.invariant)) (λ h. omega (arith, h, e, l.invariant))
