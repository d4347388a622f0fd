-- `digits::fill_decimal` meets its contract. Assumes nothing.
use borrow.Author.Rules.{rules}
use Prim.Native.Nat.{ℕ, ◌≤◌, ◌<◌, ◌-◌}
use mathlib.Core.Path.{ap, ◌∙◌}
use mathlib.Core.List.{List}
use native.Mathlib.Omega.{arith}
use lib.ListN.{length, set, length-set, drop_of_length-le}
use Rattle.call_list.specs.Listing.{decimal_from}
use Rattle.digits.proofs.Digits.{decimal_step, decimal_end, tenth_fits, two_digits, digits_part}
use Rattle.digits.proofs.fill_decimal.Goals as goal

pub loop-rest-init : goal.loop-rest-init
loop-rest-init c =
    let b : List ℕ = c.args.buffer.now in
    let h : length b ≤ 20 = omega arith in (
      search rules,
      search rules,
      search rules,
      search rules,
      ap (decimal_from 20 c.args.n) (drop_of_length-le b h),
    )

pub loop-rest-preserved : goal.loop-rest-preserved
loop-rest-preserved c =
    let l = c.loop-rest in
    let t : 10 ≤ l.rest = omega arith in
    let p : 1 < l.k = two_digits l.k l.rest l.invariant.2 t in (
      omega arith,
      omega arith,
      tenth_fits l.k (l.k - 1) l.rest (omega arith) l.invariant.2,
      simp length-set l.invariant.3,
      decimal_step l.k (l.k - 1) c.digit.result l.rest l.buffer (omega arith) (omega arith) t c.digit.ensures ∙ l.invariant.4,
    )

pub returns : goal.returns
returns c =
    let l = c.loop-rest in
    digits_part (l.k - 1) 20 (set l.buffer (l.k - 1) c.digit-2.result) (simp length-set (omega arith))
    ∙ decimal_end l.k (l.k - 1) c.digit-2.result l.rest l.buffer (omega arith) (omega arith) (omega arith) c.digit-2.ensures
    ∙ l.invariant.4
