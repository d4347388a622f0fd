-- `reader::Reader::read_number` meets its contract. Assumes nothing.
use Prim.Native.Nat.{ℕ, ◌+◌, ◌-◌, ◌^◌, ◌<◌}
use mathlib.Core.Path.{◌≡◌, sym, ap, ◌∙◌}
use native.Mathlib.Omega.{arith}
use Rattle.reader.proofs.Groups.{group_more, worth_more, worth_fits, group_fits}
use Rattle.reader.proofs.Reader.read_number.Goals as goal

pub overflow_mul-result : goal.overflow_mul-result
overflow_mul-result c = let l = c.loop-groups_left in omega (arith, worth_fits (9 - l.groups_left) l.worth l.invariant.worth (omega arith), group_fits l.worth c.from-b.result c.if-b-lt128.true)

pub overflow_add-result : goal.overflow_add-result
overflow_add-result c = let l = c.loop-groups_left in omega (arith, worth_fits (9 - l.groups_left) l.worth l.invariant.worth (omega arith), group_fits l.worth c.from-b.result c.if-b-lt128.true)

pub overflow_mul-sum : goal.overflow_mul-sum
overflow_mul-sum c =
    let l = c.loop-groups_left in
    let b : c.from-b.result - 128 < 128 = omega arith in
    omega (arith, worth_fits (9 - l.groups_left) l.worth l.invariant.worth (omega arith), group_fits l.worth (c.from-b.result - 128) b)

pub overflow_add-sum : goal.overflow_add-sum
overflow_add-sum c =
    let l = c.loop-groups_left in
    let b : c.from-b.result - 128 < 128 = omega arith in
    omega (arith, worth_fits (9 - l.groups_left) l.worth l.invariant.worth (omega arith), group_fits l.worth (c.from-b.result - 128) b)

pub overflow_mul-worth : goal.overflow_mul-worth
overflow_mul-worth c = let l = c.loop-groups_left in omega (arith, worth_fits (9 - l.groups_left) l.worth l.invariant.worth (omega arith))

pub loop-groups_left-preserved : goal.loop-groups_left-preserved
loop-groups_left-preserved c =
    let l = c.loop-groups_left in
    let i = l.invariant in
    let b : c.from-b.result - 128 < 128 = omega arith in
    let e : 9 - l.groups_left + 1 ≡ 9 - (l.groups_left - 1) = omega arith in
    record {
      few = omega arith;
      worth = worth_more (9 - l.groups_left) l.worth i.worth ∙ ap (λ (k : ℕ). 128 ^ k) e;
      below = omega (arith, group_fits l.worth (c.from-b.result - 128) b);
      left = sym (group_more l.groups_left (l.groups_left - 1) l.worth l.sum c.from-b.result (omega arith) c.in_ok-peek.ensures.1 c.from-b.ensures c.if-b-lt128.false) ∙ i.left;
      forward = omega arith;
      same_list = i.same_list;
    }
