-- `reader::Reader::pass_members` meets its contract. Assumes nothing.
use Prim.Native.Nat.{ℕ, suc, ◌+◌, ◌-◌}
use mathlib.Core.Path.{◌≡◌, sym, ap, ◌∙◌}
use native.Mathlib.Omega.{arith}
use Rattle.call_list.specs.CallList.{then}
use Rattle.reader.specs.Answers.{past_members}
use Rattle.reader.specs.Reading.{rest}
use Rattle.reader.proofs.Chain.{reads_stop, reads_on}
use Rattle.reader.proofs.Runs.{past_turn}
use Rattle.reader.proofs.Reader.pass_members.Goals as goal

pub loop-preserved : goal.loop-preserved
loop-preserved c =
    let l = c.loop in
    let i = l.invariant in
    let v = c.in_ok-pass_member.ensures in
    let j = c.args.count - (l.counter + 1) in
    let e : c.args.count - l.counter ≡ suc j = omega arith in
    record {
      left = ap (λ q. then q (λ z r. past_members j r)) v.means ∙ sym (past_turn (c.args.count - l.counter) j (rest l.self) e) ∙ i.left;
      forward = omega (arith, i.forward, v.forward);
      same_list = v.same_list ∙ i.same_list;
    }

pub returns-in_err-pass_member : goal.returns-in_err-pass_member
returns-in_err-pass_member c =
    let l = c.loop in
    let i = l.invariant in
    let j = c.args.count - (l.counter + 1) in
    let e : c.args.count - l.counter ≡ suc j = omega arith in
    reads_on {mid = l.self} (sym (past_turn (c.args.count - l.counter) j (rest l.self) e) ∙ i.left) i.forward i.same_list
    (reads_stop (λ z r. past_members j r) c.from_residual.result c.from_residual.ensures.1 c.in_err-pass_member.ensures)

pub returns : goal.returns
unfolding past_members
returns c =
    let l = c.loop in
    let e : c.args.count - l.counter ≡ 0 = omega arith in
    record { means = ap (λ (k : ℕ). past_members k (rest l.self)) (sym e) ∙ l.invariant.left; forward = l.invariant.forward; same_list = l.invariant.same_list }
