-- The loop of `reader::Reader::pass_members`: past the members so far, the rest of them is what the definition passes.
use Prim.Native.Nat.{◌-◌, ◌≤◌}
use mathlib.Core.Path.{◌≡◌}
use Rattle.reader.specs.Answers.{past_members}
use Rattle.reader.specs.Reading.{rest}
use Rattle.reader.proofs.Reader.pass_members.Given as goal

abbrev pub invariant-loop : goal.invariant-loop
invariant-loop l = record {
  left : past_members (l.count - l.counter) (rest l.self) ≡ past_members l.count (rest l.fn.self);
  forward : l.fn.self.at ≤ l.self.at;
  same_list : l.self.list.now ≡ l.fn.self.list.now;
}
