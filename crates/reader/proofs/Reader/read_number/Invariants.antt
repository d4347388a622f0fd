-- The loop of `reader::Reader::read_number`: what it keeps, and its measure.
use Prim.Native.Nat.{◌-◌, ◌^◌, ◌≤◌, ◌<◌}
use mathlib.Core.Path.{◌≡◌}
use Rattle.call_list.specs.CallList.{number_from, parse_number}
use Rattle.reader.specs.Reading.{rest}
use Rattle.reader.proofs.Reader.read_number.Given as goal

abbrev pub invariant-loop-groups_left : goal.invariant-loop-groups_left
invariant-loop-groups_left l = record {
  few : l.groups_left ≤ 9;
  worth : l.worth ≡ 128 ^ (9 - l.groups_left);
  below : l.sum < l.worth;
  left : number_from l.groups_left l.worth l.sum (rest l.self) ≡ parse_number (rest l.fn.self);
  forward : l.fn.self.at ≤ l.self.at;
  same_list : l.self.list.now ≡ l.fn.self.list.now;
}

abbrev pub decreases-loop-groups_left : goal.decreases-loop-groups_left
decreases-loop-groups_left l = l.groups_left
