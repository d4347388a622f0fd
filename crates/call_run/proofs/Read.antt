-- What a call that was read, and a fault, say of the list. Assumes nothing.
use Prim.Native.Nat.{ℕ, ◌≤◌, ◌<◌}
use mathlib.Core.Path.{◌≡◌, sym, ap, ◌∙◌}
use mathlib.Core.List.{List}
use native.Mathlib.Omega.{arith}
use lib.ListN.{length, drop}
use Rattle.std.specs.Prelude.{Result, Err}
use Rattle.call_list.specs.Listed as listed
use Rattle.call_list.specs.CallList.{parse_call}
use Rattle.reader.specs.declared.FaultKind.{FaultKind}
use Rattle.reader.specs.declared.Reader.{Reader}
use Rattle.reader.specs.Answers.{fault_number}
use Rattle.reader.specs.Reading.{Reads, answer}
use Rattle.call_reader.specs.declared.ListedCall.{ListedCall}
use Rattle.call_run.specs.Run.{FaultAt}

module _ {r : Result ListedCall FaultKind} {f : ListedCall → listed.ListedCall} {before after : Reader} (h : Reads f r parse_call before after) where
  pub read_within : after.at ≤ length before.list.now
  read_within = omega (arith, after.within, ap length h.same_list)

  pub read_parse : answer f r (drop after.at before.list.now) ≡ parse_call (drop before.at before.list.now)
  read_parse = ap (λ (l : List ℕ). answer f r (drop after.at l)) (sym h.same_list) ∙ h.means

-- A fault.
pub fault_at : {k : FaultKind} {f : ListedCall → listed.ListedCall} {before after : Reader} → Reads f (Err k) parse_call before after → before.at < length before.list.now
    → FaultAt before.list.now before.at (fault_number k) after.at
fault_at h k = record { there = k; fault_is = sym (read_parse h); forward = h.forward; within = read_within h }
