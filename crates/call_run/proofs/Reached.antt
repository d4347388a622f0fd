-- The calls from a place to another, and the place that a run's calls lead to. Assumes nothing.
use Prim.Native.Nat.{ℕ, ◌≤◌}
use mathlib.Core.Path.{◌≡◌, refl, sym, ap, subst, ◌∙◌}
use mathlib.Core.Bool.{true, false, true≢false}
use mathlib.Core.List.{List, [], ◌++◌}
use Rattle.std.specs.Prelude.{Option, Some, None}
use Rattle.reader.specs.declared.Fault.{Fault}
use Rattle.reader.specs.Answers.{fault_number}
use native.Mathlib.Omega.{arith}
use Rattle.call_list.specs.Listed.{ListedCall}
use Rattle.call_list.specs.Listing.{end_line}
use Rattle.call_progress.specs.declared.Progress.{Progress}
use Rattle.call_run.specs.Run.{CallsTo, no_call, call_then, FaultAt}
use Rattle.call_run.specs.Inner.{fault_met, Reached}

-- Calls after calls.
pub calls_then : {list : List ℕ} {from mid to : ℕ} {cs ds : List ListedCall} → CallsTo list from mid cs → CallsTo list mid to ds → CallsTo list from to (cs ++ ds)
calls_then no_call v = v
calls_then (call_then e h k u) v = call_then e h k (calls_then u v)

-- They lead on.
pub calls_forward : {list : List ℕ} {from to : ℕ} {cs : List ListedCall} → CallsTo list from to cs → from ≤ to
calls_forward no_call = omega arith
calls_forward (call_then e h k u) = omega (arith, calls_forward u)

-- A fault was met or not.
not_both : {P : Type 0} {o : Option Fault} {f : Fault} → o ≡ None → o ≡ Some f → P
not_both h e = let z : ◌≡◌ {A = ℕ} 0 1 = cc in absurd (omega arith)

-- The place of the next call, with no fault met.
pub reached_next : (list : List ℕ) (t : Progress) → t.fault ≡ None → Reached list t.next t
reached_next list t h = record { whole = λ e. refl; stopped = λ f e. not_both h e }

pub no_end : (t : Progress) → t.fault ≡ None → end_line (fault_met t.fault) ≡ []
no_end t h = ap (λ o. end_line (fault_met o)) h

-- A fault.
pub reached_fault : (list : List ℕ) (to : ℕ) (t : Progress) (f : Fault) → FaultAt list to (fault_number f.kind) f.place.at → t.ended ≡ true → t.fault ≡ Some f → Reached list to t
reached_fault list to t f h d b =
    record {
      whole = λ e. not_both e b;
      stopped = λ g e. let q : f ≡ g = cc in (d, subst (λ (x : Fault). FaultAt list to (fault_number x.kind) x.place.at) q h);
    }

-- A run that has not ended has met no fault.
pub no_fault : {list : List ℕ} {to : ℕ} (t : Progress) → Reached list to t → t.ended ≡ false → t.fault ≡ None
no_fault {list} {to} t u h = by t.fault refl
  where
    by : (o : Option Fault) → t.fault ≡ o → t.fault ≡ None
    by None e = e
    by (Some f) e = absurd (true≢false (sym (u.stopped f e).0 ∙ h))
