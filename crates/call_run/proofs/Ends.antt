-- A run from the output's beginning, and where it stopped. Assumes nothing.
use Prim.Native.Nat.{ℕ, ◌+◌, ◌≤◌, ◌<◌}
use mathlib.Core.Path.{◌≡◌, refl, ap, subst, ◌∙◌}
use mathlib.Core.Bool.{Bool}
use mathlib.Core.List.{List, append-nil}
use Rattle.std.specs.Prelude.{Option, Some, None}
use Rattle.reader.specs.declared.Fault.{Fault}
use Rattle.reader.specs.Answers.{fault_number}
use native.Mathlib.Omega.{arith}
use lib.Dec.{leb}
use lib.ListN.{length, take}
use lib.Seq.{length-take-le}
use Rattle.call_list.specs.Listed.{ListedCall}
use Rattle.call_list.specs.Meaning.{default_limits}
use Rattle.call_laws.proofs.Listing.{bytes_lines, lines_none}
use Rattle.call_progress.specs.declared.Progress.{Progress}
use Rattle.call_progress.specs.Progress.{call_lines}
use Rattle.call_run.specs.Run.{CallsTo, no_call, call_then, FaultAt, RunTo}
use Rattle.call_run.specs.Inner.{fault_met, RunOn}
use Rattle.call_run.proofs.Reached.{calls_forward}

-- Where a run begins.
abbrev pub first_at : List ℕ → ℕ → Bool → Progress
first_at list from known = record { next = from; at = 0; known = known; ended = leb (length list) from; fault = None }

-- The run that the loop makes: past calls alone, or to a fault.
module _ (w e : ℕ) (list b out : List ℕ) (from : ℕ) (known : Bool) (b1 out1 : List ℕ) (r : Progress) (u : RunOn w e list (first_at list from known) b out r b1 out1) where
  ran_to : RunTo w e list from u.to (fault_met r.fault) r.at b out b1 out1
  ran_to =
      record {
        calls = u.calls;
        calls_are = u.calls_are;
        bytes_are = u.bytes_are;
        text_is = u.text_is;
        rest_is = u.rest_is;
        written_within = omega (arith, u.now_at.room, u.same_length);
        same_length = u.same_length;
      }

  ran_so : (next : ℕ) (o : Option Fault) → u.to ≡ next → r.fault ≡ o → RunTo w e list from next (fault_met o) r.at b out b1 out1
  ran_so next o d h =
      subst (λ (y : ℕ). RunTo w e list from y (fault_met o) r.at b out b1 out1) d
      (subst (λ (x : Option Fault). RunTo w e list from u.to (fault_met x) r.at b out b1 out1) h ran_to)

  pub ran_calls : r.fault ≡ None → RunTo w e list from r.next None r.at b out b1 out1
  ran_calls h = ran_so r.next None (u.reached.whole h) h

  pub ran_broken : (f : Fault) → r.fault ≡ Some f → (at : ℕ) × RunTo w e list from at (Some (fault_number f.kind)) r.at b out b1 out1 × FaultAt list at (fault_number f.kind) f.place.at
  ran_broken f h = (u.to, ran_so u.to (Some f) refl h, (u.reached.stopped f h).1)

-- Calls that wrote something lead to a later place.
calls_past : (w e : ℕ) (b : List ℕ) {list : List ℕ} {from next : ℕ} {cs : List ListedCall} → CallsTo list from next cs → 0 < length (bytes_lines default_limits w e b cs) → from < next
calls_past w e b no_call h = absurd (omega (arith, ap length (lines_none default_limits w e b)))
calls_past w e b (call_then p k m u) h = omega (arith, calls_forward u)

-- A run that had room for a call's lines, and has none now, leads to a later place.
pub ran_forward : {w e : ℕ} {list : List ℕ} {from next written : ℕ} {b out after out_after : List ℕ}
    → RunTo w e list from next None written b out after out_after → call_lines ≤ length out → length out < written + call_lines → from < next
ran_forward {w = w} {e = e} {written = written} {b = b} {out_after = out_after} u h k =
    let n : length (take written out_after) ≡ written = length-take-le written out_after (omega (arith, u.written_within, u.same_length)) in
    let m : length (take written out_after) ≡ length (bytes_lines default_limits w e b u.calls) = ap length (u.text_is ∙ append-nil (bytes_lines default_limits w e b u.calls)) in
    calls_past w e b u.calls_are (omega arith)
