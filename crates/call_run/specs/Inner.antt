-- What the contracts of the functions inside a run say.
use Rattle.std.specs.Prelude.{ℕ, ◌≤◌, ◌≡◌, true, List, ◌++◌, leb, length, take, drop, Some, None, Option, is_some}
use Rattle.image.specs.Image.{decode, bytes_trace, bytes_final}
use Rattle.call_list.specs.Listed.{ListedCall}
use Rattle.call_list.specs.Meaning.{default_limits}
use Rattle.call_list.specs.Listing.{answers_lines, end_line}
use Rattle.call_laws.specs.Runs.{lent_each}
use Rattle.reader.specs.declared.Fault.{Fault}
use Rattle.reader.specs.Answers.{fault_number}
use Rattle.call_progress.specs.declared.Progress.{Progress}
use Rattle.call_run.specs.Run.{CallsTo, FaultAt}

-- Where a run is: the bytes are a store or not, the place of the next call, and the room that is left.
pub record RunAt (t : Progress) (list b out : List ℕ) : Type 0 where
  pub known_is : t.known ≡ is_some (decode b)
  pub ended_is : t.ended ≡ leb (length list) t.next
  pub room : t.at ≤ length out

-- The fault that ended the list, if one did.
abbrev pub fault_met : Option Fault → Option ℕ
fault_met None = None
fault_met (Some f) = Some (fault_number f.kind)

-- The place that a run's calls lead to: that of the next call, or of the fault that ended the list.
pub record Reached (list : List ℕ) (to : ℕ) (t : Progress) : Type 0 where
  pub whole : t.fault ≡ None → to ≡ t.next
  pub stopped : (f : Fault) → t.fault ≡ Some f → (t.ended ≡ true) × FaultAt list to (fault_number f.kind) f.place.at

-- Calls of a run, from one place to another: what they left, the text that was written at its place, and where the run is now.
pub record RunOn (w e : ℕ) (list : List ℕ) (t : Progress) (before out : List ℕ) (r : Progress) (after out_after : List ℕ) : Type 0 where
  pub to : ℕ
  pub calls : List ListedCall
  pub calls_are : CallsTo list t.next to calls
  pub reached : Reached list to r
  pub bytes_are : after ≡ bytes_final before (lent_each default_limits w e calls)
  pub text_is : drop t.at (take r.at out_after) ≡ answers_lines (bytes_trace before (lent_each default_limits w e calls)) ++ end_line (fault_met r.fault)
  pub now_at : RunAt r list after out_after
  pub same_length : length out_after ≡ length out
  pub further : t.at ≤ r.at
  pub before_is : take t.at out_after ≡ take t.at out
  pub rest_is : drop r.at out_after ≡ drop r.at out
