-- The run of a call list from a place on, as far as an output goes.
use Rattle.std.specs.Prelude.{ℕ, ◌+◌, ◌*◌, ◌/◌, ◌≤◌, ◌<◌, ◌≡◌, Bool, true, false, ◌||◌, List, [], ◌∷◌, ◌++◌, leb, ltb, length, take, drop, None, Option, Some, Ok, Err}
use Rattle.std.specs.declared.result.Result.{Result}
use Rattle.image.specs.Image.{BytesCall, bytes_step, bytes_trace, bytes_final}
use Rattle.call_list.specs.Listed.{ListedCall}
use Rattle.call_list.specs.Meaning.{default_limits}
use Rattle.call_list.specs.CallList.{parsed, fault, parse_call}
use Rattle.call_list.specs.Listing.{answer_lines, answers_lines, end_line}
use Rattle.call_laws.specs.Runs.{lent_each}
use Rattle.call_progress.specs.Progress.{call_lines}
use Rattle.model.specs.declared.refusal.Refusal.{Refusal}
use Rattle.model.specs.Refusals.{refusal_number}
use Rattle.call_run.specs.declared.RunEnd.{RunEnd}
use Rattle.call_run.specs.declared.RunEnd.TheVariants.{Listed, Broken}

-- The room that a run asks for a call's lines is enough for those of every call.
abbrev pub LinesFit : Type 0
LinesFit = (b : List ℕ) (c : BytesCall) → length (answer_lines (bytes_step b c).answer) ≤ call_lines

-- A lent area is too short: the output for a call's lines, or the area for an answer's members, which a list has at most one of for each 53 bytes.
abbrev pub too_short : List ℕ → List ℕ → List ℕ → Bool
too_short list members out = ltb (length out) call_lines || ltb (length members) (length list / 53 * 85)

-- The calls that a list reads as from a place to another.
pub data CallsTo (list : List ℕ) : ℕ → ℕ → List ListedCall → Type 0 where
  no_call : {at : ℕ} → CallsTo list at at []
  call_then : {from at next : ℕ} {c : ListedCall} {cs : List ListedCall}
      → parse_call (drop from list) ≡ parsed c (drop at list) → from < at → at ≤ length list → CallsTo list at next cs → CallsTo list from next (c ∷ cs)

-- A list reads as a fault at a place: its number, and the place of its byte.
pub record FaultAt (list : List ℕ) (at n place : ℕ) : Type 0 where
  pub there : at < length list
  pub fault_is : parse_call (drop at list) ≡ fault n (drop place list)
  pub forward : at ≤ place
  pub within : place ≤ length list

-- A run from a place to another: the calls performed are those that the list reads as between the two, and the bytes are as these calls leave them.
-- The text written is the lines of their answers, and of the fault if one ended the list; the output past it is as it was.
pub record RunTo (w e : ℕ) (list : List ℕ) (from next : ℕ) (ends_with : Option ℕ) (written : ℕ) (before out after out_after : List ℕ) : Type 0 where
  pub calls : List ListedCall
  pub calls_are : CallsTo list from next calls
  pub bytes_are : after ≡ bytes_final before (lent_each default_limits w e calls)
  pub text_is : take written out_after ≡ answers_lines (bytes_trace before (lent_each default_limits w e calls)) ++ end_line ends_with
  pub rest_is : drop written out_after ≡ drop written out
  pub written_within : written ≤ length out
  pub same_length : length out_after ≡ length out

abbrev pub RunReply : Type 0
RunReply = Result RunEnd Refusal

-- A run was refused with nothing changed; or it stopped at the list's end, or before it for want of room for another call's lines; or at a fault.
abbrev pub RanAs : RunReply → ℕ → ℕ → List ℕ → ℕ → List ℕ → List ℕ → List ℕ → List ℕ → List ℕ → Type 0
RanAs (Err r) w e list from members before out after out_after = (refusal_number r ≡ 9) × (too_short list members out ≡ true) × (after ≡ before) × (out_after ≡ out)
RanAs (Ok (Listed next written ended)) w e list from members before out after out_after =
    (too_short list members out ≡ false)
    × RunTo w e list from next.at None written before out after out_after
    × (ended ≡ leb (length list) next.at)
    × (ended ≡ false → length out < written + call_lines)
RanAs (Ok (Broken n place written)) w e list from members before out after out_after =
    (too_short list members out ≡ false)
    × ((at : ℕ) × RunTo w e list from at (Some n) written before out after out_after × FaultAt list at n place.at)
