-- Where a run of a call list is after a call and after a fault, and whether it goes on.
use Rattle.std.specs.Prelude.{ℕ, ◌-◌, Bool, true, not, ◌&&◌, List, leb, length, Some, None, Ok, Err}
use Rattle.reader.specs.declared.Fault.{Fault}
use Rattle.call_answers.specs.declared.CallAnswer.TheVariants.{Open, AnchorSame, AnchorFresh, Advance, Value, Nothing, Put, Wait, Take, Answer}
use Rattle.call_answers.specs.Answers.{CallReply}
use Rattle.call_progress.specs.declared.Progress.{Progress}

-- The room that a run asks for a call's lines: 197 bytes, and 110 for each of the 64 slots that a take lists at most.
abbrev pub call_lines : ℕ
call_lines = 7237

-- Whether the bytes are a store after a call: an accepted open makes them one, and every other call leaves that as it was.
abbrev pub store_after : Bool → CallReply → Bool
store_after known (Err e) = known
store_after known (Ok Open) = true
store_after known (Ok AnchorSame) = known
store_after known (Ok AnchorFresh) = known
store_after known (Ok (Advance r)) = known
store_after known (Ok (Value v)) = known
store_after known (Ok Nothing) = known
store_after known (Ok Put) = known
store_after known (Ok (Wait n)) = known
store_after known (Ok (Take n)) = known
store_after known (Ok (Answer m e w)) = known

-- After a call: its reply, the place of the next call, and that of the next line.
abbrev pub called_at : List ℕ → Progress → CallReply → ℕ → ℕ → Progress
called_at list t r next at =
    record { next = next; at = at; known = store_after t.known r; ended = leb (length list) next; fault = None }

-- After a fault, which ends the list, and the place of the next line.
abbrev pub broken_at : List ℕ → Progress → Fault → ℕ → Progress
broken_at list t f at = record { next = length list; at = at; known = t.known; ended = true; fault = Some f }

-- A run goes on where the list has not ended and the output has room for the lines of another call.
abbrev pub goes_on : Progress → List ℕ → Bool
goes_on t out = not t.ended && leb call_lines (length out - t.at)
