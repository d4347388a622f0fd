-- A call of a call list on lent bytes: where its lists stand, and what its contract says.
use Rattle.std.specs.Prelude.{ℕ, ◌/◌, ◌≡◌, List, length}
use Rattle.model.specs.Store.{Call}
use Rattle.image.specs.Image.{BytesCall, BytesResult}
use Rattle.image.specs.Output.{output_after}
use Rattle.call_reader.specs.declared.AnchoredCall.{AnchoredCall}
use Rattle.call_reader.specs.declared.ListedCall.{ListedCall}
use Rattle.call_list.specs.Meaning.{default_limits, meaning}
use Rattle.call_reader.specs.Calls.{call_of, AnchoredWithin, CallWithin}
use Rattle.call_answers.specs.Answers.{CallReply, reply_of}

-- The lists that a call names stand within the call list.
pub record AnchoredThere (l : List ℕ) (c : AnchoredCall) : Type 0 where
  pub next : ℕ
  pub within : AnchoredWithin l next c

pub record CallThere (l : List ℕ) (c : ListedCall) : Type 0 where
  pub next : ℕ
  pub within : CallWithin l next c

-- What a call of the list asks of the store.
abbrev pub meant : List ℕ → ListedCall → Call
meant l c = meaning default_limits (call_of l c)

-- A call with a work area of w bytes and an output.
abbrev pub with_lent : Call → ℕ → List ℕ → BytesCall
with_lent c w entries = record { call = c; work_bytes = w; output_entries = length entries / 52 }

-- A call answered, and left the bytes and the output, as a result says.
pub record SteppedAs (r : CallReply) (after entries_after : List ℕ) (o : BytesResult) (entries : List ℕ) : Type 0 where
  pub answer_is : reply_of r entries_after ≡ o.answer
  pub bytes_is : after ≡ o.bytes
  pub entries_is : entries_after ≡ output_after o.answer entries
