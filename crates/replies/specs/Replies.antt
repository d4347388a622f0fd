-- What the replies of the public calls mean in the model's terms, and what a call's contract says.
use Rattle.std.specs.Prelude.{ℕ, ◌/◌, ◌≡◌, cond, List, length, Option, Ok, Err}
use Rattle.model.specs.declared.storage_memo.U256.{U256}
use Rattle.model.specs.declared.storage_memo.ReadAnchor.{ReadAnchor}
use Rattle.model.specs.Advance as model
use Rattle.model.specs.Entries.{addresses_of, writes_of, first_slots, members_of, flags_known}
use Rattle.model.specs.Store.{Call, Prepared, on_store, at_anchor, advance, answer, opened, anchor_same, anchor_fresh, value, value_report, stored, advanced, waiting, listed, answered}
use Rattle.model.specs.Refusals.{Answer, refuse, ok, refusal_number}
use Rattle.model.specs.declared.refusal.Refusal.{Refusal}
use Rattle.image.specs.Image.{BytesCall, BytesResult, bytes_step}
use Rattle.image.specs.Output.{output_after}
use Rattle.std.specs.declared.result.Result.{Result}
use Rattle.replies.specs.declared.Installed.{Installed}
use Rattle.replies.specs.declared.Installed.TheVariants.{Same, Fresh}
use Rattle.replies.specs.declared.DeltaReport.{DeltaReport}
use Rattle.replies.specs.declared.ReadOutcome.{ReadOutcome}
use Rattle.replies.specs.declared.ReadOutcome.TheVariants.{Value, Waiting}
use Rattle.replies.specs.declared.Answered.{Answered}

-- The replies -----------------------------------------------------------------------------------------

-- A refusal is its number and nothing else: `refuse n` carries no count, document 01's "all counts 0".

-- An open's reply.
abbrev pub OpenReply : Type 0
OpenReply = Result (Unit {0}) Refusal

abbrev pub open_reply : OpenReply → Answer
open_reply (Err e) = refuse (refusal_number e)
open_reply (Ok x) = ok opened

-- An install's reply.
abbrev pub InstallReply : Type 0
InstallReply = Result Installed Refusal

abbrev pub install_reply : InstallReply → Answer
install_reply (Err e) = refuse (refusal_number e)
install_reply (Ok Same) = ok anchor_same
install_reply (Ok Fresh) = ok anchor_fresh

-- A look's or a get's reply.
abbrev pub LookReply : Type 0
LookReply = Result (Option U256) Refusal

abbrev pub look_reply : LookReply → Answer
look_reply (Err e) = refuse (refusal_number e)
look_reply (Ok o) = ok (value_report o)

-- A put's reply.
abbrev pub PutReply : Type 0
PutReply = Result (Unit {0}) Refusal

abbrev pub put_reply : PutReply → Answer
put_reply (Err e) = refuse (refusal_number e)
put_reply (Ok x) = ok stored

-- An advance's report, with the output after the call: the applied slots are the output's first entries, as many as were applied.
abbrev pub delta_report : DeltaReport → List ℕ → model.DeltaReport
delta_report r out =
    record {
      outcome = r.outcome;
      writes = record { applied = first_slots r.writes.applied out; overwritten = r.writes.overwritten; skipped = r.writes.skipped };
      held = r.held;
      live = r.live;
      compaction = r.compaction;
    }

-- An advance's reply, with its output after the call.
abbrev pub AdvanceReply : Type 0
AdvanceReply = Result DeltaReport Refusal

abbrev pub advance_reply : AdvanceReply → List ℕ → Answer
advance_reply (Err e) out = refuse (refusal_number e)
advance_reply (Ok r) out = ok (advanced (delta_report r out))

-- A read's reply.
abbrev pub ReadReply : Type 0
ReadReply = Result ReadOutcome Refusal

abbrev pub read_reply : ReadReply → Answer
read_reply (Err e) = refuse (refusal_number e)
read_reply (Ok (Value v)) = ok (value v)
read_reply (Ok (Waiting n)) = ok (waiting n)

-- A take's reply, with its output after the call: the slots listed are the output's first entries, as many as the reply says.
abbrev pub TakeReply : Type 0
TakeReply = Result ℕ Refusal

abbrev pub take_reply : TakeReply → List ℕ → Answer
take_reply (Err e) out = refuse (refusal_number e)
take_reply (Ok n) out = ok (listed (first_slots n out))

-- An answer's reply.
abbrev pub AnswerReply : Type 0
AnswerReply = Result Answered Refusal

abbrev pub answer_reply : AnswerReply → Answer
answer_reply (Err e) = refuse (refusal_number e)
answer_reply (Ok r) = ok (answered r.members r.errors r.woken)

-- The calls -------------------------------------------------------------------------------------------

-- A call that is lent the store alone: no work area and no output.
abbrev pub alone : Call → BytesCall
alone c = record { call = c; work_bytes = 0; output_entries = 0 }

-- A call that is lent the store and an output of whole entries of 52 bytes.
abbrev pub with_output : Call → List ℕ → BytesCall
with_output c out = record { call = c; work_bytes = 0; output_entries = length out / 52 }

-- What was prepared for an advance, by its skip and the bytes of its addresses and writes.
abbrev pub lent_prepared : ℕ → List ℕ → List ℕ → Prepared
lent_prepared k addresses writes = record { skip = k; relevance = addresses_of addresses; writes = writes_of writes }

-- An advance of lent bytes, with its addresses and writes, its work area and its output.
abbrev pub advance_call : ReadAnchor → U256 → ℕ → List ℕ → List ℕ → List ℕ → List ℕ → BytesCall
advance_call child h k addresses writes work out =
    record { call = on_store (advance child h (lent_prepared k addresses writes)); work_bytes = length work; output_entries = length out / 52 }

-- An answer with members in lent bytes. A member's flag byte is a form byte: one that is neither 0 nor 1 is refused by 3,
-- before every other refusal, with every byte kept.
unfoldable pub answer_step : List ℕ → ReadAnchor → List ℕ → BytesResult
answer_step b a members =
    cond (flags_known members) (bytes_step b (alone (on_store (at_anchor a (answer (members_of members)))))) (record { bytes = b; answer = refuse 3 })

-- What a contract says ----------------------------------------------------------------------------------

-- A call answered, and left the bytes, as a result says.
pub record Stepped (answer : Answer) (after : List ℕ) (o : BytesResult) : Type 0 where
  pub answer_is : answer ≡ o.answer
  pub bytes_is : after ≡ o.bytes

-- A take answered, and left the bytes and the output, as a result says.
pub record Took (r : TakeReply) (after out_after out : List ℕ) (o : BytesResult) : Type 0 where
  pub answer_is : take_reply r out_after ≡ o.answer
  pub bytes_is : after ≡ o.bytes
  pub output_is : out_after ≡ output_after o.answer out

-- An advance answered, and left the store's bytes and the output, as a result says.
pub record AdvancedAs (r : AdvanceReply) (after out_after : List ℕ) (o : BytesResult) (out : List ℕ) : Type 0 where
  pub answer_is : advance_reply r out_after ≡ o.answer
  pub bytes_is : after ≡ o.bytes
  pub output_is : out_after ≡ output_after o.answer out
