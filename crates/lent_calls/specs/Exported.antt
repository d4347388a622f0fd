-- What the contract of an exported function says.
use Rattle.std.specs.Prelude.{ℕ, ◌≡◌, Bool, true, false, cond, List, leb, is_some}
use Rattle.model.specs.Refusals.{refuse}
use Rattle.image.specs.Image.{BytesResult, decode}
use Rattle.image.specs.Output.{output_after}
use Rattle.call_run.specs.Run.{RunReply}
use Rattle.call_run.specs.Run.{RanAs}
use Rattle.final_writes.specs.FinalWrites.{FinalWrites}
use Rattle.final_writes.specs.FinalWrites as final
use Rattle.final_writes.specs.Lent.{writes_after, reads_after}
use Rattle.lent_calls.specs.ReplyWords.{Given, refused_by, Gives, answer_given, run_given, final_given}

-- A call on a store's bytes whose arguments fit; else refusal 9, with every byte kept.
abbrev pub lent_step : Bool → List ℕ → BytesResult → BytesResult
lent_step fits b o = cond fits o (record { bytes = b; answer = refuse 9 })

-- The same of what else gives words, and of final writes.
abbrev pub lent_given : Bool → Given → Given
lent_given fits x = cond fits x (refused_by 9)

abbrev pub lent_final : Bool → FinalWrites → FinalWrites
lent_final fits f = cond fits f (final.refuse 9)

-- An open whose form of retention is 0 or 1; else refusal 3, with every byte kept.
abbrev pub known_form : ℕ → List ℕ → BytesResult → BytesResult
known_form form b o = cond (leb form 1) o (record { bytes = b; answer = refuse 3 })

-- A call gave its answer, and left the store's bytes, as a result says.
pub record Exported (code : ℕ) (after replied : List ℕ) (o : BytesResult) (reply : List ℕ) : Type 0 where
  pub gives : Gives code replied (answer_given o.answer) reply
  pub bytes_is : after ≡ o.bytes

-- The same of a call with an output.
pub record ExportedOutput (code : ℕ) (after replied out_after : List ℕ) (o : BytesResult) (reply out : List ℕ) : Type 0 where
  pub gives : Gives code replied (answer_given o.answer) reply
  pub bytes_is : after ≡ o.bytes
  pub output_is : out_after ≡ output_after o.answer out

-- A run of lent bytes, by a reply that `call_run::run` gives for them; with a reply that is too short refusal 9, with every byte of store and output kept.
pub record RanBy (code : ℕ) (w e : ℕ) (list : List ℕ) (from : ℕ) (members before out reply after out_after replied : List ℕ) : Type 0 where
  pub run_reply : RunReply
  pub ran : RanAs run_reply w e list from members before out after out_after
  pub gives : Gives code replied (run_given run_reply) reply

abbrev pub ExportedRun : Bool → ℕ → ℕ → ℕ → List ℕ → ℕ → List ℕ → List ℕ → List ℕ → List ℕ → List ℕ → List ℕ → List ℕ → Type 0
ExportedRun true code w e list from members before out reply after out_after replied = RanBy code w e list from members before out reply after out_after replied
ExportedRun false code w e list from members before out reply after out_after replied =
    Gives code replied (refused_by 9) reply × (after ≡ before) × (out_after ≡ out)

-- Final writes gave their answer, and left the two outputs, as they say.
pub record ExportedFinal (code : ℕ) (replied wo' ro' : List ℕ) (f : FinalWrites) (reply wo ro : List ℕ) : Type 0 where
  pub gives : Gives code replied (final_given f) reply
  pub writes_are : wo' ≡ writes_after f wo
  pub reads_are : ro' ≡ reads_after f ro

-- Bytes that are a store are one after a call.
abbrev pub Keeps : List ℕ → List ℕ → Type 0
Keeps before after = is_some (decode before) ≡ true → is_some (decode after) ≡ true
