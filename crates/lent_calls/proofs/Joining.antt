-- What a function of the store ensures, and what is then given, as the contract of an exported function. Assumes nothing.
use Prim.Native.Nat.{ℕ, ◌≤◌}
use mathlib.Core.Path.{◌≡◌, sym, ap, subst, ◌∙◌}
use mathlib.Core.Bool.{Bool, true, cond}
use mathlib.Core.List.{List}
use borrow.Author.Tests.{le-leb}
use Rattle.model.specs.Refusals.{Answer, refuse}
use Rattle.image.specs.Image.{BytesResult}
use Rattle.image.specs.Output.{output_after}
use Rattle.replies.specs.Replies.{AdvanceReply}
use Rattle.replies.specs.Replies.{TakeReply}
use Rattle.replies.specs.Replies.{Stepped, Took, AdvancedAs}
use Rattle.call_run.specs.Run.{RunReply}
use Rattle.call_run.specs.Run.{RanAs}
use Rattle.final_writes.specs.FinalWrites.{FinalWrites}
use Rattle.final_writes.specs.Lent.{FinalWritesReply, final_writes_reply, Answers}
use Rattle.lent_calls.specs.ReplyWords.{Gives, answer_given, run_given, final_given}
use Rattle.lent_calls.specs.Exported.{lent_step, lent_final, known_form, Exported, ExportedOutput, ExportedRun, ExportedFinal}

-- The arguments fit, by their test.
pub fit : {r fits : Bool} → r ≡ fits → r ≡ true → fits ≡ true
fit e t = sym e ∙ t

-- What is given of an answer, as given of one that equals it.
given_as : {code : ℕ} {replied reply : List ℕ} {a a' : Answer} → a ≡ a' → Gives code replied (answer_given a) reply → Gives code replied (answer_given a') reply
given_as {code} {replied} {reply} e g = subst (λ (x : Answer). Gives code replied (answer_given x) reply) e g

-- What a function's contract names, of a result that equals it.
pub stepped_as : {a : Answer} {after : List ℕ} {o o' : BytesResult} → o ≡ o' → Stepped a after o → Stepped a after o'
stepped_as {a} {after} e s = subst (λ (x : BytesResult). Stepped a after x) e s

-- A call with arguments that fit.
module _ (b reply : List ℕ) (o : BytesResult) {fits : Bool} (f : fits ≡ true) {code : ℕ} {after replied : List ℕ} {a : Answer} (g : Gives code replied (answer_given a) reply) where
  pub exported : Stepped a after o → Exported code after replied (lent_step fits b o) reply
  exported s =
      subst (λ (t : Bool). Exported code after replied (lent_step t b o) reply) (sym f) (record { gives = given_as s.answer_is g; bytes_is = s.bytes_is })

  pub exported_output : (out : List ℕ) {out_after : List ℕ} → Stepped a after o → out_after ≡ output_after o.answer out → ExportedOutput code after replied out_after (lent_step fits b o) reply out
  exported_output out {out_after} s w =
      subst (λ (t : Bool). ExportedOutput code after replied out_after (lent_step t b o) reply out) (sym f) (record { gives = given_as s.answer_is g; bytes_is = s.bytes_is; output_is = w })

-- An advance's and a take's contract, of a result that equals it.
pub advanced_as : {r : AdvanceReply} {after out_after out : List ℕ} {o o' : BytesResult} → o ≡ o' → AdvancedAs r after out_after o out → AdvancedAs r after out_after o' out
advanced_as {r} {after} {out_after} {out} e s = subst (λ (x : BytesResult). AdvancedAs r after out_after x out) e s

pub took_as : {r : TakeReply} {after out_after out : List ℕ} {o o' : BytesResult} → o ≡ o' → Took r after out_after out o → Took r after out_after out o'
took_as {r} {after} {out_after} {out} e s = subst (λ (x : BytesResult). Took r after out_after out x) e s

-- An open's form of retention -----------------------------------------------------------------------------

pub form_known : (form : ℕ) (b : List ℕ) (o : BytesResult) → form ≤ 1 → known_form form b o ≡ o
form_known form b o h = ap (λ (t : Bool). cond t o (record { bytes = b; answer = refuse 3 })) (le-leb form 1 h)

-- What else gives words -----------------------------------------------------------------------------------

module _ (w e : ℕ) (list : List ℕ) (from : ℕ) (members before out reply : List ℕ) {fits : Bool} where
  pub exported_run : fits ≡ true → {code : ℕ} {replied : List ℕ} (after out_after : List ℕ) (r : RunReply) → RanAs r w e list from members before out after out_after → Gives code replied (run_given r) reply → ExportedRun fits code w e list from members before out reply after out_after replied
  exported_run f {code} {replied} after out_after r h g =
      subst (λ (t : Bool). ExportedRun t code w e list from members before out reply after out_after replied) (sym f) (record { run_reply = r; ran = h; gives = g })

module _ (reply wo ro : List ℕ) (x : FinalWrites) {fits : Bool} where
  pub exported_final : fits ≡ true → {code : ℕ} {replied wo' ro' : List ℕ} (r : FinalWritesReply) → Answers r wo' ro' x wo ro → Gives code replied (final_given (final_writes_reply r wo' ro')) reply → ExportedFinal code replied wo' ro' (lent_final fits x) reply wo ro
  exported_final f {code} {replied} {wo'} {ro'} r h g =
      let k : Gives code replied (final_given x) reply = subst (λ (y : FinalWrites). Gives code replied (final_given y) reply) h.answer_is g in
      subst (λ (t : Bool). ExportedFinal code replied wo' ro' (lent_final t x) reply wo ro) (sym f) (record { gives = k; writes_are = h.writes_are; reads_are = h.reads_are })

pub answers_as : {r : FinalWritesReply} {wo' ro' wo ro : List ℕ} {x y : FinalWrites} → x ≡ y → Answers r wo' ro' x wo ro → Answers r wo' ro' y wo ro
answers_as {r} {wo'} {ro'} {wo} {ro} e h = subst (λ (z : FinalWrites). Answers r wo' ro' z wo ro) e h
