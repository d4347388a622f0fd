-- What is given: a refusal's number, or words that are written. Assumes nothing.
use Rattle.std.specs.Prelude.{None, Option, Some, Ok, Err}
use Prim.Native.Nat.{ℕ, ◌+◌, ◌*◌, ◌≤◌}
use mathlib.Core.Path.{◌≡◌, refl, sym, ap, ap₂, subst, ◌∙◌}
use mathlib.Core.List.{List, [], ◌∷◌, ◌++◌, append_assoc}
use native.Mathlib.Omega.{arith}
use lib.ListN.{length, take, drop, take-append-drop}
use lib.Seq.{length-take-le}
use Rattle.std.proofs.lemmas.List.{drop-append-le}
use Rattle.words.specs.Parts.{placed}
use Rattle.image.specs.Image.{bytes_of}
use Rattle.image.proofs.Words.{length_bytes_of}
use Rattle.model.specs.declared.storage_memo.U256.{U256}
use Rattle.model.specs.Contents.{value_words}
use Rattle.model.specs.Entries.{slot_of, write_of}
use Rattle.model.specs.Store.{value_report}
use Rattle.model.specs.Refusals.{ok}
use Rattle.replies.specs.declared.DeltaReport.{DeltaReport}
use Rattle.replies.specs.declared.Installed.TheVariants.{Same, Fresh}
use Rattle.replies.specs.declared.ReadOutcome.TheVariants.{Value, Waiting}
use Rattle.replies.specs.Replies.{OpenReply, InstallReply, LookReply, PutReply, AdvanceReply, ReadReply, TakeReply, AnswerReply}
use Rattle.replies.specs.Replies.{delta_report, open_reply, install_reply, look_reply, put_reply, advance_reply, read_reply, take_reply, answer_reply}
use Rattle.seed.proofs.Entries.{length_chunks}
use Rattle.final_writes.specs.Lent.{FinalWritesReply, final_writes_reply}
use Rattle.lent_calls.specs.ReplyWords.{Given, refused_by, accepted, with_words, Gives, reply_given, answer_given, final_given, outcome_words, delta_words}
use Rattle.lent_calls.specs.Inner.{unit_words, installed_words, advance_words, read_words, take_words, answered_words, seed_words}

pub refused_gives : {reply : List ℕ} (n : ℕ) {x : Given} → x ≡ refused_by n → Gives n reply x reply
refused_gives {reply} n q = subst (λ (y : Given). Gives n reply y reply) (sym q) (record { code_is = refl; reply_is = refl })

pub written_gives : {replied reply ws : List ℕ} {x : Given} → replied ≡ with_words ws reply → x ≡ accepted ws → Gives 0 replied x reply
written_gives {replied} {reply} e q = subst (λ (y : Given). Gives 0 replied y reply) (sym q) (record { code_is = refl; reply_is = e })

-- A value, or none.
pub valued_gives : {replied reply : List ℕ} (o : Option U256) → replied ≡ with_words (value_words o) reply → Gives 0 replied (answer_given (ok (value_report o))) reply
valued_gives None e = written_gives e refl
valued_gives (Some v) e = written_gives e refl

-- What is given of a reply is what its answer gives ------------------------------------------------------

pub given_by : {code : ℕ} {replied reply : List ℕ} {x y : Given} → x ≡ y → Gives code replied x reply → Gives code replied y reply
given_by {code} {replied} {reply} e g = subst (λ (z : Given). Gives code replied z reply) e g

pub open_given : (r : OpenReply) → reply_given unit_words r ≡ answer_given (open_reply r)
open_given (Err e) = refl
open_given (Ok x) = refl

pub install_given : (r : InstallReply) → reply_given installed_words r ≡ answer_given (install_reply r)
install_given (Err e) = refl
install_given (Ok Same) = refl
install_given (Ok Fresh) = refl

pub look_given : (r : LookReply) → reply_given value_words r ≡ answer_given (look_reply r)
look_given (Err e) = refl
look_given (Ok None) = refl
look_given (Ok (Some v)) = refl

pub put_given : (r : PutReply) → reply_given unit_words r ≡ answer_given (put_reply r)
put_given (Err e) = refl
put_given (Ok x) = refl

-- An advance's words, with the slots that its output lists.
advanced_words : (d : DeltaReport) (out : List ℕ) → advance_words d ≡ delta_words (delta_report d out)
advanced_words d out =
    ap (λ (k : ℕ). outcome_words d.outcome ++ (k ∷ d.writes.overwritten ∷ d.writes.skipped ∷ d.held ∷ d.live ∷ d.compaction.merged ∷ d.compaction.left ∷ d.compaction.dropped ∷ []))
    (sym (length_chunks slot_of 52 d.writes.applied out))

pub advance_given : (r : AdvanceReply) (out : List ℕ) → reply_given advance_words r ≡ answer_given (advance_reply r out)
advance_given (Err e) out = refl
advance_given (Ok d) out = ap accepted (advanced_words d out)

pub read_given : (r : ReadReply) → reply_given read_words r ≡ answer_given (read_reply r)
read_given (Err e) = refl
read_given (Ok (Value v)) = refl
read_given (Ok (Waiting n)) = refl

pub take_given : (r : TakeReply) (out : List ℕ) → reply_given take_words r ≡ answer_given (take_reply r out)
take_given (Err e) out = refl
take_given (Ok n) out = ap (λ (k : ℕ). accepted (k ∷ [])) (sym (length_chunks slot_of 52 n out))

pub answered_given : (r : AnswerReply) → reply_given answered_words r ≡ answer_given (answer_reply r)
answered_given (Err e) = refl
answered_given (Ok x) = refl

pub seed_given : (r : FinalWritesReply) (wo ro : List ℕ) → reply_given seed_words r ≡ final_given (final_writes_reply r wo ro)
seed_given (Err e) wo ro = refl
seed_given (Ok c) wo ro =
    ap₂ (λ (m n : ℕ). accepted (m ∷ n ∷ c.filtered ∷ c.capped ∷ [])) (sym (length_chunks write_of 84 c.writes wo)) (sym (length_chunks slot_of 52 c.reads ro))

-- Words written to the first n bytes of a reply, which are as many after it.
first_placed : (n : ℕ) (v r : List ℕ) → n ≤ length r → length v ≤ n → placed 0 v (take n r) ++ drop n r ≡ placed 0 v r
first_placed n v r h l =
    let k : 0 + length v ≤ length (take n r) = omega (arith, length-take-le n r h) in
    append_assoc v (drop (0 + length v) (take n r)) (drop n r)
    ∙ ap (λ (x : List ℕ). v ++ x) (sym (drop-append-le (0 + length v) (take n r) (drop n r) k) ∙ ap (drop (0 + length v)) (take-append-drop n r))

pub first_written : (n : ℕ) (ws r : List ℕ) {s t : List ℕ} → s ≡ take n r → t ≡ with_words ws s → n ≤ length r → 8 * length ws ≤ n → t ++ drop n r ≡ with_words ws r
first_written n ws r p q h l = ap (λ (x : List ℕ). x ++ drop n r) (q ∙ ap (with_words ws) p) ∙ first_placed n (bytes_of ws) r h (omega (arith, length_bytes_of ws, l))
