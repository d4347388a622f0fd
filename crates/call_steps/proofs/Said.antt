-- What a call comes to on bytes with what is lent to it. Assumes nothing.
use Rattle.replies.specs.declared.ReadOutcome.TheVariants.{Value, Waiting}
use Rattle.replies.specs.declared.Installed.TheVariants.{Same, Fresh}
use Rattle.std.proofs.lemmas.Result.{err_from_is_err_and}
use Rattle.std.specs.Prelude.{None, Option, Some, IsErrAnd, Ok, Err}
use Prim.Native.Nat.{ℕ, suc, ◌≤◌}
use mathlib.Core.Path.{◌≡◌, refl, sym, ap, subst, ◌∙◌}
use mathlib.Core.List.{List, [], ◌∷◌}
use native.Mathlib.Omega.{arith}
use lib.ListN.{length}
use Rattle.model.specs.declared.storage_memo.ReadAnchor.{ReadAnchor}
use Rattle.model.specs.declared.storage_memo.U256.{U256}
use Rattle.model.specs.declared.delta_snapshot.Slot.{Slot}
use Rattle.model.specs.declared.delta_snapshot.Retention.{Retention}
use Rattle.model.specs.declared.storage_memo.Address.{Address}
use Rattle.model.specs.Slots.{anchor_eqb}
use Rattle.model.specs.Advance.{Write, WriteKind, overwrite, new, skip, AppliedWrites, DeltaReport, relevant, final_write_kind, apply_write, count_write, seed_final_writes, compact_base, seal, void_base, classify_link, skip_of, carries}
use Rattle.model.specs.Reads.{Member}
use Rattle.model.specs.Contents.{valued_use}
use Rattle.model.specs.Layers.{Layer, find, freshest_use}
use Rattle.model.specs.Entries.{slots_bytes}
use Rattle.model.specs.Store.{Config, Generation, look, get, put, read, on_slot, take, answer, answer_failed, Prepared, StoreCall, install, advance, at_anchor, Call, open_store, on_store, Report, opened, advanced, stored, perform, carry, cold_advance}
use Rattle.model.specs.Refusals.{Answer, refuse, ok, refusal_number, refusal, conditions, lent_too_short, output_short_of_queue, step}
use Rattle.model.proofs.SlotLaws.{split}
use Rattle.image.specs.Image.{decode, BytesResult, bytes_step}
use Rattle.image.specs.Output.{output_after}
use Rattle.replies.specs.Replies.{TakeReply, AdvanceReply, install_reply, look_reply, read_reply, take_reply, answer_reply, advance_reply, alone, with_output, Stepped, Took, AdvancedAs}
use Rattle.unchecked_calls.proofs.Turned.{no_store}
use Rattle.unchecked_reads.proofs.Said.{turned_down}
use Rattle.replies.specs.declared.Answered.{Answered}
use Rattle.replies.specs.declared.Installed.{Installed}
use Rattle.replies.specs.declared.ReadOutcome.{ReadOutcome}
use Rattle.model.specs.declared.refusal.Refusal.{Refusal}
use Rattle.model.specs.declared.refusal.Refusal.TheVariants.{NotAStore}
use Rattle.call_answers.specs.Answers.{CallReply, reply_of}
use Rattle.call_steps.specs.Steps.{with_lent, SteppedAs}

-- The calls that use neither a work area nor an output.
pub data Plain : Call → Type 0 where
  plain_open : (n d : ℕ) (R : Retention) → Plain (open_store n d R)
  plain_install : (a : ReadAnchor) → Plain (on_store (install a))
  plain_look : (a : ReadAnchor) (s : Slot) → Plain (on_store (at_anchor a (on_slot (look s))))
  plain_get : (a : ReadAnchor) (s : Slot) → Plain (on_store (at_anchor a (on_slot (get s))))
  plain_put : (a : ReadAnchor) (s : Slot) (v : U256) → Plain (on_store (at_anchor a (on_slot (put s v))))
  plain_read : (a : ReadAnchor) (s : Slot) → Plain (on_store (at_anchor a (on_slot (read s))))
  plain_answer : (a : ReadAnchor) (ms : List Member) → Plain (on_store (at_anchor a (answer ms)))
  plain_failed : (a : ReadAnchor) (ss : List Slot) → Plain (on_store (at_anchor a (answer_failed ss)))

-- What is lent beside the store does not matter to them; to a take the work area does not.
module _ (b : List ℕ) (w : ℕ) (e : List ℕ) where
  pub as_alone : {c : Call} → Plain c → bytes_step b (with_lent c w e) ≡ bytes_step b (alone c)
  unfolding bytes_step step refusal conditions lent_too_short output_short_of_queue
  as_alone (plain_open n d R) = refl
  as_alone (plain_install a) = refl
  as_alone (plain_look a s) = refl
  as_alone (plain_get a s) = refl
  as_alone (plain_put a s v) = refl
  as_alone (plain_read a s) = refl
  as_alone (plain_answer a ms) = refl
  as_alone (plain_failed a ss) = refl

  pub as_take : (a : ReadAnchor) → bytes_step b (with_lent (on_store (at_anchor a take)) w e) ≡ bytes_step b (with_output (on_store (at_anchor a take)) e)
  unfolding bytes_step step refusal conditions lent_too_short output_short_of_queue
  as_take a = refl

-- Their answers list nothing ---------------------------------------------------------------------------

-- An answer that leaves an output as it is.
abbrev pub Silent : Answer → Type 0
Silent a = (e : List ℕ) → output_after a e ≡ e

pub silent_opened : Silent (ok opened)
unfolding slots_bytes
silent_opened e = refl

pub silent_installed : (i : Installed) → Silent (install_reply (Ok i))
unfolding slots_bytes
silent_installed Same e = refl
silent_installed Fresh e = refl

pub silent_looked : (o : Option U256) → Silent (look_reply (Ok o))
unfolding slots_bytes
silent_looked None e = refl
silent_looked (Some v) e = refl

pub silent_stored : Silent (ok stored)
unfolding slots_bytes
silent_stored e = refl

pub silent_read : (o : ReadOutcome) → Silent (read_reply (Ok o))
unfolding slots_bytes
silent_read (Value v) e = refl
silent_read (Waiting n) e = refl

pub silent_answered : (r : Answered) → Silent (answer_reply (Ok r))
unfolding slots_bytes
silent_answered r e = refl

-- A call by another name.
pub named_as : {r : CallReply} {after out : List ℕ} (b : List ℕ) (w : ℕ) (e : List ℕ) {g c : Call} → g ≡ c → SteppedAs r after out (bytes_step b (with_lent c w e)) e → SteppedAs r after out (bytes_step b (with_lent g w e)) e
named_as {r} {after} {out} b w e q s = subst (λ (x : Call). SteppedAs r after out (bytes_step b (with_lent x w e)) e) (sym q) s

-- A call answered as a call of the store alone.
pub stepped_as : {r : CallReply} {a : Answer} {after : List ℕ} (b : List ℕ) (w : ℕ) (e : List ℕ) {g c : Call} → g ≡ c → Plain c → Silent a → reply_of r e ≡ a → Stepped a after (bytes_step b (alone c)) → SteppedAs r after e (bytes_step b (with_lent g w e)) e
stepped_as {r} {a} {after} b w e {g} {c} n p k q s =
    named_as b w e n
    (subst (λ (o : BytesResult). SteppedAs r after e o e) (sym (as_alone b w e p))
    (record { answer_is = q ∙ s.answer_is; bytes_is = s.bytes_is; entries_is = sym (k e) ∙ ap (λ (x : Answer). output_after x e) s.answer_is }))

-- A refusal.
pub reply_refused : (r : CallReply) (x : Refusal) (out : List ℕ) → IsErrAnd r (λ y. y ≡ x) → reply_of r out ≡ refuse (refusal_number x)
reply_refused r x out h =
    let p = err_from_is_err_and r h in
    ap (λ (t : CallReply). reply_of t out) p.1 ∙ ap (λ (y : Refusal). refuse (refusal_number y)) p.2

pub refused_as : {r : CallReply} (x : Refusal) {after : List ℕ} (b : List ℕ) (w : ℕ) (e : List ℕ) {g c : Call} → g ≡ c → Plain c → IsErrAnd r (λ y. y ≡ x) → Stepped (refuse (refusal_number x)) after (bytes_step b (alone c)) → SteppedAs r after e (bytes_step b (with_lent g w e)) e
unfolding slots_bytes
refused_as {r} x b w e n k q s = stepped_as b w e n k (λ z. refl) (reply_refused r x e q) s

-- Bytes that are no store: 20.
pub said_20 : (b : List ℕ) (c : StoreCall) (w : ℕ) (e : List ℕ) → decode b ≡ None → SteppedAs (Err NotAStore) b e (bytes_step b (with_lent (on_store c) w e)) e
said_20 b c w e d =
    subst (λ (x : BytesResult). SteppedAs (Err NotAStore) b e x e) (sym (turned_down b None (with_lent (on_store c) w e) d 20 (no_store _ c)))
    (record { answer_is = refl; bytes_is = refl; entries_is = refl })

-- A take and an advance ---------------------------------------------------------------------------------

-- The report of an advance of n writes.
pub data IsAdvanced (n : ℕ) : Report → Type 0 where
  is_advanced : (d : DeltaReport) → length d.writes.applied ≤ n → IsAdvanced n (advanced d)

-- No more are applied than there are.
count_few : (k : WriteKind) (s : Slot) (t : AppliedWrites) → length (count_write k s t).applied ≤ suc (length t.applied)
count_few (overwrite u) s t = omega arith
count_few new s t = omega arith
count_few skip s t = omega arith

applied_few : (R : Retention) (n : ℕ) (relevance : List Address) (b : List Layer) (ws : List Write) (l : Layer) → length (seed_final_writes R n relevance b ws l).applied_writes.applied ≤ length ws
unfolding seed_final_writes
applied_few R n relevance b [] l = omega arith
applied_few R n relevance b (w ∷ ws) l =
    let k : WriteKind = final_write_kind R n (relevant relevance w.slot.address) (valued_use (find w.slot l)) (freshest_use w.slot b) in
    let t : Layer = apply_write n k w.slot w.value l in
    omega (arith, applied_few R n relevance b ws t, count_few k w.slot (seed_final_writes R n relevance b ws t).applied_writes)

module _ (child : ReadAnchor) (h : U256) (p : Prepared) where
  pub reported : (cfg : Config) (o : Option Generation) → IsAdvanced (length p.writes) (perform cfg o (advance child h p)).report
  unfolding perform carry cold_advance
  reported cfg None = is_advanced _ (applied_few cfg.retention child.number p.relevance void_base p.writes [])
  reported cfg (Some g) =
      split (anchor_eqb g.anchor child)
      (λ e. let z : 0 ≤ length p.writes = omega arith in rw e (is_advanced _ z))
      (λ e. rw e (split (carries (classify_link (Some g.anchor) child h) (skip_of p.skip))
      (λ y. rw y (is_advanced _ (applied_few cfg.retention child.number p.relevance (seal g.top (compact_base cfg.retention cfg.max_depth g.anchor.number g.base).base) p.writes [])))
      (λ y. rw y (is_advanced _ (applied_few cfg.retention child.number p.relevance void_base p.writes [])))))

-- A take, and an advance, answered.
pub took_as : {r : CallReply} {t : TakeReply} {after out : List ℕ} (b : List ℕ) (w : ℕ) (e : List ℕ) (a : ReadAnchor) → reply_of r out ≡ take_reply t out → Took t after out e (bytes_step b (with_output (on_store (at_anchor a take)) e)) → SteppedAs r after out (bytes_step b (with_lent (on_store (at_anchor a take)) w e)) e
took_as {r} {t} {after} {out} b w e a q s =
    let h : Took t after out e (bytes_step b (with_lent (on_store (at_anchor a take)) w e)) = subst (λ (o : BytesResult). Took t after out e o) (sym (as_take b w e a)) s in
    record { answer_is = q ∙ h.answer_is; bytes_is = h.bytes_is; entries_is = h.output_is }

pub advanced_as : {r : CallReply} {t : AdvanceReply} {after out : List ℕ} (b : List ℕ) (w : ℕ) (e : List ℕ) (child : ReadAnchor) (h : U256) (p : Prepared) → reply_of r out ≡ advance_reply t out → AdvancedAs t after out (bytes_step b (with_lent (on_store (advance child h p)) w e)) e → SteppedAs r after out (bytes_step b (with_lent (on_store (advance child h p)) w e)) e
advanced_as b w e child h p q s = record { answer_is = q ∙ s.answer_is; bytes_is = s.bytes_is; entries_is = s.output_is }
