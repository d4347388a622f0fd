-- Bytes that are a store are one after an answer with any members, and after a run. Assumes nothing.
use Rattle.std.specs.Prelude.{None, Option, Some, Ok, Err, is_some}
use Prim.Native.Nat.{ℕ}
use mathlib.Core.Path.{◌≡◌, refl, ap, ◌∙◌}
use mathlib.Core.Bool.{Bool, true, false, cond}
use mathlib.Core.List.{List}
use lib.ListN.{length, drop}
use Rattle.model.specs.declared.storage_memo.ReadAnchor.{ReadAnchor}
use Rattle.model.specs.Numbers.{Bytes}
use Rattle.model.specs.Entries.{members_of, flags_known}
use Rattle.model.specs.Store.{Memory, Call, open_store, on_store, at_anchor, answer, accept}
use Rattle.model.specs.Refusals.{refuse, refusal, conclude, step}
use Rattle.model.proofs.EntryLaws.{bytes_drop}
use Rattle.image.specs.Claims.{call_fits}
use Rattle.image.specs.Image.{decode, BytesCall, lent_call, bytes_step, bytes_final}
use Rattle.image.proofs.EntriesFit.{members_of_fit}
use Rattle.image.proofs.OnBytes.{step_holds}
use Rattle.image.proofs.Closure.{closure}
use Rattle.replies.specs.Replies.{alone, answer_step}
use Rattle.call_list.specs.Listed.{ListedCall}
use Rattle.call_list.specs.Meaning.{default_limits, meaning}
use Rattle.call_laws.specs.Runs.{lent_each}
use Rattle.call_laws.proofs.Parses.{ReadOn, parsed_call}
use Rattle.call_run.specs.Run.{RunReply}
use Rattle.call_run.specs.declared.RunEnd.TheVariants.{Listed, Broken}
use Rattle.call_run.specs.Run.{CallsTo, no_call, call_then, RunTo, RanAs}
use Rattle.lent_calls.specs.Exported.{Keeps}

-- One call.
concluded : (m : Memory) (c : Call) (r : Option ℕ) → is_some m ≡ true → is_some (conclude r m (accept m c)).memory ≡ true
unfolding accept
concluded m c (Some n) e = e
concluded m (open_store n d R) None e = refl
concluded None (on_store c) None e = e
concluded (Some st) (on_store c) None e = refl

pub keeps : (b : List ℕ) (k : BytesCall) → call_fits k.call ≡ true → {after : List ℕ} → after ≡ (bytes_step b k).bytes → Keeps b after
unfolding bytes_step step
keeps b k f q e =
    ap (λ (x : List ℕ). is_some (decode x)) q
    ∙ ap (λ (m : Memory). is_some m) (step_holds closure b k f).reads
    ∙ concluded (decode b) k.call (refusal (decode b) (lent_call (length b) k).lent k.call) e

-- An answer, its flag bytes known or not.
module _ (b : List ℕ) (a : ReadAnchor) (members : List ℕ) (f : Bytes members) where
  abbrev answering : BytesCall
  answering = alone (on_store (at_anchor a (answer (members_of members))))

  by_flags : (t : Bool) → Keeps b (cond t (bytes_step b answering) (record { bytes = b; answer = refuse 3 })).bytes
  by_flags true e = keeps b answering (members_of_fit members f) refl e
  by_flags false e = e

  pub answer_keeps : {after : List ℕ} → after ≡ (answer_step b a members).bytes → Keeps b after
  unfolding answer_step
  answer_keeps q e = ap (λ (x : List ℕ). is_some (decode x)) q ∙ by_flags (flags_known members) e

-- A run.
module _ (w e : ℕ) (list : List ℕ) (f : Bytes list) where
  calls_keep : {from next : ℕ} {cs : List ListedCall} (b : List ℕ) → CallsTo list from next cs → Keeps b (bytes_final b (lent_each default_limits w e cs))
  unfolding bytes_final
  calls_keep b no_call s = s
  calls_keep {from} b (call_then {at = at} {c = c} p h l rest) s =
      let o : ReadOn c (drop at list) (drop from list) = parsed_call (drop from list) c (drop at list) (bytes_drop from list f) p in
      let k : BytesCall = record { call = meaning default_limits c; work_bytes = w; output_entries = e } in
      calls_keep (bytes_step b k).bytes rest (keeps b k (o.fits default_limits refl) refl s)

  run_to_keeps : {from next : ℕ} {ends_with : Option ℕ} {written : ℕ} {before out after out_after : List ℕ} → RunTo w e list from next ends_with written before out after out_after → Keeps before after
  run_to_keeps {before = before} r s = ap (λ (x : List ℕ). is_some (decode x)) r.bytes_are ∙ calls_keep before r.calls_are s

  pub run_keeps : (r : RunReply) (from : ℕ) (members before out after out_after : List ℕ) → RanAs r w e list from members before out after out_after → Keeps before after
  run_keeps (Err n) from members before out after out_after h s = ap (λ (x : List ℕ). is_some (decode x)) h.2 ∙ s
  run_keeps (Ok (Listed next written ended)) from members before out after out_after h s = run_to_keeps h.1 s
  run_keeps (Ok (Broken n place written)) from members before out after out_after h s = run_to_keeps h.1.1 s
