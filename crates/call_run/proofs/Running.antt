-- Runs of calls: no call, one call, a fault, and a run after another. Assumes nothing.
use Prim.Native.Nat.{ℕ, ◌+◌, ◌/◌, ◌≤◌, ◌<◌}
use mathlib.Core.Path.{◌≡◌, refl, sym, ap, ap₂, subst, ◌∙◌}
use mathlib.Core.Bool.{Bool, false}
use mathlib.Core.List.{List, [], ◌∷◌, ◌++◌, append_assoc, append-nil}
use native.Mathlib.Omega.{arith}
use borrow.Author.Tests.{leb-false, le-leb}
use lib.Dec.{leb}
use lib.ListN.{length, take, drop}
use lib.Seq.{take-take}
use Rattle.model.specs.Numbers.{Bytes}
use Rattle.model.specs.Store.{Call}
use Rattle.image.specs.Image.{decode, BytesResult, bytes_step, bytes_final}
use Rattle.words.proofs.Places.{placed_length}
use Rattle.call_list.specs.Listed.{ListedCall}
use Rattle.call_list.specs.Meaning.{default_limits, meaning}
use Rattle.call_list.specs.CallList.{parsed, parse_call}
use Rattle.call_list.specs.Listing.{answer_lines, end_line, refusal_line}
use Rattle.call_laws.specs.Runs.{lent_each}
use Rattle.model.proofs.EntryLaws.{bytes_drop}
use Rattle.call_laws.proofs.Parses.{ReadOn, parsed_call}
use Rattle.call_laws.proofs.Listing.{bytes_lines, final_none, final_one, final_then, lines_none, lines_one, lines_then}
use Rattle.words.specs.Parts.{placed}
use Rattle.listing.proofs.Lengths.{refusal_line_length}
use Rattle.call_answers.specs.Answers.{CallReply, reply_of}
use Rattle.call_steps.specs.Steps.{with_lent, SteppedAs}
use Rattle.call_steps.proofs.After.{store_after_reply}
use Rattle.std.specs.Prelude.{None, is_some}
use Rattle.reader.specs.declared.Fault.{Fault}
use Rattle.reader.specs.Answers.{fault_number}
use Rattle.call_progress.specs.declared.Progress.{Progress}
use Rattle.call_progress.specs.Progress.{call_lines, store_after, broken_at}
use Rattle.call_run.specs.Run.{CallsTo, no_call, call_then, FaultAt}
use Rattle.call_run.specs.Inner.{RunAt, fault_met, Reached, RunOn}
use Rattle.call_run.proofs.Texts.{placed_text, placed_before, placed_rest, part_none, part_then, later}
use Rattle.call_run.proofs.Reached.{calls_then, reached_next, reached_fault, no_end, no_fault}
use Rattle.call_run.proofs.Room.{lines_fit_lent}

-- No call.
pub ran_none : (w e : ℕ) (list b out : List ℕ) (t : Progress) → RunAt t list b out → t.fault ≡ None → RunOn w e list t b out t b out
ran_none w e list b out t h g =
    record {
      to = t.next;
      calls = [];
      calls_are = no_call;
      reached = reached_next list t g;
      bytes_are = sym (final_none default_limits w e b);
      text_is = part_none t.at out h.room ∙ sym (ap₂ (λ (x y : List ℕ). x ++ y) (lines_none default_limits w e b) (no_end t g));
      now_at = h;
      same_length = refl;
      further = omega arith;
      before_is = refl;
      rest_is = refl;
    }

-- A run after another that has not ended.
pub ran_then : (w e : ℕ) (list b out : List ℕ) (t : Progress) (b1 out1 : List ℕ) (r : Progress) (b2 out2 : List ℕ) (q : Progress)
    → RunOn w e list t b out r b1 out1 → r.ended ≡ false → RunOn w e list r b1 out1 q b2 out2 → RunOn w e list t b out q b2 out2
ran_then w e list b out t b1 out1 r b2 out2 q u go v =
    let g : r.fault ≡ None = no_fault r u.reached go in
    let cs : List ListedCall = u.calls in
    let ds : List ListedCall = v.calls in
    let end : List ℕ = end_line (fault_met q.fault) in
    let mid : List ℕ = bytes_final b (lent_each default_limits w e cs) in
    let first : drop t.at (take r.at out2) ≡ bytes_lines default_limits w e b cs =
    ap (drop t.at) v.before_is ∙ u.text_is ∙ ap (λ (x : List ℕ). bytes_lines default_limits w e b cs ++ x) (no_end r g) ∙ append-nil (bytes_lines default_limits w e b cs) in
    let second : drop r.at (take q.at out2) ≡ bytes_lines default_limits w e mid ds ++ end = v.text_is ∙ ap (λ (x : List ℕ). bytes_lines default_limits w e x ds ++ end) u.bytes_are in
    record {
      to = v.to;
      calls = cs ++ ds;
      calls_are = calls_then (subst (λ (x : ℕ). CallsTo list t.next x cs) (u.reached.whole g) u.calls_are) v.calls_are;
      reached = v.reached;
      bytes_are = v.bytes_are ∙ ap (λ (x : List ℕ). bytes_final x (lent_each default_limits w e ds)) u.bytes_are ∙ sym (final_then default_limits w e b cs ds);
      text_is =
          part_then t.at r.at q.at out2 u.further v.further v.now_at.room
          ∙ ap₂ (λ (x y : List ℕ). x ++ y) first second
          ∙ sym (append_assoc (bytes_lines default_limits w e b cs) (bytes_lines default_limits w e mid ds) end)
          ∙ ap (λ (x : List ℕ). x ++ end) (sym (lines_then default_limits w e b cs ds));
      now_at = v.now_at;
      same_length = v.same_length ∙ u.same_length;
      further = omega (arith, u.further, v.further);
      before_is =
          sym (take-take t.at r.at out2 u.further)
          ∙ ap (take t.at) v.before_is
          ∙ take-take t.at r.at out1 u.further
          ∙ u.before_is;
      rest_is = v.rest_is ∙ later r.at q.at out1 out v.further u.rest_is;
    }

-- A text that was written for calls.
ran_text : (w e : ℕ) (list b out : List ℕ) (t : Progress) (after out_after : List ℕ) (r : Progress) (text : List ℕ) (to : ℕ) (cs : List ListedCall)
    → out_after ≡ placed t.at text out → r.at ≡ t.at + length text → t.at + length text ≤ length out
    → CallsTo list t.next to cs → Reached list to r
    → after ≡ bytes_final b (lent_each default_limits w e cs) → text ≡ bytes_lines default_limits w e b cs ++ end_line (fault_met r.fault)
    → r.known ≡ is_some (decode after) → r.ended ≡ leb (length list) r.next
    → RunOn w e list t b out r after out_after
ran_text w e list b out t after out_after r text to cs written p h calls reached bytes lines known ended =
    let n : length out_after ≡ length out = ap length written ∙ placed_length t.at text out h in
    record {
      to = to;
      calls = cs;
      calls_are = calls;
      reached = reached;
      bytes_are = bytes;
      text_is = ap₂ (λ (k : ℕ) (x : List ℕ). drop t.at (take k x)) p written ∙ placed_text t.at text out h ∙ lines;
      now_at = record { known_is = known; ended_is = ended; room = omega arith };
      same_length = n;
      further = omega arith;
      before_is = ap (take t.at) written ∙ placed_before t.at text out h;
      rest_is = ap₂ (λ (k : ℕ) (x : List ℕ). drop k x) p written ∙ placed_rest t.at text out h ∙ ap (λ (k : ℕ). drop k out) (sym p);
    }

-- Bytes are left where the list has not ended.
pub not_ended : (list b out : List ℕ) (t : Progress) → RunAt t list b out → t.ended ≡ false → t.next < length list
not_ended list b out t h go = leb-false (length list) t.next (sym h.ended_is ∙ go)

-- A call.
pub ran_call : (w : ℕ) (entries list b out : List ℕ) (t : Progress) (after out_after : List ℕ) (r : Progress) (c : ListedCall) (p : CallReply) (entries_after : List ℕ)
    → Bytes list → RunAt t list b out → t.at + call_lines ≤ length out
    → parsed c (drop r.next list) ≡ parse_call (drop t.next list) → (t.next < r.next) × (r.next ≤ length list)
    → SteppedAs p after entries_after (bytes_step b (with_lent (meaning default_limits c) w entries)) entries
    → out_after ≡ placed t.at (answer_lines (reply_of p entries_after)) out → r.at ≡ t.at + length (answer_lines (reply_of p entries_after))
    → r.known ≡ store_after t.known p → r.ended ≡ leb (length list) r.next → r.fault ≡ None
    → RunOn w (length entries / 52) list t b out r after out_after
ran_call w entries list b out t after out_after r c p entries_after f h room parse on s written next known ended whole =
    let e : ℕ = length entries / 52 in
    let k : Call = meaning default_limits c in
    let o : BytesResult = bytes_step b (with_lent k w entries) in
    let q : ReadOn c (drop r.next list) (drop t.next list) = parsed_call (drop t.next list) c (drop r.next list) (bytes_drop t.next list f) (sym parse) in
    let said : answer_lines (reply_of p entries_after) ≡ answer_lines o.answer = ap answer_lines s.answer_is in
    ran_text w e list b out t after out_after r (answer_lines o.answer) r.next (c ∷ []) (written ∙ ap (λ (x : List ℕ). placed t.at x out) said) (next ∙ ap (λ (x : List ℕ). t.at + length x) said) (omega (arith, lines_fit_lent b k w entries))
    (call_then (sym parse) on.0 on.1 no_call)
    (reached_next list r whole)
    (s.bytes_is ∙ sym (final_one default_limits w e b c))
    (sym (ap₂ (λ (x y : List ℕ). x ++ y) (lines_one default_limits w e b c) (no_end r whole) ∙ append-nil (answer_lines o.answer)))
    (known ∙ ap (λ (x : Bool). store_after x p) h.known_is ∙ sym (store_after_reply b (with_lent k w entries) p entries_after (q.fits default_limits refl) s.answer_is) ∙ ap (λ (x : List ℕ). is_some (decode x)) (sym s.bytes_is))
    ended

-- A fault, which ends the list.
pub ran_fault : (w m : ℕ) (list b out : List ℕ) (t : Progress) (out_after : List ℕ) (f : Fault) (at n : ℕ)
    → RunAt t list b out → t.at + call_lines ≤ length out → FaultAt list t.next (fault_number f.kind) f.place.at
    → n ≡ fault_number f.kind → out_after ≡ placed t.at (refusal_line n) out → at ≡ t.at + length (refusal_line n)
    → RunOn w m list t b out (broken_at list t f at) b out_after
ran_fault w m list b out t out_after f at n h room k e written next =
    let r : Progress = broken_at list t f at in
    ran_text w m list b out t b out_after r (refusal_line n) t.next [] written next (omega (arith, refusal_line_length n))
    no_call
    (reached_fault list t.next r f k refl refl)
    (sym (final_none default_limits w m b))
    (ap refusal_line e ∙ sym (ap (λ (x : List ℕ). x ++ refusal_line (fault_number f.kind)) (lines_none default_limits w m b)))
    h.known_is
    (sym (le-leb (length list) (length list) (omega arith)))

-- A run to a place that is known.
pub ran_to : {w e : ℕ} {list b out : List ℕ} {t : Progress} {after out_after : List ℕ} {r q : Progress} → r ≡ q → RunOn w e list t b out q after out_after → RunOn w e list t b out r after out_after
ran_to {w} {e} {list} {b} {out} {t} {after} {out_after} h u = subst (λ (x : Progress). RunOn w e list t b out x after out_after) (sym h) u

-- The areas keep their lengths.
pub same_lent : (w w1 n n1 : ℕ) (list b out : List ℕ) (t : Progress) (b1 out1 : List ℕ) (r : Progress) → w1 ≡ w → n1 ≡ n → RunOn w1 (n1 / 52) list t b out r b1 out1 → RunOn w (n / 52) list t b out r b1 out1
same_lent w w1 n n1 list b out t b1 out1 r d e u =
    subst (λ (x : ℕ). RunOn x (n / 52) list t b out r b1 out1) d (subst (λ (x : ℕ). RunOn w1 (x / 52) list t b out r b1 out1) e u)
