-- What a call leaves: whether the bytes are a store, how many bytes and how long an output, and room for the slots that it lists. Assumes nothing.
use Rattle.std.specs.Prelude.{None, Option, Some, is_some, Ok, Err}
use Prim.Native.Nat.{ℕ, suc, ◌*◌, ◌/◌, ◌≤◌}
use mathlib.Core.Path.{◌≡◌, refl, sym, ap, ◌∙◌}
use mathlib.Core.Bool.{Bool, true, false, cond}
use mathlib.Core.List.{List, [], ◌∷◌}
use native.Mathlib.Omega.{arith}
use native.Mathlib.Nat.{div-add-mod'}
use lib.Dec.{ltb}
use lib.ListN.{length, drop, length-append, length-drop}
use borrow.Author.Tests.{ltb-false}
use Rattle.model.specs.declared.storage_memo.ReadAnchor.{ReadAnchor}
use Rattle.model.specs.declared.storage_memo.U256.{U256}
use Rattle.model.specs.declared.delta_snapshot.Slot.{Slot}
use Rattle.model.specs.Slots.{Value, anchor_eqb}
use Rattle.model.specs.Advance.{classify_link, skip_of, carries}
use Rattle.model.specs.Reads.{Pending, queued}
use Rattle.model.specs.Entries.{slot_bytes, slots_bytes, with_slots}
use Rattle.model.specs.Store.{Config, Generation, look, get, put, read, AnchoredCall, on_slot, take, answer, answer_failed, Prepared, StoreCall, install, advance, at_anchor, Call, open_store, on_store, Report, opened, anchor_same, anchor_fresh, advanced, value, no_value, stored, waiting, listed, answered, Store, Memory, carry, cold_advance, value_report, perform_get, perform_read, perform_at, resolved, perform, accept}
use Rattle.model.specs.Refusals.{Lent, work_size, Answer, refuse, ok, refusal, lent_too_short, output_short_of_queue, conclude, step}
use Rattle.model.proofs.SlotLaws.{split, or_false_right}
use Rattle.model.proofs.EntryLaws.{SlotFits, Each, each_none, length_slot}
use Rattle.model.proofs.Acceptance.{Unrefused, unrefused}
use Rattle.image.specs.WellFormed.{installed_ok}
use Rattle.image.specs.Claims.{call_fits, memory_ok}
use Rattle.image.specs.Image.{decode, BytesCall, lent_call, bytes_step}
use Rattle.image.specs.Output.{output_slots, output_after}
use Rattle.image.proofs.Facts.{GenerationFacts, generation_facts, store_facts}
use Rattle.image.proofs.ReadBack.{decode_some}
use Rattle.image.proofs.OnBytes.{step_holds}
use Rattle.image.proofs.Closure.{closure}
use Rattle.unchecked_calls.proofs.Turned.{memory_of}
use Rattle.unchecked_reads.proofs.Queue.{queued_fit}
use Rattle.listing.proofs.Lengths.{listed_count}
use Rattle.call_answers.specs.declared.CallAnswer.TheVariants.{Open, AnchorSame, AnchorFresh, Advance, Value as Found, Nothing, Put, Wait, Take, Answer as Answered}
use Rattle.call_answers.specs.Answers.{CallReply, reply_of}
use Rattle.call_answers.proofs.Lines.{slots_told, listed_in, SlotsFit, listed_in_count}
use Rattle.call_progress.specs.Progress.{store_after}
use Rattle.call_steps.specs.Steps.{with_lent}
use Rattle.call_steps.proofs.Said.{IsAdvanced, is_advanced, reported}

-- Whether the bytes are a store ---------------------------------------------------------------------------

-- Whether the bytes are a store after a call, by whether they were before it and the model's answer (`store_after` of the answer's reply).
abbrev pub store_told : Bool → Answer → Bool
store_told known (refuse n) = known
store_told known (ok opened) = true
store_told known (ok anchor_same) = known
store_told known (ok anchor_fresh) = known
store_told known (ok (advanced d)) = known
store_told known (ok (value v)) = known
store_told known (ok no_value) = known
store_told known (ok stored) = known
store_told known (ok (waiting n)) = known
store_told known (ok (listed ss)) = known
store_told known (ok (answered m e w)) = known

told : (known : Bool) (r : CallReply) (out : List ℕ) → store_after known r ≡ store_told known (reply_of r out)
told known (Err e) out = refl
told known (Ok Open) out = refl
told known (Ok AnchorSame) out = refl
told known (Ok AnchorFresh) out = refl
told known (Ok (Advance r)) out = refl
told known (Ok (Found v)) out = refl
told known (Ok Nothing) out = refl
told known (Ok Put) out = refl
told known (Ok (Wait n)) out = refl
told known (Ok (Take n)) out = refl
told known (Ok (Answered m e w)) out = refl

still : (a : Answer) → true ≡ store_told true a
still (refuse n) = refl
still (ok opened) = refl
still (ok anchor_same) = refl
still (ok anchor_fresh) = refl
still (ok (advanced d)) = refl
still (ok (value v)) = refl
still (ok no_value) = refl
still (ok stored) = refl
still (ok (waiting n)) = refl
still (ok (listed ss)) = refl
still (ok (answered m e w)) = refl

concluded : (m : Memory) (c : Call) (r : Option ℕ) → is_some (conclude r m (accept m c)).memory ≡ store_told (is_some m) (conclude r m (accept m c)).answer
unfolding accept
concluded m c (Some n) = refl
concluded m (open_store n d R) None = refl
concluded None (on_store c) None = refl
concluded (Some st) (on_store c) None = still (ok (perform st.config st.installed c).report)

-- Any call: only an accepted open makes the bytes a store, and no call makes them none.
pub store_after_is : (b : List ℕ) (c : BytesCall) → call_fits c.call ≡ true → is_some (decode (bytes_step b c).bytes) ≡ store_told (is_some (decode b)) (bytes_step b c).answer
unfolding bytes_step step
store_after_is b c f =
    ap (λ (m : Memory). is_some m) (step_holds closure b c f).reads
    ∙ concluded (decode b) c.call (refusal (decode b) (lent_call (length b) c).lent c.call)

-- The same by a reply that means the answer.
pub store_after_reply : (b : List ℕ) (c : BytesCall) (r : CallReply) (out : List ℕ) → call_fits c.call ≡ true → reply_of r out ≡ (bytes_step b c).answer → is_some (decode (bytes_step b c).bytes) ≡ store_after (is_some (decode b)) r
store_after_reply b c r out f e =
    store_after_is b c f
    ∙ ap (store_told (is_some (decode b))) (sym e)
    ∙ sym (told (is_some (decode b)) r out)

pub length_after : (b : List ℕ) (c : BytesCall) → call_fits c.call ≡ true → length (bytes_step b c).bytes ≡ length b
unfolding bytes_step
length_after b c f = (step_holds closure b c f).as_long

-- Room for the slots that a call lists --------------------------------------------------------------------

-- At most 64 slots, each fits, and the output holds them.
pub record AnswerRoom (a : Answer) (entries : List ℕ) : Type 0 where
  pub few : slots_told a ≤ 64
  pub held : slots_told a * 52 ≤ length entries
  pub fit : SlotsFit a

-- What a report lists and puts, with the n entries that the output holds.
record Listing (n : ℕ) (r : Report) : Type 0 where
  few : listed_count r ≤ 64
  held : listed_count r ≤ n
  fit : Each SlotFits (listed_in r)
  puts : length (output_slots r) ≤ n

-- Of no slots each fits.
none_fit : (ss : List Slot) → length ss ≡ 0 → Each SlotFits ss
none_fit [] e = each_none
none_fit (s ∷ ss) e = absurd (omega arith)

-- A report that lists nothing, and what it puts the output holds.
silent : (n : ℕ) (r : Report) → listed_count r ≡ 0 → length (output_slots r) ≤ n → Listing n r
silent n r e h = record { few = omega arith; held = omega arith; fit = none_fit (listed_in r) (sym (listed_in_count r) ∙ e); puts = h }

length_cond : (t : Bool) (s : Slot) (ss : List Slot) → length (cond t ss (s ∷ ss)) ≤ suc (length ss)
length_cond true s ss = omega arith
length_cond false s ss = omega arith

length_queued : (q : List Pending) → length (queued q) ≤ length q
unfolding queued
length_queued [] = omega arith
length_queued (w ∷ q) = omega (arith, length_queued q, length_cond w.taken w.slot (queued q))

module _ (n : ℕ) where
  of_value : (o : Option Value) → Listing n (value_report o)
  of_value None = silent n _ refl (omega arith)
  of_value (Some v) = silent n _ refl (omega arith)

  of_get : (g : Generation) (s : Slot) (o : Option Value) → Listing n (perform_get g s o).report
  of_get g s None = silent n _ refl (omega arith)
  of_get g s (Some v) = silent n _ refl (omega arith)

  of_read : (g : Generation) (s : Slot) (o : Option Value) → Listing n (perform_read g s o).report
  of_read g s None = silent n _ refl (omega arith)
  of_read g s (Some v) = silent n _ refl (omega arith)

-- An advance lists nothing.
of_advance : (child : ReadAnchor) (h : U256) (p : Prepared) (cfg : Config) (o : Option Generation) → listed_count (perform cfg o (advance child h p)).report ≡ 0
unfolding perform carry cold_advance
of_advance child h p cfg None = refl
of_advance child h p cfg (Some g) =
    split (anchor_eqb g.anchor child)
    (λ e. rw e refl)
    (λ e. rw e (split (carries (classify_link (Some g.anchor) child h) (skip_of p.skip)) (λ y. rw y refl) (λ y. rw y refl)))

-- It puts no more than it writes.
advance_puts : (n k : ℕ) {r : Report} → IsAdvanced k r → k ≤ n → length (output_slots r) ≤ n
advance_puts n k (is_advanced d e) h = omega arith

-- An accepted take, by what was not refused: 27; and an advance: 9.
of_take : (cfg : Config) (g : Generation) (l : Lent) (a : ReadAnchor) → installed_ok cfg (Some g) ≡ true → Unrefused (memory_of cfg (Some g)) l (on_store (at_anchor a take)) → Listing l.output_entries (listed (queued g.pending))
unfolding output_short_of_queue
of_take cfg g l a e u =
    let k : GenerationFacts cfg g = generation_facts cfg g e in
    let h : length (queued g.pending) ≤ l.output_entries = ltb-false l.output_entries (length (queued g.pending)) u.output_holds_queue in
    record { few = omega (arith, length_queued g.pending, k.few_pending); held = h; fit = queued_fit g.pending k.pending_right; puts = h }

writes_held : (st : Store) (l : Lent) (child : ReadAnchor) (h : U256) (p : Prepared) → Unrefused (Some st) l (on_store (advance child h p)) → length p.writes ≤ l.output_entries
unfolding lent_too_short
writes_held st l child h p u = ltb-false l.output_entries (length p.writes) (or_false_right (ltb l.work_bytes (work_size st.config.capacity)) _ u.lent_enough)

at_call : (cfg : Config) (g : Generation) (l : Lent) (a : ReadAnchor) (k : AnchoredCall) → installed_ok cfg (Some g) ≡ true → Unrefused (memory_of cfg (Some g)) l (on_store (at_anchor a k)) → Listing l.output_entries (perform_at cfg g k).report
at_call cfg g l a (on_slot (look s)) e u = of_value l.output_entries (resolved cfg.retention g s)
at_call cfg g l a (on_slot (get s)) e u = of_get l.output_entries g s (resolved cfg.retention g s)
at_call cfg g l a (on_slot (put s v)) e u = silent l.output_entries _ refl (omega arith)
at_call cfg g l a (on_slot (read s)) e u = of_read l.output_entries g s (resolved cfg.retention g s)
at_call cfg g l a take e u = of_take cfg g l a e u
at_call cfg g l a (answer ms) e u = silent l.output_entries _ refl (omega arith)
at_call cfg g l a (answer_failed ss) e u = silent l.output_entries _ refl (omega arith)

on_call : (cfg : Config) (o : Option Generation) (l : Lent) (c : StoreCall) → installed_ok cfg o ≡ true → Unrefused (memory_of cfg o) l (on_store c) → Listing l.output_entries (perform cfg o c).report
unfolding perform
on_call cfg o l (advance child h p) e u =
    silent l.output_entries _ (of_advance child h p cfg o)
    (advance_puts l.output_entries (length p.writes) (reported child h p cfg o) (writes_held (record { config = cfg; installed = o }) l child h p u))
on_call cfg None l (install a) e u = silent l.output_entries _ refl (omega arith)
on_call cfg (Some g) l (install a) e u = split (anchor_eqb g.anchor a) (λ y. rw y (silent l.output_entries _ refl (omega arith))) (λ y. rw y (silent l.output_entries _ refl (omega arith)))
on_call cfg None l (at_anchor a k) e u = silent l.output_entries _ refl (omega arith)
on_call cfg (Some g) l (at_anchor a k) e u = at_call cfg g l a k e u

accepted : (m : Memory) (l : Lent) (c : Call) → memory_ok m ≡ true → Unrefused m l c → Listing l.output_entries (accept m c).report
unfolding accept
accepted m l (open_store n d R) e u = silent l.output_entries _ refl (omega arith)
accepted None l (on_store c) e u = silent l.output_entries _ refl (omega arith)
accepted (Some st) l (on_store c) e u = on_call st.config st.installed l c (store_facts st e).installed_right u

decoded_ok : (b : List ℕ) (m : Memory) → decode b ≡ m → memory_ok m ≡ true
decoded_ok b None e = refl
decoded_ok b (Some st) e = (decode_some b st e).right

-- The output keeps its length.
length_slots : (ss : List Slot) → length (slots_bytes ss) ≡ 52 * length ss
unfolding slots_bytes
length_slots [] = refl
length_slots (s ∷ ss) = length-append (slot_bytes s) (slots_bytes ss) ∙ omega (arith, length_slot s, length_slots ss)

length_put : (ss : List Slot) (entries : List ℕ) → length ss * 52 ≤ length entries → length (with_slots ss entries) ≡ length entries
length_put ss entries h =
    length-append (slots_bytes ss) (drop (52 * length ss) entries) ∙ omega (arith, length_slots ss, length-drop (52 * length ss) entries)

module _ (b : List ℕ) (c : Call) (w : ℕ) (entries : List ℕ) where
  abbrev lent : Lent
  lent = (lent_call (length b) (with_lent c w entries)).lent

  reports : refusal (decode b) lent c ≡ None → Listing (length entries / 52) (accept (decode b) c).report
  reports q = accepted (decode b) lent c (decoded_ok b (decode b) refl) (unrefused (decode b) lent c q)

  pub answer_room : AnswerRoom (bytes_step b (with_lent c w entries)).answer entries
  unfolding bytes_step step
  answer_room = go (refusal (decode b) lent c) refl
    where
      go : (r : Option ℕ) → refusal (decode b) lent c ≡ r → AnswerRoom (conclude r (decode b) (accept (decode b) c)).answer entries
      go (Some n) q = record { few = omega arith; held = omega arith; fit = each_none }
      go None q =
          let r : Report = (accept (decode b) c).report in
          let k : Listing (length entries / 52) r = reports q in
          record { few = k.few; held = omega (arith, k.held, div-add-mod' (length entries) 52); fit = k.fit }

  pub output_length : length (output_after (bytes_step b (with_lent c w entries)).answer entries) ≡ length entries
  unfolding bytes_step step
  output_length = go (refusal (decode b) lent c) refl
    where
      go : (r : Option ℕ) → refusal (decode b) lent c ≡ r → length (output_after (conclude r (decode b) (accept (decode b) c)).answer entries) ≡ length entries
      go (Some n) q = refl
      go None q = length_put (output_slots (accept (decode b) c).report) entries (omega (arith, (reports q).puts, div-add-mod' (length entries) 52))
