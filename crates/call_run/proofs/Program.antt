-- The program `calls` runs a list on zero bytes for 256 records: what it prints is what the definition says. Assumes nothing.
use Rattle.std.specs.Prelude.{None, Option}
use Prim.Native.Nat.{ℕ, ◌≤◌}
use mathlib.Core.Path.{◌≡◌, refl, sym, ap, ap₂, ◌∙◌}
use mathlib.Core.List.{List, [], ◌++◌, append_assoc, append-nil}
use native.Mathlib.Omega.{arith}
use lib.ListN.{length, take, drop, length-drop, length-replicate, drop_of_length-le}
use Rattle.model.specs.Numbers.{Bytes, num_from}
use Rattle.model.specs.Slots.{words_eqb}
use Rattle.model.specs.Store.{Memory}
use Rattle.model.specs.Refusals.{store_size, work_size}
use Rattle.image.specs.WellFormed.{config_ok, well_formed}
use Rattle.image.specs.Image.{decode, words_of, read_store, image_words, BytesResult, bytes_step, bytes_trace, bytes_final}
use Rattle.call_list.specs.Listed.{ListedCall}
use Rattle.call_list.specs.Meaning.{default_limits, meaning}
use Rattle.call_list.specs.CallList.{call_list}
use Rattle.call_list.specs.Listing.{answer_lines, answers_lines, end_line, refusal_line}
use Rattle.call_list.specs.Calls.{listing, calls_output}
use Rattle.call_laws.specs.Runs.{lent_each}
use Rattle.model.proofs.EntryLaws.{bytes_drop}
use Rattle.call_laws.proofs.Calls.{call_list_end, call_list_next, call_list_fault}
use Rattle.call_laws.proofs.Listing.{bytes_lines, bytes_listing, listing_on_bytes, listing_end, listing_fault, listing_next}
use Rattle.call_run.specs.Run.{CallsTo, no_call, call_then, FaultAt, RunTo}
use Rattle.call_run.specs.Program.{program_bytes, Printed, last_run, broken_run, next_run, ProgramPrints}

-- The program's bytes at first are no store: a store's capacity is not 0.
no_store : decode program_bytes ≡ None
unfolding decode words_of num_from read_store image_words words_eqb well_formed config_ok
no_store = refl

-- The listing of a list on them.
pub run_is_calls_output : (input list : List ℕ) → Bytes list → list ≡ take 65536 input → bytes_listing default_limits (work_size 256) 1024 program_bytes (call_list list) ≡ calls_output input
unfolding calls_output
run_is_calls_output input list f e =
    listing_on_bytes default_limits refl program_bytes list f (length-replicate {A = ℕ} (store_size 256) 0)
    ∙ ap (λ (m : Memory). listing default_limits m (call_list list)) no_store
    ∙ ap (λ (l : List ℕ). listing default_limits None (call_list l)) e

-- The listing of a list is the lines of its calls up to a place, and the listing from there on.
listing_to : (w e : ℕ) (list : List ℕ) → Bytes list → {from next : ℕ} {cs : List ListedCall} (b : List ℕ) → CallsTo list from next cs
    → bytes_listing default_limits w e b (call_list (drop from list)) ≡ bytes_lines default_limits w e b cs ++ bytes_listing default_limits w e (bytes_final b (lent_each default_limits w e cs)) (call_list (drop next list))
unfolding bytes_trace bytes_final answers_lines
listing_to w e list f b no_call = refl
listing_to w e list f {from} {next} b (call_then {at = at} {c = c} {cs = cs} p h k u) =
    let o : BytesResult = bytes_step b (record { call = meaning default_limits c; work_bytes = w; output_entries = e }) in
    let rest : List ℕ = bytes_listing default_limits w e (bytes_final o.bytes (lent_each default_limits w e cs)) (call_list (drop next list)) in
    ap (bytes_listing default_limits w e b) (call_list_next (drop from list) c (drop at list) (bytes_drop from list f) p)
    ∙ listing_next default_limits w e b c (call_list (drop at list))
    ∙ ap (λ (x : List ℕ). answer_lines o.answer ++ x) (listing_to w e list f o.bytes u)
    ∙ sym (append_assoc (answer_lines o.answer) (bytes_lines default_limits w e o.bytes cs) rest)

-- The listing from the place where a run stopped.
module _ {w e : ℕ} {list : List ℕ} (f : Bytes list) {from next written : ℕ} {b out after out_after : List ℕ} where
  listing_of : {end : Option ℕ} → RunTo w e list from next end written b out after out_after → bytes_listing default_limits w e after (call_list (drop next list)) ≡ end_line end
      → take written out_after ≡ bytes_listing default_limits w e b (call_list (drop from list))
  listing_of u h =
      u.text_is
      ∙ ap (λ (x : List ℕ). bytes_lines default_limits w e b u.calls ++ x) (sym h ∙ ap (λ (x : List ℕ). bytes_listing default_limits w e x (call_list (drop next list))) u.bytes_are)
      ∙ sym (listing_to w e list f b u.calls_are)

  listing_on : RunTo w e list from next None written b out after out_after
      → take written out_after ++ bytes_listing default_limits w e after (call_list (drop next list)) ≡ bytes_listing default_limits w e b (call_list (drop from list))
  listing_on u =
      ap₂ (λ (x y : List ℕ). x ++ y) (u.text_is ∙ append-nil (bytes_lines default_limits w e b u.calls)) (ap (λ (x : List ℕ). bytes_listing default_limits w e x (call_list (drop next list))) u.bytes_are)
      ∙ sym (listing_to w e list f b u.calls_are)

-- Nothing follows the list's end, and nothing a fault.
none_left : (w e : ℕ) (b list : List ℕ) (next : ℕ) → length list ≤ next → bytes_listing default_limits w e b (call_list (drop next list)) ≡ []
none_left w e b list next h = ap (bytes_listing default_limits w e b) (ap call_list (drop_of_length-le list h) ∙ call_list_end) ∙ listing_end default_limits w e b

fault_left : (w e : ℕ) (b list : List ℕ) (at n place : ℕ) → FaultAt list at n place → bytes_listing default_limits w e b (call_list (drop at list)) ≡ refusal_line n
fault_left w e b list at n place h =
    ap (bytes_listing default_limits w e b) (call_list_fault (drop at list) n (drop place list) (omega (arith, length-drop at list, h.there)) h.fault_is) ∙ listing_fault default_limits w e b n

-- The text of runs is the listing.
pub printed_is : {w e : ℕ} {list : List ℕ} {from : ℕ} {b text : List ℕ} → Bytes list → Printed w e list from b text → text ≡ bytes_listing default_limits w e b (call_list (drop from list))
printed_is {w} {e} {list} f (last_run {next = next} {after = after} u h) = listing_of f u (none_left w e after list next h)
printed_is {w} {e} {list} f (broken_run {at = at} {n = n} {place = place} {after = after} u h) = listing_of f u (fault_left w e after list at n place h)
printed_is f (next_run {written = written} {out_after = out_after} u p) = ap (λ (x : List ℕ). take written out_after ++ x) (printed_is f p) ∙ listing_on f u

-- What the program prints.
pub printed_is_calls_output : ProgramPrints
printed_is_calls_output input list text f e p = printed_is f p ∙ run_is_calls_output input list f e
