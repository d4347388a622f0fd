-- The calls of a list on lent bytes: they fit, so that their answers are those of the calls on states, and so is their listing. Assumes nothing.
use Rattle.std.specs.Prelude.{Some}
use mathlib.Core.Path.{◌≡◌, refl, sym, ap, ◌∙◌}
use mathlib.Core.Bool.{Bool, true, ◌&&◌}
use mathlib.Core.List.{List, [], ◌∷◌, ◌++◌, map, map-map, append_assoc, append-nil}
use Prim.Native.Nat.{ℕ}
use lib.ListN.{length}
use Rattle.model.specs.Numbers.{Bytes}
use Rattle.model.specs.Refusals.{Answer, store_size, work_size, trace}
use Rattle.image.specs.Image.{decode, BytesResult, lent_call, bytes_step, bytes_trace, bytes_final}
use Rattle.image.specs.WellFormed.{retention_fits}
use Rattle.image.specs.Claims.{call_fits, calls_fit}
use Rattle.image.proofs.Closure.{closure}
use Rattle.image.proofs.OnBytes.{on_bytes}
use Rattle.call_list.specs.Listed.{OpenLimits, ListedCall}
use Rattle.call_list.specs.Meaning.{meaning}
use Rattle.call_list.specs.CallList.{CallList, call_list, add_call, no_more_calls}
use Rattle.call_list.specs.Listing.{answer_lines, answers_lines, end_line, refusal_line}
use Rattle.call_list.specs.Calls.{listing}
use Rattle.call_laws.specs.Runs.{lent_each}
use Rattle.call_laws.proofs.Calls.{all_fit, call_list_fits}

-- The lines of the calls of a list on bytes, and the listing: these lines, then the refusal that ends the list.
abbrev pub bytes_lines : OpenLimits → ℕ → ℕ → List ℕ → List ListedCall → List ℕ
bytes_lines d w e b cs = answers_lines (bytes_trace b (lent_each d w e cs))

unfoldable pub bytes_listing : OpenLimits → ℕ → ℕ → List ℕ → CallList → List ℕ
bytes_listing d w e b l = bytes_lines d w e b l.calls ++ end_line l.ends_with

-- They fit where the calls do, and so do those of a list of bytes.
module _ (d : OpenLimits) (w e : ℕ) where
  same_fit : (cs : List ListedCall) → calls_fit (lent_each d w e cs) ≡ all_fit d cs
  unfolding calls_fit all_fit
  same_fit [] = refl
  same_fit (c ∷ cs) = ap (λ (b : Bool). call_fits (meaning d c) && b) (same_fit cs)

  pub lent_fits : (cs : List ListedCall) → all_fit d cs ≡ true → calls_fit (lent_each d w e cs) ≡ true
  lent_fits cs h = same_fit cs ∙ h

  -- The answers on bytes are those on the state that they read as.
  pub answers_on_bytes : (b : List ℕ) (cs : List ListedCall) → all_fit d cs ≡ true
      → bytes_trace b (lent_each d w e cs) ≡ trace (decode b) (map (λ c. record { call = meaning d c; lent = record { store_bytes = length b; work_bytes = w; output_entries = e } }) cs)
  answers_on_bytes b cs h =
      (on_bytes closure b (lent_each d w e cs) (lent_fits cs h)).answers
      ∙ ap (trace (decode b)) (map-map (lent_call (length b)) (λ c. record { call = meaning d c; work_bytes = w; output_entries = e }) cs)

-- The listing on bytes that are lent as the program lends them is that of the state that they read as.
pub listing_on_bytes : (d : OpenLimits) → retention_fits d.retention ≡ true → (b l : List ℕ) → Bytes l → length b ≡ store_size 256
    → bytes_listing d (work_size 256) 1024 b (call_list l) ≡ listing d (decode b) (call_list l)
unfolding listing bytes_listing
listing_on_bytes d h b l f n =
    ap (λ (x : List Answer). answers_lines x ++ end_line (call_list l).ends_with)
    (answers_on_bytes d (work_size 256) 1024 b (call_list l).calls (call_list_fits d h l f)
    ∙ ap (λ (k : ℕ). trace (decode b) (map (λ c. record { call = meaning d c; lent = record { store_bytes = k; work_bytes = work_size 256; output_entries = 1024 } }) (call_list l).calls)) n)

-- The listing call by call.
module _ (d : OpenLimits) (w e : ℕ) (b : List ℕ) where
  pub listing_end : bytes_listing d w e b no_more_calls ≡ []
  unfolding bytes_listing bytes_trace answers_lines
  listing_end = refl

  pub listing_fault : (n : ℕ) → bytes_listing d w e b (record { calls = []; ends_with = Some n }) ≡ refusal_line n
  unfolding bytes_listing bytes_trace answers_lines
  listing_fault n = refl

  pub listing_next : (c : ListedCall) (l : CallList) →
      let o : BytesResult = bytes_step b (record { call = meaning d c; work_bytes = w; output_entries = e }) in
      bytes_listing d w e b (add_call c l) ≡ answer_lines o.answer ++ bytes_listing d w e o.bytes l
  unfolding bytes_listing bytes_trace answers_lines
  listing_next c l = append_assoc (answer_lines (bytes_step b (record { call = meaning d c; work_bytes = w; output_entries = e })).answer) _ _

-- The bytes after calls, and their lines: of none, of one, and of calls after others.
module _ (d : OpenLimits) (w e : ℕ) where
  pub final_none : (b : List ℕ) → bytes_final b (lent_each d w e []) ≡ b
  unfolding bytes_final
  final_none b = refl

  pub final_one : (b : List ℕ) (c : ListedCall) → bytes_final b (lent_each d w e (c ∷ [])) ≡ (bytes_step b (record { call = meaning d c; work_bytes = w; output_entries = e })).bytes
  unfolding bytes_final
  final_one b c = refl

  pub final_then : (b : List ℕ) (cs ds : List ListedCall) → bytes_final b (lent_each d w e (cs ++ ds)) ≡ bytes_final (bytes_final b (lent_each d w e cs)) (lent_each d w e ds)
  unfolding bytes_final
  final_then b [] ds = refl
  final_then b (c ∷ cs) ds = final_then (bytes_step b (record { call = meaning d c; work_bytes = w; output_entries = e })).bytes cs ds

  pub lines_none : (b : List ℕ) → bytes_lines d w e b [] ≡ []
  unfolding bytes_trace answers_lines
  lines_none b = refl

  pub lines_one : (b : List ℕ) (c : ListedCall) → bytes_lines d w e b (c ∷ []) ≡ answer_lines (bytes_step b (record { call = meaning d c; work_bytes = w; output_entries = e })).answer
  unfolding bytes_trace answers_lines
  lines_one b c = append-nil (answer_lines (bytes_step b (record { call = meaning d c; work_bytes = w; output_entries = e })).answer)

  pub lines_then : (b : List ℕ) (cs ds : List ListedCall) → bytes_lines d w e b (cs ++ ds) ≡ bytes_lines d w e b cs ++ bytes_lines d w e (bytes_final b (lent_each d w e cs)) ds
  unfolding bytes_trace bytes_final answers_lines
  lines_then b [] ds = refl
  lines_then b (c ∷ cs) ds =
      let o : BytesResult = bytes_step b (record { call = meaning d c; work_bytes = w; output_entries = e }) in
      ap (λ (x : List ℕ). answer_lines o.answer ++ x) (lines_then o.bytes cs ds)
      ∙ sym (append_assoc (answer_lines o.answer) (bytes_lines d w e o.bytes cs) (bytes_lines d w e (bytes_final o.bytes (lent_each d w e cs)) ds))
