-- What `RunTo` says of a run between two places pins its calls, its bytes, its text and its output. Assumes nothing.
use Rattle.std.specs.Prelude.{Option}
use Prim.Native.Nat.{ℕ, ◌≤◌}
use mathlib.Core.Path.{◌≡◌, refl, sym, ap, ap₂, subst, ◌∙◌}
use mathlib.Core.List.{List, ◌∷◌, ◌++◌}
use native.Mathlib.Omega.{arith}
use lib.ListN.{length, take, drop, length-drop, take-append-drop}
use lib.Seq.{length-take-le}
use Rattle.image.specs.Image.{bytes_final}
use Rattle.call_list.specs.Listed.{ListedCall}
use Rattle.call_list.specs.Meaning.{default_limits}
use Rattle.call_list.specs.CallList.{parsed}
use Rattle.call_list.specs.Listing.{end_line}
use Rattle.call_laws.specs.Runs.{lent_each}
use Rattle.call_laws.proofs.Listing.{bytes_lines}
use Rattle.call_run.specs.Run.{CallsTo, no_call, call_then, RunTo}
use Rattle.call_run.proofs.Reached.{calls_forward}

-- Two places from which a list goes on in the same way are the same.
same_place : (list : List ℕ) (m n : ℕ) → m ≤ length list → n ≤ length list → drop m list ≡ drop n list → m ≡ n
same_place list m n h k e = omega (arith, length-drop m list, length-drop n list, ap length e)

-- The calls between two places.
calls_to : {list : List ℕ} {from next next' : ℕ} {cs ds : List ListedCall} → CallsTo list from next cs → CallsTo list from next' ds → next ≡ next' → cs ≡ ds
calls_to no_call no_call p = refl
calls_to no_call (call_then e h k u) p = absurd (omega (arith, calls_forward u))
calls_to (call_then e h k u) no_call p = absurd (omega (arith, calls_forward u))
calls_to {list} {from} {next} {next'} (call_then {at = at} {c = c} {cs = cs} e h k u) (call_then {at = at'} {c = c'} {cs = ds} e' h' k' v) p =
    let q0 : parsed c (drop at list) ≡ parsed c' (drop at' list) = sym e ∙ e' in
    let q : drop at list ≡ drop at' list = cc in
    let s : c ≡ c' = cc in
    let r : at' ≡ at = sym (same_place list at at' k k' q) in
    ap₂ (λ (x : ListedCall) (y : List ListedCall). x ∷ y) s (calls_to u (subst (λ (x : ℕ). CallsTo list x next' ds) r v) p)

calls_once : {list : List ℕ} {from next : ℕ} {cs ds : List ListedCall} → CallsTo list from next cs → CallsTo list from next ds → cs ≡ ds
calls_once u v = calls_to u v refl

-- The rest of a run.
module _ {w e : ℕ} {list : List ℕ} {from next : ℕ} {end : Option ℕ} {b out : List ℕ} {m n : ℕ} {a o a' o' : List ℕ} (u : RunTo w e list from next end m b out a o) (v : RunTo w e list from next end n b out a' o') where
  same_calls : u.calls ≡ v.calls
  same_calls = calls_once u.calls_are v.calls_are

  pub bytes_once : a ≡ a'
  bytes_once = u.bytes_are ∙ ap (λ (cs : List ListedCall). bytes_final b (lent_each default_limits w e cs)) same_calls ∙ sym v.bytes_are

  text_once : take m o ≡ take n o'
  text_once = u.text_is ∙ ap (λ (cs : List ListedCall). bytes_lines default_limits w e b cs ++ end_line end) same_calls ∙ sym v.text_is

  pub written_once : m ≡ n
  written_once =
      let x : length (take m o) ≡ m = length-take-le m o (omega (arith, u.written_within, u.same_length)) in
      let y : length (take n o') ≡ n = length-take-le n o' (omega (arith, v.written_within, v.same_length)) in
      let z : length (take m o) ≡ length (take n o') = ap length text_once in
      omega arith

  pub output_once : o ≡ o'
  output_once =
      sym (take-append-drop m o)
      ∙ ap₂ (λ (x y : List ℕ). x ++ y) text_once (u.rest_is ∙ ap (λ (k : ℕ). drop k out) written_once ∙ sym v.rest_is)
      ∙ take-append-drop n o'
