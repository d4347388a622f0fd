-- The calls of a list, one by one, and that all of them fit. Assumes nothing.
use Rattle.std.specs.Prelude.{Some}
use mathlib.Core.Path.{◌≡◌, refl, sym, ap, ◌∙◌}
use mathlib.Core.Bool.{Bool, true, ◌&&◌}
use mathlib.Core.List.{List, [], ◌∷◌}
use Prim.Native.Nat.{ℕ, zero, suc, ◌≤◌, ◌<◌}
use native.Mathlib.Omega.{arith}
use lib.ListN.{length}
use Rattle.model.specs.Numbers.{Bytes}
use Rattle.model.proofs.SlotLaws.{and_intro}
use Rattle.image.specs.WellFormed.{retention_fits}
use Rattle.image.specs.Claims.{call_fits}
use Rattle.call_list.specs.Listed.{OpenLimits, ListedCall}
use Rattle.call_list.specs.Meaning.{meaning}
use Rattle.call_list.specs.CallList.{Parsed, parsed, fault, parse_call, CallList, add_call, no_more_calls, after_parse, next_call, parse_calls, call_list}
use Rattle.call_laws.proofs.Parses.{ReadOn, parsed_call}

-- The calls of a list one by one ----------------------------------------------------------------------

-- Nothing follows the end, however many calls may.
no_bytes : (k : ℕ) (l : List ℕ) → length l ≤ 0 → parse_calls k l ≡ no_more_calls
unfolding parse_calls
no_bytes zero l h = refl
no_bytes (suc k) [] h = refl
no_bytes (suc k) (x ∷ l) h = absurd (omega arith)

-- What follows a call, read in two ways.
same_after : (p : Parsed ListedCall) (f g : List ℕ → CallList) → ((c : ListedCall) (r : List ℕ) → p ≡ parsed c r → f r ≡ g r) → after_parse p f ≡ after_parse p g
same_after (parsed c r) f g h = ap (add_call c) (h c r refl)
same_after (fault n r) f g h = refl

same_next : (l : List ℕ) (f g : List ℕ → CallList) → ((c : ListedCall) (r : List ℕ) → parse_call l ≡ parsed c r → f r ≡ g r) → next_call l f ≡ next_call l g
same_next [] f g h = refl
same_next (x ∷ l) f g h = same_after (parse_call (x ∷ l)) f g h

-- A list of n bytes has at most n calls, so that more may follow or not.
enough : (k m : ℕ) (l : List ℕ) → Bytes l → length l ≤ k → length l ≤ m → parse_calls k l ≡ parse_calls m l
unfolding parse_calls
enough zero m l b h i = sym (no_bytes m l h)
enough (suc k) zero l b h i = no_bytes (suc k) l i
enough (suc k) (suc m) l b h i =
    same_next l (parse_calls k) (parse_calls m) (λ c r e.
    let o : ReadOn c r l = parsed_call l c r b e in
    enough k m r o.bytes (omega arith) (omega arith))

pub call_list_end : call_list [] ≡ no_more_calls
unfolding call_list
call_list_end = no_bytes 0 [] (omega arith)

pub call_list_next : (l : List ℕ) (c : ListedCall) (r : List ℕ) → Bytes l → parse_call l ≡ parsed c r → call_list l ≡ add_call c (call_list r)
unfolding call_list parse_calls parse_call
call_list_next [] c r b e = let z : ◌≡◌ {A = ℕ} 0 1 = cc in absurd (omega arith)
call_list_next (x ∷ l) c r b e =
    let o : ReadOn c r (x ∷ l) = parsed_call (x ∷ l) c r b e in
    ap (λ p. after_parse p (parse_calls (length l))) e ∙ ap (add_call c) (enough (length l) (length r) r o.bytes (omega arith) (omega arith))

pub call_list_fault : (l : List ℕ) (n : ℕ) (r : List ℕ) → 0 < length l → parse_call l ≡ fault n r → call_list l ≡ record { calls = []; ends_with = Some n }
unfolding call_list parse_calls
call_list_fault [] n r h e = absurd (omega arith)
call_list_fault (x ∷ l) n r h e = ap (λ p. after_parse p (parse_calls (length l))) e

-- Every call fits -------------------------------------------------------------------------------------

unfoldable pub all_fit : OpenLimits → List ListedCall → Bool
all_fit d [] = true
all_fit d (c ∷ cs) = call_fits (meaning d c) && all_fit d cs

-- Where d are the limits of an open of byte 0.
module _ (d : OpenLimits) (h : retention_fits d.retention ≡ true) where
  after_fits : (p : Parsed ListedCall) (f : List ℕ → CallList) → ((c : ListedCall) (r : List ℕ) → p ≡ parsed c r → (call_fits (meaning d c) && all_fit d (f r).calls) ≡ true)
      → all_fit d (after_parse p f).calls ≡ true
  unfolding all_fit
  after_fits (parsed c r) f u = u c r refl
  after_fits (fault n r) f u = refl

  calls_fit_from : (k : ℕ) (l : List ℕ) → Bytes l → all_fit d (parse_calls k l).calls ≡ true
  unfolding parse_calls all_fit
  calls_fit_from zero l b = refl
  calls_fit_from (suc k) [] b = refl
  calls_fit_from (suc k) (x ∷ l) b =
      after_fits (parse_call (x ∷ l)) (parse_calls k) (λ c r e.
      let o : ReadOn c r (x ∷ l) = parsed_call (x ∷ l) c r b e in
      and_intro (call_fits (meaning d c)) (all_fit d (parse_calls k r).calls) (o.fits d h) (calls_fit_from k r o.bytes))

  pub call_list_fits : (l : List ℕ) → Bytes l → all_fit d (call_list l).calls ≡ true
  unfolding call_list
  call_list_fits l b = calls_fit_from (length l) l b
