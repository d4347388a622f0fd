-- Readings one after the other. Assumes nothing.
use mathlib.Core.Path.{◌≡◌, ap, ◌∙◌}
use mathlib.Core.List.{List}
use Prim.Native.Nat.{ℕ, ◌≤◌}
use native.Mathlib.Omega.{arith}
use Rattle.std.specs.Prelude.{Result, Ok, Err, IsErrAnd}
use Rattle.std.proofs.lemmas.Result.{err_from_is_err_and}
use Rattle.call_list.specs.CallList.{Parsed, parsed, then}
use Rattle.reader.specs.declared.FaultKind.{FaultKind}
use Rattle.reader.specs.declared.Reader.{Reader}
use Rattle.reader.specs.Reading.{Reads, answer, rest}

module _ {A A' B B' : Type 0} {h : A → A'} {g : B → B'} {p : List ℕ → Parsed A'} {before after : Reader} where
  -- what follows a thing that was read
  pub reads_then : {a : A} {r : Result B FaultKind} {mid : Reader} (f : A' → List ℕ → Parsed B')
      → Reads h (Ok a) p before mid → Reads g r (f (h a)) mid after → Reads g r (λ l. then (p l) f) before after
  reads_then f v w =
      record { means = w.means ∙ ap (λ q. then q f) v.means; forward = omega (arith, v.forward, w.forward); same_list = w.same_list ∙ v.same_list }

  -- a thing made of what was read last
  pub reads_map : {a : A} {b : B} (f : A' → B') → g b ≡ f (h a) → Reads h (Ok a) p before after → Reads g (Ok b) (λ l. then (p l) (λ x r. parsed (f x) r)) before after
  reads_map f e v =
      record { means = ap (λ x. parsed x (rest after)) e ∙ ap (λ q. then q (λ x r. parsed (f x) r)) v.means; forward = v.forward; same_list = v.same_list }

  -- nothing follows a fault
  pub reads_stop : {k : FaultKind} (f : A' → List ℕ → Parsed B') (r : Result B FaultKind) → IsErrAnd r (λ y. y ≡ k) → Reads h (Err k) p before after → Reads g r (λ l. then (p l) f) before after
  reads_stop f r e v =
      let q = err_from_is_err_and r e in
      record { means = ap (λ x. answer g x (rest after)) (q.1 ∙ ap Err q.2) ∙ ap (λ z. then z f) v.means; forward = v.forward; same_list = v.same_list }

module _ {A B : Type 0} {f : A → B} {r : Result A FaultKind} {p q : List ℕ → Parsed B} where
  -- what is read from a later place on, which the definition reads from here on
  pub reads_on : {before mid after : Reader} → p (rest mid) ≡ q (rest before) → before.at ≤ mid.at → mid.list.now ≡ before.list.now → Reads f r p mid after → Reads f r q before after
  reads_on e h s v = record { means = v.means ∙ e; forward = omega (arith, v.forward); same_list = v.same_list ∙ s }

-- what was read, seen in another way
pub reads_seen : {A B C : Type 0} {f : A → B} {r : Result A FaultKind} {p : List ℕ → Parsed B} {q : List ℕ → Parsed C} {before after : Reader} (g : B → C)
    → then (p (rest before)) (λ x l. parsed (g x) l) ≡ q (rest before) → Reads f r p before after → Reads (λ x. g (f x)) r q before after
reads_seen {r = Ok x} g e v = record { means = ap (λ z. then z (λ x l. parsed (g x) l)) v.means ∙ e; forward = v.forward; same_list = v.same_list }
reads_seen {r = Err k} g e v = record { means = ap (λ z. then z (λ x l. parsed (g x) l)) v.means ∙ e; forward = v.forward; same_list = v.same_list }
