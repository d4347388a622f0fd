-- Calls on lent bytes are the calls on the states that the bytes read as.
use Rattle.std.specs.Prelude.{None, Option, Some}
use Prim.Native.Nat.{ℕ, ◌≤◌}
use mathlib.Core.Path.{◌≡◌, refl, ap, ap₂, ◌∙◌}
use mathlib.Core.Bool.{true, false}
use mathlib.Core.List.{List, [], ◌∷◌, map}
use native.Mathlib.Omega.{arith}
use lib.Dec.{ltb}
use lib.ListN.{length, drop, length-append, length-drop}
use borrow.Author.Tests.{ltb-false}
use Rattle.model.specs.declared.delta_snapshot.Retention.{Retention}
use Rattle.model.specs.Store.{Call, open_store, on_store, Memory, Accepted, accept}
use Rattle.model.specs.Refusals.{LentCall, Lent, Answer, StepResult, Condition, conditions, first_that_holds, refusal, conclude, step, trace, final, store_size, lent_too_short}
use Rattle.model.proofs.SlotLaws.{split, and_left, and_right, or_false_left}
use Rattle.image.specs.Image.{image, decode, overlay, bytes_after, BytesCall, lent_call, bytes_step, bytes_trace, bytes_final}
use Rattle.image.specs.Claims.{call_fits, calls_fit, memory_ok, Closure, OnBytes}
use Rattle.image.proofs.ReadBack.{decode_some, length_image, decode_image}

-- The bytes that a state needs.
abbrev needed : Memory → ℕ
needed None = 0
needed (Some st) = store_size st.config.capacity

-- What lent bytes read as is well formed, and they are long enough for it.
decode_ok : (b : List ℕ) (m : Memory) → decode b ≡ m → memory_ok m ≡ true
decode_ok b None e = refl
decode_ok b (Some st) e = (decode_some b st e).right

decode_room : (b : List ℕ) (m : Memory) → decode b ≡ m → needed m ≤ length b
decode_room b None e = omega arith
decode_room b (Some st) e = omega (arith, (decode_some b st e).long)

-- Bytes after a call ----------------------------------------------------------------------------------

-- Bytes of a length that read as a state.
pub record Holds (b : List ℕ) (n : ℕ) (m : Memory) : Type 0 where
  pub as_long : length b ≡ n
  pub reads : decode b ≡ m

-- A well-formed state laid over bytes that are long enough for it; no state, over bytes that are none.
laid_over : (b : List ℕ) (m : Memory) → memory_ok m ≡ true → needed m ≤ length b → (m ≡ None → decode b ≡ None) → Holds (overlay m b) (length b) m
laid_over b None e h k = record { as_long = refl; reads = k refl }
laid_over b (Some st) e h k = record {
  as_long = length-append (image st) (drop (length (image st)) b) ∙ omega (arith, length-drop (length (image st)) b, length_image st e);
  reads = decode_image st (drop (length (image st)) b) e;
}

-- Where no condition of a list holds, the first does not, and none of the rest does.
none_holds : (k : Condition) (ks : List Condition) → first_that_holds (k ∷ ks) ≡ None → (k.holds ≡ false) × (first_that_holds ks ≡ None)
unfolding first_that_holds
none_holds k ks e =
    split k.holds
    (λ t. let z : ◌≡◌ {A = ℕ} 0 1 = cc (rw t at e) in absurd (omega arith))
    (λ t. (t, rw t at e))

-- Of an open that is not refused, the lent bytes are long enough.
open_room : (m : Memory) (l : Lent) (capacity depth : ℕ) (R : Retention) → refusal m l (open_store capacity depth R) ≡ None → store_size capacity ≤ l.store_bytes
unfolding refusal conditions lent_too_short
open_room m l n d R e =
    let e₁ = none_holds _ _ e in
    let e₂ = none_holds _ _ e₁.1 in
    let e₃ = none_holds _ _ e₂.1 in
    let e₄ = none_holds _ _ e₃.1 in
    let e₅ = none_holds _ _ e₄.1 in
    let e₆ = none_holds _ _ e₅.1 in
    let e₇ = none_holds _ _ e₆.1 in
    ltb-false l.store_bytes (store_size n) (or_false_left (ltb l.store_bytes (store_size n)) _ e₇.0)

-- An accepted call leaves a state that the bytes have room for, and none only where there was none.
accepted_room : (m : Memory) (l : Lent) (c : Call) → needed m ≤ l.store_bytes → refusal m l c ≡ None → needed (accept m c).memory ≤ l.store_bytes
unfolding accept
accepted_room m l (open_store n d R) h e = open_room m l n d R e
accepted_room None l (on_store c) h e = h
accepted_room (Some st) l (on_store c) h e = h

accepted_none : (m : Memory) (c : Call) → (accept m c).memory ≡ None → m ≡ None
unfolding accept
accepted_none None c e = refl
accepted_none (Some st) (open_store n d R) e = cc
accepted_none (Some st) (on_store c) e = cc

concluded : (b : List ℕ) (m : Memory) (r : Option ℕ) (a : Accepted) → decode b ≡ m → memory_ok (conclude r m a).memory ≡ true → (r ≡ None → needed a.memory ≤ length b) → (a.memory ≡ None → m ≡ None) →
    Holds (bytes_after (conclude r m a) b) (length b) (conclude r m a).memory
concluded b m None a e p h k = laid_over b a.memory p (h refl) (λ z. e ∙ k z)
concluded b m (Some n) a e p h k = record { as_long = refl; reads = e }

pub step_holds : Closure → (b : List ℕ) (c : BytesCall) → call_fits c.call ≡ true →
    let o : StepResult = step (decode b) (lent_call (length b) c) in Holds (bytes_after o b) (length b) o.memory
unfolding step
step_holds closed b c f =
    let m : Memory = decode b in
    let l : LentCall = lent_call (length b) c in
    concluded b m (refusal m l.lent c.call) (accept m c.call) refl (closed m l (decode_ok b m refl) f)
    (accepted_room m l.lent c.call (decode_room b m refl)) (accepted_none m c.call)

-- Lists of calls --------------------------------------------------------------------------------------

pub on_bytes : Closure → (b : List ℕ) (cs : List BytesCall) → calls_fit cs ≡ true → OnBytes b cs
unfolding calls_fit bytes_step bytes_trace bytes_final trace final
on_bytes closed b [] f = record { answers = refl; reads_as = refl }
on_bytes closed b (c ∷ cs) f =
    let o : StepResult = step (decode b) (lent_call (length b) c) in
    let h : Holds (bytes_after o b) (length b) o.memory = step_holds closed b c (and_left (call_fits c.call) (calls_fit cs) f) in
    let k : OnBytes (bytes_after o b) cs = on_bytes closed (bytes_after o b) cs (and_right (call_fits c.call) (calls_fit cs) f) in
    record {
      answers = ap (λ (x : List Answer). o.answer ∷ x) (k.answers ∙ ap₂ (λ (m : Memory) (n : ℕ). trace m (map (lent_call n) cs)) h.reads h.as_long);
      reads_as = k.reads_as ∙ ap₂ (λ (m : Memory) (n : ℕ). final m (map (lent_call n) cs)) h.reads h.as_long;
    }
