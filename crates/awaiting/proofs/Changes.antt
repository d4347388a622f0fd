-- The awaiting slots after a join and a removal, at the place that the search found.
use Prim.Native.Nat.{ℕ, zero, suc, ◌+◌, ◌-◌, ◌*◌, ◌^◌, ◌≤◌, ◌<◌}
use mathlib.Core.Path.{◌≡◌, refl, sym, ap, ap₂, ◌∙◌}
use mathlib.Core.Bool.{Bool, true, false, not, ◌&&◌, cond}
use mathlib.Core.List.{List, [], ◌∷◌, ◌++◌}
use native.Mathlib.Omega.{arith}
use lib.Dec.{leb}
use borrow.Author.Tests.{leb-false}
use lib.ListN.{length, take, drop, replicate, length-append, length-drop}
use lib.Seq.{length-take-le}
use Rattle.layout.specs.Layout.{awaiting_size, awaiting_table_size, waiters_offset}
use Rattle.model.specs.declared.delta_snapshot.Slot.{Slot}
use Rattle.model.specs.Numbers.{be}
use Rattle.model.specs.Slots.{slot_words, slot_eqb, mem}
use Rattle.model.specs.Reads.{Pending, is_awaiting, join, take_queued, remove_pending, remove_all_pending, woken, has_duplicate}
use Rattle.model.proofs.SlotLaws.{split}
use Rattle.words.specs.Parts.{part, placed}
use Rattle.image.specs.Image.{bytes_of, pending_words}
use Rattle.image.specs.WellFormed.{slot_fits, pending_ok, all_waiters}
use Rattle.image.specs.Area.{pending_of, with_pending}
use Rattle.image.proofs.PendingOk.{join_ok, all_waiters_join, length_join, take_ok, all_waiters_take, length_take_queued, remove_all_ok, all_waiters_remove_all}
use Rattle.awaiting.specs.Awaiting.{entry_at, Ready, Holds}
use Rattle.awaiting.proofs.Places.{pending_at, FoundAt, AbsentAt, NotAmong}
use Rattle.awaiting.proofs.Awaits.{length_pending_of, pending_is}
use Rattle.awaiting.proofs.Stored.{Exact, exactly, entry_part, replaced, between, removed, waiters_written, with_twice, ready_after}

-- The waiters of one slot are no more than all.
pub waiters_le : (q : List Pending) (i : ℕ) → i < length q → (pending_at i q).waiters ≤ all_waiters q
unfolding all_waiters
waiters_le [] i h = absurd (omega arith)
waiters_le (w ∷ q) zero h = omega arith
waiters_le (w ∷ q) (suc i) h = let k : (pending_at i q).waiters ≤ all_waiters q = waiters_le q i (omega arith) in omega arith

pub absent_length : (t : Slot) (q : List Pending) (i : ℕ) → AbsentAt t q i → length (join t q) ≡ suc (length q)
absent_length t q i f =
    let k : i ≤ length q = f.within in
    let w : Pending = record { slot = t; waiters = 1; taken = false } in
    let a : length (take i q) ≡ i = length-take-le i q k in
    let b : length (drop i q) ≡ length q - i = length-drop i q in
    ap length f.joins ∙ length-append (take i q) (w ∷ drop i q) ∙ omega arith

-- There is room for a join where refusal 24 does not apply.
pub join_fits : (t : Slot) (q : List Pending) → pending_ok q ≡ true → length q ≤ 64 → (not (is_awaiting t q) && leb 64 (length q)) ≡ false → length (join t q) ≤ 64
join_fits t q e h f =
    split (is_awaiting t q)
    (λ p. let l : length (join t q) ≡ length q = length_join t q e ∙ ap (λ (b : Bool). cond b (length q) (suc (length q))) p in omega arith)
    (λ p. let l : length (join t q) ≡ suc (length q) = length_join t q e ∙ ap (λ (b : Bool). cond b (length q) (suc (length q))) p in
    let m : leb 64 (length q) ≡ false = sym (ap (λ (b : Bool). not b && leb 64 (length q)) p) ∙ f in
    omega (arith, leb-false 64 (length q) m))

module _ (n i : ℕ) (t : Slot) (s : List ℕ) (r : Ready n s) where
  exact_of : Exact (pending_of n s) s
  exact_of = exactly n (pending_of n s) s (length_pending_of n s) r.exact

  -- One waiter more at the slot's place.
  pub joined_found : (x : ℕ) {b : List ℕ} → FoundAt t (pending_of n s) i → x ≡ (entry_at i s).waiters → b ≡ placed (i * awaiting_size + waiters_offset) (be 8 (x + 1)) s → Holds n b n (join t (pending_of n s)) s
  joined_found x f e g =
      let q = pending_of n s in
      let l : length q ≡ n = length_pending_of n s in
      let h : i < length q = f.inside in
      let room : awaiting_table_size ≤ length s = r.area in
      let few : n ≤ 64 = r.few in
      let w = pending_at i q in
      let v : Pending = record { slot = t; waiters = suc w.waiters; taken = w.taken } in
      let p : x ≡ w.waiters = e ∙ ap (λ (u : Pending). u.waiters) (sym (pending_is n i s (omega arith))) in
      let m : x + 1 ≡ suc w.waiters = omega arith in
      let o : ◌≡◌ {A = Pending} (record { slot = w.slot; waiters = x + 1; taken = w.taken }) v = λ j. record { slot = f.slot_is j; waiters = m j; taken = w.taken } in
      let a : length (take i q) ≡ i = length-take-le i q (omega arith) in
      let c : length (drop (suc i) q) ≡ length q - suc i = length-drop (suc i) q in
      let d : length (take i q ++ (v ∷ drop (suc i) q)) ≡ n = length-append (take i q) (v ∷ drop (suc i) q) ∙ omega arith in
      record {
        count_is = sym (ap length f.joins ∙ d);
        bytes_are = g ∙ waiters_written i w (x + 1) s (omega arith) (entry_part q s exact_of i h)
            ∙ ap (λ (u : Pending). placed (i * awaiting_size) (bytes_of (pending_words u)) s) o
            ∙ replaced q s exact_of i v h ∙ ap₂ (λ (k : ℕ) (y : List Pending). with_pending k y s) l (sym f.joins);
      }

  -- The slot between others.
  pub joined_absent : {b : List ℕ} → AbsentAt t (pending_of n s) i
      → b ≡ take (i * awaiting_size) s ++ bytes_of (slot_words t ++ (1 ∷ 0 ∷ 0 ∷ [])) ++ part (i * awaiting_size) ((n - i) * awaiting_size) s ++ drop ((n + 1) * awaiting_size) s → Holds (n + 1) b n (join t (pending_of n s)) s
  joined_absent f g =
      let q = pending_of n s in
      let l : length q ≡ n = length_pending_of n s in
      let h : i ≤ length q = f.within in
      let v : Pending = record { slot = t; waiters = 1; taken = false } in
      record {
        count_is = omega (arith, absent_length t q i f);
        bytes_are = g ∙ between q s exact_of i n v (sym l) (omega arith) ∙ ap (λ (y : List Pending). with_pending n y s) (sym f.joins);
      }

  pub removed_found : {b : List ℕ} → FoundAt t (pending_of n s) i
      → b ≡ take (i * awaiting_size) s ++ part ((i + 1) * awaiting_size) ((n - (i + 1)) * awaiting_size) s ++ replicate awaiting_size 0 ++ drop (n * awaiting_size) s → Holds (n - 1) b n (remove_pending t (pending_of n s)) s
  removed_found f g =
      let q = pending_of n s in
      let l : length q ≡ n = length_pending_of n s in
      let h : i < length q = f.inside in
      let a : length (take i q) ≡ i = length-take-le i q (omega arith) in
      let c : length (drop (suc i) q) ≡ length q - suc i = length-drop (suc i) q in
      let d : length (take i q ++ drop (suc i) q) ≡ n - 1 = length-append (take i q) (drop (suc i) q) ∙ omega arith in
      record {
        count_is = sym (ap length f.removes ∙ d);
        bytes_are = g ∙ removed q s exact_of i n (sym l) (omega arith) ∙ ap (λ (y : List Pending). with_pending n y s) (sym f.removes);
      }

pub removed_absent : (n : ℕ) (t : Slot) (s : List ℕ) → Ready n s → NotAmong t (pending_of n s) → Holds n s n (remove_pending t (pending_of n s)) s
removed_absent n t s r f =
    let q = pending_of n s in
    record { count_is = sym (ap length f.stays ∙ length_pending_of n s); bytes_are = sym (ap (λ (y : List Pending). with_pending n y s) f.stays ∙ r.exact) }

-- One removal after others -------------------------------------------------------------------------------

length_remove_le : (t : Slot) (q : List Pending) → length (remove_pending t q) ≤ length q
unfolding remove_pending
length_remove_le t [] = omega arith
length_remove_le t (w ∷ q) =
    split (slot_eqb w.slot t) (λ p. rw p (omega arith)) (λ p. let h : length (remove_pending t q) ≤ length q = length_remove_le t q in rw p (omega arith))

remove_ok : (t : Slot) (q : List Pending) → pending_ok q ≡ true → pending_ok (remove_pending t q) ≡ true
unfolding remove_all_pending
remove_ok t q e = remove_all_ok (t ∷ []) q e

all_waiters_less : (t : Slot) (q : List Pending) → all_waiters (remove_pending t q) ≤ all_waiters q
unfolding remove_all_pending has_duplicate mem
all_waiters_less t q = let e : all_waiters (remove_pending t q) + woken (t ∷ []) q ≡ all_waiters q = all_waiters_remove_all (t ∷ []) q refl in omega arith

-- What a removal leaves, of k awaiting slots that removals left of n: ready bytes, fewer slots, and the bytes by the n before.
pub record Removed (n : ℕ) (k : ℕ) (m : ℕ) (t : Slot) (s₀ s b : List ℕ) : Type 0 where
  pub ready : Ready m b
  pub fewer : m ≤ k
  pub reads_as : pending_of m b ≡ remove_pending t (pending_of k s)
  pub from_first : with_pending n (pending_of m b) s₀ ≡ b

pub one_removed : (n k m : ℕ) (t : Slot) (s₀ s b : List ℕ) → k ≤ n → Ready k s → with_pending n (pending_of k s) s₀ ≡ s → Holds m b k (remove_pending t (pending_of k s)) s → Removed n k m t s₀ s b
one_removed n k m t s₀ s b h r e f =
    let q = pending_of k s in
    let l : length q ≡ k = length_pending_of k s in
    let p = remove_pending t q in
    let g : length p ≤ length q = length_remove_le t q in
    let c : m ≡ length p = f.count_is in
    let few : k ≤ 64 = r.few in
    let w : all_waiters q < 2 ^ 32 = r.waiters_fit in
    let z : all_waiters p ≤ all_waiters q = all_waiters_less t q in
    let a = ready_after k m p s b r f (remove_ok t q r.ok) (omega arith) (omega arith) in
    record {
      ready = a.0;
      fewer = omega arith;
      reads_as = a.1;
      from_first = ap (λ (y : List Pending). with_pending n y s₀) a.1 ∙ sym (with_twice n k q p s₀ l h (omega arith)) ∙ ap (with_pending k p) e ∙ sym f.bytes_are;
    }

-- What each change leaves is ready for the next ------------------------------------------------------------

pub after_join : (n k : ℕ) (t : Slot) (s b : List ℕ) → Ready n s → slot_fits t ≡ true → suc (all_waiters (pending_of n s)) < 2 ^ 32 → length (join t (pending_of n s)) ≤ 64
    → Holds k b n (join t (pending_of n s)) s → Ready k b × (pending_of k b ≡ join t (pending_of n s))
after_join n k t s b r f w l h =
    let q = pending_of n s in
    let c : k ≡ length (join t q) = h.count_is in
    ready_after n k (join t q) s b r h (join_ok t q f r.ok) (omega (arith, all_waiters_join t q)) (omega arith)

pub after_take : (n : ℕ) (s b : List ℕ) → Ready n s → b ≡ with_pending n (take_queued (pending_of n s)) s → Ready n b × (pending_of n b ≡ take_queued (pending_of n s))
after_take n s b r e =
    let q = pending_of n s in
    let h : Holds n b n (take_queued q) s = record { count_is = sym (length_take_queued q ∙ length_pending_of n s); bytes_are = e } in
    let w : all_waiters q < 2 ^ 32 = r.waiters_fit in
    ready_after n n (take_queued q) s b r h (take_ok q ∙ r.ok) (omega (arith, all_waiters_take q)) r.few

length_remove_all_le : (ss : List Slot) (q : List Pending) → length (remove_all_pending ss q) ≤ length q
unfolding remove_all_pending
length_remove_all_le [] q = omega arith
length_remove_all_le (t ∷ ss) q = omega (arith, length_remove_all_le ss (remove_pending t q), length_remove_le t q)

all_waiters_all_less : (ss : List Slot) (q : List Pending) → all_waiters (remove_all_pending ss q) ≤ all_waiters q
unfolding remove_all_pending
all_waiters_all_less [] q = omega arith
all_waiters_all_less (t ∷ ss) q = omega (arith, all_waiters_all_less ss (remove_pending t q), all_waiters_less t q)

pub after_remove_all : (n k : ℕ) (ss : List Slot) (s b : List ℕ) → Ready n s → Holds k b n (remove_all_pending ss (pending_of n s)) s → Ready k b × (pending_of k b ≡ remove_all_pending ss (pending_of n s))
after_remove_all n k ss s b r h =
    let q = pending_of n s in
    let c : k ≡ length (remove_all_pending ss q) = h.count_is in
    let l : length q ≡ n = length_pending_of n s in
    let few : n ≤ 64 = r.few in
    let w : all_waiters q < 2 ^ 32 = r.waiters_fit in
    ready_after n k (remove_all_pending ss q) s b r h (remove_all_ok ss q r.ok) (omega (arith, all_waiters_all_less ss q)) (omega (arith, length_remove_all_le ss q))
