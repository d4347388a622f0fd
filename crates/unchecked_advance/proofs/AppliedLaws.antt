-- The applied writes of a list are those whose slot has a record in the top that the list leaves. Assumes nothing.
use Rattle.std.specs.Prelude.{None, Option, Some, is_some}
use Prim.Native.Nat.{ℕ}
use mathlib.Core.Path.{◌≡◌, refl, sym, ap, ◌∙◌}
use mathlib.Core.Bool.{Bool, true, false, cond, true≢false}
use mathlib.Core.List.{List, [], ◌∷◌}
use native.Mathlib.Omega.{arith}
use lib.ListN.{length}
use Rattle.model.specs.declared.delta_snapshot.Slot.{Slot}
use Rattle.model.specs.declared.delta_snapshot.Retention.{Retention}
use Rattle.model.specs.declared.storage_memo.Address.{Address}
use Rattle.model.specs.Slots.{Value, LastUse, slot_eqb}
use Rattle.model.specs.declared.delta_snapshot.Content.{Content}
use Rattle.model.specs.Contents.{valued, use_of, has_value, valued_use}
use Rattle.model.specs.Layers.{Layer, find, insert, freshest_use}
use Rattle.model.specs.Advance.{Write, WriteKind, overwrite, new, skip, relevant, write_kind, final_write_kind, apply_write, count_write, SeededTop, seed_final_writes}
use Rattle.model.specs.Entries.{slots_bytes, with_slots}
use Rattle.model.proofs.SlotLaws.{split, slot_eqb_true, slot_eqb_refl}
use Rattle.model.proofs.LayerLaws.{find_insert}
use Rattle.unchecked_advance.specs.Outputs.{applied_in}

-- No record without a value.
abbrev plain : Option Content → Bool
plain None = true
plain (Some c) = has_value c

abbrev is_skip : WriteKind → Bool
is_skip (overwrite u) = false
is_skip new = false
is_skip skip = true

found_insert : (s t : Slot) (c : Content) (l : Layer) → is_some (find s l) ≡ true → is_some (find s (insert t c l)) ≡ true
found_insert s t c l h = rw (find_insert t s c l) (split (slot_eqb t s) (λ e. rw e) (λ e. rw e h))

found_write : (n : ℕ) (k : WriteKind) (s t : Slot) (v : Value) (l : Layer) → is_some (find s l) ≡ true → is_some (find s (apply_write n k t v l)) ≡ true
found_write n (overwrite u) s t v l h = found_insert s t (valued u v) l h
found_write n new s t v l h = found_insert s t (valued n v) l h
found_write n skip s t v l h = h

found_own : (s : Slot) (c : Content) (l : Layer) → is_some (find s (insert s c l)) ≡ true
found_own s c l = rw (find_insert s s c l, slot_eqb_refl s)

other_write : (n : ℕ) (k : WriteKind) (s t : Slot) (v : Value) (l : Layer) → slot_eqb t s ≡ false → find s (apply_write n k t v l) ≡ find s l
other_write n (overwrite u) s t v l e = rw (find_insert t s (valued u v) l, e)
other_write n new s t v l e = rw (find_insert t s (valued n v) l, e)
other_write n skip s t v l e = refl

plain_insert : (s t : Slot) (u : LastUse) (v : Value) (l : Layer) → plain (find s l) ≡ true → plain (find s (insert t (valued u v) l)) ≡ true
plain_insert s t u v l h = rw (find_insert t s (valued u v) l) (split (slot_eqb t s) (λ e. rw e) (λ e. rw e h))

plain_write : (n : ℕ) (k : WriteKind) (t : Slot) (v : Value) (l : Layer) → ((s : Slot) → plain (find s l) ≡ true) → (s : Slot) → plain (find s (apply_write n k t v l)) ≡ true
plain_write n (overwrite u) t v l h s = plain_insert s t u v l (h s)
plain_write n new t v l h s = plain_insert s t n v l (h s)
plain_write n skip t v l h s = h s

-- What a skipped write says of its slot's record.
module _ (R : Retention) (n : ℕ) (j : Bool) (f : Option LastUse) where
  skipped_none : (o : Option Content) → plain o ≡ true → final_write_kind R n j (valued_use o) f ≡ skip → o ≡ None
  skipped_none None p e = refl
  skipped_none (Some c) p e = let q : overwrite (use_of c) ≡ skip = rw p at e in absurd (true≢false (sym (ap is_skip q)))

  skipped_kind : (o : Option Content) → o ≡ None → final_write_kind R n j (valued_use o) f ≡ write_kind R n j f
  skipped_kind o e = ap (λ (x : Option Content). final_write_kind R n j (valued_use x) f) e

module _ (R : Retention) (n : ℕ) (relevance : List Address) (b : List Layer) where
  -- What a write to a slot does without a record in the top, and with the top l.
  abbrev first_kind : Slot → WriteKind
  first_kind s = write_kind R n (relevant relevance s.address) (freshest_use s b)

  abbrev kind_on : Layer → Slot → WriteKind
  kind_on l s = final_write_kind R n (relevant relevance s.address) (valued_use (find s l)) (freshest_use s b)

  abbrev run : List Write → Layer → SeededTop
  run ws l = seed_final_writes R n relevance b ws l

  -- A record stays.
  found_stays : (ws : List Write) (s : Slot) (l : Layer) → is_some (find s l) ≡ true → is_some (find s (run ws l).top) ≡ true
  unfolding seed_final_writes
  found_stays [] s l h = h
  found_stays (w ∷ ws) s l h =
      let k : WriteKind = kind_on l w.slot in
      found_stays ws s (apply_write n k w.slot w.value l) (found_write n k s w.slot w.value l h)

  -- A slot of a skipped write gets no record.
  none_then : (s t : Slot) (v : Value) (l : Layer) → first_kind s ≡ skip → find s l ≡ None → find s (apply_write n (kind_on l t) t v l) ≡ None
  none_then s t v l e h =
      split (slot_eqb t s)
      (λ y.
      let p : t ≡ s = slot_eqb_true t s y in
      let q : kind_on l s ≡ skip = skipped_kind R n (relevant relevance s.address) (freshest_use s b) (find s l) h ∙ e in
      let r : kind_on l t ≡ skip = ap (kind_on l) p ∙ q in
      ap (λ (k : WriteKind). find s (apply_write n k t v l)) r ∙ h)
      (λ y. other_write n (kind_on l t) s t v l y ∙ h)

  none_stays : (ws : List Write) (s : Slot) (l : Layer) → first_kind s ≡ skip → find s l ≡ None → find s (run ws l).top ≡ None
  unfolding seed_final_writes
  none_stays [] s l e h = h
  none_stays (w ∷ ws) s l e h = none_stays ws s (apply_write n (kind_on l w.slot) w.slot w.value l) e (none_then s w.slot w.value l e h)

  -- One write, by what it does.
  one : (ws : List Write) (s : Slot) (v : Value) (l : Layer) (k : WriteKind) → kind_on l s ≡ k → plain (find s l) ≡ true
      → let z : SeededTop = run ws (apply_write n k s v l) in
      (count_write k s z.applied_writes).applied ≡ cond (is_some (find s z.top)) (s ∷ z.applied_writes.applied) z.applied_writes.applied
  one ws s v l (overwrite u) e p = rw (found_stays ws s (insert s (valued u v) l) (found_own s (valued u v) l))
  one ws s v l new e p = rw (found_stays ws s (insert s (valued n v) l) (found_own s (valued n v) l))
  one ws s v l skip e p =
      let q : find s l ≡ None = skipped_none R n (relevant relevance s.address) (freshest_use s b) (find s l) p e in
      let f : first_kind s ≡ skip = sym (skipped_kind R n (relevant relevance s.address) (freshest_use s b) (find s l) q) ∙ e in
      rw (none_stays ws s l f q)

  applied_plain : (ws : List Write) (l : Layer) → ((s : Slot) → plain (find s l) ≡ true) → (run ws l).applied_writes.applied ≡ applied_in (run ws l).top ws
  unfolding seed_final_writes applied_in
  applied_plain [] l h = refl
  applied_plain (w ∷ ws) l h =
      let s : Slot = w.slot in
      let k : WriteKind = kind_on l s in
      let m : Layer = apply_write n k s w.value l in
      let z : SeededTop = run ws m in
      let more : z.applied_writes.applied ≡ applied_in z.top ws = applied_plain ws m (plain_write n k s w.value l h) in
      one ws s w.value l k refl (h s) ∙ ap (λ (x : List Slot). cond (is_some (find s z.top)) (s ∷ x) x) more

  empty_plain : (s : Slot) → plain (find s []) ≡ true
  unfolding find
  empty_plain s = refl

  -- On an empty top.
  pub applied_is : (ws : List Write) → (run ws []).applied_writes.applied ≡ applied_in (run ws []).top ws
  applied_is ws = applied_plain ws [] empty_plain

  -- Where no write is applied the top stays.
  one_none : (ws : List Write) (s : Slot) (v : Value) (l : Layer) (k : WriteKind) → ((m : Layer) → length (run ws m).applied_writes.applied ≡ 0 → (run ws m).top ≡ m)
      → length (count_write k s (run ws (apply_write n k s v l)).applied_writes).applied ≡ 0 → (run ws (apply_write n k s v l)).top ≡ l
  one_none ws s v l (overwrite u) f h = absurd (omega arith)
  one_none ws s v l new f h = absurd (omega arith)
  one_none ws s v l skip f h = f l h

  pub none_applied : (ws : List Write) (l : Layer) → length (run ws l).applied_writes.applied ≡ 0 → (run ws l).top ≡ l
  unfolding seed_final_writes
  none_applied [] l h = refl
  none_applied (w ∷ ws) l h = one_none ws w.slot w.value l (kind_on l w.slot) (λ m g. none_applied ws m g) h

-- The output of no slots.
pub no_output : (ss : List Slot) (out : List ℕ) → length ss ≡ 0 → out ≡ with_slots ss out
unfolding slots_bytes
no_output [] out h = refl
no_output (s ∷ ss) out h = absurd (omega arith)
