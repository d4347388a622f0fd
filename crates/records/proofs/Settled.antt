-- A slot's record set at its place is the model's insert.
use Rattle.std.specs.Prelude.{Option, Some, Err, Ok}
use Prim.Native.Nat.{ℕ, suc, ◌+◌, ◌-◌, ◌*◌, ◌≤◌, ◌<◌}
use mathlib.Core.Path.{◌≡◌, sym, ap, ap₂, subst, ◌∙◌}
use mathlib.Core.List.{List, [], ◌∷◌, ◌++◌}
use native.Mathlib.Omega.{arith}
use lib.ListN.{length, take, drop, take-append-drop}
use lib.Seq.{drop-cons}
use Rattle.layout.specs.Layout.{last_use_offset, record_size}
use Rattle.model.specs.declared.delta_snapshot.Slot.{Slot}
use Rattle.model.specs.declared.delta_snapshot.Content.{Content}
use Rattle.model.specs.Numbers.{be}
use Rattle.model.specs.Slots.{slot_words}
use Rattle.model.specs.Contents.{use_only, use_of, own_value, touch, value_words, content_words}
use Rattle.model.specs.Layers.{Record, Layer, find, insert}
use Rattle.model.proofs.NumberLaws.{length_be}
use Rattle.model.proofs.ContentLaws.{content_wide}
use Rattle.words.specs.Parts.{part, placed}
use Rattle.image.specs.Image.{bytes_of, record_words, read_record}
use Rattle.image.specs.Area.{records_of, with_records}
use Rattle.image.proofs.Words.{length_bytes_of}
use Rattle.records.specs.Records.{Found}
use Rattle.records.specs.Records.{place_in, count_after, record_at, Ready, Holds}
use Rattle.records.proofs.Places.{found_lt, absent_le, found_slot, found_content, absent_none, insert_found, insert_absent, length_insert}
use Rattle.records.proofs.RecordsAt.{records_length}
use Rattle.image.proofs.Written.{placed_first}
use Rattle.records.proofs.Stored.{content_replaced, between}

-- A record set to what it holds.
insert_same : (l : Layer) (t : Slot) (i : ℕ) → place_in t l ≡ Ok i → insert t (record_at i l).content l ≡ l
insert_same l t i q =
    let r : Record = record_at i l in
    let m : i + 1 ≡ suc i = omega arith in
    insert_found l t r.content i q ∙ ap (λ (x : Slot). take i l ++ (record { slot = x; content = r.content } ∷ drop (i + 1) l)) (sym (found_slot l t i q))
    ∙ ap (λ (k : ℕ). take i l ++ (r ∷ drop k l)) m ∙ ap (λ (x : Layer). take i l ++ x) (sym (drop-cons l i (read_record []) (found_lt l t i q))) ∙ take-append-drop i l

module _ (p : Found) (t : Slot) (n : ℕ) (s : List ℕ) (o : Ready p t n s) where
  -- what is known in each case
  pub at_lt : (i : ℕ) → p ≡ Ok i → i < n
  at_lt i e = omega (arith, found_lt (records_of n s) t i (sym o.place_is ∙ e), records_length n s)

  pub at_room : (i : ℕ) → p ≡ Ok i → n * record_size ≤ length s
  at_room i e = subst (λ (q : Found). count_after q n * record_size ≤ length s) e o.room

  pub absent_at_most : (i : ℕ) → p ≡ Err i → i ≤ n
  absent_at_most i e = omega (arith, absent_le (records_of n s) t i (sym o.place_is ∙ e), records_length n s)

  pub absent_room : (i : ℕ) → p ≡ Err i → (n + 1) * record_size ≤ length s
  absent_room i e = subst (λ (q : Found). count_after q n * record_size ≤ length s) e o.room

  -- the number of records after
  count_of : (c : Content) → count_after p n ≡ length (insert t c (records_of n s))
  count_of c = ap₂ count_after o.place_is (sym (records_length n s)) ∙ sym (length_insert (records_of n s) t c)

  count_at : (i : ℕ) (c : Content) → p ≡ Ok i → n ≡ length (insert t c (records_of n s))
  count_at i c e = subst (λ (q : Found). count_after q n ≡ length (insert t c (records_of n s))) e (count_of c)

  count_absent : (i : ℕ) (c : Content) → p ≡ Err i → n + 1 ≡ length (insert t c (records_of n s))
  count_absent i c e = subst (λ (q : Found). count_after q n ≡ length (insert t c (records_of n s))) e (count_of c)

  -- the bytes after: the content written anew, or the record put between
  set_found : (i : ℕ) (c : Content) → p ≡ Ok i → placed (i * record_size + last_use_offset) (bytes_of (content_words c)) s ≡ with_records (insert t c (records_of n s)) s
  set_found i c e =
      let l = records_of n s in
      let q : place_in t l ≡ Ok i = sym o.place_is ∙ e in
      let m = records_length n s in
      let r = at_room i e in
      content_replaced l s o.exact i t c (found_lt l t i q) (omega arith) (found_slot l t i q) ∙ ap (λ (k : Layer). with_records k s) (sym (insert_found l t c i q))

  set_absent : (i : ℕ) (c : Content) → p ≡ Err i
      → take (i * record_size) s ++ bytes_of (record_words (record { slot = t; content = c })) ++ part (i * record_size) ((n - i) * record_size) s ++ drop ((n + 1) * record_size) s ≡ with_records (insert t c (records_of n s)) s
  set_absent i c e =
      let l = records_of n s in
      between l s o.exact i n (record { slot = t; content = c }) (sym (records_length n s)) (absent_at_most i e)
      ∙ ap (λ (k : Layer). with_records k s) (sym (insert_absent l t c i (sym o.place_is ∙ e)))

  -- what is left in each case
  pub held_at : (i : ℕ) (c : Content) {b : List ℕ} → p ≡ Ok i → b ≡ placed (i * record_size + last_use_offset) (bytes_of (content_words c)) s → Holds n b (insert t c (records_of n s)) s
  held_at i c e f = record { count_is = count_at i c e; bytes_are = f ∙ set_found i c e }

  pub held_absent : (i : ℕ) (c : Content) {ws b : List ℕ} → p ≡ Err i → ws ≡ content_words c
      → b ≡ take (i * record_size) s ++ bytes_of (slot_words t ++ ws) ++ part (i * record_size) ((n - i) * record_size) s ++ drop ((n + 1) * record_size) s
      → Holds (n + 1) b (insert t c (records_of n s)) s
  held_absent i c e w f =
      record {
        count_is = count_absent i c e;
        bytes_are = f ∙ ap (λ (x : List ℕ). take (i * record_size) s ++ bytes_of (slot_words t ++ x) ++ part (i * record_size) ((n - i) * record_size) s ++ drop ((n + 1) * record_size) s) w ∙ set_absent i c e;
      }

  -- a touch of a slot that has no record
  pub touch_absent : (i u : ℕ) → p ≡ Err i → use_only u ≡ touch u (find t (records_of n s))
  touch_absent i u e = ap (touch u) (sym (absent_none (records_of n s) t i o.rises (sym o.place_is ∙ e)))

  -- a touch of a record writes the last use alone: the rest of the content stands there
  pub touch_word : (i u : ℕ) → p ≡ Ok i → placed (i * record_size + last_use_offset) (be 8 u) s ≡ with_records (insert t (touch u (find t (records_of n s))) (records_of n s)) s
  unfolding bytes_of
  touch_word i u e =
      let l = records_of n s in
      let q : place_in t l ≡ Ok i = sym o.place_is ∙ e in
      let c = (record_at i l).content in
      let at = i * record_size + last_use_offset in
      let rest = value_words (own_value c) ++ (0 ∷ []) in
      let same : placed at (bytes_of (content_words c)) s ≡ s = set_found i c e ∙ ap (λ (k : Layer). with_records k s) (insert_same l t i q) ∙ o.exact in
      ap (placed at (be 8 u)) (sym same)
      ∙ placed_first at (be 8 u) (be 8 (use_of c)) (bytes_of rest) s (length_be 8 u ∙ sym (length_be 8 (use_of c))) (omega (arith, at_lt i e, at_room i e, length_bytes_of (content_words c), content_wide c))
      ∙ set_found i (touch u (Some c)) e ∙ ap (λ (x : Option Content). with_records (insert t (touch u x) l) s) (sym (found_content l t i q))

  pub touch_count : (i u : ℕ) → p ≡ Ok i → n ≡ length (insert t (touch u (find t (records_of n s))) (records_of n s))
  touch_count i u e = count_at i (touch u (find t (records_of n s))) e
