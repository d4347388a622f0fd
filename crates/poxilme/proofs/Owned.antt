-- What a call on a slot gives, and what a get comes to past the guard, by the record that the search found.
use Rattle.std.specs.Prelude.{None, Option, Some, is_some}
use Prim.Native.Nat.{ℕ}
use mathlib.Core.Path.{◌≡◌, refl, ap₂}
use mathlib.Core.Bool.{Bool, true, false}
use mathlib.Core.List.{List}
use lib.Dec.{leb}
use Rattle.model.specs.declared.delta_snapshot.Slot.{Slot}
use Rattle.model.specs.declared.storage_memo.ReadAnchor.{ReadAnchor}
use Rattle.model.specs.Slots.{Value}
use Rattle.model.specs.Numbers.{Bytes}
use Rattle.model.specs.Contents.{own_value}
use Rattle.model.specs.Entries.{slot_of}
use Rattle.model.specs.Layers.{record_count}
use Rattle.model.specs.Store.{SlotCall, on_store, at_anchor, on_slot, get, chain, resolved, touched_top, value_report}
use Rattle.model.specs.Refusals.{Answer, refuse, ok}
use Rattle.model.proofs.SlotLaws.{not_both}
use Rattle.image.specs.Image.{bytes_step, overlay}
use Rattle.image.specs.Lent.{store_of, generation_of}
use Rattle.records.specs.Records.{Found}
use Rattle.records.specs.Records.{place_in, count_after}
use Rattle.layers.specs.Answers.{row_content, ValueIn}
use Rattle.header.specs.Header.{lent_anchor}
use Rattle.header.proofs.Guards.{Here}
use Rattle.top.specs.Top.{topped}
use Rattle.replies.specs.Replies.{alone, Stepped}
use Rattle.unchecked_calls.proofs.Here.{get_full, get_set}
use Rattle.lent_calls.specs.Arguments.{slot_enough}
use Rattle.lent_calls.specs.ReplyWords.{Gives, answer_given}
use Rattle.lent_calls.specs.Exported.{Exported}
use Rattle.lent_calls.specs.Steps.{lent_slot}
use Rattle.lent_calls.proofs.Joining.{fit, exported, stepped_as}

-- A call on a lent slot, by its anchor and slot as read.
module _ (k : Slot → SlotCall) (b : List ℕ) (number : ℕ) (hash slot reply : List ℕ) {r : Bool} {x : ReadAnchor} {y : Slot} (e : r ≡ slot_enough hash slot reply) (t : r ≡ true) (p : x ≡ lent_anchor number hash) (q : y ≡ slot_of slot) where
  pub slot_stepped : {a : Answer} {after : List ℕ} → Stepped a after (bytes_step b (alone (on_store (at_anchor x (on_slot (k y)))))) → Stepped a after (bytes_step b (alone (on_store (at_anchor (lent_anchor number hash) (on_slot (k (slot_of slot)))))))
  slot_stepped = stepped_as (ap₂ (λ (u : ReadAnchor) (v : Slot). bytes_step b (alone (on_store (at_anchor u (on_slot (k v)))))) p q)

  pub slot_exported : {code : ℕ} {after replied : List ℕ} {a : Answer} → Gives code replied (answer_given a) reply → Stepped a after (bytes_step b (alone (on_store (at_anchor x (on_slot (k y)))))) → Exported code after replied (lent_slot k b number hash slot reply) reply
  slot_exported g s = exported b reply _ {fits = slot_enough hash slot reply} (fit e t) g (slot_stepped s)

-- An answer that is there is a value.
by_value : (P : Option Value → Type 0) (o : Option Value) → is_some o ≡ true → ((v : Value) → o ≡ Some v → P (Some v)) → P o
by_value P None e k = not_both e refl
by_value P (Some v) e k = k v refl

-- A get that found a record with a value: with room for the top's record, and without.
module _ {b : List ℕ} {a : ReadAnchor} (f : Bytes b) (h : Here b a) (s : Slot) {place : Found} {r : Bool} (p : place ≡ place_in s (generation_of b).top) (q : r ≡ leb (count_after place (record_count (chain (generation_of b)))) (store_of b).config.capacity)
    {row : ℕ} (v : ValueIn row (resolved (store_of b).config.retention (generation_of b) s) b) where
  pub row_full : r ≡ false → Stepped (refuse 23) b (bytes_step b (alone (on_store (at_anchor a (on_slot (get s))))))
  row_full t =
      by_value (λ x. Stepped (refuse 23) b (bytes_step b (alone (on_store (at_anchor a (on_slot (get s))))))) (own_value (row_content row b)) v.has
      (λ w e. get_full f h s p q (own_value (row_content row b)) w v.value_is e t)

  pub row_set : r ≡ true → (u : List ℕ) → u ≡ overlay (topped (store_of b).config (generation_of b) (touched_top (generation_of b) s)) b
      → Stepped (ok (value_report (own_value (row_content row b)))) u (bytes_step b (alone (on_store (at_anchor a (on_slot (get s))))))
  row_set t u g =
      by_value (λ x. Stepped (ok (value_report x)) u (bytes_step b (alone (on_store (at_anchor a (on_slot (get s))))))) (own_value (row_content row b)) v.has
      (λ w e. get_set f h s p q (own_value (row_content row b)) w v.value_is e t u g)
