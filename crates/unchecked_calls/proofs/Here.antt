-- What an install, a look, a get and a put come to where their anchor is installed.
use Rattle.std.specs.Prelude.{None, Option, Some}
use Prim.Native.Nat.{ℕ}
use mathlib.Core.Path.{◌≡◌, sym, ◌∙◌}
use mathlib.Core.Bool.{Bool, true, false}
use mathlib.Core.List.{List, ◌∷◌}
use native.Mathlib.Omega.{arith}
use lib.Dec.{leb}
use Rattle.model.specs.declared.delta_snapshot.Content.{Content}
use Rattle.model.specs.declared.delta_snapshot.Slot.{Slot}
use Rattle.model.specs.declared.storage_memo.ReadAnchor.{ReadAnchor}
use Rattle.model.specs.Slots.{Value}
use Rattle.model.specs.Numbers.{Bytes}
use Rattle.model.specs.Contents.{touch, valued}
use Rattle.model.specs.Layers.{find, insert, record_count, settle}
use Rattle.model.specs.Store.{AnchoredCall, on_store, at_anchor, on_slot, look, get, put, install, chain, resolved, touched_top, value, value_report, no_value, stored, anchor_same}
use Rattle.model.specs.Refusals.{refuse, ok}
use Rattle.image.specs.Image.{BytesResult, bytes_step, overlay}
use Rattle.image.specs.Lent.{store_of, generation_of}
use Rattle.records.specs.Records.{Found}
use Rattle.records.specs.Records.{place_in, count_after}
use Rattle.header.proofs.Guards.{Here}
use Rattle.top.specs.Top.{topped}
use Rattle.top.proofs.Tops.{count_set}
use Rattle.top.proofs.Rooms.{room_yes, room_no}
use Rattle.replies.specs.Replies.{alone, Stepped}
use Rattle.unchecked_calls.proofs.Said.{with_bytes, said_look, said_none, said_get, said_get_full, said_put, said_put_full, said_same}

pub same_here : {b : List ℕ} {a : ReadAnchor} → Bytes b → Here b a → Stepped (ok anchor_same) b (bytes_step b (alone (on_store (install a))))
same_here {b} {a} f h = said_same b (store_of b) (generation_of b) f h.has.is_store h.has.installs a h.same

module _ {b : List ℕ} {a : ReadAnchor} (f : Bytes b) (h : Here b a) (s : Slot) where
  -- The result of a call on the slot.
  abbrev called : AnchoredCall → BytesResult
  called k = bytes_step b (alone (on_store (at_anchor a k)))

  pub look_here : (o : Option Value) → o ≡ resolved (store_of b).config.retention (generation_of b) s → Stepped (ok (value_report o)) b (called (on_slot (look s)))
  look_here o e = said_look b (store_of b) (generation_of b) f h.has.is_store h.has.installs a s h.same o e

  pub get_none : (o : Option Value) → o ≡ resolved (store_of b).config.retention (generation_of b) s → o ≡ None → Stepped (ok no_value) b (called (on_slot (get s)))
  get_none o e z = said_none b (store_of b) (generation_of b) f h.has.is_store h.has.installs a s h.same (sym e ∙ z)

  -- The record at the slot's place in the top is set: with room for it, and without.
  module _ {place : Found} {r : Bool} (p : place ≡ place_in s (generation_of b).top) (q : r ≡ leb (count_after place (record_count (chain (generation_of b)))) (store_of b).config.capacity) where
    counted : (c : Content) → record_count (insert s c (generation_of b).top ∷ (generation_of b).base) ≡ count_after place (record_count (chain (generation_of b)))
    counted c = count_set (generation_of b) s c place p

    abbrev touched : Content
    touched = touch (generation_of b).anchor.number (find s (generation_of b).top)

    pub get_full : (o : Option Value) (v : Value) → o ≡ resolved (store_of b).config.retention (generation_of b) s → o ≡ Some v → r ≡ false → Stepped (refuse 23) b (called (on_slot (get s)))
    get_full o v e z t = said_get_full b (store_of b) (generation_of b) f h.has.is_store h.has.installs a s h.same v (sym e ∙ z) (omega (arith, counted touched, room_no r _ _ q t))

    pub put_full : (v : Value) → r ≡ false → Stepped (refuse 23) b (called (on_slot (put s v)))
    put_full v t = said_put_full b (store_of b) (generation_of b) f h.has.is_store h.has.installs a s h.same v (omega (arith, counted (valued (generation_of b).anchor.number v), room_no r _ _ q t))

    pub get_set : (o : Option Value) (v : Value) → o ≡ resolved (store_of b).config.retention (generation_of b) s → o ≡ Some v → r ≡ true → (u : List ℕ) → u ≡ overlay (topped (store_of b).config (generation_of b) (touched_top (generation_of b) s)) b → Stepped (ok (value v)) u (called (on_slot (get s)))
    get_set o v e z t u g = with_bytes g (said_get b (store_of b) (generation_of b) f h.has.is_store h.has.installs a s h.same v (sym e ∙ z) (omega (arith, counted touched, room_yes r _ _ q t)))

    pub put_set : (v : Value) → r ≡ true → (u : List ℕ) → u ≡ overlay (topped (store_of b).config (generation_of b) (settle (generation_of b).anchor.number s v (generation_of b).top)) b → Stepped (ok stored) u (called (on_slot (put s v)))
    put_set v t u g = with_bytes g (said_put b (store_of b) (generation_of b) f h.has.is_store h.has.installs a s h.same v (omega (arith, counted (valued (generation_of b).anchor.number v), room_yes r _ _ q t)))
