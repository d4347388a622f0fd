-- What a read comes to where its anchor is installed, in the terms of the code's calls.
use Rattle.std.specs.Prelude.{None, Some}
use Prim.Native.Nat.{ℕ, ◌+◌, ◌≤◌, ◌<◌}
use mathlib.Core.Path.{◌≡◌, sym, ap, ◌∙◌}
use mathlib.Core.Bool.{Bool, true, false, not, ◌&&◌}
use mathlib.Core.List.{List, ◌∷◌}
use native.Mathlib.Omega.{arith}
use native.Mathlib.Numerals.{add-one}
use lib.Dec.{leb}
use lib.ListN.{length}
use Rattle.layout.specs.Layout.{accepted_offset, ends_offset}
use Rattle.model.specs.declared.delta_snapshot.Slot.{Slot}
use Rattle.model.specs.Slots.{Value}
use Rattle.model.specs.Contents.{touch}
use Rattle.model.specs.Layers.{find, record_count}
use Rattle.model.specs.Reads.{Pending, is_awaiting, waiters_of, join, count_served, count_waiting}
use Rattle.model.specs.Store.{Generation, on_store, at_anchor, on_slot, read, chain, resolved, touched_top, value, waiting}
use Rattle.model.specs.Refusals.{refuse, ok}
use Rattle.image.specs.Image.{BytesResult, bytes_step, overlay}
use Rattle.image.specs.Lent.{store_of, generation_of, Installed}
use Rattle.image.proofs.Areas.{word}
use Rattle.image.proofs.Lent.{generation_in}
use Rattle.records.specs.Records.{Found}
use Rattle.records.specs.Records.{place_in, count_after}
use Rattle.top.specs.Top.{topped}
use Rattle.top.proofs.Tops.{count_set}
use Rattle.top.proofs.Rooms.{room_yes, room_no}
use Rattle.totals.specs.Totals.{Small, totals_of, with_totals}
use Rattle.replies.specs.Replies.{alone, Stepped}
use Rattle.unchecked_calls.proofs.Said.{with_bytes}
use Rattle.unchecked_reads.specs.Inner.{awaited, Open}
use Rattle.unchecked_reads.proofs.Counts.{joins, stepped_as}
use Rattle.unchecked_reads.proofs.Image.{counts_in, counts_small, counted}
use Rattle.unchecked_reads.proofs.Said.{stepped, here_own, said_full, said_served, said_24, said_waits}

-- The word of the accepted reads says whether there may be one more.
pub accepted_is : {b : List ℕ} (n : ℕ) → Installed b → n ≡ word accepted_offset b → n ≡ (generation_of b).totals.accepted
accepted_is n h e = e ∙ (generation_in _ h).totals_word 0 (omega arith)

pub still_open : {b : List ℕ} (n : ℕ) → Installed b → n ≡ word accepted_offset b → n < 4294967295 → Open b
still_open n h e z = record { installed = h; fewer = omega (arith, accepted_is n h e) }

module _ {b : List ℕ} (o : Open b) (s : Slot) where
  abbrev called : BytesResult
  called = bytes_step b (alone (on_store (at_anchor (generation_of b).anchor (on_slot (read s)))))

  -- A served slot, whose record in the top is at its place.
  module _ {place : Found} {r : Bool} (p : place ≡ place_in s (generation_of b).top) (q : r ≡ leb (count_after place (record_count (chain (generation_of b)))) (store_of b).config.capacity) where
    records_are : record_count (touched_top (generation_of b) s ∷ (generation_of b).base) ≡ count_after place (record_count (chain (generation_of b)))
    records_are = let g : Generation = generation_of b in count_set g s (touch g.anchor.number (find s g.top)) place p

    pub read_full : (v : Value) → resolved (store_of b).config.retention (generation_of b) s ≡ Some v → r ≡ false → Stepped (refuse 23) b called
    read_full v e t = stepped (said_full b (generation_of b).anchor (here_own b o.installed) s o.fewer v e (omega (arith, records_are, room_no r _ _ q t)))

    within : r ≡ true → record_count (touched_top (generation_of b) s ∷ (generation_of b).base) ≤ (store_of b).config.capacity
    within t = omega (arith, records_are, room_yes r _ _ q t)

    module _ (t : r ≡ true) {u : List ℕ} (e : u ≡ overlay (topped (store_of b).config (generation_of b) (touched_top (generation_of b) s)) b) where
      pub served_counts : (ends_offset ≤ length u) × Small (totals_of u)
      served_counts = let g : Generation = generation_of b in
          let f = (generation_in b o.installed).facts.few_pending in
          (counts_in b o.installed (touched_top g s) g.pending f (within t) u e, counts_small b o.installed (touched_top g s) g.pending f (within t) u e)

      pub read_served : (v : Value) → resolved (store_of b).config.retention (generation_of b) s ≡ Some v → {w : List ℕ} → w ≡ with_totals (count_served (totals_of u)) u → Stepped (ok (value v)) w called
      read_served v z k = let g : Generation = generation_of b in
          with_bytes (counted b o.installed (touched_top g s) g.pending (generation_in b o.installed).facts.few_pending (within t) u e count_served k)
          (stepped (said_served b g.anchor (here_own b o.installed) s o.fewer v z (within t)))

  -- A slot that is not served: it awaits an answer if the queue is not full.
  module _ {r : Bool} (q : r ≡ (not (is_awaiting s (generation_of b).pending) && leb 64 (length (generation_of b).pending))) where
    pub read_refused : resolved (store_of b).config.retention (generation_of b) s ≡ None → r ≡ true → Stepped (refuse 24) b called
    read_refused e t = stepped (said_24 b (generation_of b).anchor (here_own b o.installed) s o.fewer e (sym q ∙ t))

    module _ (t : r ≡ false) where
      pub may_join : length (join s (generation_of b).pending) ≤ 64
      may_join = joins b o.installed s (sym q ∙ t)

      module _ {u : List ℕ} (e : u ≡ overlay (awaited (store_of b).config (generation_of b) (join s (generation_of b).pending)) b) where
        pub waiting_counts : (ends_offset ≤ length u) × Small (totals_of u)
        waiting_counts = let g : Generation = generation_of b in
            let f = (generation_in b o.installed).facts.few_records in
            (counts_in b o.installed g.top (join s g.pending) may_join f u e, counts_small b o.installed g.top (join s g.pending) may_join f u e)

        pub read_waits : resolved (store_of b).config.retention (generation_of b) s ≡ None → {ps : List Pending} → ps ≡ (generation_of b).pending → {joined : Bool} → joined ≡ is_awaiting s ps → (n : ℕ) → n ≡ waiters_of s ps
            → {w : List ℕ} → w ≡ with_totals (count_waiting joined (totals_of u)) u → Stepped (ok (waiting (n + 1))) w called
        read_waits z {ps} i {joined} j n m {w} k = let g : Generation = generation_of b in
            stepped_as (said_waits b g.anchor (here_own b o.installed) s o.fewer z (sym q ∙ t))
            (ap (λ (x : ℕ). ok (waiting x)) (add-one n ∙ rw (m, i)))
            (counted b o.installed g.top (join s g.pending) may_join (generation_in b o.installed).facts.few_records u e (count_waiting joined) k ∙ rw (j, i))
