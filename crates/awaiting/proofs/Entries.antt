-- What the loops over a lent list show, entry by entry, and those over the awaiting slots that a take lists and marks.
use Prim.Native.Nat.{ℕ, zero, suc, ◌+◌, ◌-◌, ◌*◌, ◌≤◌, ◌<◌}
use mathlib.Core.Path.{◌≡◌, refl, sym, ap, ap₂, ◌∙◌}
use mathlib.Core.Bool.{Bool, true, false, not, ◌||◌, cond}
use mathlib.Core.List.{List, [], ◌∷◌, ◌++◌, append-nil}
use native.Mathlib.Nat.{add-zero}
use native.Mathlib.Omega.{arith}
use lib.ListN.{length, take, drop, length-append, length-drop, take-append-drop}
use lib.Seq.{drop_at, drop-drop, length-take-le}
use Rattle.std.specs.List.{filter, range_with_len, IsSplitAt}
use Rattle.layout.specs.Layout.{awaiting_size, awaiting_table_size, taken_offset}
use Rattle.model.specs.declared.delta_snapshot.Slot.{Slot}
use Rattle.model.specs.Numbers.{be}
use Rattle.model.specs.Slots.{mem}
use Rattle.model.specs.Reads.{Pending, queued, take_queued, remove_pending, remove_all_pending, has_duplicate}
use Rattle.model.specs.Entries.{slot_of, slot_bytes, slots_bytes, with_slots}
use Rattle.words.specs.Parts.{part, placed}
use Rattle.entries.proofs.Numbers.{part_take}
use Rattle.image.specs.Image.{bytes_of, pending_words}
use Rattle.image.specs.Area.{pending_of, with_pending}
use Rattle.image.proofs.PendingOk.{length_take_queued}
use Rattle.image.proofs.Written.{placed_after}
use Rattle.awaiting.specs.Awaiting.{entry_at, Ready, Lists, entry_slots}
use Rattle.awaiting.proofs.Places.{pending_at}
use Rattle.awaiting.proofs.Awaits.{length_pending_of, pending_is, pending_from, pending_end}
use Rattle.awaiting.proofs.Lists.{entry_slots_more, entry_slots_none}
use Rattle.awaiting.proofs.Stored.{image_of, image_cons, image_none, length_image, length_entry, with_as, exactly, entry_part, taken_written}

-- A lent list ---------------------------------------------------------------------------------------------

-- By its first entry x, whose slot is t, and those after it.
first_slot : (w : ℕ) (b x r : List ℕ) (t : Slot) → 52 ≤ w → b ≡ x ++ r → length x ≡ w → t ≡ slot_of x → entry_slots w b ≡ t ∷ entry_slots w r
first_slot w b x r t h e l s = entry_slots_more w b x r h e l ∙ ap (λ (y : Slot). y ∷ entry_slots w r) (sym s)

pub duplicate_more : (w : ℕ) (b x r : List ℕ) (t : Slot) (f : Bool) → 52 ≤ w → IsSplitAt b w x r → t ≡ slot_of x → f ≡ mem t (entry_slots w r) → has_duplicate (entry_slots w b) ≡ (f || has_duplicate (entry_slots w r))
unfolding has_duplicate
duplicate_more w b x r t f h p s d =
    let e : b ≡ x ++ r = sym (ap₂ ◌++◌ p.1 p.2 ∙ take-append-drop w b) in
    ap has_duplicate (first_slot w b x r t h e p.3 s) ∙ ap (λ (y : Bool). y || has_duplicate (entry_slots w r)) (sym d)

pub remove_more : (w : ℕ) (b x r : List ℕ) (t : Slot) (q : List Pending) → 52 ≤ w → b ≡ x ++ r → length x ≡ w → t ≡ slot_of x → remove_all_pending (entry_slots w b) q ≡ remove_all_pending (entry_slots w r) (remove_pending t q)
unfolding remove_all_pending
remove_more w b x r t q h e l s = ap (λ (ss : List Slot). remove_all_pending ss q) (first_slot w b x r t h e l s)

-- With no entry.
module _ (w : ℕ) (r : List ℕ) (h : length r < w) where
  pub duplicate_none : has_duplicate (entry_slots w r) ≡ false
  unfolding has_duplicate
  duplicate_none = ap has_duplicate (entry_slots_none w r h)

  pub remove_none : (q : List Pending) → remove_all_pending (entry_slots w r) q ≡ q
  unfolding remove_all_pending
  remove_none q = ap (λ (ss : List Slot). remove_all_pending ss q) (entry_slots_none w r h)

-- The queue -----------------------------------------------------------------------------------------------

pub queued_first : (n i : ℕ) (s : List ℕ) → i < n
    → queued (drop i (pending_of n s)) ≡ cond (entry_at i s).taken (queued (drop (i + 1) (pending_of n s))) ((entry_at i s).slot ∷ queued (drop (i + 1) (pending_of n s)))
unfolding queued
queued_first n i s h = ap queued (pending_from n i s h)

pub queued_end : (n i : ℕ) (s : List ℕ) → n ≤ i → queued (drop i (pending_of n s)) ≡ []
unfolding queued
queued_end n i s h = ap queued (pending_end n i s h)

-- Its length, as a chain over the awaiting slots counts it.
abbrev pub is_free : List ℕ → ℕ → Bool
is_free s i = not (entry_at i s).taken

free_from : (n : ℕ) (s : List ℕ) (m i : ℕ) → i + m ≡ n → length (filter (is_free s) (range_with_len i m)) ≡ length (queued (drop i (pending_of n s)))
free_from n s zero i e = sym (ap length (queued_end n i s (omega arith)))
free_from n s (suc m) i e = one (entry_at i s).taken (entry_at i s).slot _ _ (free_from n s m (i + 1) (omega arith)) ∙ sym (ap length (queued_first n i s (omega arith)))
  where
    one : (f : Bool) (t : Slot) (is : List ℕ) (ss : List Slot) → length is ≡ length ss → length (cond (not f) (i ∷ is) is) ≡ length (cond f ss (t ∷ ss))
    one true t is ss e = e
    one false t is ss e = ap suc e

pub count_free : (n : ℕ) (s : List ℕ) → length (filter (is_free s) (range_with_len 0 n)) ≡ length (queued (pending_of n s))
count_free n s = free_from n s n 0 (omega arith)

-- The 52 bytes of a slot, out of its words.
pub length_slot : (t : Slot) → length (slot_bytes t) ≡ 52
unfolding slot_bytes be
length_slot t = refl

length_slots_bytes : (ss : List Slot) → length (slots_bytes ss) ≡ 52 * length ss
unfolding slots_bytes
length_slots_bytes [] = refl
length_slots_bytes (t ∷ ss) = length-append (slot_bytes t) (slots_bytes ss) ∙ omega (arith, length_slot t, length_slots_bytes ss)

slot_within : (w : Pending) → take 52 (drop 4 (bytes_of (pending_words w))) ≡ slot_bytes w.slot
unfolding slot_bytes bytes_of be
slot_within w = refl

pub slot_part : (n i : ℕ) (s : List ℕ) → Ready n s → i < n → part (i * awaiting_size + 4) 52 s ≡ slot_bytes (entry_at i s).slot
slot_part n i s r h =
    let q = pending_of n s in
    let l : length q ≡ n = length_pending_of n s in
    let e : part (i * awaiting_size) awaiting_size s ≡ bytes_of (pending_words (pending_at i q)) = entry_part q s (exactly n q s l r.exact) i (omega arith) in
    ap (take 52) (sym (drop-drop 4 (i * awaiting_size) s)) ∙ sym (part_take 4 52 awaiting_size (drop (i * awaiting_size) s) (omega arith))
    ∙ ap (λ (x : List ℕ). take 52 (drop 4 x)) e ∙ slot_within (pending_at i q) ∙ ap (λ (w : Pending). slot_bytes w.slot) (pending_is n i s h)

-- Nothing placed changes nothing.
placed_none : (at : ℕ) (s : List ℕ) → placed at [] s ≡ s
placed_none at s = ap₂ (λ (x : List ℕ) (k : ℕ). x ++ drop k s) (append-nil (take at s)) (add-zero at) ∙ take-append-drop at s

list_start : (ss : List Slot) (out : List ℕ) → placed 0 (slots_bytes ss) out ≡ with_slots ss out
list_start ss out = let e : 0 + length (slots_bytes ss) ≡ 52 * length ss = omega (arith, length_slots_bytes ss) in ap (λ (k : ℕ). slots_bytes ss ++ drop k out) e

-- The first i awaiting slots are done, and k slots listed: the rest of the queue is still to be listed after them.
pub record Listing (n : ℕ) (s before out : List ℕ) (k i : ℕ) : Type 0 where
  pub count_is : k + length (queued (drop i (pending_of n s))) ≡ length (queued (pending_of n s))
  pub output_is : placed (k * 52) (slots_bytes (queued (drop i (pending_of n s)))) out ≡ with_slots (queued (pending_of n s)) before

pub listing_start : (n : ℕ) (s out : List ℕ) → Listing n s out out 0 0
listing_start n s out = record { count_is = omega arith; output_is = list_start (queued (pending_of n s)) out }

module _ {n i k : ℕ} {s before out : List ℕ} (h : Listing n s before out k i) where
  pub listing_end : n ≤ i → Lists k out (pending_of n s) before
  unfolding slots_bytes
  listing_end g =
      let e = queued_end n i s g in
      record {
        count_is = omega (arith, ap length e, h.count_is);
        output_is = sym (ap (λ (ss : List Slot). placed (k * 52) (slots_bytes ss) out) e ∙ placed_none (k * 52) out) ∙ h.output_is;
      }

  module _ (g : i < n) where
    abbrev rest : List Slot
    rest = queued (drop (i + 1) (pending_of n s))

    first : (b : Bool) → (entry_at i s).taken ≡ b → queued (drop i (pending_of n s)) ≡ cond b rest ((entry_at i s).slot ∷ rest)
    first b t = queued_first n i s g ∙ ap (λ (x : Bool). cond x rest ((entry_at i s).slot ∷ rest)) t

    -- a taken one passed
    pub listing_passed : (entry_at i s).taken ≡ true → Listing n s before out k (i + 1)
    listing_passed t = record {
      count_is = ap (λ (ss : List Slot). k + length ss) (sym (first true t)) ∙ h.count_is;
      output_is = ap (λ (ss : List Slot). placed (k * 52) (slots_bytes ss) out) (sym (first true t)) ∙ h.output_is;
    }

    -- the slot of another put as entry k
    module _ (t : (entry_at i s).taken ≡ false) (fits : 52 * length (queued (pending_of n s)) ≤ length out) where
      pub listing_room : (k + 1) * 52 ≤ length out
      listing_room = omega (arith, ap length (first false t), h.count_is)

      pub listing_put : (m : ℕ) (o : List ℕ) → Ready n s → m ≡ 52 → o ≡ placed (k * 52) (part (i * awaiting_size + 4) m s) out → Listing n s before o (k + 1) (i + 1)
      unfolding slots_bytes
      listing_put m o r d e =
          let x = (entry_at i s).slot in
          let c = ap length (first false t) in
          let z : (k + 1) * 52 ≡ k * 52 + length (slot_bytes x) = omega (arith, length_slot x) in
          record {
            count_is = omega (arith, c, h.count_is);
            output_is =
                ap (placed ((k + 1) * 52) (slots_bytes rest)) (e ∙ ap (λ (l : List ℕ). placed (k * 52) l out) (ap (λ (y : ℕ). part (i * awaiting_size + 4) y s) d ∙ slot_part n i s r g))
                ∙ placed_after (k * 52) ((k + 1) * 52) (slot_bytes x) (slots_bytes rest) out z (omega (arith, length_slots_bytes rest, c, h.count_is))
                ∙ ap (λ (ss : List Slot). placed (k * 52) (slots_bytes ss) out) (sym (first false t)) ∙ h.output_is;
          }

-- Marking -------------------------------------------------------------------------------------------------

abbrev pub marked : Pending → Pending
marked w = record { slot = w.slot; waiters = w.waiters; taken = true }

pub mark_start : (n : ℕ) (s : List ℕ) → let q = pending_of n s in placed 0 (image_of (take_queued q)) s ≡ with_pending n (take_queued q) s
mark_start n s =
    let q = take_queued (pending_of n s) in
    let l : length q ≡ n = length_take_queued (pending_of n s) ∙ length_pending_of n s in
    let e : 0 + length (image_of q) ≡ n * awaiting_size = omega (arith, length_image q) in
    ap (λ (k : ℕ). image_of q ++ drop k s) e ∙ sym (with_as n q s 0 (n * awaiting_size) (omega arith) (omega arith))

-- A turn of the loop: awaiting slot i is marked; those after it are as they were.
pub mark_step : (n i : ℕ) (s₀ s b : List ℕ) → Ready n s₀ → i < n → length s ≡ length s₀ → drop (i * awaiting_size) s ≡ drop (i * awaiting_size) s₀ → b ≡ placed (i * awaiting_size + taken_offset) (be 8 1) s
    → let q = pending_of n s₀ in (drop ((i + 1) * awaiting_size) b ≡ drop ((i + 1) * awaiting_size) s₀) × (placed ((i + 1) * awaiting_size) (image_of (take_queued (drop (i + 1) q))) b ≡ placed (i * awaiting_size) (image_of (take_queued (drop i q))) s)
unfolding take_queued
mark_step n i s₀ s b r h l d e =
    let q = pending_of n s₀ in
    let w = entry_at i s₀ in
    let m : length q ≡ n = length_pending_of n s₀ in
    let few : n ≤ 64 = r.few in
    let room : awaiting_table_size ≤ length s₀ = r.area in
    let p : part (i * awaiting_size) awaiting_size s ≡ bytes_of (pending_words w) = ap (take awaiting_size) d ∙ entry_part q s₀ (exactly n q s₀ m r.exact) i (omega arith) ∙ ap (λ (x : Pending). bytes_of (pending_words x)) (pending_is n i s₀ h) in
    let v = bytes_of (pending_words (marked w)) in
    let a : length v ≡ awaiting_size = length_entry (marked w) in
    let f : b ≡ placed (i * awaiting_size) v s = e ∙ taken_written i w s (omega arith) p in
    let t : length (take (i * awaiting_size) s) ≡ i * awaiting_size = length-take-le (i * awaiting_size) s (omega arith) in
    let u : length (take (i * awaiting_size) s ++ v) ≡ (i + 1) * awaiting_size = length-append (take (i * awaiting_size) s) v ∙ omega arith in
    let g : i * awaiting_size + length v ≡ i * awaiting_size + awaiting_size = omega arith in
    let o : i * awaiting_size + awaiting_size ≡ (i + 1) * awaiting_size = omega arith in
    let rest = image_of (take_queued (drop (i + 1) q)) in
    let y : length (take_queued (drop (i + 1) q)) ≡ n - (i + 1) = length_take_queued (drop (i + 1) q) ∙ length-drop (i + 1) q ∙ omega arith in
    let z : length rest ≡ awaiting_size * (n - (i + 1)) = length_image (take_queued (drop (i + 1) q)) ∙ ap (λ (k : ℕ). awaiting_size * k) y in (
      ap (drop ((i + 1) * awaiting_size)) f ∙ drop_at (take (i * awaiting_size) s ++ v) (drop (i * awaiting_size + length v) s) ((i + 1) * awaiting_size) u
          ∙ ap (λ (k : ℕ). drop k s) g ∙ sym (drop-drop awaiting_size (i * awaiting_size) s) ∙ ap (drop awaiting_size) d ∙ drop-drop awaiting_size (i * awaiting_size) s₀ ∙ ap (λ (k : ℕ). drop k s₀) o,
      ap (placed ((i + 1) * awaiting_size) rest) f ∙ placed_after (i * awaiting_size) ((i + 1) * awaiting_size) v rest s (omega arith) (omega arith)
          ∙ ap (λ (x : List ℕ). placed (i * awaiting_size) x s) (sym (image_cons (marked w) (take_queued (drop (i + 1) q))))
          ∙ ap (λ (x : List Pending). placed (i * awaiting_size) (image_of (take_queued x)) s) (sym (pending_from n i s₀ h)),
    )

pub mark_end : (n i : ℕ) (s₀ s : List ℕ) → n ≤ i → placed (i * awaiting_size) (image_of (take_queued (drop i (pending_of n s₀)))) s ≡ s
unfolding take_queued
mark_end n i s₀ s h =
    ap (λ (x : List Pending). placed (i * awaiting_size) (image_of (take_queued x)) s) (pending_end n i s₀ h) ∙ ap (λ (x : List ℕ). placed (i * awaiting_size) x s) image_none ∙ placed_none (i * awaiting_size) s
