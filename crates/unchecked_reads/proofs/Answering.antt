-- What the answers come to where their anchor is installed, in the terms of the code's calls.
use Prim.Native.Nat.{ℕ, ◌-◌, ◌/◌, ◌≤◌}
use mathlib.Core.Path.{◌≡◌, sym, ap, ap₂, ◌∙◌}
use mathlib.Core.Bool.{Bool, true, false}
use mathlib.Core.List.{List, ◌∷◌}
use lib.Dec.{leb}
use lib.ListN.{length}
use borrow.Author.Tests.{leb-false}
use Rattle.layout.specs.Layout.{ends_offset}
use Rattle.model.specs.declared.delta_snapshot.Slot.{Slot}
use Rattle.model.specs.declared.read_hub.ReadTotals.{ReadTotals}
use Rattle.model.specs.declared.storage_memo.ReadAnchor.{ReadAnchor}
use Rattle.model.specs.Layers.{Layer, record_count}
use Rattle.model.specs.Reads.{Pending, remove_all_pending, woken, all_taken, has_duplicate, member_slots, valued_slots, refused_slots, settle_members, count_answer}
use Rattle.model.specs.Entries.{slots_of, members_of}
use Rattle.model.specs.Store.{Config, Generation, answer, answer_failed, at_anchor, on_store, answered}
use Rattle.model.specs.Refusals.{refuse, ok}
use Rattle.image.specs.Image.{BytesResult, bytes_step, overlay}
use Rattle.image.specs.Lent.{store_of, generation_of, Installed}
use Rattle.image.proofs.Lent.{generation_in}
use Rattle.awaiting.specs.Awaiting.{entry_slots}
use Rattle.awaiting.proofs.Lists.{entry_slots_alone, entry_slots_members}
use Rattle.header.proofs.Guards.{Here}
use Rattle.totals.specs.Totals.{Answerable, totals_of, with_totals}
use Rattle.settling.specs.Settling.{Settled}
use Rattle.replies.specs.Replies.{alone, Stepped}
use Rattle.unchecked_reads.specs.Inner.{reading, awaited}
use Rattle.unchecked_reads.proofs.Image.{removed_few, after_settled, counts_in, counts_of, counted}
use Rattle.unchecked_reads.proofs.Said.{stepped, here_own, failed_26, said_failed, answer_26, answer_23, said_answer}
use Rattle.unchecked_reads.proofs.Counts.{stepped_as, distinct, taken_members, failed_answerable, failed_totals, failed_says, answer_answerable, answer_totals, answer_says}

-- A round that failed, of the slots of a list.
module _ {b : List ℕ} {a : ReadAnchor} (h : Here b a) (l : List ℕ) (once : has_duplicate (entry_slots 52 l) ≡ false) {ps : List Pending} (i : ps ≡ (generation_of b).pending) {t : Bool} (k : t ≡ all_taken (entry_slots 52 l) ps) where
  abbrev failed : BytesResult
  failed = bytes_step b (alone (on_store (at_anchor a (answer_failed (slots_of l)))))

  abbrev g : Generation
  g = generation_of b

  abbrev cfg : Config
  cfg = (store_of b).config

  slots_once : has_duplicate (slots_of l) ≡ false
  slots_once = ap has_duplicate (sym (entry_slots_alone l)) ∙ once

  taken_is : all_taken (slots_of l) g.pending ≡ t
  taken_is = sym (k ∙ ap₂ all_taken (entry_slots_alone l) i)

  pub failed_not_taken : t ≡ false → Stepped (refuse 26) b failed
  failed_not_taken z = stepped (failed_26 b a h (slots_of l) slots_once (taken_is ∙ z))

  module _ (z : t ≡ true) (w : ℕ) (j : w ≡ woken (entry_slots 52 l) ps) {u : List ℕ} (e : u ≡ overlay (awaited cfg g (remove_all_pending (entry_slots 52 l) g.pending)) b) where
    abbrev left : List Pending
    left = remove_all_pending (slots_of l) g.pending

    removed : u ≡ overlay (awaited cfg g left) b
    removed = e ∙ ap (λ (x : List Slot). overlay (awaited cfg g (remove_all_pending x g.pending)) b) (entry_slots_alone l)

    woken_is : w ≡ woken (entry_slots 52 l) g.pending
    woken_is = j ∙ ap (woken (entry_slots 52 l)) i

    few_records : record_count (g.top ∷ g.base) ≤ cfg.capacity
    few_records = (generation_in b h.has).facts.few_records

    pub failed_counts : (ends_offset ≤ length u) × Answerable (length l / 52) 0 0 w (totals_of u)
    failed_counts =
        let n = removed_few b h.has (slots_of l) in
        (counts_in b h.has g.top left n few_records u removed, failed_answerable b h.has l w woken_is slots_once (taken_is ∙ z) _ (counts_of b h.has g.top left n few_records u removed))

    pub failed_done : {y : List ℕ} → y ≡ with_totals (count_answer (length l / 52) 0 0 w (totals_of u)) u → Stepped (ok (answered (length l / 52) 0 w)) y failed
    failed_done c =
        stepped_as (said_failed b a h (slots_of l) slots_once (taken_is ∙ z)) (failed_says b h.has l w woken_is)
        (counted b h.has g.top left (removed_few b h.has (slots_of l)) few_records u removed (count_answer (length l / 52) 0 0 w) c
        ∙ ap (λ (x : ReadTotals). overlay (reading cfg g g.top left x) b) (failed_totals b h.has l w woken_is))

-- An answer's members: they are not taken, or there is no room for them.
module _ {b : List ℕ} {a : ReadAnchor} (h : Here b a) (l : List ℕ) (once : has_duplicate (entry_slots 85 l) ≡ false) {ps : List Pending} (i : ps ≡ (generation_of b).pending) {t : Bool} (k : t ≡ all_taken (entry_slots 85 l) ps) where
  abbrev answers : BytesResult
  answers = bytes_step b (alone (on_store (at_anchor a (answer (members_of l)))))

  pub members_taken : t ≡ true → all_taken (entry_slots 85 l) (generation_of b).pending ≡ true
  members_taken z = ap (all_taken (entry_slots 85 l)) (sym i) ∙ sym k ∙ z

  pub answer_not_taken : t ≡ false → Stepped (refuse 26) b answers
  answer_not_taken z = stepped (answer_26 b a h (members_of l) (distinct b h.has l once) (taken_members b h.has l false (ap (all_taken (entry_slots 85 l)) (sym i) ∙ sym k ∙ z)))

  pub answer_no_room : t ≡ true → {r : Bool} → r ≡ leb (record_count (settle_members (generation_of b).anchor.number (members_of l) (generation_of b).top ∷ (generation_of b).base)) (store_of b).config.capacity → r ≡ false → Stepped (refuse 23) b answers
  answer_no_room z e f = stepped (answer_23 b a h (members_of l) (distinct b h.has l once) (taken_members b h.has l true (members_taken z)) (leb-false _ _ (sym e ∙ f)))

-- The members of an answer that is not refused.
module _ {b : List ℕ} (h : Installed b) (l : List ℕ) (once : has_duplicate (entry_slots 85 l) ≡ false) (taken : all_taken (entry_slots 85 l) (generation_of b).pending ≡ true)
    (room : record_count (settle_members (generation_of b).anchor.number (members_of l) (generation_of b).top ∷ (generation_of b).base) ≤ (store_of b).config.capacity)
    {ps : List Pending} (i : ps ≡ (generation_of b).pending) {w v e : ℕ} (p : w ≡ woken (entry_slots 85 l) ps) (q : v ≡ woken (valued_slots (members_of l)) ps) (r : e ≡ length (refused_slots (members_of l)))
    {s u : List ℕ} (m : Settled s b (settle_members (generation_of b).anchor.number (members_of l) (generation_of b).top))
    (f : u ≡ overlay (awaited (store_of s).config (generation_of s) (remove_all_pending (entry_slots 85 l) (generation_of s).pending)) s) where
  abbrev own : Generation
  own = generation_of b

  abbrev config : Config
  config = (store_of b).config

  abbrev settled : Layer
  settled = settle_members own.anchor.number (members_of l) own.top

  abbrev others : List Pending
  others = remove_all_pending (member_slots (members_of l)) own.pending

  few : length others ≤ 64
  few = removed_few b h (member_slots (members_of l))

  gone : u ≡ overlay (reading config own settled others own.totals) b
  gone =
      after_settled b h settled others few room s u m
      (f ∙ ap₂ (λ (ss : List Slot) (x : List Pending). overlay (awaited (store_of s).config (generation_of s) (remove_all_pending ss x)) s) (sym (entry_slots_members l)) (ap (λ (x : Generation). x.pending) m.generation_is))

  all_woken : w ≡ woken (entry_slots 85 l) own.pending
  all_woken = p ∙ ap (woken (entry_slots 85 l)) i

  woken_by_value : v ≡ woken (valued_slots (members_of l)) own.pending
  woken_by_value = q ∙ ap (woken (valued_slots (members_of l))) i

  pub answer_counts : (ends_offset ≤ length u) × Answerable (length l / 85) e v (w - v) (totals_of u)
  answer_counts =
      (counts_in b h settled others few room u gone, answer_answerable b h l w v e all_woken woken_by_value r once taken _ (counts_of b h settled others few room u gone))

  pub answer_done : {y : List ℕ} → y ≡ with_totals (count_answer (length l / 85) e v (w - v) (totals_of u)) u → Stepped (ok (answered (length l / 85) e w)) y (bytes_step b (alone (on_store (at_anchor (generation_of b).anchor (answer (members_of l))))))
  answer_done c =
      stepped_as (said_answer b own.anchor (here_own b h) (members_of l) (distinct b h l once) (taken_members b h l true taken) room)
      (answer_says b h l w v e all_woken woken_by_value r)
      (counted b h settled others few room u gone (count_answer (length l / 85) e v (w - v)) c
      ∙ ap (λ (x : ReadTotals). overlay (reading config own settled others x) b) (answer_totals b h l w v e all_woken woken_by_value r))
