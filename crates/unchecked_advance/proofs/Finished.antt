-- The end of an advance: the writes over the store begun in the work area, which becomes the store. Assumes nothing.
use Rattle.model.specs.declared.refusal.Refusal.TheVariants.{OverCapacity}
use Rattle.std.specs.Prelude.{Ok, Err}
use Rattle.std.specs.Prelude.{Option, None, Some}
use Prim.Native.Nat.{ℕ, ◌+◌, ◌*◌, ◌≤◌, ◌<◌}
use mathlib.Core.Path.{◌≡◌, refl, sym, ap, ap₂, subst, ◌∙◌}
use mathlib.Core.Bool.{Bool, true, false, cond}
use mathlib.Core.List.{List, ◌∷◌, ◌++◌}
use native.Mathlib.Omega.{arith}
use lib.Dec.{ltb}
use lib.ListN.{length, take, drop}
use borrow.Author.Tests.{lt-ltb, le-ltb, leb-true, leb-false}
use Rattle.layout.specs.Layout.{capacity_offset, record_size, records_offset}
use Rattle.model.specs.declared.delta_snapshot.Slot.{Slot}
use Rattle.model.specs.declared.read_hub.CarryOutcome.{CarryOutcome}
use Rattle.model.specs.Numbers.{Bytes, num}
use Rattle.model.specs.Layers.{Layer, record_count, held_count, live_count}
use Rattle.model.specs.Advance.{SeededTop, seed_final_writes}
use Rattle.model.specs.Entries.{addresses_of, writes_of, first_slots, with_slots}
use Rattle.model.specs.Store.{Config, Generation, Store, chain, Performed, new_generation, with_top, advanced}
use Rattle.model.specs.Refusals.{refuse, ok}
use Rattle.model.proofs.EntryLaws.{SlotFits, Each, slots_back}
use Rattle.words.specs.Parts.{part, placed}
use Rattle.image.specs.Image.{image, decode, overlay, BytesResult}
use Rattle.image.specs.Lent.{store_of, generation_of}
use Rattle.image.proofs.ReadBack.{decode_some, length_image, image_reads_back}
use Rattle.image.proofs.Lent.{store_in}
use Rattle.counts.specs.declared.Counts.{Counts}
use Rattle.model.specs.declared.delta_snapshot.CompactionReport.{CompactionReport}
use Rattle.replies.specs.declared.WriteCounts.{WriteCounts}
use Rattle.seed.specs.Writes.{has_room_for, seeded_in, SeededTo, SeededAs}
use Rattle.unchecked_advance.specs.Outputs.{applied_in}
use Rattle.replies.specs.Replies.{AdvancedAs}
use Rattle.unchecked_advance.specs.Inner.{CountedAs, CountsBefore, ended, writing, Ready}
use Rattle.unchecked_advance.proofs.AppliedLaws.{applied_is, none_applied}
use Rattle.unchecked_advance.proofs.Outputs.{applied_fit}

-- What the answer of the writes says.
pub seeded_full : (r : Option WriteCounts) (after b addresses writes : List ℕ) → SeededAs r after b addresses writes → r ≡ None → has_room_for (seeded_in b (addresses_of addresses) (writes_of writes)).top b ≡ false
seeded_full r after b addresses writes h e = subst (λ (x : Option WriteCounts). SeededAs x after b addresses writes) e h

pub seeded_done : (r : Option WriteCounts) (c : WriteCounts) (after b addresses writes : List ℕ) → SeededAs r after b addresses writes → r ≡ Some c → SeededTo c after b (seeded_in b (addresses_of addresses) (writes_of writes))
seeded_done r c after b addresses writes h e = subst (λ (x : Option WriteCounts). SeededAs x after b addresses writes) e h

-- The size of a store by its word.
pub size_fits : (s w : List ℕ) (cap : ℕ) → Ready w s → cap ≡ num (part capacity_offset 8 s) → (records_offset + record_size * cap ≤ length s) × (cap ≤ 4096)
size_fits s w cap h e = (omega (arith, (store_in s h.is_store).capacity_word, (store_in s h.is_store).long), omega (arith, (store_in s h.is_store).capacity_word, (store_in s h.is_store).capacity_limit))

pub size_in : (s w w' : List ℕ) (cap : ℕ) (c : WriteCounts) (z : SeededTop) → Ready w s → SeededTo c w' w z → cap ≡ num (part capacity_offset 8 s) → records_offset + record_size * cap ≤ length w'
size_in s w w' cap c z h t e =
    let k : (store_of w').config.capacity ≡ (store_of s).config.capacity = ap (λ (x : Config). x.capacity) (t.config_is ∙ h.config_is) in
    omega (arith, (store_in s h.is_store).capacity_word, (store_in w' t.installed.is_store).long)

module _ (s w addresses writes out : List ℕ) (outcome : CarryOutcome) (c : CompactionReport) (h : Ready w s) where
  abbrev z : SeededTop
  z = seeded_in w (addresses_of addresses) (writes_of writes)

  abbrev p : Performed
  p = writing w addresses writes outcome c

  abbrev cfg : Config
  cfg = (store_of s).config

  abbrev base : List Layer
  base = (generation_of w).base

  capacity_is : (store_of w).config.capacity ≡ cfg.capacity
  capacity_is = ap (λ (x : Config). x.capacity) h.config_is

  abbrev ended_by : Bool → BytesResult
  ended_by x = cond x (record { bytes = s; answer = refuse 23 }) (record { bytes = overlay (Some (record { config = cfg; installed = p.installed })) s; answer = ok p.report })

  pub finish_full : has_room_for z.top w ≡ false → AdvancedAs (Err OverCapacity) s out (ended cfg p s) out
  finish_full e =
      let more : (store_of w).config.capacity < record_count (z.top ∷ base) = leb-false _ _ e in
      let over : ltb cfg.capacity (record_count (z.top ∷ base)) ≡ true = lt-ltb cfg.capacity (record_count (z.top ∷ base)) (omega (arith, capacity_is)) in
      subst (λ (o : BytesResult). AdvancedAs (Err OverCapacity) s out o out) (sym (ap ended_by over)) (record { answer_is = refl; bytes_is = refl; output_is = refl })

  module _ (w' : List ℕ) (counts : WriteCounts) (f : Bytes w') (t : SeededTo counts w' w z) where
    abbrev new_one : Generation
    new_one = new_generation (generation_of w).anchor base z.top

    abbrev made : Store
    made = record { config = cfg; installed = Some new_one }

    new_is : generation_of w' ≡ new_one
    new_is = t.generation_is ∙ ap (λ (g : Generation). with_top g z.top) h.generation_is

    made_is : store_of w' ≡ made
    made_is = ap₂ (λ (x : Config) (o : Option Generation). record { config = x; installed = o }) (t.config_is ∙ h.config_is) (t.installed.installs ∙ ap Some new_is)

    decodes : decode w' ≡ Some made
    decodes = t.installed.is_store ∙ ap Some made_is

    size : length (image made) ≡ records_offset + record_size * cfg.capacity
    size = omega (arith, length_image made (decode_some w' made decodes).right)

    copied : (cap : ℕ) (s' : List ℕ) → cap ≡ num (part capacity_offset 8 s) → s' ≡ placed 0 (take (records_offset + record_size * cap) w') s → s' ≡ overlay (Some made) s
    copied cap s' e q =
        let n : records_offset + record_size * cap ≡ length (image made) = omega (arith, size, (store_in s h.is_store).capacity_word) in
        let i : take (records_offset + record_size * cap) w' ≡ image made = ap (λ (k : ℕ). take k w') n ∙ (image_reads_back.is_image w' made f decodes).1 in
        let m : 0 + length (image made) ≡ length (image made) = omega arith in
        q ∙ ap (λ (x : List ℕ). placed 0 x s) i ∙ ap (λ (k : ℕ). image made ++ drop k s) m

    room : ltb cfg.capacity (record_count (z.top ∷ base)) ≡ false
    room = le-ltb cfg.capacity (record_count (z.top ∷ base)) (omega (arith, capacity_is, leb-true (record_count (z.top ∷ base)) (store_of w).config.capacity t.room))

    applied : z.applied_writes.applied ≡ applied_in z.top (writes_of writes)
    applied =
        let R = (store_of w).config.retention in
        let n = (generation_of w).anchor.number in
        let ws = writes_of writes in
        subst (λ (l : Layer). (seed_final_writes R n (addresses_of addresses) base ws l).applied_writes.applied ≡ applied_in (seed_final_writes R n (addresses_of addresses) base ws l).top ws)
        (sym (ap (λ (g : Generation). g.top) h.generation_is)) (applied_is R n (addresses_of addresses) base ws)

    -- The counts of the store begun are those of the store with the writes if none was applied.
    still : (cc : Counts) → CountedAs cc (store_of w).config.retention (generation_of w) → counts.applied ≡ 0 → CountedAs cc (store_of w').config.retention (generation_of w')
    still cc k e =
        let top : z.top ≡ (generation_of w).top =
        none_applied (store_of w).config.retention (generation_of w).anchor.number (addresses_of addresses) base (writes_of writes) (generation_of w).top (sym t.counts_are.applied_is ∙ e) in
        let g : generation_of w' ≡ generation_of w = t.generation_is ∙ ap (λ (x : Layer). with_top (generation_of w) x) top in
        subst (λ (x : Config). CountedAs cc x.retention (generation_of w')) (sym t.config_is) (subst (λ (y : Generation). CountedAs cc (store_of w).config.retention y) (sym g) k)

    pub counts_before : (cc : Counts) → CountedAs cc (store_of w).config.retention (generation_of w) → CountsBefore counts.applied cc w' writes
    counts_before cc k = record {
      applied_is = t.counts_are.applied_is ∙ ap length (applied ∙ ap (λ (g : Generation). applied_in g.top (writes_of writes)) (sym new_is));
      counts_are = still cc k;
    }

    pub finish_done : (cap : ℕ) (s' out' : List ℕ) (cc : Counts) → Bytes writes → cap ≡ num (part capacity_offset 8 s) → s' ≡ placed 0 (take (records_offset + record_size * cap) w') s → out' ≡ with_slots (applied_in (generation_of w').top (writes_of writes)) out
        → CountedAs cc (store_of w').config.retention (generation_of w')
        → AdvancedAs (Ok (record { outcome = outcome; writes = counts; held = cc.held; live = cc.live; compaction = c })) s' out' (ended cfg p s) out
    finish_done cap s' out' cc fw e q o k =
        let held : cc.held ≡ held_count (z.top ∷ base) = k.held_is ∙ ap (λ (g : Generation). held_count (chain g)) new_is in
        let live : cc.live ≡ live_count (store_of w).config.retention (generation_of w).anchor.number (z.top ∷ base) =
        k.live_is ∙ ap₂ (λ (x : Config) (g : Generation). live_count x.retention g.anchor.number (chain g)) t.config_is new_is in
        let puts : out' ≡ with_slots z.applied_writes.applied out = o ∙ ap (λ (g : Generation). with_slots (applied_in g.top (writes_of writes)) out) new_is ∙ ap (λ (ss : List Slot). with_slots ss out) (sym applied) in
        let fit : Each SlotFits z.applied_writes.applied = subst (λ (ss : List Slot). Each SlotFits ss) (sym applied) (applied_fit z.top writes fw) in
        let ss : first_slots counts.applied out' ≡ z.applied_writes.applied = ap₂ first_slots t.counts_are.applied_is puts ∙ slots_back out fit in
        let over = t.counts_are.overwritten_is in
        let left = t.counts_are.skipped_is in
        subst (λ (x : BytesResult). AdvancedAs (Ok (record { outcome = outcome; writes = counts; held = cc.held; live = cc.live; compaction = c })) s' out' x out) (sym (ap ended_by room))
        (record {
          answer_is = λ i. ok (advanced (record { outcome = outcome; writes = record { applied = ss i; overwritten = over i; skipped = left i }; held = held i; live = live i; compaction = c }));
          bytes_is = copied cap s' e q;
          output_is = puts;
        })
