-- The slots of a well-formed store's queue fit their bytes.
use Prim.Native.Nat.{◌^◌}
use mathlib.Core.Path.{◌≡◌}
use mathlib.Core.Bool.{Bool, true, false, ◌&&◌, cond}
use mathlib.Core.List.{List, [], ◌∷◌}
use lib.Dec.{ltb}
use borrow.Author.Tests.{ltb-true}
use Rattle.model.specs.declared.delta_snapshot.Slot.{Slot}
use Rattle.model.specs.Slots.{slot_ltb, fits_64, u256_fits}
use Rattle.model.specs.Reads.{Pending, queued}
use Rattle.model.proofs.SlotLaws.{and_left, and_right}
use Rattle.model.proofs.EntryLaws.{SlotFits, Each, each_none, each_more}
use Rattle.image.specs.WellFormed.{address_fits, slot_fits, pending_ok_from, pending_ok}

-- A slot that fits, by its words.
fits_slot : (s : Slot) → slot_fits s ≡ true → SlotFits s
unfolding slot_fits
fits_slot s f =
    let a : address_fits s.address ≡ true = and_left (address_fits s.address) _ f in
    let x : u256_fits s.index ≡ true = and_right (address_fits s.address) _ f in
    let a12 : (fits_64 s.address.w1 && fits_64 s.address.w2) ≡ true = and_right (ltb s.address.w0 (2 ^ 32)) _ a in
    let x123 : (fits_64 s.index.w1 && (fits_64 s.index.w2 && fits_64 s.index.w3)) ≡ true = and_right (fits_64 s.index.w0) _ x in
    let x23 : (fits_64 s.index.w2 && fits_64 s.index.w3) ≡ true = and_right (fits_64 s.index.w1) _ x123 in
    record {
      address_fits = record {
        f0 = ltb-true _ _ (and_left (ltb s.address.w0 (2 ^ 32)) _ a);
        f1 = ltb-true _ _ (and_left (fits_64 s.address.w1) _ a12);
        f2 = ltb-true _ _ (and_right (fits_64 s.address.w1) _ a12);
      };
      index_fits = record {
        f0 = ltb-true _ _ (and_left (fits_64 s.index.w0) _ x);
        f1 = ltb-true _ _ (and_left (fits_64 s.index.w1) _ x123);
        f2 = ltb-true _ _ (and_left (fits_64 s.index.w2) _ x23);
        f3 = ltb-true _ _ (and_right (fits_64 s.index.w2) _ x23);
      };
    }

-- The queue.
queued_more : (w : Pending) (q : List Pending) → slot_fits w.slot ≡ true → (t : Bool) → Each SlotFits (queued q) → Each SlotFits (cond t (queued q) (w.slot ∷ queued q))
queued_more w q e true f = f
queued_more w q e false f = each_more (fits_slot w.slot e) f

queued_fit_from : (a : Slot) (q : List Pending) → pending_ok_from a q ≡ true → Each SlotFits (queued q)
unfolding pending_ok_from queued
queued_fit_from a [] e = each_none
queued_fit_from a (w ∷ q) e =
    let f : (slot_fits w.slot && (ltb 0 w.waiters && pending_ok_from w.slot q)) ≡ true = and_right (slot_ltb a w.slot) _ e in
    queued_more w q (and_left (slot_fits w.slot) _ f) w.taken (queued_fit_from w.slot q (and_right (ltb 0 w.waiters) _ (and_right (slot_fits w.slot) _ f)))

pub queued_fit : (q : List Pending) → pending_ok q ≡ true → Each SlotFits (queued q)
unfolding pending_ok queued
queued_fit [] e = each_none
queued_fit (w ∷ q) e =
    queued_more w q (and_left (slot_fits w.slot) _ e) w.taken (queued_fit_from w.slot q (and_right (ltb 0 w.waiters) _ (and_right (slot_fits w.slot) _ e)))
