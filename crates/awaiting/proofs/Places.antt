-- The place of a slot among awaiting slots: what the search shows, and what a caller learns of it.
use Rattle.std.specs.Prelude.{is_ok, Err, Ok}
use Prim.Native.Nat.{ℕ, zero, suc, ◌+◌, ◌≤◌, ◌<◌}
use mathlib.Core.Path.{◌≡◌, refl, sym, ap, ◌∙◌}
use mathlib.Core.Bool.{Bool, true, false}
use mathlib.Core.List.{List, [], ◌∷◌, ◌++◌}
use native.Mathlib.Omega.{arith}
use lib.Dec.{ltb}
use lib.ListN.{length, take, drop, get_or}
use Rattle.model.specs.declared.delta_snapshot.Slot.{Slot}
use Rattle.model.specs.Slots.{slot_eqb, slot_ltb}
use Rattle.model.specs.Reads.{Pending, waiters_of, is_awaiting, is_taken, join, remove_pending}
use Rattle.model.proofs.SlotLaws.{split, and_left, and_right, slot_eqb_true, slot_eqb_sym, slot_ltb_trans, slot_ltb_eqb}
use Rattle.image.specs.WellFormed.{rising_from, rising, slot_fits, pending_ok_from, pending_ok}
use Rattle.image.specs.Image.{read_pending}
use Rattle.records.specs.Records.{Found}
use Rattle.records.specs.Records.{record_at}
use Rattle.records.specs.Records as records
use Rattle.awaiting.specs.Awaiting.{as_records, place_in}

-- Awaiting slot i of a list. Past its end there is none, and every word is 0.
abbrev pub pending_at : ℕ → List Pending → Pending
pending_at i q = get_or q i (read_pending [])

-- The search -----------------------------------------------------------------------------------------------

pub slot_as : (q : List Pending) (i : ℕ) → (record_at i (as_records q)).slot ≡ (pending_at i q).slot
slot_as [] i = refl
slot_as (w ∷ q) zero = refl
slot_as (w ∷ q) (suc i) = slot_as q i

-- The place among awaiting slots that stand from place b on.
abbrev place_from : ℕ → Slot → List Pending → Found
place_from b t q = records.place_from b t (as_records q)

rising_as_from : (s : Slot) (q : List Pending) → pending_ok_from s q ≡ true → rising_from s (as_records q) ≡ true
unfolding pending_ok_from rising_from
rising_as_from s [] e = refl
rising_as_from s (w ∷ q) e =
    let x : Bool = slot_ltb s w.slot in
    let y : Bool = slot_fits w.slot in
    let z : Bool = ltb 0 w.waiters in
    rw (and_left x _ e) (rising_as_from w.slot q (and_right z _ (and_right y _ (and_right x _ e))))

pub rising_as : (q : List Pending) → pending_ok q ≡ true → rising (as_records q) ≡ true
unfolding pending_ok
rising_as [] e = refl
rising_as (w ∷ q) e = rising_as_from w.slot q (and_right (ltb 0 w.waiters) _ (and_right (slot_fits w.slot) _ e))

-- A found slot ------------------------------------------------------------------------------------------

-- What is known of a slot that stands at place i.
pub record FoundAt (t : Slot) (q : List Pending) (i : ℕ) : Type 0 where
  pub inside : i < length q
  pub slot_is : (pending_at i q).slot ≡ t
  pub waiters_are : waiters_of t q ≡ (pending_at i q).waiters
  pub taken_is : is_taken t q ≡ (pending_at i q).taken
  pub awaits : is_awaiting t q ≡ true
  pub joins : join t q ≡ take i q ++ (record { slot = t; waiters = suc (pending_at i q).waiters; taken = (pending_at i q).taken } ∷ drop (suc i) q)
  pub removes : remove_pending t q ≡ take i q ++ drop (suc i) q

at_least : (q : List Pending) (b : ℕ) (t : Slot) (k : ℕ) → place_from b t q ≡ Ok k → b ≤ k
unfolding records.place_from
at_least [] b t k e = let z : ◌≡◌ {A = ℕ} 0 1 = cc in absurd (omega arith)
at_least (w ∷ q) b t k e =
    split (slot_eqb w.slot t)
    (λ p. let f : Ok b ≡ Ok k = rw p at e in let z : b ≡ k = cc in omega arith)
    (λ p. split (slot_ltb t w.slot)
    (λ o. let f : Err b ≡ Ok k = rw (p, o) at e in let z : ◌≡◌ {A = ℕ} 0 1 = cc in absurd (omega arith))
    (λ o. let h : suc b ≤ k = at_least q (suc b) t k (rw (p, o) at e) in omega arith))

-- The search goes past the first slot: it is not the one, and does not come after it.
passed : (w : Pending) (q : List Pending) (b : ℕ) (t : Slot) (k : ℕ) → b < k → place_from b t (w ∷ q) ≡ Ok k
    → (slot_eqb w.slot t ≡ false) × (slot_ltb t w.slot ≡ false) × (place_from (suc b) t q ≡ Ok k)
unfolding records.place_from
passed w q b t k h e =
    split (slot_eqb w.slot t)
    (λ p. let f : Ok b ≡ Ok k = rw p at e in let z : b ≡ k = cc in absurd (omega arith))
    (λ p. split (slot_ltb t w.slot)
    (λ o. let f : Err b ≡ Ok k = rw (p, o) at e in let z : ◌≡◌ {A = ℕ} 0 1 = cc in absurd (omega arith))
    (λ o. (p, o, rw (p, o) at e)))

here : (w : Pending) (q : List Pending) (b : ℕ) (t : Slot) → place_from b t (w ∷ q) ≡ Ok b → slot_eqb w.slot t ≡ true
unfolding records.place_from
here w q b t e =
    split (slot_eqb w.slot t)
    (λ p. p)
    (λ p. split (slot_ltb t w.slot)
    (λ o. let f : Err b ≡ Ok b = rw (p, o) at e in let z : ◌≡◌ {A = ℕ} 0 1 = cc in absurd (omega arith))
    (λ o. let h : suc b ≤ b = at_least q (suc b) t b (rw (p, o) at e) in absurd (omega arith)))

found_from : (q : List Pending) (b : ℕ) (t : Slot) (i : ℕ) → place_from b t q ≡ Ok (b + i) → FoundAt t q i
unfolding records.place_from waiters_of is_taken is_awaiting join remove_pending
found_from [] b t i e = let z : ◌≡◌ {A = ℕ} 0 1 = cc in absurd (omega arith)
found_from (w ∷ q) b t zero e =
    let n : b + 0 ≡ b = omega arith in
    let p : slot_eqb w.slot t ≡ true = here w q b t (e ∙ ap Ok n) in
    record { inside = omega arith; slot_is = slot_eqb_true w.slot t p; waiters_are = rw p; taken_is = rw p; awaits = rw p; joins = rw p; removes = rw p }
found_from (w ∷ q) b t (suc i) e =
    let n : b + suc i ≡ suc b + i = omega arith in
    let h = passed w q b t (b + suc i) (omega arith) e in
    let f : FoundAt t q i = found_from q (suc b) t i (h.2 ∙ ap Ok n) in
    record {
      inside = let k : i < length q = f.inside in omega arith;
      slot_is = f.slot_is;
      waiters_are = rw h.0 f.waiters_are;
      taken_is = rw h.0 f.taken_is;
      awaits = rw h.0 f.awaits;
      joins = rw (h.0, h.1) (ap (λ (l : List Pending). w ∷ l) f.joins);
      removes = rw h.0 (ap (λ (l : List Pending). w ∷ l) f.removes);
    }

pub found : (q : List Pending) (t : Slot) (i : ℕ) → place_in t q ≡ Ok i → FoundAt t q i
found q t i e = let n : i ≡ 0 + i = omega arith in found_from q 0 t i (e ∙ ap Ok n)

-- An absent slot ----------------------------------------------------------------------------------------

-- What is known of a slot that would go to place i.
pub record AbsentAt (t : Slot) (q : List Pending) (i : ℕ) : Type 0 where
  pub within : i ≤ length q
  pub joins : join t q ≡ take i q ++ (record { slot = t; waiters = 1; taken = false } ∷ drop i q)

absent_least : (q : List Pending) (b : ℕ) (t : Slot) (k : ℕ) → place_from b t q ≡ Err k → b ≤ k
unfolding records.place_from
absent_least [] b t k e = let z : b ≡ k = cc in omega arith
absent_least (w ∷ q) b t k e =
    split (slot_eqb w.slot t)
    (λ p. let f : Ok b ≡ Err k = rw p at e in let z : ◌≡◌ {A = ℕ} 0 1 = cc in absurd (omega arith))
    (λ p. split (slot_ltb t w.slot)
    (λ o. let f : Err b ≡ Err k = rw (p, o) at e in let z : b ≡ k = cc in omega arith)
    (λ o. let h : suc b ≤ k = absent_least q (suc b) t k (rw (p, o) at e) in omega arith))

absent_from : (q : List Pending) (b : ℕ) (t : Slot) (i : ℕ) → place_from b t q ≡ Err (b + i) → AbsentAt t q i
unfolding records.place_from join
absent_from [] b t zero e = record { within = omega arith; joins = refl }
absent_from [] b t (suc i) e = let z : b ≡ b + suc i = cc in absurd (omega arith)
absent_from (w ∷ q) b t zero e =
    split (slot_eqb w.slot t)
    (λ p. let f : Ok b ≡ Err (b + 0) = rw p at e in let z : ◌≡◌ {A = ℕ} 0 1 = cc in absurd (omega arith))
    (λ p. split (slot_ltb t w.slot)
    (λ o. record { within = omega arith; joins = rw (p, o) })
    (λ o. let h : suc b ≤ b + 0 = absent_least q (suc b) t (b + 0) (rw (p, o) at e) in absurd (omega arith)))
absent_from (w ∷ q) b t (suc i) e =
    let n : b + suc i ≡ suc b + i = omega arith in
    split (slot_eqb w.slot t)
    (λ p. let f : Ok b ≡ Err (b + suc i) = rw p at e in let z : ◌≡◌ {A = ℕ} 0 1 = cc in absurd (omega arith))
    (λ p. split (slot_ltb t w.slot)
    (λ o. let f : Err b ≡ Err (b + suc i) = rw (p, o) at e in let z : b ≡ b + suc i = cc in absurd (omega arith))
    (λ o. let f : place_from (suc b) t q ≡ Err (b + suc i) = rw (p, o) at e in
    let k : AbsentAt t q i = absent_from q (suc b) t i (f ∙ ap Err n) in
    record { within = let m : i ≤ length q = k.within in omega arith; joins = rw (p, o) (ap (λ (l : List Pending). w ∷ l) k.joins) }))

pub absent : (q : List Pending) (t : Slot) (i : ℕ) → place_in t q ≡ Err i → AbsentAt t q i
absent q t i e = let n : i ≡ 0 + i = omega arith in absent_from q 0 t i (e ∙ ap Err n)

-- An absent slot among right awaiting slots is none of them.
pub record NotAmong (t : Slot) (q : List Pending) : Type 0 where
  pub no_waiters : waiters_of t q ≡ 0
  pub not_taken : is_taken t q ≡ false
  pub not_awaiting : is_awaiting t q ≡ false
  pub stays : remove_pending t q ≡ q

not_among_more : (t : Slot) (w : Pending) (q : List Pending) → slot_eqb w.slot t ≡ false → NotAmong t q → NotAmong t (w ∷ q)
unfolding waiters_of is_taken is_awaiting remove_pending
not_among_more t w q e k =
    record { no_waiters = rw e k.no_waiters; not_taken = rw e k.not_taken; not_awaiting = rw e k.not_awaiting; stays = rw e (ap (λ (l : List Pending). w ∷ l) k.stays) }

not_among_none : (t : Slot) → NotAmong t []
unfolding waiters_of is_taken is_awaiting remove_pending
not_among_none t = record { no_waiters = refl; not_taken = refl; not_awaiting = refl; stays = refl }

-- The rest of right awaiting slots.
rest_ok : (w : Pending) (q : List Pending) → pending_ok (w ∷ q) ≡ true → pending_ok_from w.slot q ≡ true
unfolding pending_ok
rest_ok w q e = and_right (ltb 0 w.waiters) _ (and_right (slot_fits w.slot) _ e)

from_ok : (s : Slot) (q : List Pending) → pending_ok_from s q ≡ true → pending_ok q ≡ true
unfolding pending_ok_from pending_ok
from_ok s [] e = refl
from_ok s (w ∷ q) e = and_right (slot_ltb s w.slot) _ e

below_all : (t s : Slot) (q : List Pending) → slot_ltb t s ≡ true → pending_ok_from s q ≡ true → NotAmong t q
unfolding pending_ok_from pending_ok
below_all t s [] p e = not_among_none t
below_all t s (w ∷ q) p e =
    let x : slot_ltb t w.slot ≡ true = slot_ltb_trans t s w.slot p (and_left (slot_ltb s w.slot) _ e) in
    not_among_more t w q (slot_eqb_sym w.slot t ∙ slot_ltb_eqb t w.slot x) (below_all t w.slot q x (rest_ok w q (and_right (slot_ltb s w.slot) _ e)))

not_among_from : (q : List Pending) (b : ℕ) (t : Slot) (k : ℕ) → pending_ok q ≡ true → place_from b t q ≡ Err k → NotAmong t q
unfolding records.place_from
not_among_from [] b t k h e = not_among_none t
not_among_from (w ∷ q) b t k h e =
    split (slot_eqb w.slot t)
    (λ p. let f : Ok b ≡ Err k = rw p at e in let z : ◌≡◌ {A = ℕ} 0 1 = cc in absurd (omega arith))
    (λ p. not_among_more t w q p (split (slot_ltb t w.slot)
    (λ o. below_all t w.slot q o (rest_ok w q h))
    (λ o. not_among_from q (suc b) t k (from_ok w.slot q (rest_ok w q h)) (rw (p, o) at e))))

pub not_among : (q : List Pending) (t : Slot) (i : ℕ) → pending_ok q ≡ true → place_in t q ≡ Err i → NotAmong t q
not_among q t i h e = not_among_from q 0 t i h e

-- Whether the place was found says whether the slot awaits an answer.
pub place_awaits : (q : List Pending) (t : Slot) (f : Found) → pending_ok q ≡ true → f ≡ place_in t q → is_ok f ≡ is_awaiting t q
place_awaits q t (Ok i) h e = sym (found q t i (sym e)).awaits
place_awaits q t (Err i) h e = sym (not_among q t i h (sym e)).not_awaiting
