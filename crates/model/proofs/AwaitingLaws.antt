-- The awaiting slots of the store, which rise, and those of the ledger, in no order: they agree slot by slot, and reads, takes and answers keep that.
use Rattle.std.specs.Prelude.{None, Option, Some}
use Prim.Native.Nat.{ℕ, suc, ◌+◌}
use native.Mathlib.Omega.{arith}
use native.Mathlib.Numerals.{add-one}
use mathlib.Core.Path.{◌≡◌, refl, sym, ap, ◌∙◌}
use mathlib.Core.Bool.{Bool, true, false, not, ◌||◌, cond}
use mathlib.Core.List.{List, [], ◌∷◌, map}
use lib.ListN.{length}
use Rattle.model.specs.Slots.{Value, Slot, slot_eqb, slot_ltb, mem}
use Rattle.model.specs.Reads.{Pending, Member, waiters_of, join, queued, take_queued, remove_pending, remove_all_pending, woken, member_slots, if_refused, refused_slots}
use Rattle.model.specs.FlatLedger.{Awaiting, AwaitingMap, lookup, without, set, one_more_waiter, place, not_taken, all_marked, waiters_among, count_error, member_errors}
use Rattle.model.proofs.SlotLaws.{split, not_both, or_left, or_false_left, or_false_right, slot_eqb_true, slot_eqb_refl, slot_eqb_sym, slot_eqb_apart, slot_ltb_irrefl, slot_ltb_total, slot_ltb_trans, slot_ltb_eqb}
use Rattle.model.proofs.MapLaws.{Distinct, keys, lookup_none, lookup_without, lookup_set, distinct_without, distinct_set}

-- Rising slots ---------------------------------------------------------------------------------------

-- A slot comes before all of a list; a list rises strictly.
abbrev Before : Slot → List Slot → Type 0
Before s [] = Unit {0}
Before s (t ∷ l) = (slot_ltb s t ≡ true) × Before s l

abbrev pub Rises : List Slot → Type 0
Rises [] = Unit {0}
Rises (s ∷ l) = Before s l × Rises l

before_trans : (r s : Slot) (l : List Slot) → slot_ltb r s ≡ true → Before s l → Before r l
before_trans r s [] p b = tt
before_trans r s (t ∷ l) p b = (slot_ltb_trans r s t p b.0, before_trans r s l p b.1)

before_absent : (s : Slot) (l : List Slot) → Before s l → mem s l ≡ false
unfolding mem
before_absent s [] b = refl
before_absent s (t ∷ l) b = rw (slot_eqb_sym t s, slot_ltb_eqb s t b.0) (before_absent s l b.1)

before_member : (s t : Slot) (l : List Slot) → Before s l → mem t l ≡ true → slot_ltb s t ≡ true
unfolding mem
before_member s t [] b e = not_both e refl
before_member s t (x ∷ l) b e = split (slot_eqb x t) (λ y. rw (slot_eqb_true x t y) at b.0) (λ y. before_member s t l b.1 (rw y at e))

-- Two lists that rise and have the same slots are equal.
tail_same : (x : Slot) (xs ys : List Slot) → Before x xs → Before x ys → ((s : Slot) → mem s (x ∷ xs) ≡ mem s (x ∷ ys)) → (s : Slot) → mem s xs ≡ mem s ys
unfolding mem
tail_same x xs ys a b f s =
    split (slot_eqb x s)
    (λ y. rw (← slot_eqb_true x s y) (before_absent x xs a ∙ sym (before_absent x ys b)))
    (λ y. rw y at (f s))

rising_same : (xs ys : List Slot) → Rises xs → Rises ys → ((s : Slot) → mem s xs ≡ mem s ys) → xs ≡ ys
unfolding mem
rising_same [] [] a b f = refl
rising_same [] (y ∷ ys) a b f = not_both (or_left (slot_eqb y y) (mem y ys) (slot_eqb_refl y)) (sym (f y))
rising_same (x ∷ xs) [] a b f = not_both (or_left (slot_eqb x x) (mem x xs) (slot_eqb_refl x)) (f x)
rising_same (x ∷ xs) (y ∷ ys) a b f =
    split (slot_eqb x y)
    (λ e. let p : x ≡ y = slot_eqb_true x y e in
    let c : Before x ys = rw (← p) at b.0 in
    let g : (s : Slot) → mem s (x ∷ xs) ≡ mem s (x ∷ ys) = rw (← p) at f in
    cc (p, rising_same xs ys a.1 b.1 (tail_same x xs ys a.0 c g)))
    (λ e. let in_ys : mem x ys ≡ true = rw (slot_eqb_sym y x, e) at (sym (f x) ∙ or_left (slot_eqb x x) (mem x xs) (slot_eqb_refl x)) in
    let in_xs : mem y xs ≡ true = rw e at (f y ∙ or_left (slot_eqb y y) (mem y ys) (slot_eqb_refl y)) in
    not_both (slot_ltb_trans x y x (before_member x y xs a.0 in_xs) (before_member y x ys b.0 in_ys)) (slot_ltb_irrefl x))

-- The store's awaiting slots -------------------------------------------------------------------------

unfoldable pub pending_slots : List Pending → List Slot
pending_slots [] = []
pending_slots (w ∷ q) = w.slot ∷ pending_slots q

-- What a slot awaits, as the ledger holds it.
abbrev as_awaiting : Pending → Awaiting
as_awaiting w = record { waiters = w.waiters; taken = w.taken }

unfoldable pub pending_of : Slot → List Pending → Option Awaiting
pending_of s [] = None
pending_of s (w ∷ q) = cond (slot_eqb w.slot s) (Some (as_awaiting w)) (pending_of s q)

pending_absent : (s : Slot) (q : List Pending) → mem s (pending_slots q) ≡ false → pending_of s q ≡ None
unfolding mem pending_slots pending_of
pending_absent s [] e = refl
pending_absent s (w ∷ q) e = rw (or_false_left (slot_eqb w.slot s) (mem s (pending_slots q)) e) (pending_absent s q (or_false_right (slot_eqb w.slot s) (mem s (pending_slots q)) e))

pending_before : (s : Slot) (q : List Pending) → Before s (pending_slots q) → pending_of s q ≡ None
pending_before s q b = pending_absent s q (before_absent s (pending_slots q) b)

-- An unserved read.
pending_of_join : (s t : Slot) (q : List Pending) → Rises (pending_slots q) → pending_of t (join s q) ≡ cond (slot_eqb s t) (Some (one_more_waiter (pending_of s q))) (pending_of t q)
unfolding pending_slots pending_of join
pending_of_join s t [] r = refl
pending_of_join s t (w ∷ q) r =
    split (slot_eqb w.slot s)
    (λ y. rw (y, slot_eqb_true w.slot s y, add-one) (split (slot_eqb s t) (λ z. rw z) (λ z. rw z)))
    (λ y. rw y (split (slot_ltb s w.slot)
    (λ z. rw (z, pending_before s q (before_trans s w.slot (pending_slots q) z r.0)))
    (λ z. rw z (split (slot_eqb w.slot t)
    (λ x. rw (x, slot_eqb_sym s t, slot_eqb_apart w.slot t s x y))
    (λ x. rw x (pending_of_join s t q r.1))))))

before_join : (r s : Slot) (q : List Pending) → slot_ltb r s ≡ true → Before r (pending_slots q) → Before r (pending_slots (join s q))
unfolding pending_slots join
before_join r s [] l b = (l, tt)
before_join r s (w ∷ q) l b =
    split (slot_eqb w.slot s)
    (λ y. rw y (l, b.1))
    (λ y. rw y (split (slot_ltb s w.slot) (λ z. rw z (l, b)) (λ z. rw z (b.0, before_join r s q l b.1))))

rises_join : (s : Slot) (q : List Pending) → Rises (pending_slots q) → Rises (pending_slots (join s q))
unfolding pending_slots join
rises_join s [] r = (tt, tt)
rises_join s (w ∷ q) r =
    split (slot_eqb w.slot s)
    (λ y. rw y (rw (slot_eqb_true w.slot s y) at r))
    (λ y. rw y (split (slot_ltb s w.slot)
    (λ z. rw z ((z, before_trans s w.slot (pending_slots q) z r.0), r))
    (λ z. rw z (before_join w.slot s q (slot_ltb_total w.slot s y z) r.0, rises_join s q r.1))))

-- A take.
abbrev marked : Option Awaiting → Option Awaiting
marked None = None
marked (Some w) = Some (record { waiters = w.waiters; taken = true })

pending_of_take : (t : Slot) (q : List Pending) → pending_of t (take_queued q) ≡ marked (pending_of t q)
unfolding pending_of take_queued
pending_of_take t [] = refl
pending_of_take t (w ∷ q) = split (slot_eqb w.slot t) (λ y. rw y) (λ y. rw y (pending_of_take t q))

slots_take : (q : List Pending) → pending_slots (take_queued q) ≡ pending_slots q
unfolding pending_slots take_queued
slots_take [] = refl
slots_take (w ∷ q) = rw (slots_take q)

-- An answer.
pending_of_remove : (s t : Slot) (q : List Pending) → Rises (pending_slots q) → pending_of t (remove_pending s q) ≡ cond (slot_eqb s t) None (pending_of t q)
unfolding pending_slots pending_of remove_pending
pending_of_remove s t [] r = split (slot_eqb s t) (λ y. rw y) (λ y. rw y)
pending_of_remove s t (w ∷ q) r =
    split (slot_eqb w.slot s)
    (λ y. rw (y, ← slot_eqb_true w.slot s y) (split (slot_eqb w.slot t)
    (λ z. let gone : pending_of t q ≡ None = rw (slot_eqb_true w.slot t z) at (pending_before w.slot q r.0) in rw z gone)
    (λ z. rw z)))
    (λ y. rw y (split (slot_eqb w.slot t)
    (λ z. rw (z, slot_eqb_sym s t, slot_eqb_apart w.slot t s z y))
    (λ z. rw z (pending_of_remove s t q r.1))))

before_remove : (r s : Slot) (q : List Pending) → Before r (pending_slots q) → Before r (pending_slots (remove_pending s q))
unfolding pending_slots remove_pending
before_remove r s [] b = b
before_remove r s (w ∷ q) b = split (slot_eqb w.slot s) (λ y. rw y b.1) (λ y. rw y (b.0, before_remove r s q b.1))

rises_remove : (s : Slot) (q : List Pending) → Rises (pending_slots q) → Rises (pending_slots (remove_pending s q))
unfolding pending_slots remove_pending
rises_remove s [] r = r
rises_remove s (w ∷ q) r = split (slot_eqb w.slot s) (λ y. rw y r.1) (λ y. rw y (before_remove w.slot s q r.0, rises_remove s q r.1))

rises_remove_all : (ss : List Slot) (q : List Pending) → Rises (pending_slots q) → Rises (pending_slots (remove_all_pending ss q))
unfolding remove_all_pending
rises_remove_all [] q r = r
rises_remove_all (s ∷ ss) q r = rises_remove_all ss (remove_pending s q) (rises_remove s q r)

pending_of_remove_all : (ss : List Slot) (t : Slot) (q : List Pending) → Rises (pending_slots q) → pending_of t (remove_all_pending ss q) ≡ cond (mem t ss) None (pending_of t q)
unfolding mem remove_all_pending
pending_of_remove_all [] t q r = refl
pending_of_remove_all (s ∷ ss) t q r =
    pending_of_remove_all ss t (remove_pending s q) (rises_remove s q r)
    ∙ rw (pending_of_remove s t q r) (split (slot_eqb s t) (λ y. rw y (split (mem t ss) (λ z. rw z) (λ z. rw z))) (λ y. rw y))

-- The queue ------------------------------------------------------------------------------------------

-- Whether a slot awaits and is not taken.
abbrev untaken : Option Awaiting → Bool
untaken None = false
untaken (Some w) = not w.taken

mem_queued : (t : Slot) (q : List Pending) → Rises (pending_slots q) → mem t (queued q) ≡ untaken (pending_of t q)
unfolding mem pending_slots pending_of queued
mem_queued t [] r = refl
mem_queued t (w ∷ q) r =
    split (slot_eqb w.slot t)
    (λ y. let e : mem t (queued q) ≡ false = mem_queued t q r.1 ∙ ap untaken (rw (slot_eqb_true w.slot t y) at (pending_before w.slot q r.0)) in
    rw y (split w.taken (λ z. rw z e) (λ z. rw (z, y))))
    (λ y. rw y (split w.taken (λ z. rw z (mem_queued t q r.1)) (λ z. rw (z, y) (mem_queued t q r.1))))

before_queued : (s : Slot) (q : List Pending) → Before s (pending_slots q) → Before s (queued q)
unfolding pending_slots queued
before_queued s [] b = b
before_queued s (w ∷ q) b = split w.taken (λ z. rw z (before_queued s q b.1)) (λ z. rw z (b.0, before_queued s q b.1))

rises_queued : (q : List Pending) → Rises (pending_slots q) → Rises (queued q)
unfolding pending_slots queued
rises_queued [] r = r
rises_queued (w ∷ q) r = split w.taken (λ z. rw z (rises_queued q r.1)) (λ z. rw z (before_queued w.slot q r.0, rises_queued q r.1))

-- The ledger's.
mem_place : (s t : Slot) (l : List Slot) → mem t (place s l) ≡ (slot_eqb s t || mem t l)
unfolding mem place
mem_place s t [] = refl
mem_place s t (x ∷ l) =
    split (slot_ltb s x)
    (λ y. rw y)
    (λ y. rw (y, mem_place s t l) (split (slot_eqb x t) (λ z. rw z (split (slot_eqb s t) (λ a. rw a) (λ a. rw a))) (λ z. rw z)))

before_place : (r s : Slot) (l : List Slot) → slot_ltb r s ≡ true → Before r l → Before r (place s l)
unfolding place
before_place r s [] p b = (p, tt)
before_place r s (x ∷ l) p b = split (slot_ltb s x) (λ y. rw y (p, b)) (λ y. rw y (b.0, before_place r s l p b.1))

rises_place : (s : Slot) (l : List Slot) → mem s l ≡ false → Rises l → Rises (place s l)
unfolding mem place
rises_place s [] e r = (tt, tt)
rises_place s (x ∷ l) e r =
    split (slot_ltb s x)
    (λ y. rw y ((y, before_trans s x l y r.0), r))
    (λ y. rw y (before_place x s l (slot_ltb_total x s (or_false_left (slot_eqb x s) (mem s l) e) y) r.0, rises_place s l (or_false_right (slot_eqb x s) (mem s l) e) r.1))

mem_not_taken : (t : Slot) (a : AwaitingMap) → Distinct (keys a) → mem t (not_taken a) ≡ untaken (lookup t a)
unfolding mem keys lookup not_taken
mem_not_taken t [] d = refl
mem_not_taken t (x ∷ a) d =
    split (slot_eqb x.slot t)
    (λ y. let e : mem t (not_taken a) ≡ false = mem_not_taken t a d.1 ∙ ap untaken (rw (slot_eqb_true x.slot t y) at (lookup_none x.slot a d.0)) in
    rw y (split x.content.taken (λ z. rw z e) (λ z. rw (z, mem_place x.slot t (not_taken a), y))))
    (λ y. rw y (split x.content.taken (λ z. rw z (mem_not_taken t a d.1)) (λ z. rw (z, mem_place x.slot t (not_taken a), y) (mem_not_taken t a d.1))))

rises_not_taken : (a : AwaitingMap) → Distinct (keys a) → Rises (not_taken a)
unfolding keys not_taken
rises_not_taken [] d = tt
rises_not_taken (x ∷ a) d =
    split x.content.taken
    (λ z. rw z (rises_not_taken a d.1))
    (λ z. rw z (rises_place x.slot (not_taken a) (mem_not_taken x.slot a d.1 ∙ ap untaken (lookup_none x.slot a d.0)) (rises_not_taken a d.1)))

lookup_marked : (t : Slot) (a : AwaitingMap) → lookup t (all_marked a) ≡ marked (lookup t a)
unfolding lookup
lookup_marked t [] = refl
lookup_marked t (x ∷ a) = split (slot_eqb x.slot t) (λ y. rw y) (λ y. rw y (lookup_marked t a))

keys_marked : (a : AwaitingMap) → keys (all_marked a) ≡ keys a
unfolding keys
keys_marked [] = refl
keys_marked (x ∷ a) = rw (keys_marked a)

-- Waiters --------------------------------------------------------------------------------------------

abbrev waiters_in : Option Awaiting → ℕ
waiters_in None = 0
waiters_in (Some w) = w.waiters

waiters_of_pending : (s : Slot) (q : List Pending) → waiters_of s q ≡ waiters_in (pending_of s q)
unfolding waiters_of pending_of
waiters_of_pending s [] = refl
waiters_of_pending s (w ∷ q) = split (slot_eqb w.slot s) (λ y. rw y) (λ y. rw y (waiters_of_pending s q))

waiters_among_cons : (s : Slot) (ss : List Slot) (a : AwaitingMap) → mem s ss ≡ false → Distinct (keys a) → waiters_among (s ∷ ss) a ≡ waiters_in (lookup s a) + waiters_among ss a
unfolding mem keys lookup waiters_among
waiters_among_cons s ss [] e d = refl
waiters_among_cons s ss (x ∷ a) e d =
    let ih : waiters_among (s ∷ ss) a ≡ waiters_in (lookup s a) + waiters_among ss a = waiters_among_cons s ss a e d.1 in
    split (slot_eqb s x.slot)
    (λ y. let p : s ≡ x.slot = slot_eqb_true s x.slot y in
    let f : mem x.slot ss ≡ false = rw p at e in
    let g : lookup s a ≡ None = lookup_none s a (rw (← p) at d.0) in
    rw (y, slot_eqb_sym x.slot s, y, f) (omega (arith, ih, rw g at ih)))
    (λ y. rw (y, slot_eqb_sym x.slot s, y) (omega (arith, ih)))

waiters_among_none : (a : AwaitingMap) → waiters_among [] a ≡ 0
unfolding mem waiters_among
waiters_among_none [] = refl
waiters_among_none (x ∷ a) = omega (arith, waiters_among_none a)

-- The members of an answer ---------------------------------------------------------------------------

pub named_same : (ms : List Member) → member_slots ms ≡ map (λ x. x.slot) ms
unfolding member_slots
named_same [] = refl
named_same (m ∷ ms) = rw (named_same ms)

error_counted : (s : Slot) (o : Option Value) (l : List Slot) → length (if_refused o s l) ≡ count_error o + length l
error_counted s None l = omega arith
error_counted s (Some v) l = omega arith

pub errors_same : (ms : List Member) → length (refused_slots ms) ≡ member_errors ms
unfolding refused_slots member_errors
errors_same [] = refl
errors_same (m ∷ ms) = rw (error_counted m.slot m.outcome (refused_slots ms), errors_same ms)

-- Agreement ------------------------------------------------------------------------------------------

-- The store's awaiting slots rise, the ledger has one entry a slot, and each slot awaits the same in both.
pub record AwaitingAgree (q : List Pending) (a : AwaitingMap) : Type 0 where
  pub rises : Rises (pending_slots q)
  pub one_entry : Distinct (keys a)
  pub same : (s : Slot) → pending_of s q ≡ lookup s a

pub awaiting_empty : AwaitingAgree [] []
unfolding pending_slots pending_of keys lookup
awaiting_empty = record { rises = tt; one_entry = tt; same = λ s. refl }

module _ {q : List Pending} {a : AwaitingMap} (h : AwaitingAgree q a) where
  -- An unserved read, and the waiters that it answers.
  pub awaiting_join : (s : Slot) → AwaitingAgree (join s q) (set s (one_more_waiter (lookup s a)) a)
  awaiting_join s =
      record {
        rises = rises_join s q h.rises;
        one_entry = distinct_set s (one_more_waiter (lookup s a)) a h.one_entry;
        same = λ t. rw (pending_of_join s t q h.rises, lookup_set s t (one_more_waiter (lookup s a)) a, h.same s, h.same t);
      }

  pub waiting_same : (s : Slot) → suc (waiters_of s q) ≡ (one_more_waiter (lookup s a)).waiters
  waiting_same s = rw (waiters_of_pending s q, h.same s) (one (lookup s a))
    where
      one : (o : Option Awaiting) → suc (waiters_in o) ≡ (one_more_waiter o).waiters
      one None = refl
      one (Some w) = rw add-one

  -- A take, and the slots that it lists.
  pub awaiting_take : AwaitingAgree (take_queued q) (all_marked a)
  awaiting_take =
      record {
        rises = rw (slots_take q) h.rises;
        one_entry = rw (keys_marked a) h.one_entry;
        same = λ t. rw (pending_of_take t q, lookup_marked t a, h.same t);
      }

  pub queue_same : queued q ≡ not_taken a
  queue_same =
      rising_same (queued q) (not_taken a) (rises_queued q h.rises) (rises_not_taken a h.one_entry)
      (λ s. mem_queued s q h.rises ∙ ap untaken (h.same s) ∙ sym (mem_not_taken s a h.one_entry))

  -- An answer, and the waiters that it wakes if it names no slot twice.
  pub awaiting_remove : (ss : List Slot) → AwaitingAgree (remove_all_pending ss q) (without ss a)
  awaiting_remove ss =
      record {
        rises = rises_remove_all ss q h.rises;
        one_entry = distinct_without ss a h.one_entry;
        same = λ t. rw (pending_of_remove_all ss t q h.rises, lookup_without ss t a, h.same t);
      }

  pub woken_same : (ss : List Slot) → Distinct ss → woken ss q ≡ waiters_among ss a
  unfolding woken
  woken_same [] d = sym (waiters_among_none a)
  woken_same (s ∷ ss) d =
      let first : waiters_of s q ≡ waiters_in (lookup s a) = waiters_of_pending s q ∙ ap waiters_in (h.same s) in
      omega (arith, woken_same ss d.1, waiters_among_cons s ss a d.0 h.one_entry)
