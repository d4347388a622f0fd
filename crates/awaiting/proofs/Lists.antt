-- The slots of lent lists, entry by entry.
use Rattle.std.specs.Prelude.{None, Some}
use Prim.Native.Nat.{ℕ, zero, suc, ◌+◌, ◌/◌, ◌≤◌, ◌<◌}
use mathlib.Core.Path.{◌≡◌, refl, ap, ◌∙◌}
use mathlib.Core.Bool.{Bool, true, false, not, ◌&&◌, ◌||◌, cond}
use mathlib.Core.List.{List, [], ◌∷◌, ◌++◌, map}
use native.Mathlib.Omega.{arith}
use lib.Dec.{eqb, leb}
use lib.ListN.{length, drop, get_or, length-map}
use Rattle.std.specs.List.{list_any, list_all, filter, sum_by}
use Rattle.std.proofs.lemmas.List.Sums.{sum_by-cons}
use Rattle.model.specs.declared.delta_snapshot.Slot.{Slot}
use Rattle.model.specs.Slots.{slot_eqb, mem}
use Rattle.model.specs.Reads.{Pending, waiters_of, is_taken, woken, all_taken, has_duplicate, member_slots, if_valued, if_refused, valued_slots, refused_slots}
use Rattle.model.specs.Entries.{slot_of, u256_at, member_of, chunks, slots_of, members_of, known_flags, flags_known}
use Rattle.image.specs.WellFormed.{all_waiters}
use Rattle.image.proofs.PendingOk.{all_waiters_remove_all, woken_members}
use Rattle.entries.proofs.Chunks.{chunks_more, chunks_none}
use Rattle.awaiting.specs.Awaiting.{entry_slots}

-- Entries -------------------------------------------------------------------------------------------------

-- Slots alone are entries of 52 bytes; the slots of members are entries of 85.
pub entry_slots_alone : (b : List ℕ) → entry_slots 52 b ≡ slots_of b
unfolding entry_slots slots_of
entry_slots_alone b = refl

member_slots_of : (l : List (List ℕ)) → member_slots (map member_of l) ≡ map slot_of l
unfolding member_slots
member_slots_of [] = refl
member_slots_of (x ∷ l) = ap (λ (k : List Slot). slot_of x ∷ k) (member_slots_of l)

pub entry_slots_members : (b : List ℕ) → member_slots (members_of b) ≡ entry_slots 85 b
unfolding entry_slots members_of
entry_slots_members b = member_slots_of (chunks 85 (length b / 85) b)

-- The number of entries.
length_chunks : (w n : ℕ) (b : List ℕ) → length (chunks w n b) ≡ n
unfolding chunks
length_chunks w zero b = refl
length_chunks w (suc n) b = ap suc (length_chunks w n (drop w b))

pub length_entry_slots : (w : ℕ) (b : List ℕ) → length (entry_slots w b) ≡ length b / w
unfolding entry_slots
length_entry_slots w b = length-map (chunks w (length b / w) b) slot_of ∙ length_chunks w (length b / w) b

-- The first slot of a list that begins with the entry x, and those after it.
pub entry_slots_more : (w : ℕ) (b x r : List ℕ) → 52 ≤ w → b ≡ x ++ r → length x ≡ w → entry_slots w b ≡ slot_of x ∷ entry_slots w r
unfolding entry_slots
entry_slots_more w b x r h e l = ap (map slot_of) (chunks_more w b x r (omega arith) e l)

pub entry_slots_none : (w : ℕ) (r : List ℕ) → length r < w → entry_slots w r ≡ []
unfolding entry_slots
entry_slots_none w r h = ap (map slot_of) (chunks_none w r h)

-- What chains over the entries answer, by the entries ---------------------------------------------------------

abbrev pub is_refused : List ℕ → Bool
is_refused m = eqb (get_or m 52 0) 0

module _ (s : Slot) where
  mem_any : (cs : List (List ℕ)) → list_any (λ m. slot_eqb (slot_of m) s) cs ≡ mem s (map slot_of cs)
  unfolding mem
  mem_any [] = refl
  mem_any (m ∷ cs) = ap (λ (r : Bool). slot_eqb (slot_of m) s || r) (mem_any cs)

  pub any_named : (w : ℕ) (b : List ℕ) → list_any (λ m. slot_eqb (slot_of m) s) (chunks w (length b / w) b) ≡ mem s (entry_slots w b)
  unfolding entry_slots
  any_named w b = mem_any (chunks w (length b / w) b)

known_all : (cs : List (List ℕ)) → list_all (λ m. leb (get_or m 52 0) 1) cs ≡ known_flags cs
unfolding known_flags
known_all [] = refl
known_all (m ∷ cs) = ap (λ (r : Bool). leb (get_or m 52 0) 1 && r) (known_all cs)

pub all_known : (b : List ℕ) → list_all (λ m. leb (get_or m 52 0) 1) (chunks 85 (length b / 85) b) ≡ flags_known b
unfolding flags_known
all_known b = known_all (chunks 85 (length b / 85) b)

refused_filter : (cs : List (List ℕ)) → length (filter is_refused cs) ≡ length (refused_slots (map member_of cs))
unfolding refused_slots
refused_filter [] = refl
refused_filter (m ∷ cs) = one (is_refused m) _ _ (refused_filter cs)
  where
    one : (f : Bool) (ds : List (List ℕ)) (ss : List Slot) → length ds ≡ length ss → length (cond f (m ∷ ds) ds) ≡ length (if_refused (cond f None (Some (u256_at 53 m))) (slot_of m) ss)
    one true ds ss e = ap suc e
    one false ds ss e = e

pub count_refused : (b : List ℕ) → length (filter is_refused (chunks 85 (length b / 85) b)) ≡ length (refused_slots (members_of b))
unfolding members_of
count_refused b = refused_filter (chunks 85 (length b / 85) b)

module _ (q : List Pending) where
  taken_all : (cs : List (List ℕ)) → list_all (λ m. is_taken (slot_of m) q) cs ≡ all_taken (map slot_of cs) q
  unfolding all_taken
  taken_all [] = refl
  taken_all (m ∷ cs) = ap (λ (r : Bool). is_taken (slot_of m) q && r) (taken_all cs)

  pub all_entries_taken : (w : ℕ) (b : List ℕ) → list_all (λ m. is_taken (slot_of m) q) (chunks w (length b / w) b) ≡ all_taken (entry_slots w b) q
  unfolding entry_slots
  all_entries_taken w b = taken_all (chunks w (length b / w) b)

  abbrev pub waiters_at : List ℕ → ℕ
  waiters_at m = waiters_of (slot_of m) q

  woken_sum : (cs : List (List ℕ)) → sum_by waiters_at cs ≡ woken (map slot_of cs) q
  unfolding woken
  woken_sum [] = refl
  woken_sum (m ∷ cs) = sum_by-cons waiters_at m cs ∙ ap (λ (r : ℕ). waiters_at m + r) (woken_sum cs)

  pub sum_woken : (w : ℕ) (b : List ℕ) → sum_by waiters_at (chunks w (length b / w) b) ≡ woken (entry_slots w b) q
  unfolding entry_slots
  sum_woken w b = woken_sum (chunks w (length b / w) b)

  valued_sum : (cs : List (List ℕ)) → sum_by waiters_at (filter (λ m. not (is_refused m)) cs) ≡ woken (valued_slots (map member_of cs)) q
  unfolding valued_slots woken
  valued_sum [] = refl
  valued_sum (m ∷ cs) = one (is_refused m) _ _ (valued_sum cs)
    where
      one : (f : Bool) (ds : List (List ℕ)) (ss : List Slot) → sum_by waiters_at ds ≡ woken ss q → sum_by waiters_at (cond (not f) (m ∷ ds) ds) ≡ woken (if_valued (cond f None (Some (u256_at 53 m))) (slot_of m) ss) q
      one true ds ss e = e
      one false ds ss e = sum_by-cons waiters_at m ds ∙ ap (λ (r : ℕ). waiters_at m + r) e

  pub sum_valued : (b : List ℕ) → sum_by waiters_at (filter (λ m. not (is_refused m)) (chunks 85 (length b / 85) b)) ≡ woken (valued_slots (members_of b)) q
  unfolding members_of
  sum_valued b = valued_sum (chunks 85 (length b / 85) b)

-- Waiters -------------------------------------------------------------------------------------------------

-- Distinct slots wake no more than all waiters.
pub woken_fits : (ss : List Slot) (q : List Pending) → has_duplicate ss ≡ false → woken ss q ≤ all_waiters q
woken_fits ss q d = omega (arith, all_waiters_remove_all ss q d)

pub valued_fits : (b : List ℕ) (q : List Pending) → has_duplicate (entry_slots 85 b) ≡ false → woken (valued_slots (members_of b)) q ≤ all_waiters q
valued_fits b q d =
    let e : woken (member_slots (members_of b)) q ≡ woken (entry_slots 85 b) q = ap (λ (ss : List Slot). woken ss q) (entry_slots_members b) in
    omega (arith, woken_members (members_of b) q, woken_fits (entry_slots 85 b) q d)
