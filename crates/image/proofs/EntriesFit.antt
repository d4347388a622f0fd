-- Entries of lists of bytes fit the code's types. Assumes nothing.
use Rattle.std.specs.Prelude.{None, Some}
use Prim.Native.Nat.{ℕ, zero, suc, ◌+◌, ◌^◌, ◌/◌}
use mathlib.Core.Path.{◌≡◌, refl}
use mathlib.Core.Bool.{Bool, true, false, cond}
use mathlib.Core.List.{List, map}
use borrow.Author.Tests.{lt-ltb}
use lib.Dec.{eqb}
use lib.ListN.{length, take, drop, get_or}
use Rattle.model.specs.declared.storage_memo.U256.{U256}
use Rattle.model.specs.Numbers.{Bytes}
use Rattle.model.specs.Entries.{number_at, u256_at, address_of, slot_of, write_of, member_of, chunks, writes_of, members_of}
use Rattle.model.proofs.SlotLaws.{and_intro}
use Rattle.model.proofs.EntryLaws.{bytes_drop, bytes_take, number_below}
use Rattle.model.specs.Slots.{fits_64, u256_fits}
use Rattle.image.specs.WellFormed.{address_fits, slot_fits}
use Rattle.model.specs.Contents.{value_fits}
use Rattle.image.specs.Claims.{writes_fit, members_fit}

word_fits : (i : ℕ) (b : List ℕ) → Bytes b → fits_64 (number_at i 8 b) ≡ true
word_fits i b f = lt-ltb (number_at i 8 b) (2 ^ 64) (number_below i 8 b f)

pub u256_at_fits : (i : ℕ) (b : List ℕ) → Bytes b → u256_fits (u256_at i b) ≡ true
u256_at_fits i b f = and_intro _ _ (word_fits i b f) (and_intro _ _ (word_fits (i + 8) b f) (and_intro _ _ (word_fits (i + 16) b f) (word_fits (i + 24) b f)))

address_of_fits : (b : List ℕ) → Bytes b → address_fits (address_of b) ≡ true
address_of_fits b f = and_intro _ _ (lt-ltb (number_at 0 4 b) (2 ^ 32) (number_below 0 4 b f)) (and_intro _ _ (word_fits 4 b f) (word_fits 12 b f))

pub slot_of_fits : (b : List ℕ) → Bytes b → slot_fits (slot_of b) ≡ true
unfolding slot_fits
slot_of_fits b f = and_intro _ _ (address_of_fits b f) (u256_at_fits 20 b f)

-- Lists of entries ------------------------------------------------------------------------------------

write_chunks_fit : (n : ℕ) (b : List ℕ) → Bytes b → writes_fit (map write_of (chunks 84 n b)) ≡ true
unfolding chunks writes_fit
write_chunks_fit zero b f = refl
write_chunks_fit (suc n) b f =
    let g : Bytes (take 84 b) = bytes_take 84 b f in
    and_intro _ _ (slot_of_fits (take 84 b) g) (and_intro _ _ (u256_at_fits 52 (take 84 b) g) (write_chunks_fit n (drop 84 b) (bytes_drop 84 b f)))

outcome_of_fits : (t : Bool) (v : U256) → u256_fits v ≡ true → value_fits (cond t None (Some v)) ≡ true
outcome_of_fits true v f = refl
outcome_of_fits false v f = f

member_chunks_fit : (n : ℕ) (b : List ℕ) → Bytes b → members_fit (map member_of (chunks 85 n b)) ≡ true
unfolding chunks members_fit
member_chunks_fit zero b f = refl
member_chunks_fit (suc n) b f =
    let m : List ℕ = take 85 b in
    let g : Bytes m = bytes_take 85 b f in
    and_intro _ _ (slot_of_fits m g)
    (and_intro _ _ (outcome_of_fits (eqb (get_or m 52 0) 0) (u256_at 53 m) (u256_at_fits 53 m g)) (member_chunks_fit n (drop 85 b) (bytes_drop 85 b f)))

-- The writes and the members of any lent bytes fit.
pub writes_of_fit : (b : List ℕ) → Bytes b → writes_fit (writes_of b) ≡ true
unfolding writes_of
writes_of_fit b f = write_chunks_fit (length b / 84) b f

pub members_of_fit : (b : List ℕ) → Bytes b → members_fit (members_of b) ≡ true
unfolding members_of
members_of_fit b f = member_chunks_fit (length b / 85) b f
