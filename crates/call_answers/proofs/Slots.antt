-- The lines of the first slots of an output, one slot at a time. Assumes nothing.
use Prim.Native.Nat.{ℕ, ◌+◌, ◌*◌, ◌≤◌, ◌<◌}
use mathlib.Core.Path.{◌≡◌, sym, ap, ◌∙◌}
use mathlib.Core.List.{List, [], ◌∷◌, ◌++◌}
use native.Mathlib.Numerals.{add-one}
use native.Mathlib.Omega.{arith}
use lib.ListN.{length, drop, length-append}
use Rattle.model.specs.declared.delta_snapshot.Slot.{Slot}
use Rattle.model.specs.Entries.{slot_of, first_slots}
use Rattle.words.specs.Parts.{part}
use Rattle.call_list.specs.Listing.{ascii, line, slot_hex, slot_lines}
use Rattle.listing.proofs.Lengths.{slot_line_length, slot_lines_length}
use Rattle.seed.proofs.Entries.{length_chunks, chunk_at, none_left}

-- The slots from the i-th on.
abbrev pub slots_from : ℕ → ℕ → List ℕ → List Slot
slots_from i n b = drop i (first_slots n b)

pub slot_at : (i n : ℕ) (b : List ℕ) → i < n → slots_from i n b ≡ slot_of (part (i * 52) 52 b) ∷ slots_from (i + 1) n b
slot_at i n b h = chunk_at slot_of 52 i n b h ∙ ap (λ (k : ℕ). slot_of (part (i * 52) 52 b) ∷ slots_from k n b) (sym (add-one i))

pub slots_end : (i n : ℕ) (b : List ℕ) → n ≤ i → slots_from i n b ≡ []
slots_end i n b h = none_left slot_of 52 n i b h

pub length_first : (n : ℕ) (b : List ℕ) → length (first_slots n b) ≡ n
length_first n b = length_chunks slot_of 52 n b

-- The lines of the slots from the i-th on, by the i-th.
pub lines_at : (i n : ℕ) (b : List ℕ) → i < n → slot_lines (slots_from i n b) ≡ line (ascii "slot") (slot_hex (slot_of (part (i * 52) 52 b)) ∷ []) ++ slot_lines (slots_from (i + 1) n b)
unfolding slot_lines
lines_at i n b h = ap slot_lines (slot_at i n b h)

pub lines_at_length : (i n : ℕ) (b : List ℕ) → i < n → 110 ≤ length (slot_lines (slots_from i n b))
lines_at_length i n b h =
    let s : Slot = slot_of (part (i * 52) 52 b) in
    let rest : List ℕ = slot_lines (slots_from (i + 1) n b) in
    omega (arith, ap length (lines_at i n b h), length-append (line (ascii "slot") (slot_hex s ∷ [])) rest, slot_line_length s)

pub lines_end : (i n : ℕ) (b : List ℕ) → n ≤ i → slot_lines (slots_from i n b) ≡ []
unfolding slot_lines
lines_end i n b h = ap slot_lines (slots_end i n b h)

pub length_lines : (n : ℕ) (b : List ℕ) → length (slot_lines (first_slots n b)) ≡ 110 * n
length_lines n b = slot_lines_length (first_slots n b) ∙ ap (λ (k : ℕ). 110 * k) (length_first n b)
