-- The checks of bytes decide whether they are a store.
use Rattle.std.specs.Prelude.{None, Some, is_some}
use Prim.Native.Nat.{ℕ, ◌+◌, ◌-◌, ◌*◌, ◌≤◌}
use mathlib.Core.Path.{◌≡◌, refl, sym, ap, ◌∙◌}
use mathlib.Core.Bool.{Bool, true, false, ◌&&◌, cond}
use mathlib.Core.List.{List, ◌++◌}
use native.Mathlib.Omega.{arith}
use lib.Dec.{leb}
use lib.ListN.{length, take, drop, length-drop}
use lib.Seq.{drop-drop, get_or-drop}
use borrow.Author.Tests.{leb-true}
use Rattle.layout.specs.Layout.{awaiting_offset, awaiting_table, awaiting_table_size, capacity_index, ends_limit, ends_offset, ends_size, header_width, record_width, records_offset}
use Rattle.model.specs.Numbers.{num, Bytes}
use Rattle.model.specs.Slots.{words_eqb}
use Rattle.model.specs.Store.{Store}
use Rattle.image.specs.WellFormed.{well_formed}
use Rattle.model.specs.Refusals.{store_words}
use Rattle.image.specs.Image.{words_of, image_words, read_store, decode}
use Rattle.image.proofs.Words.{length_words_of}
use Rattle.checking.specs.Checks.{bytes_right, capacity_of}
use Rattle.checking.proofs.Bools.{and_under}
use Rattle.records.proofs.Slots.{word_at}
use Rattle.checking.proofs.Rows.{words_add, fit_words}
use Rattle.checking.proofs.Law.{checks_law}

-- The words of a store of capacity c, in four parts.
pub four_parts : (c : ℕ) (s : List ℕ) → words_of (store_words c) s ≡ words_of header_width s ++ (words_of ends_limit (drop ends_offset s) ++ (words_of awaiting_table (drop awaiting_offset s) ++ words_of (record_width * c) (drop records_offset s)))
four_parts c s =
    let e : store_words c ≡ header_width + (ends_limit + (awaiting_table + record_width * c)) = omega arith in
    ap (λ (n : ℕ). words_of n s) e
    ∙ words_add header_width (ends_limit + (awaiting_table + record_width * c)) s
    ∙ ap (λ (l : List ℕ). words_of header_width s ++ l)
    (words_add ends_limit (awaiting_table + record_width * c) (drop ends_offset s)
    ∙ ap (λ (l : List ℕ). words_of ends_limit (drop ends_offset s) ++ words_of (awaiting_table + record_width * c) l) (drop-drop ends_size ends_offset s)
    ∙ ap (λ (l : List ℕ). words_of ends_limit (drop ends_offset s) ++ l)
    (words_add awaiting_table (record_width * c) (drop awaiting_offset s) ∙ ap (λ (l : List ℕ). words_of awaiting_table (drop awaiting_offset s) ++ words_of (record_width * c) l) (drop-drop awaiting_table_size awaiting_offset s)))

bytes_from : (k : ℕ) (s : List ℕ) → Bytes s → Bytes (drop k s)
bytes_from k s b = λ j. rw get_or-drop (b (k + j))

-- Bytes as long as a store of their capacity.
parts_are : (s : List ℕ) → Bytes s → 8 * store_words (capacity_of s) ≤ length s →
    let ws : List ℕ = words_of (store_words (capacity_of s)) s in
    bytes_right s ≡ (well_formed (read_store ws) && words_eqb ws (image_words (read_store ws)))
unfolding bytes_right
parts_are s b h =
    let c : ℕ = capacity_of s in
    let d : length (drop awaiting_offset s) ≡ length s - awaiting_offset = length-drop awaiting_offset s in
    let e : length (drop records_offset s) ≡ length s - records_offset = length-drop records_offset s in
    let H : List ℕ = words_of header_width s in
    let E : List ℕ = words_of ends_limit (drop ends_offset s) in
    let A : List ℕ = words_of awaiting_table (drop awaiting_offset s) in
    let R : List ℕ = words_of (record_width * c) (drop records_offset s) in
    checks_law H E A R (length_words_of header_width s) (length_words_of ends_limit (drop ends_offset s)) (length_words_of awaiting_table (drop awaiting_offset s)) (length_words_of (record_width * c) (drop records_offset s))
    (fit_words header_width s b (omega arith)) (fit_words awaiting_table (drop awaiting_offset s) (bytes_from awaiting_offset s b) (omega arith)) (fit_words (record_width * c) (drop records_offset s) (bytes_from records_offset s b) (omega arith))
    ∙ ap (λ (ws : List ℕ). well_formed (read_store ws) && words_eqb ws (image_words (read_store ws))) (sym (four_parts c s))

-- Bytes are a store exactly when they are as long as one of their capacity, and the checks are right.
pub decode_law : (s : List ℕ) → Bytes s → is_some (decode s) ≡ (leb (8 * store_words (capacity_of s)) (length s) && bytes_right s)
unfolding decode
decode_law s b =
    let c : ℕ = capacity_of s in
    let e : num (take 8 (drop 8 s)) ≡ c = sym (word_at header_width capacity_index 0 s (omega arith)) in
    let n : ℕ = store_words c in
    let st : Store = read_store (words_of n s) in
    ap (λ (x : ℕ). let ws : List ℕ = words_of (store_words x) s in is_some {T = Store} (cond (leb (8 * store_words x) (length s) && (well_formed (read_store ws) && words_eqb ws (image_words (read_store ws)))) (Some (read_store ws)) None)) e
    ∙ there (leb (8 * n) (length s) && (well_formed st && words_eqb (words_of n s) (image_words st))) st
    ∙ and_under (leb (8 * n) (length s)) _ _ (λ h. sym (parts_are s b (leb-true (8 * n) (length s) h)))
  where
    there : (t : Bool) (st : Store) → is_some {T = Store} (cond t (Some st) None) ≡ t
    there true st = refl
    there false st = refl
