-- The words of a value, copied from its record.
use Rattle.std.specs.Prelude.{Option, Some}
use Prim.Native.Nat.{ℕ, ◌+◌, ◌*◌, ◌≤◌}
use mathlib.Core.Path.{◌≡◌, sym, ap, ◌∙◌}
use mathlib.Core.Bool.{true}
use mathlib.Core.List.{List, [], ◌∷◌, ◌++◌, append-nil}
use native.Mathlib.Omega.{arith}
use native.Mathlib.Nat.{add_assoc}
use lib.ListN.{length, drop, length-drop}
use lib.Seq.{drop-drop, drop-length, length-take-le}
use Rattle.layout.specs.Layout.{record_size, records_offset, value_offset, value_index}
use Rattle.model.specs.Numbers.{num, be, Bytes}
use Rattle.model.specs.Slots.{Value, u256_words, read_u256}
use Rattle.model.specs.Contents.{own_value, has_value, value_words}
use Rattle.model.proofs.EntryLaws.{bytes_drop}
use Rattle.model.proofs.NumberLaws.{length_be}
use Rattle.words.specs.Parts.{part, placed}
use Rattle.image.specs.Image.{bytes_of, words_of}
use Rattle.image.proofs.Words.{bytes_of_words}
use Rattle.records.specs.Records.{words_at}
use Rattle.records.proofs.RecordsAt.{has_value_at, held_value}
use Rattle.records.proofs.Slots.{value_at}
use Rattle.image.proofs.Written.{placed_after}
use Rattle.layers.specs.Answers.{row_content}

-- The four words at a place.
four_words : (at : ℕ) (s : List ℕ) → words_of 4 (drop at s) ≡ num (part at 8 s) ∷ num (part (at + 8) 8 s) ∷ num (part (at + 16) 8 s) ∷ num (part (at + 24) 8 s) ∷ []
unfolding words_of
four_words at s = simp (drop-drop, add_assoc)

-- Bytes placed over as many.
placed_whole : (r z : List ℕ) → length r ≡ length z → placed 0 r z ≡ r
placed_whole r z e = let i : 0 + length r ≡ length z = omega arith in ap (λ (k : ℕ). r ++ drop k z) i ∙ ap (λ (x : List ℕ). r ++ x) (drop-length z) ∙ append-nil r

-- Of record `row` of a store, which has a value.
module _ (row : ℕ) (b : List ℕ) (f : Bytes b) (room : records_offset + record_size * (row + 1) ≤ length b) (has : has_value (row_content row b) ≡ true) where
  abbrev rows : List ℕ
  rows = drop records_offset b

  abbrev stored : Value
  stored = read_u256 (drop value_index (words_at row rows))

  stored_is : own_value (row_content row b) ≡ Some stored
  stored_is = sym (held_value row rows (has_value_at row rows ∙ has))

  -- Its bytes.
  pub value_bytes : bytes_of (u256_words stored) ≡ part (records_offset + record_size * row + value_offset) 32 b
  value_bytes =
      let at : ℕ = row * record_size + value_offset in
      let e : records_offset + at ≡ records_offset + record_size * row + value_offset = omega arith in
      let d : drop at rows ≡ drop (records_offset + record_size * row + value_offset) b = drop-drop at records_offset b ∙ ap (λ (k : ℕ). drop k b) e in
      sym (ap (λ (x : Value). bytes_of (u256_words x)) (value_at row rows))
      ∙ sym (ap bytes_of (four_words at rows))
      ∙ ap (λ (x : List ℕ). bytes_of (words_of 4 x)) d
      ∙ bytes_of_words 4 (drop (records_offset + record_size * row + value_offset) b) (bytes_drop (records_offset + record_size * row + value_offset) b f) (omega (arith, length-drop (records_offset + record_size * row + value_offset) b))

  -- The reply, by way of an array of 32 bytes.
  pub value_copied : (reply z : List ℕ) (n : ℕ) {v t u : List ℕ} → n ≡ 32 → length z ≡ 32 → 40 ≤ length reply → v ≡ placed 0 (part (records_offset + record_size * row + value_offset) n b) z → t ≡ placed 0 (be 8 1) reply → u ≡ placed 8 v t
      → u ≡ placed 0 (bytes_of (value_words (own_value (row_content row b)))) reply
  unfolding bytes_of
  value_copied reply z n {t = t} m l h w e q =
      let p : List ℕ = part (records_offset + record_size * row + value_offset) 32 b in
      let k : length p ≡ 32 = length-take-le 32 (drop (records_offset + record_size * row + value_offset) b) (omega (arith, length-drop (records_offset + record_size * row + value_offset) b)) in
      let i : 8 ≡ 0 + length (be 8 1) = omega (arith, length_be 8 1) in
      q ∙ ap (λ (x : List ℕ). placed 8 x t) (w ∙ ap (λ (j : ℕ). placed 0 (part (records_offset + record_size * row + value_offset) j b) z) m ∙ placed_whole p z (k ∙ sym l)) ∙ ap (placed 8 p) e ∙ placed_after 0 8 (be 8 1) p reply i (omega arith)
      ∙ ap (λ (x : List ℕ). placed 0 (be 8 1 ++ x) reply) (sym value_bytes)
      ∙ ap (λ (o : Option Value). placed 0 (bytes_of (value_words o)) reply) (sym stored_is)
