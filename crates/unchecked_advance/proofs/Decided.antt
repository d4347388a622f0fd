-- What each test of an advance says of the table: refused by 6, 7 or 9, or by none of them. Assumes nothing.
use Rattle.model.specs.declared.refusal.Refusal.TheVariants.{SkipWithWrites, SkipOutOfRange, LentTooShort}
use Rattle.model.specs.declared.refusal.Refusal.{Refusal}
use Rattle.std.specs.declared.result.Result.{Result}
use Rattle.model.specs.Refusals.{refusal_number}
use Rattle.std.specs.Prelude.{None, Some, Ok, Err}
use Prim.Native.Nat.{ℕ, zero, suc, ◌+◌, ◌*◌, ◌/◌, ◌≤◌, ◌<◌}
use native.Mathlib.Nat.{div-add-mod'}
use mathlib.Core.Path.{◌≡◌, refl, sym, ap, subst, ◌∙◌}
use mathlib.Core.Logic.{◌⊎◌, ⊎_elim}
use mathlib.Core.Bool.{Bool, true, false, not, ◌&&◌, ◌||◌, cond}
use mathlib.Core.List.{List, map}
use native.Mathlib.Omega.{arith}
use lib.Dec.{eqb, ltb}
use lib.ListN.{length, drop}
use borrow.Author.Tests.{lt-ltb, le-ltb, ltb-true, ltb-false, eq-eqb, ne_eqb}
use Rattle.layout.specs.Layout.{capacity_offset, record_size, records_offset}
use Rattle.model.specs.declared.storage_memo.U256.{U256}
use Rattle.model.specs.declared.storage_memo.ReadAnchor.{ReadAnchor}
use Rattle.model.specs.Numbers.{num}
use Rattle.model.specs.Entries.{chunks, write_of, writes_of}
use Rattle.model.specs.Store.{Performed, advance, perform}
use Rattle.model.specs.Refusals.{store_size}
use Rattle.model.specs.declared.bal_prefetch.BalSkip.{BalSkip}
use Rattle.model.specs.Advance.{skip_of, skip_read}
use Rattle.model.proofs.SlotLaws.{split, and_false, or_left, or_right}
use Rattle.words.specs.Parts.{part}
use Rattle.image.specs.Image.{BytesResult, bytes_step}
use Rattle.image.specs.Lent.{store_of, IsStore}
use Rattle.image.proofs.Lent.{store_in}
use Rattle.replies.specs.Replies.{AdvanceReply}
use Rattle.replies.specs.Replies.{advance_call, AdvancedAs}
use Rattle.replies.specs.Replies.{lent_prepared}
use Rattle.unchecked_advance.specs.Inner.{too_many, ended}
use Rattle.unchecked_advance.proofs.Steps.{step_refused, step_ended}

-- The number of writes.
count_chunks : (n : ℕ) (l : List ℕ) → length (map write_of (chunks 84 n l)) ≡ n
unfolding chunks
count_chunks zero l = refl
count_chunks (suc n) l = ap suc (count_chunks n (drop 84 l))

writes_count : (b : List ℕ) → length (writes_of b) ≡ length b / 84
unfolding writes_of
writes_count b = count_chunks (length b / 84) b

-- The capacity by its word.
pub capacity_fits : (s : List ℕ) (cap : ℕ) → IsStore s → cap ≡ num (part capacity_offset 8 s) → (cap ≡ (store_of s).config.capacity) × (cap ≤ 4096)
capacity_fits s cap e q = (q ∙ (store_in s e).capacity_word, omega (arith, (store_in s e).capacity_word, (store_in s e).capacity_limit))

-- What a skip read from its number says, and one out of range.
pub skip_in : (k : ℕ) (x : BalSkip) → skip_read k ≡ Ok x → (k ≤ 3) × (x ≡ skip_of k)
skip_in k x q = split (ltb 3 k) (λ t. let z : ◌≡◌ {A = Result BalSkip Refusal} (Err SkipOutOfRange) (Ok x) = rw t at q in absurd (cc)) (λ t. let z : ◌≡◌ {A = Result BalSkip Refusal} (Ok (skip_of k)) (Ok x) = rw t at q in (ltb-false 3 k t, cc))

pub skip_out : (k : ℕ) (n : Refusal) → skip_read k ≡ Err n → (3 < k) × (n ≡ SkipOutOfRange)
skip_out k n q = split (ltb 3 k) (λ t. let z : ◌≡◌ {A = Result BalSkip Refusal} (Err SkipOutOfRange) (Err n) = rw t at q in (ltb-true 3 k t, cc)) (λ t. let z : ◌≡◌ {A = Result BalSkip Refusal} (Ok (skip_of k)) (Err n) = rw t at q in absurd (cc))

-- Not refused by 6: the list was read, or there are no writes.
abbrev pub NotSix : ℕ → List ℕ → Type 0
NotSix k writes = ((k ≡ 0 → ⊥) × (length writes / 84 ≡ 0)) ⊎ (k ≡ 0)

-- The output has room for as many entries as there are writes.
pub entries_fit : (writes out : List ℕ) → length writes / 84 ≤ length out / 52 → length writes / 84 * 52 ≤ length out
entries_fit writes out h = omega (arith, div-add-mod' (length out) 52)

module _ (s : List ℕ) (child : ReadAnchor) (h : U256) (k : ℕ) (addresses writes work out : List ℕ) (e : IsStore s) where
  abbrev answers : AdvanceReply → List ℕ → List ℕ → Type 0
  answers r after out' = AdvancedAs r after out' (bytes_step s (advance_call child h k addresses writes work out)) out

  abbrev capacity : ℕ
  capacity = (store_of s).config.capacity

  abbrev does : Performed
  does = perform (store_of s).config (store_of s).installed (advance child h (lent_prepared k addresses writes))

  -- The conditions of 6 and 9.
  abbrev six : Bool
  six = not (eqb k 0) && ltb 0 (length (writes_of writes))

  abbrev nine : Bool
  nine = ltb (length work) (store_size capacity) || ltb (length out / 52) (length (writes_of writes))

  -- What the table's answer gives.
  refused_by : (n : Refusal) → cond six (Some 6) (cond (ltb 3 k) (Some 7) (cond nine (Some 9) (cond (too_many (store_of s).config does) (Some 23) None))) ≡ Some (refusal_number n) → answers (Err n) s out
  refused_by n q =
      subst (λ (o : BytesResult). AdvancedAs (Err n) s out o out)
      (sym (step_refused (store_of s).config (store_of s).installed child h (lent_prepared k addresses writes) s (length work) (length out / 52) e (refusal_number n) q))
      (record { answer_is = refl; bytes_is = refl; output_is = refl })

  pub refused_6 : (k ≡ 0 → ⊥) → (length writes / 84 ≡ 0 → ⊥) → answers (Err SkipWithWrites) s out
  refused_6 a b = refused_by SkipWithWrites (rw (ne_eqb k 0 a, lt-ltb 0 (length (writes_of writes)) (omega (arith, writes_count writes))))

  no_six : length writes / 84 ≡ 0 → six ≡ false
  no_six z = ap (λ (b : Bool). not (eqb k 0) && b) (le-ltb 0 (length (writes_of writes)) (omega (arith, writes_count writes))) ∙ and_false (not (eqb k 0))

  module _ (no : NotSix k writes) where
    not_six : six ≡ false
    not_six = ⊎_elim (λ z. no_six z.1) (λ z. rw (eq-eqb k 0 z)) no

    pub refused_7 : (n : Refusal) → skip_read k ≡ Err n → answers (Err n) s out
    refused_7 n q =
        let f = skip_out k n q in
        subst (λ (x : Refusal). answers (Err x) s out) (sym f.1) (refused_by SkipOutOfRange (rw (not_six, lt-ltb 3 k f.0)))

  module _ (no : NotSix k writes) (x : BalSkip) (read : skip_read k ≡ Ok x) where
    not_seven : ltb 3 k ≡ false
    not_seven = le-ltb 3 k (skip_in k x read).0

    refused_9 : nine ≡ true → answers (Err LentTooShort) s out
    refused_9 z = refused_by LentTooShort (rw (not_six no, not_seven, z))

    pub refused_9_work : (cap : ℕ) → cap ≡ num (part capacity_offset 8 s) → length work < records_offset + record_size * cap → answers (Err LentTooShort) s out
    refused_9_work cap q z = refused_9 (or_left _ _ (lt-ltb (length work) (store_size capacity) (omega (arith, (store_in s e).capacity_word))))

    pub refused_9_output : length out / 52 < length writes / 84 → answers (Err LentTooShort) s out
    refused_9_output z = refused_9 (or_right (ltb (length work) (store_size capacity)) _ (lt-ltb (length out / 52) (length (writes_of writes)) (omega (arith, writes_count writes))))

    -- Refused by none of them.
    pub answered_by : (r : AdvanceReply) (after out' : List ℕ) → store_size capacity ≤ length work → length writes / 84 ≤ length out / 52 → AdvancedAs r after out' (ended (store_of s).config does s) out → answers r after out'
    answered_by r after out' a b y =
        let not_work : ltb (length work) (store_size capacity) ≡ false = le-ltb (length work) (store_size capacity) a in
        let not_output : ltb (length out / 52) (length (writes_of writes)) ≡ false = le-ltb (length out / 52) (length (writes_of writes)) (omega (arith, writes_count writes)) in
        let not_nine : nine ≡ false = rw (not_work, not_output) in
        subst (λ (o : BytesResult). AdvancedAs r after out' o out)
        (sym (step_ended (store_of s).config (store_of s).installed child h (lent_prepared k addresses writes) s (length work) (length out / 52) e (not_six no) not_seven not_nine)) y
