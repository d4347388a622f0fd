-- Sums of counts, and whether they agree with the lengths lent. Assumes nothing.
use mathlib.Core.Path.{◌≡◌, refl, sym, ap, ap₂, ◌∙◌}
use mathlib.Core.List.{List, map}
use mathlib.Core.Bool.{Bool, true, false, not, ◌&&◌, ◌||◌}
use Prim.Native.Nat.{ℕ, ◌+◌, ◌*◌, ◌/◌, ◌<◌}
use native.Mathlib.Numerals.{add-one}
use lib.Dec.{eqb}
use lib.ListN.{length, drop}
use borrow.Author.Tests.{eqb-true, eqb-false, eq-eqb, ne_eqb}
use Rattle.model.specs.Entries.{number_at, u256_at}
use Rattle.model.proofs.SlotLaws.{split, not_both}
use Rattle.entries.specs.Lists.{entries, all_entries}
use Rattle.entries.proofs.Lists.{length_entries, entry_at, map_entries}
use Rattle.final_change.specs.Changes.{read_change, changes_in}
use Rattle.bal_entries.specs.Listed.{sum, read_slot, slots_in, reads_in}
use Rattle.bal_accounts.specs.Accounts.{read_account, accounts_in}
use Rattle.final_writes.specs.FinalWrites.{counts_differ}
use Rattle.final_writes.specs.Lent.{lent_lists}

-- The sum of the counts from an entry on.
pub sum_at : (rd : List ℕ → ℕ) (w k n : ℕ) (l : List ℕ) → k < n → sum (drop k (entries rd w n l)) ≡ rd (drop (k * w) l) + sum (drop (k + 1) (entries rd w n l))
unfolding sum
sum_at rd w k n l h = ap sum (entry_at rd w k n l h) ∙ ap (λ (i : ℕ). rd (drop (k * w) l) + sum (drop i (entries rd w n l))) (sym (add-one k))

-- Two tests that hold together are the same.
pub eqb_both : (a b c d : ℕ) → (a ≡ b → c ≡ d) → (c ≡ d → a ≡ b) → eqb a b ≡ eqb c d
eqb_both a b c d f g =
    split (eqb a b) (λ e. e ∙ sym (eq-eqb c d (f (eqb-true a b e)))) (λ e. e ∙ sym (ne_eqb c d (λ h. eqb-false a b e (g h))))

-- The sums and lengths of refusal 10.
abbrev sums : List ℕ → ℕ → ℕ → ℕ → Bool
sums b w at n = eqb (sum (all_entries (number_at at 8) w b)) n

module _ (accounts slots changes reads : List ℕ) where
  abbrev slots_agree : Bool
  slots_agree = sums accounts 36 20 (length slots / 40)

  abbrev changes_agree : Bool
  changes_agree = sums slots 40 32 (length changes / 40)

  abbrev reads_agree : Bool
  reads_agree = sums accounts 36 28 (length reads / 32)

  counts_are : counts_differ (lent_lists accounts slots changes reads) ≡ (not slots_agree || (not changes_agree || not reads_agree))
  unfolding counts_differ
  counts_are =
      let s : eqb (sum (map (λ a. a.slots) (accounts_in accounts))) (length (slots_in slots)) ≡ slots_agree =
      ap₂ eqb (ap sum (map_entries (λ a. a.slots) read_account 36 (length accounts / 36) accounts)) (length_entries read_slot 40 (length slots / 40) slots) in
      let c : eqb (sum (map (λ x. x.change_count) (slots_in slots))) (length (changes_in changes)) ≡ changes_agree =
      ap₂ eqb (ap sum (map_entries (λ x. x.change_count) read_slot 40 (length slots / 40) slots)) (length_entries read_change 40 (length changes / 40) changes) in
      let r : eqb (sum (map (λ a. a.reads) (accounts_in accounts))) (length (reads_in reads)) ≡ reads_agree =
      ap₂ eqb (ap sum (map_entries (λ a. a.reads) read_account 36 (length accounts / 36) accounts)) (length_entries (u256_at 0) 32 (length reads / 32) reads) in
      ap₂ (λ (x y : Bool). not x || y) s (ap₂ (λ (x y : Bool). not x || not y) c r)

  -- As three tests answer.
  pub agree_is : (slots_agree && changes_agree && reads_agree) ≡ not (counts_differ (lent_lists accounts slots changes reads))
  agree_is = all_hold slots_agree changes_agree reads_agree ∙ sym (ap not counts_are) where
    all_hold : (x y z : Bool) → (x && y && z) ≡ not (not x || (not y || not z))
    all_hold true true true = refl
    all_hold true true false = refl
    all_hold true false z = refl
    all_hold false y z = refl

  -- Counts that don't differ.
  pub agree : counts_differ (lent_lists accounts slots changes reads) ≡ false → (slots_agree ≡ true) × (changes_agree ≡ true) × (reads_agree ≡ true)
  agree e = three slots_agree changes_agree reads_agree (sym counts_are ∙ e) where
    three : (x y z : Bool) → (not x || (not y || not z)) ≡ false → (x ≡ true) × (y ≡ true) × (z ≡ true)
    three true true true e = (refl, refl, refl)
    three true true false e = not_both refl e
    three true false z e = not_both refl e
    three false y z e = not_both refl e
