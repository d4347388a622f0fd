-- Walking slots: one slot, and one after another. Assumes nothing.
use Rattle.std.specs.Prelude.{None, Option, Some}
use mathlib.Core.Path.{◌≡◌, refl, sym, ap, subst, ◌∙◌}
use mathlib.Core.Bool.{cond}
use mathlib.Core.List.{List, [], ◌∷◌, ◌++◌, map, map-append}
use Prim.Native.Nat.{ℕ, ◌+◌, ◌*◌, ◌/◌, ◌≤◌, ◌<◌}
use native.Mathlib.Nat.{add-zero}
use native.Mathlib.Numerals.{add-one}
use native.Mathlib.Omega.{arith}
use lib.Dec.{ltb}
use lib.ListN.{length, take, drop}
use lib.Seq.{drop-drop}
use Rattle.model.specs.declared.storage_memo.Address.{Address}
use Rattle.model.specs.declared.storage_memo.U256.{U256}
use Rattle.model.specs.Advance.{Write}
use Rattle.model.specs.Entries.{number_at, u256_at}
use Rattle.words.specs.Parts.{placed}
use Rattle.entries.specs.Bytes.{write_bytes}
use Rattle.entries.proofs.Lists.{entry_at}
use Rattle.entries.proofs.Numbers.{number_in, u256_first}
use Rattle.final_change.specs.Changes.{StorageChange, final_change, changes_in}
use Rattle.bal_entries.specs.declared.Spot.{Spot}
use Rattle.bal_entries.specs.Listed.{SlotChanges, LentSlot, sum, group_slots, add_write, post_states, read_slot, slots_in}
use Rattle.bal_entries.specs.Filling.{fill}
use Rattle.bal_entries.specs.Walking.{slots_left, ChangesLeft, SlotsSeeded}
use Rattle.bal_entries.proofs.Filling.{fill_more}

add_write_append : (a : Address) (i : U256) (o : Option U256) (vs ws : List Write) → add_write a i o (vs ++ ws) ≡ add_write a i o vs ++ ws
add_write_append a i None vs ws = refl
add_write_append a i (Some v) vs ws = refl

post_states_append : (a : Address) (xs ys : List SlotChanges) → post_states a (xs ++ ys) ≡ post_states a xs ++ post_states a ys
unfolding post_states
post_states_append a [] ys = refl
post_states_append a (x ∷ xs) ys =
    ap (add_write a x.slot (final_change x.changes)) (post_states_append a xs ys)
    ∙ add_write_append a x.slot (final_change x.changes) (post_states a xs) (post_states a ys)

-- The group of the first slot, and the groups after it.
group_first : (s : LentSlot) (ss : List LentSlot) (S : List LentSlot) (C : List StorageChange) (q : ℕ) → S ≡ s ∷ ss
    → group_slots S (drop q C) ≡ record { slot = s.slot; changes = take s.change_count (drop q C) } ∷ group_slots ss (drop (q + s.change_count) C)
unfolding group_slots
group_first s ss S C q e =
    ap (λ (x : List LentSlot). group_slots x (drop q C)) e
    ∙ ap (λ (x : List StorageChange). record { slot = s.slot; changes = take s.change_count (drop q C) } ∷ group_slots ss x) (drop-drop s.change_count q C)

sum_first : (s : LentSlot) (ss S : List LentSlot) → S ≡ s ∷ ss → sum (map (λ x. x.change_count) S) ≡ s.change_count + sum (map (λ x. x.change_count) ss)
unfolding sum
sum_first s ss S e = ap (λ (x : List LentSlot). sum (map (λ y. y.change_count) x)) e

module _ (a : Address) (slots changes : List ℕ) (most : ℕ) where
  -- No slot walked.
  pub none_seeded : (p : Spot) (out : List ℕ) → ChangesLeft slots changes p.slot p.change → SlotsSeeded a slots changes most 0 p out p out
  unfolding post_states fill
  none_seeded p out h = record { slot_is = sym (add-zero p.slot); left_is = refl; changes_left = h; few_found = omega arith; filled = refl }

  -- Some slots, and then some more.
  pub more_seeded : (n m : ℕ) (p q r : Spot) (o o' o'' : List ℕ) → SlotsSeeded a slots changes most n p o q o' → SlotsSeeded a slots changes most m q o' r o'' → SlotsSeeded a slots changes most (n + m) p o r o''
  more_seeded n m p q r o o' o'' x y =
      let l : List SlotChanges = slots_left slots changes p.slot p.change in
      let b : List SlotChanges → List (List ℕ) = λ k. map write_bytes (post_states a k) in
      let add : (k i : List SlotChanges) → b (k ++ i) ≡ b k ++ b i = λ k i. ap (map write_bytes) (post_states_append a k i) ∙ map-append write_bytes (post_states a k) (post_states a i) in
      record {
        slot_is = omega (arith, x.slot_is, y.slot_is);
        left_is = y.left_is ∙ ap (drop m) x.left_is ∙ drop-drop m n l;
        changes_left = y.changes_left;
        few_found = omega (arith, x.few_found, y.few_found);
        filled = fill_more 84 most b add n m l (slots_left slots changes q.slot q.change) (record { found = p.found; out = o }) _ _ x.left_is x.filled y.filled;
      }

  module _ (p : Spot) (here : p.slot < length slots / 40) (h : ChangesLeft slots changes p.slot p.change) where
    abbrev here_slot : LentSlot
    here_slot = read_slot (drop (p.slot * 40) slots)

    abbrev here_changes : List StorageChange
    here_changes = take here_slot.change_count (drop p.change (changes_in changes))

    first : drop p.slot (slots_in slots) ≡ here_slot ∷ drop (p.slot + 1) (slots_in slots)
    first = entry_at read_slot 40 p.slot (length slots / 40) slots here ∙ ap (λ (i : ℕ). here_slot ∷ drop i (slots_in slots)) (sym (add-one p.slot))

    left : slots_left slots changes p.slot p.change ≡ record { slot = here_slot.slot; changes = here_changes } ∷ slots_left slots changes (p.slot + 1) (p.change + here_slot.change_count)
    left = group_first here_slot (drop (p.slot + 1) (slots_in slots)) (drop p.slot (slots_in slots)) (changes_in changes) p.change first

    changes_here : p.change + here_slot.change_count + sum (map (λ s. s.change_count) (drop (p.slot + 1) (slots_in slots))) ≡ length changes / 40
    changes_here = omega (arith, h, sum_first here_slot (drop (p.slot + 1) (slots_in slots)) (drop p.slot (slots_in slots)) first)

    -- One slot walked, with a change or without.
    one_seeded : (o : Option U256) (k : ℕ) (out out' : List ℕ) → final_change here_changes ≡ o → k ≤ p.found + 1
        → record { found = k; out = out' } ≡ fill 84 most (map write_bytes (add_write a here_slot.slot o [])) (record { found = p.found; out = out })
        → SlotsSeeded a slots changes most 1 p out (record { slot = p.slot + 1; change = p.change + here_slot.change_count; found = k }) out'
    unfolding post_states
    one_seeded o k out out' e few f =
        record {
          slot_is = refl;
          left_is = sym (ap (drop 1) left);
          changes_left = changes_here;
          few_found = few;
          filled =
              f
              ∙ ap (λ (x : Option U256). fill 84 most (map write_bytes (add_write a here_slot.slot x [])) (record { found = p.found; out = out })) (sym e)
              ∙ ap (λ (x : List SlotChanges). fill 84 most (map write_bytes (post_states a (take 1 x))) (record { found = p.found; out = out })) (sym left);
        }

    -- By the number of changes that the code has read.
    module _ (n : ℕ) (read : n ≡ number_at (p.slot * 40 + 32) 8 slots) where
      n_is : n ≡ here_slot.change_count
      n_is = read ∙ number_in 32 (p.slot * 40) 8 slots

      pub changes_fit : p.change + n ≤ length changes / 40
      changes_fit = omega (arith, changes_here, n_is)

      seeded : (o : Option U256) (k : ℕ) (out out' : List ℕ) → o ≡ final_change (take n (drop p.change (changes_in changes))) → k ≤ p.found + 1
          → record { found = k; out = out' } ≡ fill 84 most (map write_bytes (add_write a here_slot.slot o [])) (record { found = p.found; out = out })
          → SlotsSeeded a slots changes most 1 p out (record { slot = p.slot + 1; change = p.change + n; found = k }) out'
      seeded o k out out' e few f =
          subst (λ (m : ℕ). SlotsSeeded a slots changes most 1 p out (record { slot = p.slot + 1; change = p.change + m; found = k }) out') (sym n_is)
          (one_seeded o k out out' (ap (λ (m : ℕ). final_change (take m (drop p.change (changes_in changes)))) (sym n_is) ∙ sym e) few f)

      pub unchanged : (out : List ℕ) → None ≡ final_change (take n (drop p.change (changes_in changes)))
          → SlotsSeeded a slots changes most 1 p out (record { slot = p.slot + 1; change = p.change + n; found = p.found }) out
      unfolding fill
      unchanged out e = seeded None p.found out out e (omega arith) refl

      pub changed : (v : U256) (out out' : List ℕ) → Some v ≡ final_change (take n (drop p.change (changes_in changes)))
          → out' ≡ cond (ltb p.found most) (placed (p.found * 84) (write_bytes (record { slot = record { address = a; index = u256_at (p.slot * 40) slots }; value = v })) out) out
          → SlotsSeeded a slots changes most 1 p out (record { slot = p.slot + 1; change = p.change + n; found = p.found + 1 }) out'
      unfolding fill
      changed v out out' e f =
          seeded (Some v) (p.found + 1) out out' e (omega arith)
          (ap (λ (x : List ℕ). record { found = p.found + 1; out = x })
          (f ∙ ap (λ (x : U256). cond (ltb p.found most) (placed (p.found * 84) (write_bytes (record { slot = record { address = a; index = x }; value = v })) out) out) (u256_first (p.slot * 40) slots)))
