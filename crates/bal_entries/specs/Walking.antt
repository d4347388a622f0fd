-- The walk over an account's slots and reads: what each function asks for, and what it has done where it returns.
use Rattle.std.specs.Prelude.{◌≡◌, List, map, ℕ, ◌+◌, ◌*◌, ◌/◌, ◌≤◌, length, take, drop}
use Rattle.model.specs.declared.storage_memo.Address.{Address}
use Rattle.model.specs.Entries.{slot_bytes}
use Rattle.entries.specs.Bytes.{write_bytes}
use Rattle.final_change.specs.Changes.{changes_in}
use Rattle.bal_entries.specs.declared.Spot.{Spot}
use Rattle.bal_entries.specs.Listed.{SlotChanges, sum, group_slots, post_states, slots_in, reads_in}
use Rattle.bal_entries.specs.Filling.{fill}

-- The slots that are left from a spot on, with their changes.
abbrev pub slots_left : List ℕ → List ℕ → ℕ → ℕ → List SlotChanges
slots_left slots changes slot change = group_slots (drop slot (slots_in slots)) (drop change (changes_in changes))

-- The changes of the slots left are those left.
abbrev pub ChangesLeft : List ℕ → List ℕ → ℕ → ℕ → Type 0
ChangesLeft slots changes slot change = change + sum (map (λ s. s.change_count) (drop slot (slots_in slots))) ≡ length changes / 40

-- What a walk over the next n slots from a spot asks for: there are so many, with their changes, and the output has room for all slots.
pub record SlotsRoom (slots changes : List ℕ) (n : ℕ) (p : Spot) (out_length : ℕ) : Type 0 where
  pub slots_left : p.slot + n ≤ length slots / 40
  pub changes_left : ChangesLeft slots changes p.slot p.change
  pub found_before : p.found ≤ p.slot
  pub room : length slots / 40 * 84 ≤ out_length

-- From spot p to spot q the next n slots were walked, all of one address: the changed ones are found and put.
pub record SlotsSeeded (a : Address) (slots changes : List ℕ) (most n : ℕ) (p : Spot) (out : List ℕ) (q : Spot) (out' : List ℕ) : Type 0 where
  pub slot_is : q.slot ≡ p.slot + n
  pub left_is : slots_left slots changes q.slot q.change ≡ drop n (slots_left slots changes p.slot p.change)
  pub changes_left : ChangesLeft slots changes q.slot q.change
  pub few_found : q.found ≤ p.found + n
  pub filled : record { found = q.found; out = out' }
      ≡ fill 84 most (map write_bytes (post_states a (take n (slots_left slots changes p.slot p.change)))) (record { found = p.found; out = out })

-- The next n reads were walked, all of one address: they are found and put.
abbrev pub ReadsSeeded : Address → List ℕ → ℕ → ℕ → ℕ → ℕ → List ℕ → List ℕ → Type 0
ReadsSeeded a reads most from n found out out' =
    record { found = found + n; out = out' }
    ≡ fill 52 most (map slot_bytes (map (λ i. record { address = a; index = i }) (take n (drop from (reads_in reads))))) (record { found = found; out = out })
