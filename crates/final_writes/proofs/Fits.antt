-- The writes and reads that lists in bytes give fit their bytes, so that an output's entries read back as them. Assumes nothing.
use Prim.Native.Nat.{ℕ, zero, suc}
use mathlib.Core.Path.{◌≡◌, refl, sym, ap, ◌∙◌}
use mathlib.Core.Bool.{Bool, true, false, cond}
use mathlib.Core.List.{List, [], ◌∷◌, ◌++◌, map, append-nil}
use lib.ListN.{length, take, drop}
use Rattle.model.specs.declared.storage_memo.Address.{Address}
use Rattle.model.specs.declared.storage_memo.U256.{U256}
use Rattle.model.specs.declared.delta_snapshot.Slot.{Slot}
use Rattle.model.specs.Numbers.{be, Bytes}
use Rattle.model.specs.Advance.{Write}
use Rattle.model.specs.Entries.{u256_at, slot_of, write_of, chunks, slot_bytes, first_slots}
use Rattle.model.proofs.EntryLaws.{bytes_drop, ValueFits, AddressFits, SlotFits, value_at_fits, address_of_fits, length_slot, value_back, slot_back, Each, each_none, each_more, entries_back}
use Rattle.entries.specs.Bytes.{u256_bytes, write_bytes}
use Rattle.entries.specs.Lists.{entries}
use Rattle.entries.proofs.Placing.{length_write_bytes}
use Rattle.final_change.specs.Changes.{StorageChange, final_change}
use Rattle.bal_plan.specs.Plan.{BalPlan}
use Rattle.bal_entries.specs.Listed.{SlotChanges, LentSlot, group_slots, add_write, post_states}
use Rattle.bal_accounts.specs.declared.LentAccount.{LentAccount}
use Rattle.bal_accounts.specs.Accounts.{AccountChanges, group_accounts, admits, admitted_writes, admitted_reads}
use Rattle.final_writes.specs.FinalWrites.{accounts_of}
use Rattle.final_writes.specs.Lent.{lent_lists, joined, beginning_with}

-- Parts of lists.
module _ {A : Type 0} {P : A → Type 0} where
  pub each_take : (n : ℕ) {xs : List A} → Each P xs → Each P (take n xs)
  each_take zero f = each_none
  each_take (suc n) each_none = each_none
  each_take (suc n) (each_more f fs) = each_more f (each_take n fs)

  each_drop : (n : ℕ) {xs : List A} → Each P xs → Each P (drop n xs)
  each_drop zero f = f
  each_drop (suc n) each_none = each_none
  each_drop (suc n) (each_more f fs) = each_drop n fs

  each_append : {xs ys : List A} → Each P xs → Each P ys → Each P (xs ++ ys)
  each_append each_none g = g
  each_append (each_more f fs) g = each_more f (each_append fs g)

  -- Entries in bytes.
  each_entry : (rd : List ℕ → A) (w : ℕ) → ((b : List ℕ) → Bytes b → P (rd b)) → (n : ℕ) (b : List ℕ) → Bytes b → Each P (entries rd w n b)
  unfolding entries
  each_entry rd w h zero b f = each_none
  each_entry rd w h (suc n) b f = each_more (h b f) (each_entry rd w h n (drop w b) (bytes_drop w b f))

each_so : {A : Type 0} {P Q : A → Type 0} → ((x : A) → P x → Q x) → {xs : List A} → Each P xs → Each Q xs
each_so h each_none = each_none
each_so h (each_more {x} p ps) = each_more (h x p) (each_so h ps)

each_map : {A B : Type 0} {P : A → Type 0} {Q : B → Type 0} (f : A → B) → ((x : A) → P x → Q (f x)) → {xs : List A} → Each P xs → Each Q (map f xs)
each_map f h each_none = each_none
each_map f h (each_more {x} p ps) = each_more (h x p) (each_map f h ps)

-- What fits: a write; a change; a listed slot with its changes; an account.
pub record WriteFits (w : Write) : Type 0 where
  pub slot_fits : SlotFits w.slot
  pub value_fits : ValueFits w.value

abbrev ChangeFits : StorageChange → Type 0
ChangeFits c = ValueFits c.value

record ChangesFit (s : SlotChanges) : Type 0 where
  index_fits : ValueFits s.slot
  changes_fit : Each ChangeFits s.changes

record AccountFits (a : AccountChanges) : Type 0 where
  address_fits : AddressFits a.address
  slots_fit : Each ChangesFit a.storage_changes
  reads_fit : Each ValueFits a.storage_reads

slots_grouped : {ss : List LentSlot} {cs : List StorageChange} → Each (λ s. ValueFits s.slot) ss → Each ChangeFits cs → Each ChangesFit (group_slots ss cs)
unfolding group_slots
slots_grouped each_none g = each_none
slots_grouped (each_more {x = s} f fs) g = each_more (record { index_fits = f; changes_fit = each_take s.change_count g }) (slots_grouped fs (each_drop s.change_count g))

accounts_grouped : {l : List LentAccount} {ss : List SlotChanges} {rs : List U256} → Each (λ a. AddressFits a.address) l → Each ChangesFit ss → Each ValueFits rs → Each AccountFits (group_accounts l ss rs)
unfolding group_accounts
accounts_grouped each_none g h = each_none
accounts_grouped (each_more {x = a} f fs) g h =
    each_more (record { address_fits = f; slots_fit = each_take a.slots g; reads_fit = each_take a.reads h }) (accounts_grouped fs (each_drop a.slots g) (each_drop a.reads h))

-- An account's writes and reads.
module _ (a : Address) (p : AddressFits a) where
  write_added : (i : U256) → ValueFits i → {cs : List StorageChange} → Each ChangeFits cs → {ws : List Write} → Each WriteFits ws → Each WriteFits (add_write a i (final_change cs) ws)
  unfolding final_change
  write_added i q each_none g = g
  write_added i q (each_more f each_none) g = each_more (record { slot_fits = record { address_fits = p; index_fits = q }; value_fits = f }) g
  write_added i q (each_more f (each_more {x = y} h hs)) g = write_added i q (each_more {x = y} h hs) g

  written_fit : {ss : List SlotChanges} → Each ChangesFit ss → Each WriteFits (post_states a ss)
  unfolding post_states
  written_fit each_none = each_none
  written_fit (each_more {x = s} f fs) = write_added s.slot f.index_fits f.changes_fit (written_fit fs)

-- All accounts'.
when : {A : Type 0} {P : A → Type 0} (t : Bool) {xs ys : List A} → Each P xs → Each P ys → Each P (cond t xs ys)
when true f g = f
when false f g = g

module _ (p : BalPlan) where
  writes_fit : {l : List AccountChanges} → Each AccountFits l → Each WriteFits (admitted_writes p l)
  unfolding admitted_writes
  writes_fit each_none = each_none
  writes_fit (each_more {x = a} f fs) = when (admits p a) (each_append (written_fit a.address f.address_fits f.slots_fit) (writes_fit fs)) (writes_fit fs)

  reads_fit : {l : List AccountChanges} → Each AccountFits l → Each SlotFits (admitted_reads p l)
  unfolding admitted_reads
  reads_fit each_none = each_none
  reads_fit (each_more {x = a} f fs) =
      when (admits p a) (each_append (each_map _ (λ i q. record { address_fits = f.address_fits; index_fits = q }) f.reads_fit) (reads_fit fs)) (reads_fit fs)

  -- Of lists in bytes.
  module _ (accounts slots changes reads : List ℕ) (fa : Bytes accounts) (fs : Bytes slots) (fc : Bytes changes) (fr : Bytes reads) where
    all_fit : Each AccountFits (accounts_of (lent_lists accounts slots changes reads))
    all_fit =
        accounts_grouped (each_entry _ 36 address_of_fits _ accounts fa)
        (slots_grouped (each_entry _ 40 (value_at_fits 0) _ slots fs) (each_entry _ 40 (λ b f. value_at_fits 0 (drop 8 b) (bytes_drop 8 b f)) _ changes fc))
        (each_entry _ 32 (value_at_fits 0) _ reads fr)

    pub admitted_writes_fit : Each WriteFits (admitted_writes p (accounts_of (lent_lists accounts slots changes reads)))
    admitted_writes_fit = writes_fit all_fit

    pub admitted_reads_fit : Each SlotFits (admitted_reads p (accounts_of (lent_lists accounts slots changes reads)))
    admitted_reads_fit = reads_fit all_fit

-- Entries read back -----------------------------------------------------------------------------------------

write_back : (w : Write) → WriteFits w → write_of (write_bytes w) ≡ w
unfolding write_bytes
write_back w f =
    let v = w.value in
    let s : slot_of (slot_bytes w.slot ++ u256_bytes v) ≡ w.slot = slot_back w.slot (u256_bytes v) f.slot_fits in
    let e : be 8 v.w3 ++ [] ≡ be 8 v.w3 = append-nil (be 8 v.w3) in
    let x : u256_at 52 (slot_bytes w.slot ++ u256_bytes v) ≡ v =
    ap (λ (l : List ℕ). u256_at 52 (slot_bytes w.slot ++ (be 8 v.w0 ++ (be 8 v.w1 ++ (be 8 v.w2 ++ l))))) (sym e)
    ∙ value_back 52 v (slot_bytes w.slot) [] (length_slot w.slot) f.value_fits in
    λ i. record { slot = s i; value = x i }

read_back : (s : Slot) → SlotFits s → slot_of (slot_bytes s) ≡ s
read_back s f = ap slot_of (sym (append-nil (slot_bytes s))) ∙ slot_back s [] f

joined_next : {A : Type 0} (g : A → List ℕ) (x : A) (xs : List A) → joined (map g (x ∷ xs)) ≡ g x ++ joined (map g xs)
unfolding joined
joined_next g x xs = refl

pub writes_back : {ws : List Write} (wo : List ℕ) → Each WriteFits ws → map write_of (chunks 84 (length ws) (beginning_with (map write_bytes ws) wo)) ≡ ws
writes_back wo f = entries_back 84 write_of write_bytes (λ ws. joined (map write_bytes ws)) length_write_bytes (joined_next write_bytes) _ (each_so write_back f)

pub reads_back : {ss : List Slot} (ro : List ℕ) → Each SlotFits ss → first_slots (length ss) (beginning_with (map slot_bytes ss) ro) ≡ ss
reads_back ro f = entries_back 52 slot_of slot_bytes (λ ss. joined (map slot_bytes ss)) length_slot (joined_next slot_bytes) _ (each_so read_back f)
