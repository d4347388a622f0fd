-- The outcome of a call: a refusal, or the seed of all accounts walked. Assumes nothing.
use Rattle.std.specs.Prelude.{None, Option, Some, Ok, Err}
use mathlib.Core.Path.{◌≡◌, refl, sym, ap, ap₂, subst, ◌∙◌}
use mathlib.Core.Bool.{Bool, true, false, cond, ◌||◌}
use mathlib.Core.List.{List, [], ◌∷◌, map}
use Prim.Native.Nat.{ℕ, suc, ◌+◌, ◌-◌, ◌*◌, ◌/◌, ◌≤◌, ◌<◌, min}
use native.Mathlib.Nat.{zero-add, zero-mul, sub-zero}
use native.Mathlib.Omega.{arith}
use lib.Dec.{ltb}
use lib.ListN.{length, take, drop, length-map, length-take}
use lib.Seq.{take_all}
use borrow.Author.Tests.{eqb-true, le-ltb, ltb-true, ltb-false}
use Rattle.model.specs.declared.storage_memo.U256.{U256}
use Rattle.model.specs.Numbers.{Bytes}
use Rattle.model.specs.Refusals.{first_that_holds, refusal_number}
use Rattle.model.specs.declared.refusal.Refusal.{Refusal}
use Rattle.model.specs.declared.refusal.Refusal.TheVariants.{CountsDiffer, LentTooShort}
use Rattle.model.specs.Entries.{u256_at, write_of, chunks, slot_bytes, first_slots}
use Rattle.model.proofs.SlotLaws.{split}
use Rattle.model.proofs.EntryLaws.{length_slot}
use Rattle.words.specs.Parts.{placed}
use Rattle.entries.specs.Bytes.{write_bytes}
use Rattle.entries.proofs.Lists.{map_entries, length_entries}
use Rattle.entries.proofs.Placing.{length_write_bytes}
use Rattle.bal_plan.specs.Plan.{BalPlan, within_cap, plan_of, limit_of}
use Rattle.bal_plan.proofs.Caps.{within_is}
use Rattle.bal_entries.specs.Listed.{SlotChanges, sum, read_slot}
use Rattle.bal_entries.specs.Filling.{Filled, fill}
use Rattle.bal_entries.proofs.Filling.{fill_found}
use Rattle.bal_accounts.specs.declared.LentAccount.{LentAccount}
use Rattle.bal_accounts.specs.declared.Walk.{Walk}
use Rattle.bal_accounts.specs.Accounts.{AccountChanges, group_accounts, admitted_writes, admitted_reads, filtered_entries, read_account}
use Rattle.bal_accounts.specs.Walking.{start, WalkFits, AccountsSeeded}
use Rattle.final_writes.specs.FinalWrites.{LentLists, accounts_of, seed_from_accounts, counts_differ, outputs_too_short, final_writes_refusal, FinalWrites, refuse, seeded, conclude, final_writes}
use Rattle.final_writes.specs.Lent.{lent_lists, joined, beginning_with, lent_final_writes, Answers}
use Rattle.final_writes.specs.Counts.{counts_of}
use Rattle.final_writes.proofs.Agreeing.{agree}
use Rattle.final_writes.proofs.Fits.{each_take, admitted_writes_fit, admitted_reads_fit, writes_back, reads_back}
use Rattle.final_writes.proofs.Filled.{fill_is}

take_min : {A : Type 0} (l : List A) (k : ℕ) → take k l ≡ take (min (length l) k) l
take_min {A} l k =
    split (ltb k (length l))
    (λ e. let h : k < length l = ltb-true k (length l) e in let m : min (length l) k ≡ k = omega arith in ap (λ (i : ℕ). take i l) (sym m))
    (λ e. let h : length l ≤ k = ltb-false k (length l) e in let m : min (length l) k ≡ length l = omega arith in
    take_all k l h ∙ sym (take_all (length l) l (omega arith)) ∙ ap (λ (i : ℕ). take i l) (sym m))

-- An output that was filled under a cap -----------------------------------------------------------------

-- What a walk filled: so many were found, those within the cap are at the beginning, and so many they are.
pub record FilledUnder {A : Type 0} (g : A → List ℕ) (c : Option ℕ) (xs : List A) (n : ℕ) (out out' : List ℕ) : Type 0 where
  pub found_is : n ≡ length xs
  pub out_is : out' ≡ beginning_with (map g (take (within_cap c (length xs)) xs)) out
  pub within : within_cap c (length xs) ≡ min n (limit_of c)
  pub count_is : min n (limit_of c) ≡ length (take (within_cap c (length xs)) xs)

pub filled_under : {A : Type 0} (g : A → List ℕ) (w : ℕ) (wide : (x : A) → length (g x) ≡ w) (c : Option ℕ) (xs : List A) (n : ℕ) (out out' : List ℕ) → n * w ≤ length out → n ≤ 18446744073709551615
    → record { found = n; out = out' } ≡ fill w (limit_of c) (map g xs) (record { found = 0; out = out }) → FilledUnder g c xs n out out'
filled_under {A} g w wide c xs n out out' h small e =
    let found : n ≡ length xs = ap (λ (f : Filled). f.found) e ∙ fill_found w (limit_of c) (map g xs) (record { found = 0; out = out }) ∙ zero-add (length (map g xs)) ∙ length-map xs g in
    let zero_found : 0 + length xs ≡ n = zero-add (length xs) ∙ sym found in
    let fits : (0 + length xs) * w ≤ length out = subst (λ (k : ℕ). k * w ≤ length out) (sym zero_found) h in
    let k : ℕ = within_cap c (length xs) in
    let m : k ≡ min (length xs) (limit_of c) = within_is c (length xs) (omega arith) in
    let t : take (limit_of c - 0) xs ≡ take k xs = ap (λ (i : ℕ). take i xs) (sub-zero (limit_of c)) ∙ take_min xs (limit_of c) ∙ ap (λ (i : ℕ). take i xs) (sym m) in
    record {
      found_is = found;
      out_is =
          ap (λ (f : Filled). f.out) (e ∙ fill_is g w (limit_of c) wide xs 0 out fits)
          ∙ ap₂ (λ (i : ℕ) (l : List A). placed i (joined (map g l)) out) (zero-mul w) t;
      within = m ∙ ap (λ (i : ℕ). min i (limit_of c)) (sym found);
      count_is = sym (length-take k xs ∙ omega (arith, m, found));
    }

-- All accounts ----------------------------------------------------------------------------------------

length_group : (l : List LentAccount) (ss : List SlotChanges) (rs : List U256) → length (group_accounts l ss rs) ≡ length l
unfolding group_accounts
length_group [] ss rs = refl
length_group (a ∷ l) ss rs = ap suc (length_group l (drop a.slots ss) (drop a.reads rs))

module _ (accounts slots changes reads plan wo ro : List ℕ) (max_writes max_reads : Option ℕ) where
  abbrev the_plan : BalPlan
  the_plan = plan_of plan max_writes max_reads

  abbrev lists : LentLists
  lists = lent_lists accounts slots changes reads

  abbrev called : FinalWrites
  called = lent_final_writes the_plan lists wo ro

  abbrev too_short : Bool
  too_short = outputs_too_short lists (length wo / 84) (length ro / 52)

  -- Counts that agree are where a walk begins.
  pub start_fits : counts_differ lists ≡ false → WalkFits accounts slots changes reads 0 start
  start_fits e =
      let all_agree = agree accounts slots changes reads e in
      record {
        slots_are = zero-add _ ∙ ap sum (map_entries (λ a. a.slots) read_account 36 (length accounts / 36) accounts) ∙ eqb-true _ _ all_agree.0;
        changes_are = zero-add _ ∙ ap sum (map_entries (λ a. a.change_count) read_slot 40 (length slots / 40) slots) ∙ eqb-true _ _ all_agree.1;
        reads_are = zero-add _ ∙ ap sum (map_entries (λ a. a.reads) read_account 36 (length accounts / 36) accounts) ∙ eqb-true _ _ all_agree.2;
        few_writes = omega arith;
        few_reads = omega arith;
        few_filtered = omega arith;
      }

  -- The outcome by the two tests.
  decided : (s t : Bool) → counts_differ lists ≡ s → too_short ≡ t
      → called ≡ conclude (cond s (Some 10) (cond t (Some 9) None)) (seed_from_accounts the_plan (accounts_of lists))
  unfolding lent_final_writes final_writes final_writes_refusal first_that_holds
  decided s t e f =
      ap₂ (λ (x y : Bool). conclude (cond x (Some 10) (cond y (Some 9) None)) (seed_from_accounts the_plan (accounts_of lists))) e f

  short_is : too_short ≡ (ltb (length wo / 84) (length slots / 40) || ltb (length ro / 52) (length reads / 32))
  unfolding outputs_too_short
  short_is =
      ap₂ (λ (x y : ℕ). ltb (length wo / 84) x || ltb (length ro / 52) y) (length_entries read_slot 40 (length slots / 40) slots) (length_entries (u256_at 0) 32 (length reads / 32) reads)

  refused : (r : Refusal) (s t : Bool) → cond s (Some 10) (cond t (Some 9) None) ≡ Some (refusal_number r) → counts_differ lists ≡ s → too_short ≡ t → Answers (Err r) wo ro called wo ro
  refused r s t k e f =
      let o : called ≡ refuse (refusal_number r) = decided s t e f ∙ ap (λ (x : Option ℕ). conclude x (seed_from_accounts the_plan (accounts_of lists))) k in
      subst (λ (x : FinalWrites). Answers (Err r) wo ro x wo ro) (sym o) (record { answer_is = refl; writes_are = refl; reads_are = refl })

  pub counts_refused : counts_differ lists ≡ true → Answers (Err CountsDiffer) wo ro called wo ro
  counts_refused e = refused CountsDiffer true too_short refl e refl

  pub outputs_refused : counts_differ lists ≡ false → (ltb (length wo / 84) (length slots / 40) || ltb (length ro / 52) (length reads / 32)) ≡ true → Answers (Err LentTooShort) wo ro called wo ro
  outputs_refused e h = refused LentTooShort false true refl e (short_is ∙ h)

  module _ (w : Walk) (wo' ro' : List ℕ) (alike : counts_differ lists ≡ false) (g : length slots / 40 ≤ length wo / 84) (h : length reads / 32 ≤ length ro / 52)
      (fa : Bytes accounts) (fs : Bytes slots) (fc : Bytes changes) (fr : Bytes reads) (slots_small : length slots < 18446744073709551616) (reads_small : length reads < 18446744073709551616)
      (s : AccountsSeeded the_plan accounts slots changes reads (limit_of max_writes) (limit_of max_reads) 0 (length accounts / 36) start wo ro w wo' ro') where
    abbrev all : List AccountChanges
    all = accounts_of lists

    whole : take (length accounts / 36) all ≡ all
    whole =
        let e : length all ≡ length accounts / 36 = length_group _ _ _ ∙ length_entries read_account 36 (length accounts / 36) accounts in
        take_all (length accounts / 36) all (omega arith)

    found_slots : w.writes ≤ length slots / 40
    found_slots = omega (arith, s.fits.few_writes, s.fits.slots_are)

    found_reads : w.reads ≤ length reads / 32
    found_reads = omega (arith, s.fits.few_reads, s.fits.reads_are)

    writes : FilledUnder write_bytes max_writes (admitted_writes the_plan all) w.writes wo wo'
    writes = filled_under write_bytes 84 length_write_bytes max_writes (admitted_writes the_plan all) w.writes wo wo' (omega (arith, found_slots)) (omega (arith, found_slots))
        (s.writes_filled ∙ ap (λ (x : List AccountChanges). fill 84 (limit_of max_writes) (map write_bytes (admitted_writes the_plan x)) (record { found = 0; out = wo })) whole)

    reads_filled : FilledUnder slot_bytes max_reads (admitted_reads the_plan all) w.reads ro ro'
    reads_filled = filled_under slot_bytes 52 length_slot max_reads (admitted_reads the_plan all) w.reads ro ro' (omega (arith, found_reads)) (omega (arith, found_reads))
        (s.reads_filled ∙ ap (λ (x : List AccountChanges). fill 52 (limit_of max_reads) (map slot_bytes (admitted_reads the_plan x)) (record { found = 0; out = ro })) whole)

    filtered : w.filtered ≡ filtered_entries the_plan all
    filtered = s.filtered_is ∙ zero-add _ ∙ ap (filtered_entries the_plan) whole

    pub accepted : Answers (Ok (counts_of w (limit_of max_writes) (limit_of max_reads))) wo' ro' called wo ro
    unfolding seed_from_accounts
    accepted =
        let o : called ≡ seeded (seed_from_accounts the_plan all) = decided false false alike (short_is ∙ ap₂ (λ (x y : Bool). x || y) (le-ltb (length wo / 84) (length slots / 40) g) (le-ltb (length ro / 52) (length reads / 32) h)) in
        let kw : ℕ = within_cap max_writes (length (admitted_writes the_plan all)) in
        let kr : ℕ = within_cap max_reads (length (admitted_reads the_plan all)) in
        let capped : w.writes - min w.writes (limit_of max_writes) + (w.reads - min w.reads (limit_of max_reads)) ≡ (length (admitted_writes the_plan all) - kw) + (length (admitted_reads the_plan all) - kr) =
        omega (arith, writes.found_is, writes.within, reads_filled.found_is, reads_filled.within) in
        let ws : map write_of (chunks 84 (min w.writes (limit_of max_writes)) wo') ≡ take kw (admitted_writes the_plan all) =
        ap₂ (λ (n : ℕ) (l : List ℕ). map write_of (chunks 84 n l)) writes.count_is writes.out_is
        ∙ writes_back wo (each_take kw (admitted_writes_fit the_plan accounts slots changes reads fa fs fc fr)) in
        let rs : first_slots (min w.reads (limit_of max_reads)) ro' ≡ take kr (admitted_reads the_plan all) =
        ap₂ first_slots reads_filled.count_is reads_filled.out_is ∙ reads_back ro (each_take kr (admitted_reads_fit the_plan accounts slots changes reads fa fs fc fr)) in
        subst (λ (x : FinalWrites). Answers (Ok (counts_of w (limit_of max_writes) (limit_of max_reads))) wo' ro' x wo ro) (sym o)
        (record { answer_is = λ i. seeded (record { writes = ws i; reads = rs i; filtered = filtered i; capped = capped i }); writes_are = writes.out_is; reads_are = reads_filled.out_is })
