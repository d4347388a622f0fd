-- Walking accounts: one account, admitted or not, and one after another. Assumes nothing.
use mathlib.Core.Path.{◌≡◌, refl, sym, ap, ap₂, subst, ◌∙◌}
use mathlib.Core.Bool.{Bool, true, false, cond}
use mathlib.Core.List.{List, [], ◌∷◌, ◌++◌, map, append-nil, append_assoc, map-append}
use Prim.Native.Nat.{ℕ, ◌+◌, ◌-◌, ◌*◌, ◌/◌, ◌≤◌, ◌<◌}
use native.Mathlib.Nat.{add-zero, zero-add}
use native.Mathlib.Numerals.{add-one}
use native.Mathlib.Omega.{arith}
use lib.ListN.{length, take, drop, length-drop, length-map}
use lib.Seq.{drop-drop, take-add, length-take-le}
use Rattle.model.specs.declared.storage_memo.U256.{U256}
use Rattle.model.specs.declared.delta_snapshot.Slot.{Slot}
use Rattle.model.specs.Advance.{Write}
use Rattle.model.specs.Entries.{address_of, slot_bytes, u256_at}
use Rattle.entries.specs.Bytes.{write_bytes}
use Rattle.entries.proofs.Lists.{entry_at, length_entries}
use Rattle.bal_plan.specs.Plan.{BalPlan, admits_from}
use Rattle.bal_entries.specs.declared.Spot.{Spot}
use Rattle.bal_entries.specs.Listed.{SlotChanges, sum, slots_in, reads_in}
use Rattle.bal_entries.specs.Filling.{Filled, fill}
use Rattle.bal_entries.specs.Walking.{slots_left, SlotsSeeded, ReadsSeeded}
use Rattle.bal_entries.proofs.Filling.{fill_more, fill_counts}
use Rattle.bal_accounts.specs.declared.LentAccount.{LentAccount}
use Rattle.bal_accounts.specs.declared.Walk.{Walk}
use Rattle.bal_accounts.specs.Accounts.{AccountChanges, group_accounts, account_writes, account_reads, admits, admitted_writes, admitted_reads, filtered_entries, read_account, accounts_in}
use Rattle.bal_accounts.specs.Walking.{accounts_left, WalkFits, AccountsSeeded}

-- Accounts joined -------------------------------------------------------------------------------------

writes_append : (p : BalPlan) (k l : List AccountChanges) → admitted_writes p (k ++ l) ≡ admitted_writes p k ++ admitted_writes p l
unfolding admitted_writes
writes_append p [] l = refl
writes_append p (a ∷ k) l = ap (λ (x : List Write). cond (admits p a) (account_writes a ++ x) x) (writes_append p k l) ∙ both (admits p a) where
  both : (t : Bool) → cond t (account_writes a ++ (admitted_writes p k ++ admitted_writes p l)) (admitted_writes p k ++ admitted_writes p l) ≡ cond t (account_writes a ++ admitted_writes p k) (admitted_writes p k) ++ admitted_writes p l
  both true = sym (append_assoc (account_writes a) (admitted_writes p k) (admitted_writes p l))
  both false = refl

reads_append : (p : BalPlan) (k l : List AccountChanges) → admitted_reads p (k ++ l) ≡ admitted_reads p k ++ admitted_reads p l
unfolding admitted_reads
reads_append p [] l = refl
reads_append p (a ∷ k) l = ap (λ (x : List Slot). cond (admits p a) (account_reads a ++ x) x) (reads_append p k l) ∙ both (admits p a) where
  both : (t : Bool) → cond t (account_reads a ++ (admitted_reads p k ++ admitted_reads p l)) (admitted_reads p k ++ admitted_reads p l) ≡ cond t (account_reads a ++ admitted_reads p k) (admitted_reads p k) ++ admitted_reads p l
  both true = sym (append_assoc (account_reads a) (admitted_reads p k) (admitted_reads p l))
  both false = refl

filtered_append : (p : BalPlan) (k l : List AccountChanges) → filtered_entries p (k ++ l) ≡ filtered_entries p k + filtered_entries p l
unfolding filtered_entries
filtered_append p [] l = sym (zero-add (filtered_entries p l))
filtered_append p (a ∷ k) l =
    let n : ℕ = length (account_writes a) + length (account_reads a) in
    ap (λ (x : ℕ). cond (admits p a) x (n + x)) (filtered_append p k l) ∙ both n (admits p a) where
      both : (n : ℕ) (t : Bool) → cond t (filtered_entries p k + filtered_entries p l) (n + (filtered_entries p k + filtered_entries p l)) ≡ cond t (filtered_entries p k) (n + filtered_entries p k) + filtered_entries p l
      both n true = refl
      both n false = omega arith

module _ (p : BalPlan) (accounts slots changes reads : List ℕ) (max_writes max_reads : ℕ) where
  -- No account walked.
  pub no_accounts : (w : Walk) (wo ro : List ℕ) → WalkFits accounts slots changes reads 0 w → AccountsSeeded p accounts slots changes reads max_writes max_reads 0 0 w wo ro w wo ro
  unfolding fill admitted_writes admitted_reads filtered_entries
  no_accounts w wo ro h = record { left_is = refl; fits = h; writes_filled = refl; reads_filled = refl; filtered_is = sym (add-zero w.filtered) }

  -- Some accounts, and then some more.
  pub more_accounts : (n m : ℕ) (u v w : Walk) (wo ro wo' ro' wo'' ro'' : List ℕ)
      → AccountsSeeded p accounts slots changes reads max_writes max_reads 0 n u wo ro v wo' ro'
      → AccountsSeeded p accounts slots changes reads max_writes max_reads n m v wo' ro' w wo'' ro''
      → AccountsSeeded p accounts slots changes reads max_writes max_reads 0 (n + m) u wo ro w wo'' ro''
  more_accounts n m u v w wo ro wo' ro' wo'' ro'' x y =
      let l : List AccountChanges = accounts_left accounts slots changes reads 0 u in
      let l' : List AccountChanges = accounts_left accounts slots changes reads n v in
      let e : 0 + (n + m) ≡ n + m = zero-add (n + m) in
      let left : l' ≡ drop n l = ap (λ (k : ℕ). accounts_left accounts slots changes reads k v) (sym (zero-add n)) ∙ x.left_is in
      let ws : List AccountChanges → List (List ℕ) = λ k. map write_bytes (admitted_writes p k) in
      let rs : List AccountChanges → List (List ℕ) = λ k. map slot_bytes (admitted_reads p k) in
      let add_ws : (k i : List AccountChanges) → ws (k ++ i) ≡ ws k ++ ws i = λ k i. ap (map write_bytes) (writes_append p k i) ∙ map-append write_bytes (admitted_writes p k) (admitted_writes p i) in
      let add_rs : (k i : List AccountChanges) → rs (k ++ i) ≡ rs k ++ rs i = λ k i. ap (map slot_bytes) (reads_append p k i) ∙ map-append slot_bytes (admitted_reads p k) (admitted_reads p i) in
      let filtered : filtered_entries p (take (n + m) l) ≡ filtered_entries p (take n l) + filtered_entries p (take m l') =
      ap (filtered_entries p) (take-add n m l) ∙ filtered_append p (take n l) (take m (drop n l)) ∙ ap (λ (k : List AccountChanges). filtered_entries p (take n l) + filtered_entries p (take m k)) (sym left) in
      record {
        left_is = ap (λ (k : ℕ). accounts_left accounts slots changes reads k w) e ∙ y.left_is ∙ ap (drop m) left ∙ drop-drop m n l;
        fits = subst (λ (k : ℕ). WalkFits accounts slots changes reads k w) (sym e) y.fits;
        writes_filled = fill_more 84 max_writes ws add_ws n m l l' (record { found = u.writes; out = wo }) _ _ left x.writes_filled y.writes_filled;
        reads_filled = fill_more 52 max_reads rs add_rs n m l l' (record { found = u.reads; out = ro }) _ _ left x.reads_filled y.reads_filled;
        filtered_is = omega (arith, filtered, x.filtered_is, y.filtered_is);
      }

-- The same limits.
pub limits_are : {p : BalPlan} {accounts slots changes reads : List ℕ} {x y x' y' i n : ℕ} {v w : Walk} {wo ro wo' ro' : List ℕ} → x ≡ x' → y ≡ y'
    → AccountsSeeded p accounts slots changes reads x y i n v wo ro w wo' ro' → AccountsSeeded p accounts slots changes reads x' y' i n v wo ro w wo' ro'
limits_are {p} {accounts} {slots} {changes} {reads} {x} {y} {x'} {y'} {i} {n} {v} {w} {wo} {ro} {wo'} {ro'} e f s =
    subst (λ (k : ℕ). AccountsSeeded p accounts slots changes reads k y' i n v wo ro w wo' ro') e
    (subst (λ (k : ℕ). AccountsSeeded p accounts slots changes reads x k i n v wo ro w wo' ro') f s)

-- One account -----------------------------------------------------------------------------------------

sum_first : (f : LentAccount → ℕ) (s : LentAccount) (ss l : List LentAccount) → l ≡ s ∷ ss → sum (map f l) ≡ f s + sum (map f ss)
unfolding sum
sum_first f s ss l e = ap (λ (x : List LentAccount). sum (map f x)) e

module _ (accounts slots changes reads : List ℕ) (i : ℕ) (w : Walk) (lent : LentAccount) (is : lent ≡ read_account (drop (i * 36) accounts)) (here : i < length accounts / 36)
    (h : WalkFits accounts slots changes reads i w) where
  first : drop i (accounts_in accounts) ≡ lent ∷ drop (i + 1) (accounts_in accounts)
  first = entry_at read_account 36 i (length accounts / 36) accounts here ∙ ap₂ (λ (a : LentAccount) (k : ℕ). a ∷ drop k (accounts_in accounts)) (sym is) (sym (add-one i))

  slots_here : w.slot + (lent.slots + sum (map (λ a. a.slots) (drop (i + 1) (accounts_in accounts)))) ≡ length slots / 40
  slots_here = omega (arith, h.slots_are, sum_first (λ a. a.slots) lent (drop (i + 1) (accounts_in accounts)) (drop i (accounts_in accounts)) first)

  reads_here : w.read + (lent.reads + sum (map (λ a. a.reads) (drop (i + 1) (accounts_in accounts)))) ≡ length reads / 32
  reads_here = omega (arith, h.reads_are, sum_first (λ a. a.reads) lent (drop (i + 1) (accounts_in accounts)) (drop i (accounts_in accounts)) first)

  -- This account's slots and reads are in the lists.
  pub slots_within : w.slot + lent.slots ≤ length slots / 40
  slots_within = omega (arith, slots_here)

  pub reads_within : w.read + lent.reads ≤ length reads / 32
  reads_within = omega (arith, reads_here)

  abbrev n : ℕ
  n = lent.slots

  abbrev m : ℕ
  m = lent.reads

  abbrev slots_of : List SlotChanges
  slots_of = slots_left slots changes w.slot w.change

  abbrev the_account : AccountChanges
  the_account = record { address = lent.address; storage_changes = take n slots_of; storage_reads = take m (drop w.read (reads_in reads)) }

  -- The walk after this account, and what is left then.
  left : accounts_left accounts slots changes reads i w ≡ the_account ∷ group_accounts (drop (i + 1) (accounts_in accounts)) (drop n slots_of) (drop (w.read + m) (reads_in reads))
  unfolding group_accounts
  left =
      ap (λ (x : List LentAccount). group_accounts x slots_of (drop w.read (reads_in reads))) first
      ∙ ap (λ (x : List U256). the_account ∷ group_accounts (drop (i + 1) (accounts_in accounts)) (drop n slots_of) x) (drop-drop m w.read (reads_in reads))

  module _ (p : BalPlan) (max_writes max_reads : ℕ) (q : Spot) (wo wo' ro ro' : List ℕ) where
    abbrev writes_one : Bool → List Write
    writes_one t = cond t (account_writes the_account ++ []) []

    abbrev reads_one : Bool → List Slot
    reads_one t = cond t (account_reads the_account ++ []) []

    abbrev filtered_one : Bool → ℕ
    filtered_one t = cond t 0 (length (account_writes the_account) + length (account_reads the_account) + 0)

    -- The walk over this account, of what it did to the outputs and the counts.
    one_account : (most k : ℕ) (v : Walk) (t : Bool) → admits_from p.addresses (address_of (drop (i * 36) accounts)) ≡ t
        → SlotsSeeded lent.address slots changes most n (record { slot = w.slot; change = w.change; found = k }) wo q wo'
        → v.slot ≡ q.slot → v.change ≡ q.change → v.read ≡ w.read + m → v.writes ≤ w.writes + n → v.reads ≤ w.reads + m → v.filtered ≤ w.filtered + (n + m)
        → record { found = v.writes; out = wo' } ≡ fill 84 max_writes (map write_bytes (writes_one t)) (record { found = w.writes; out = wo })
        → record { found = v.reads; out = ro' } ≡ fill 52 max_reads (map slot_bytes (reads_one t)) (record { found = w.reads; out = ro })
        → v.filtered ≡ w.filtered + filtered_one t
        → AccountsSeeded p accounts slots changes reads max_writes max_reads i 1 w wo ro v wo' ro'
    unfolding admitted_writes admitted_reads filtered_entries
    one_account most k v t b s e_slot e_change e_read few_w few_r few_f fw fr ff =
        let a : admits_from p.addresses lent.address ≡ t = ap (λ (x : LentAccount). admits_from p.addresses x.address) is ∙ b in
        record {
          left_is =
              ap₂ (λ (x : List SlotChanges) (y : ℕ). group_accounts (drop (i + 1) (accounts_in accounts)) x (drop y (reads_in reads)))
              (ap₂ (λ (x y : ℕ). slots_left slots changes x y) e_slot e_change ∙ s.left_is) e_read
              ∙ sym (ap (drop 1) left);
          fits = record {
            slots_are = omega (arith, slots_here, s.slot_is);
            changes_are = subst (λ (x : ℕ). x + sum (map (λ y. y.change_count) (drop v.slot (slots_in slots))) ≡ length changes / 40) (sym e_change)
                (subst (λ (x : ℕ). q.change + sum (map (λ y. y.change_count) (drop x (slots_in slots))) ≡ length changes / 40) (sym e_slot) s.changes_left);
            reads_are = omega (arith, reads_here);
            few_writes = omega (arith, h.few_writes, s.slot_is);
            few_reads = omega (arith, h.few_reads);
            few_filtered = omega (arith, h.few_filtered, s.slot_is);
          };
          writes_filled =
              fw
              ∙ ap (λ (x : Bool). fill 84 max_writes (map write_bytes (writes_one x)) (record { found = w.writes; out = wo })) (sym a)
              ∙ ap (λ (x : List AccountChanges). fill 84 max_writes (map write_bytes (admitted_writes p (take 1 x))) (record { found = w.writes; out = wo })) (sym left);
          reads_filled =
              fr
              ∙ ap (λ (x : Bool). fill 52 max_reads (map slot_bytes (reads_one x)) (record { found = w.reads; out = ro })) (sym a)
              ∙ ap (λ (x : List AccountChanges). fill 52 max_reads (map slot_bytes (admitted_reads p (take 1 x))) (record { found = w.reads; out = ro })) (sym left);
          filtered_is =
              ff
              ∙ ap (λ (x : Bool). w.filtered + filtered_one x) (sym a)
              ∙ ap (λ (x : List AccountChanges). w.filtered + filtered_entries p (take 1 x)) (sym left);
        }

    pub admitted_seeded : admits_from p.addresses (address_of (drop (i * 36) accounts)) ≡ true
        → SlotsSeeded lent.address slots changes max_writes n (record { slot = w.slot; change = w.change; found = w.writes }) wo q wo'
        → ReadsSeeded lent.address reads max_reads w.read m w.reads ro ro'
        → AccountsSeeded p accounts slots changes reads max_writes max_reads i 1 w wo ro
        (record { slot = q.slot; change = q.change; read = w.read + m; writes = q.found; reads = w.reads + m; filtered = w.filtered }) wo' ro'
    admitted_seeded a s r =
        one_account max_writes w.writes _ true a s refl refl refl s.few_found (omega arith) (omega arith)
        (s.filled ∙ ap (λ (x : List Write). fill 84 max_writes (map write_bytes x) (record { found = w.writes; out = wo })) (sym (append-nil (account_writes the_account))))
        (r ∙ ap (λ (x : List Slot). fill 52 max_reads (map slot_bytes x) (record { found = w.reads; out = ro })) (sym (append-nil (account_reads the_account))))
        (sym (add-zero w.filtered))

  pub filtered_seeded : (p : BalPlan) (max_writes max_reads : ℕ) (q : Spot) (wo wo' ro : List ℕ) → admits_from p.addresses (address_of (drop (i * 36) accounts)) ≡ false
      → SlotsSeeded lent.address slots changes 0 n (record { slot = w.slot; change = w.change; found = 0 }) wo q wo'
      → AccountsSeeded p accounts slots changes reads max_writes max_reads i 1 w wo ro
      (record { slot = q.slot; change = q.change; read = w.read + m; writes = w.writes; reads = w.reads; filtered = w.filtered + q.found + m }) wo' ro
  unfolding fill
  filtered_seeded p max_writes max_reads q wo wo' ro a s =
      let ws : List Write = account_writes the_account in
      let counted : ◌≡◌ {A = Filled} (record { found = q.found; out = wo' }) (record { found = 0 + length (map write_bytes ws); out = wo }) = s.filled ∙ fill_counts 84 (map write_bytes ws) 0 wo in
      let found : q.found ≡ length ws = ap (λ (f : Filled). f.found) counted ∙ zero-add (length (map write_bytes ws)) ∙ length-map ws write_bytes in
      let kept : wo' ≡ wo = ap (λ (f : Filled). f.out) counted in
      let rest : length (drop w.read (reads_in reads)) ≡ length reads / 32 - w.read = length-drop w.read (reads_in reads) ∙ ap (λ (x : ℕ). x - w.read) (length_entries (u256_at 0) 32 (length reads / 32) reads) in
      let listed : length (account_reads the_account) ≡ m = length-map the_account.storage_reads (λ x. record { address = lent.address; index = x }) ∙ length-take-le m (drop w.read (reads_in reads)) (omega (arith, reads_here)) in
      one_account p max_writes max_reads q wo wo' ro ro 0 0 _ false a s refl refl refl (omega arith) (omega arith) (omega (arith, s.few_found))
      (ap (λ (x : List ℕ). record { found = w.writes; out = x }) kept) refl (omega (arith, found, listed))
