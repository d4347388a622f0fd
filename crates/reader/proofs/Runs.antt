-- Entries: runs of them, and the lists that they stand for. Assumes nothing.
use mathlib.Core.Path.{◌≡◌, refl, sym, ap, subst, ◌∙◌}
use mathlib.Core.Bool.{Bool, true, false, cond}
use mathlib.Core.List.{List, [], ◌∷◌}
use Prim.Native.Nat.{ℕ, zero, suc, ◌+◌, ◌*◌, ◌≤◌, ◌<◌}
use native.Mathlib.Nat.{zero-mul, suc-mul}
use native.Mathlib.Omega.{arith}
use borrow.Author.Tests.{le-leb, lt-leb, leb-true, leb-false}
use lib.Dec.{leb, ltb, eqb}
use lib.ListN.{length, take, drop, get_or, length-drop}
use lib.Seq.{drop-drop, get_or-drop}
use Rattle.std.specs.Prelude.{Result, None, Option, Some}
use Rattle.model.specs.declared.storage_memo.U256.{U256}
use Rattle.model.specs.declared.delta_snapshot.Slot.{Slot}
use Rattle.model.specs.Reads.{Member}
use Rattle.call_list.specs.CallList.{Parsed, parsed, fault, then, parse_number, parse_bytes, parse_form, parse_entries, parse_list, parse_u256, parse_outcome, parse_member}
use Rattle.model.specs.Entries.{u256_at, slot_of}
use Rattle.reader.specs.declared.Span.{Span}
use Rattle.reader.specs.declared.FaultKind.{FaultKind}
use Rattle.reader.specs.declared.Reader.{Reader}
use Rattle.reader.specs.Answers.{Run, entries, members, members_at, member_of, member_size, run_at, fixed_run, past_members, member_run, parse_run}
use Rattle.reader.specs.Reading.{Reads, rest}
use Rattle.words.specs.Parts.{part}
use Rattle.reader.proofs.Chain.{reads_seen}

split : {P : Type 0} (b : Bool) → (b ≡ true → P) → (b ≡ false → P) → P
split true y n = y refl
split false y n = n refl

-- Entries of w bytes each ------------------------------------------------------------------------------

-- a thing of n bytes
abbrev pub fixed : {A : Type 0} → (List ℕ → A) → ℕ → List ℕ → Parsed A
fixed f n l = then (parse_bytes n l) (λ b r. parsed (f b) r)

module _ {A : Type 0} (f : List ℕ → A) (w : ℕ) where
  one_there : (l : List ℕ) → w ≤ length l → fixed f w l ≡ parsed (f (take w l)) (drop w l)
  one_there l h = ap (λ (b : Bool). then (cond b (parsed (take w l) (drop w l)) (fault 5 [])) (λ b r. parsed (f b) r)) (le-leb w (length l) h)

  one_end : (l : List ℕ) → length l < w → fixed f w l ≡ fault 5 []
  one_end l h = ap (λ (b : Bool). then (cond b (parsed (take w l) (drop w l)) (fault 5 [])) (λ b r. parsed (f b) r)) (lt-leb w (length l) h)

  entries_there : (n : ℕ) (l : List ℕ) → n * w ≤ length l → parse_entries (fixed f w) n l ≡ parsed (entries f w n l) (drop (n * w) l)
  unfolding parse_entries entries
  entries_there zero l h = ap (λ (k : ℕ). parsed [] (drop k l)) (sym (zero-mul w))
  entries_there (suc n) l h =
      let e : suc n * w ≡ n * w + w = suc-mul n w in
      let ih : parse_entries (fixed f w) n (drop w l) ≡ parsed (entries f w n (drop w l)) (drop (n * w) (drop w l)) = entries_there n (drop w l) (simp length-drop (omega arith)) in
      let g : w + n * w ≡ suc n * w = omega arith in
      ap (λ q. then q (λ a r. then (parse_entries (fixed f w) n r) (λ rest t. parsed (a ∷ rest) t))) (one_there l (omega arith))
      ∙ ap (λ q. then q (λ rest t. parsed (f (take w l) ∷ rest) t)) ih
      ∙ ap (parsed (f (take w l) ∷ entries f w n (drop w l))) (drop-drop (n * w) w l ∙ ap (λ (k : ℕ). drop k l) g)

  entries_end : (n : ℕ) (l : List ℕ) → length l < n * w → parse_entries (fixed f w) n l ≡ fault 5 []
  unfolding parse_entries
  entries_end zero l h = absurd (omega (arith, zero-mul w))
  entries_end (suc n) l h =
      let e : suc n * w ≡ n * w + w = suc-mul n w in
      split (leb w (length l))
      (λ t.
      let k : w ≤ length l = leb-true w (length l) t in
      let ih : parse_entries (fixed f w) n (drop w l) ≡ fault 5 [] = entries_end n (drop w l) (simp length-drop (omega arith)) in
      ap (λ q. then q (λ a r. then (parse_entries (fixed f w) n r) (λ rest t. parsed (a ∷ rest) t))) (one_there l k)
      ∙ ap (λ q. then q (λ rest t. parsed (f (take w l) ∷ rest) t)) ih)
      (λ t.
      ap (λ q. then q (λ a r. then (parse_entries (fixed f w) n r) (λ rest t. parsed (a ∷ rest) t))) (one_end l (leb-false w (length l) t)))

  abbrev of_run : Run → List A
  of_run t = entries f w t.count t.bytes

  entries_run : (n : ℕ) (l : List ℕ) → then (fixed_run w n l) (λ t r. parsed (of_run t) r) ≡ parse_entries (fixed f w) n l
  entries_run n l =
      split (leb (n * w) (length l))
      (λ t.
      ap (λ (b : Bool). then (cond b (parsed (record { count = n; bytes = l }) (drop (n * w) l)) (fault 5 [])) (λ t r. parsed (of_run t) r)) t
      ∙ sym (entries_there n l (leb-true (n * w) (length l) t)))
      (λ t.
      ap (λ (b : Bool). then (cond b (parsed (record { count = n; bytes = l }) (drop (n * w) l)) (fault 5 [])) (λ t r. parsed (of_run t) r)) t
      ∙ sym (entries_end n l (leb-false (n * w) (length l) t)))

  counted : (p : Parsed ℕ) → then (then p (λ n r. fixed_run w n r)) (λ t r. parsed (of_run t) r) ≡ then p (λ n r. parse_entries (fixed f w) n r)
  counted (fault k q) = refl
  counted (parsed n l) = entries_run n l

  -- a list of entries, by its run
  pub reads_list : {list s : List ℕ} {r : Result Span FaultKind} {before after : Reader}
      → list ≡ s → Reads (run_at list) r (parse_run (fixed_run w)) before after → Reads (λ p. entries f w p.count (drop p.start s)) r (parse_list (fixed f w)) before after
  reads_list {r = r} {before = before} {after = after} e v =
      subst (λ z. Reads (λ (p : Span). entries f w p.count (drop p.start z)) r (parse_list (fixed f w)) before after) e (reads_seen of_run (counted (parse_number (rest before))) v)

-- the first of the entries from a place on, and those after it
pub entries_turn : {A : Type 0} (f : List ℕ → A) (w n j at : ℕ) (s : List ℕ) → n ≡ suc j
    → entries f w n (drop at s) ≡ f (part at w s) ∷ entries f w j (drop (at + w) s)
unfolding entries
entries_turn f w n j at s e =
    ap (λ (k : ℕ). entries f w k (drop at s)) e ∙ ap (λ (l : List ℕ). f (part at w s) ∷ entries f w j l) (drop-drop w at s)

-- Members ----------------------------------------------------------------------------------------------

-- what follows the parts of a member
abbrev nothing : {A : Type 0} → A → List ℕ → Parsed ℕ
nothing a r = parsed 0 r

abbrev after_outcome : Slot → Option U256 → List ℕ → Parsed Member
after_outcome x o r = parsed (record { slot = x; outcome = o }) r

abbrev after_form : Slot → Bool → List ℕ → Parsed Member
after_form x f q = then (parse_outcome f q) (after_outcome x)

abbrev after_slot : Slot → List ℕ → Parsed Member
after_slot x r = then (parse_form r) (after_form x)

-- a turn of the loop
flat : (j : ℕ) (p : Parsed Member) → then p (λ m r. past_members j r) ≡ then (then p nothing) (λ z r. past_members j r)
flat j (fault n q) = refl
flat j (parsed m r) = refl

pub past_turn : (k j : ℕ) (l : List ℕ) → k ≡ suc j → past_members k l ≡ then (past_members 1 l) (λ z r. past_members j r)
unfolding past_members
past_turn k j l e = ap (λ (n : ℕ). past_members n l) e ∙ flat j (parse_member l)

-- A member is one that stands at the list's start, or a fault.
module _ {P : Type 0} (l : List ℕ) (yes : parse_member l ≡ parsed (member_of l) (drop (member_size l) l) → P) (no : (n : ℕ) (r : List ℕ) → parse_member l ≡ fault n r → P) where
  abbrev stands : Bool → Parsed Member
  stands k = parsed (record { slot = slot_of (take 52 l); outcome = cond k (Some (u256_at 0 (take 32 (drop 53 l)))) None }) (drop (cond k 85 53) l)

  with_value : (q : List ℕ) → drop 53 l ≡ q → eqb (get_or l 52 0) 1 ≡ true → parse_member l ≡ then (then (parse_u256 q) (λ v r. parsed (Some v) r)) (after_outcome (slot_of (take 52 l))) → P
  with_value q e f m =
      split (leb 32 (length q))
      (λ t.
      let p : parse_u256 q ≡ parsed (u256_at 0 (take 32 q)) (drop 32 q) = one_there (u256_at 0) 32 q (leb-true 32 (length q) t) in
      yes
      (m
      ∙ ap (λ z. then (then z (λ v r. parsed (Some v) r)) (after_outcome (slot_of (take 52 l)))) p
      ∙ ap (λ (z : List ℕ). parsed (record { slot = slot_of (take 52 l); outcome = Some (u256_at 0 (take 32 z)) }) (drop 32 z)) (sym e)
      ∙ ap (parsed (record { slot = slot_of (take 52 l); outcome = Some (u256_at 0 (take 32 (drop 53 l))) })) (drop-drop 32 53 l)
      ∙ ap stands (sym f)))
      (λ t.
      let p : parse_u256 q ≡ fault 5 [] = one_end (u256_at 0) 32 q (leb-false 32 (length q) t) in
      no 5 [] (m ∙ ap (λ z. then (then z (λ v r. parsed (Some v) r)) (after_outcome (slot_of (take 52 l)))) p))

  with_form : (b : ℕ) (q : List ℕ) → get_or l 52 0 ≡ b → drop 53 l ≡ q → parse_member l ≡ then (parse_outcome (eqb b 1) q) (after_outcome (slot_of (take 52 l))) → P
  with_form b q eb eq m =
      split (eqb b 1)
      (λ t. with_value q eq (ap (λ (k : ℕ). eqb k 1) eb ∙ t) (m ∙ ap (λ (k : Bool). then (parse_outcome k q) (after_outcome (slot_of (take 52 l)))) t))
      (λ t.
      yes
      (m
      ∙ ap (λ (k : Bool). then (parse_outcome k q) (after_outcome (slot_of (take 52 l)))) t
      ∙ ap (parsed (record { slot = slot_of (take 52 l); outcome = None })) (sym eq)
      ∙ ap stands (sym (ap (λ (k : ℕ). eqb k 1) eb ∙ t))))

  with_slot : (q : List ℕ) → drop 52 l ≡ q → parse_member l ≡ then (parse_form q) (after_form (slot_of (take 52 l))) → P
  unfolding parse_form
  with_slot [] e m = no 5 [] m
  with_slot (b ∷ q) e m =
      split (ltb 1 b)
      (λ t. no 3 (b ∷ q) (m ∙ ap (λ (k : Bool). then (cond k (fault 3 (b ∷ q)) (parsed (eqb b 1) q)) (after_form (slot_of (take 52 l)))) t))
      (λ t.
      with_form b q (sym (get_or-drop 52 l 0 0) ∙ ap (λ (z : List ℕ). get_or z 0 0) e) (sym (drop-drop 1 52 l) ∙ ap (drop 1) e)
      (m ∙ ap (λ (k : Bool). then (cond k (fault 3 (b ∷ q)) (parsed (eqb b 1) q)) (after_form (slot_of (take 52 l)))) t))

  member_cases : P
  member_cases =
      split (leb 52 (length l))
      (λ t. with_slot (drop 52 l) refl (ap (λ z. then z after_slot) (one_there slot_of 52 l (leb-true 52 (length l) t))))
      (λ t. no 5 [] (ap (λ z. then z after_slot) (one_end slot_of 52 l (leb-false 52 (length l) t))))

-- the members of a run
one_more : (m : Member) (ms : List Member) (p : Parsed ℕ) → then p (λ z r. parsed (m ∷ ms) r) ≡ then (then p (λ z r. parsed ms r)) (λ rest r. parsed (m ∷ rest) r)
one_more m ms (fault n q) = refl
one_more m ms (parsed z r) = refl

abbrev add_member : ℕ → Member → List ℕ → Parsed (List Member)
add_member n m r = then (parse_entries parse_member n r) (λ rest q. parsed (m ∷ rest) q)

members_past : (n : ℕ) (l : List ℕ) → then (past_members n l) (λ z r. parsed (members n l) r) ≡ parse_entries parse_member n l
unfolding past_members members parse_entries
members_past zero l = refl
members_past (suc n) l =
    let r = drop (member_size l) l in
    let ih : then (past_members n r) (λ z q. parsed (members n r) q) ≡ parse_entries parse_member n r = members_past n r in
    member_cases l
    (λ e.
    ap (λ p. then (then p (λ m q. past_members n q)) (λ z q. parsed (member_of l ∷ members n r) q)) e
    ∙ one_more (member_of l) (members n r) (past_members n r)
    ∙ ap (λ p. then p (λ rest q. parsed (member_of l ∷ rest) q)) ih
    ∙ sym (ap (λ p. then p (add_member n)) e))
    (λ k x e. ap (λ p. then (then p (λ m q. past_members n q)) (λ z q. parsed (member_of l ∷ members n r) q)) e ∙ sym (ap (λ p. then p (add_member n)) e))

abbrev members_of : Run → List Member
members_of t = members t.count t.bytes

of_members : (n : ℕ) (l : List ℕ) (p : Parsed ℕ)
    → then (then p (λ z r. parsed (record { count = n; bytes = l }) r)) (λ (t : Run) r. parsed (members_of t) r) ≡ then p (λ z r. parsed (members n l) r)
of_members n l (fault k q) = refl
of_members n l (parsed z r) = refl

counted_members : (p : Parsed ℕ) → then (then p member_run) (λ t r. parsed (members_of t) r) ≡ then p (λ n r. parse_entries parse_member n r)
counted_members (fault k q) = refl
counted_members (parsed n l) = of_members n l (past_members n l) ∙ members_past n l

-- a list of members, by its run
pub reads_members : {list s : List ℕ} {r : Result Span FaultKind} {before after : Reader}
    → list ≡ s → Reads (run_at list) r (parse_run member_run) before after → Reads (members_at s) r (parse_list parse_member) before after
reads_members {r = r} {before = before} {after = after} e v =
    subst (λ z. Reads (members_at z) r (parse_list parse_member) before after) e (reads_seen members_of (counted_members (parse_number (rest before))) v)

-- the first of the members from a place on, and those after it
pub members_turn : (n j at : ℕ) (s : List ℕ) → n ≡ suc j
    → members n (drop at s) ≡ member_of (drop at s) ∷ members j (drop (at + member_size (drop at s)) s)
unfolding members
members_turn n j at s e =
    ap (λ (k : ℕ). members k (drop at s)) e ∙ ap (λ (l : List ℕ). member_of (drop at s) ∷ members j l) (drop-drop (member_size (drop at s)) at s)
