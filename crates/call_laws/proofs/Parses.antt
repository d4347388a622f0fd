-- What reading a call leaves: fewer bytes, and a call whose arguments fit. Assumes nothing.
use Rattle.std.specs.Prelude.{Some}
use mathlib.Core.Path.{◌≡◌, refl, subst}
use mathlib.Core.Bool.{Bool, true, false, cond, ◌&&◌}
use mathlib.Core.List.{List, [], ◌∷◌}
use Prim.Native.Nat.{ℕ, zero, suc, ◌+◌, ◌-◌, ◌*◌, ◌^◌, ◌≤◌, ◌<◌}
use native.Mathlib.Nat.{pow-suc, one-le-pow, mul-le-mul_left}
use native.Mathlib.Omega.{arith}
use borrow.Author.Tests.{lt-ltb, ltb-true}
use lib.Dec.{eqb, leb, ltb, lit<}
use lib.ListN.{length, drop, length-drop}
use Rattle.model.specs.declared.delta_snapshot.Retention.TheVariants.{IdleBlocks}
use Rattle.model.specs.Numbers.{Bytes}
use Rattle.model.specs.Slots.{identified, fits_64, u256_fits}
use Rattle.model.specs.Entries.{u256_at, address_of, slot_of, write_of}
use Rattle.model.specs.Advance.{Write}
use Rattle.model.specs.Reads.{Member}
use Rattle.model.proofs.SlotLaws.{and_left, and_right, and_intro}
use Rattle.image.specs.WellFormed.{slot_fits, anchor_fits, retention_fits}
use Rattle.model.specs.Contents.{value_fits}
use Rattle.image.specs.Claims.{writes_fit, members_fit, anchored_fits, call_fits}
use Rattle.model.proofs.EntryLaws.{bytes_tail, bytes_drop, bytes_take}
use Rattle.image.proofs.EntriesFit.{u256_at_fits, slot_of_fits}
use Rattle.model.specs.Store.{look, get, put, read, AnchoredCall, on_slot, answer, answer_failed, Prepared, install, advance, at_anchor}
use Rattle.call_list.specs.Listed.{OpenLimits, ListedCall, open_with, on_store}
use Rattle.call_list.specs.Meaning.{meaning}
use Rattle.call_list.specs.CallList.{Parsed, parsed, fault, then, number_from, parse_number, parse_bytes, parse_form, parse_entries, parse_list, parse_u256, parse_address, parse_slot, parse_write, parse_outcome, parse_member, parse_hash, parse_anchor, parse_retention, parse_limits, parse_open, parse_install, parse_prepared, parse_advance, parse_anchored, parse_with_slot, parse_put, parse_take, parse_round, parse_answer, CodeEntry, entry, code_table, parse_of, parse_call}

-- Parsers in general ----------------------------------------------------------------------------------

-- A fault, or a thing with a property and at most n bytes after it.
data After {A : Type 0} (P : A → Type 0) (n : ℕ) : Parsed A → Type 0 where
  after_fault : {k : ℕ} {r : List ℕ} → After P n (fault k r)
  after_parsed : {a : A} {r : List ℕ} → P a → Bytes r → length r ≤ n → After P n (parsed a r)

-- A parser of bytes that gives things with a property, and leaves no more bytes than it was given.
abbrev Good : {A : Type 0} → (A → Type 0) → (List ℕ → Parsed A) → Type 0
Good P f = (l : List ℕ) → Bytes l → After P (length l) (f l)

after_more : {A : Type 0} {P : A → Type 0} {m n : ℕ} {p : Parsed A} → m ≤ n → After P m p → After P n p
after_more h after_fault = after_fault
after_more h (after_parsed {r = r} q b k) = after_parsed {r = r} q b (omega arith)

after_then : {A B : Type 0} {P : A → Type 0} {Q : B → Type 0} {n : ℕ} {p : Parsed A} (g : A → List ℕ → Parsed B) → After P n p → ((a : A) → P a → Good Q (g a)) → After Q n (then p g)
after_then g after_fault f = after_fault
after_then g (after_parsed {a = a} {r = r} q b k) f = after_more k (f a q r b)

good_then : {A B : Type 0} {P : A → Type 0} {Q : B → Type 0} {f : List ℕ → Parsed A} {g : A → List ℕ → Parsed B} → Good P f → ((a : A) → P a → Good Q (g a)) → Good Q (λ l. then (f l) (λ a r. g a r))
good_then {g = g} u v l b = after_then g (u l b) v

-- A thing that was read already.
good_done : {A : Type 0} {P : A → Type 0} {a : A} → P a → Good P (λ l. parsed a l)
good_done q l b = after_parsed {r = l} q b (omega arith)

-- A thing made of what was read.
good_map : {A B : Type 0} {P : A → Type 0} {Q : B → Type 0} {f : List ℕ → Parsed A} (g : A → B) → Good P f → ((a : A) → P a → Q (g a)) → Good Q (λ l. then (f l) (λ a r. parsed (g a) r))
good_map g u v = good_then u (λ a q. good_done (v a q))

good_cond : {A : Type 0} {P : A → Type 0} {f g : List ℕ → Parsed A} (t : Bool) → Good P f → Good P g → Good P (cond t f g)
good_cond true u v = u
good_cond false u v = v

after_cond : {A : Type 0} {P : A → Type 0} {n : ℕ} {p q : Parsed A} (t : Bool) → (t ≡ true → After P n p) → (t ≡ false → After P n q) → After P n (cond t p q)
after_cond true u v = u refl
after_cond false u v = v refl

-- As many entries as a count says.
module _ {A : Type 0} (P : A → Type 0) (Q : List A → Type 0) {f : List ℕ → Parsed A} (u : Good P f) (nil : Q []) (cons : (a : A) (rest : List A) → P a → Q rest → Q (a ∷ rest)) where
  good_entries : (n : ℕ) → Good Q (parse_entries f n)
  unfolding parse_entries
  good_entries zero = good_done nil
  good_entries (suc n) = good_then u (λ a p. good_map (λ rest. a ∷ rest) (good_entries n) (λ rest q. cons a rest p q))

-- Numbers and bytes -----------------------------------------------------------------------------------

-- Numbers below 2^64.
abbrev Fits : ℕ → Type 0
Fits n = fits_64 n ≡ true

below_fits : (n : ℕ) → n < 2 ^ 64 → Fits n
below_fits n h = lt-ltb n (2 ^ 64) h

-- A group of a number that others may follow is worth at most 2^56, and the tenth group 2^63.
worth_next : (k w : ℕ) → w * 128 ^ suc k ≡ 2 ^ 63 → w * 128 * 128 ^ k ≡ 2 ^ 63
worth_next k w e = let p : w * (128 ^ k * 128) ≡ 2 ^ 63 = rw (pow-suc 128 k) at e in omega arith

worth_fits : (k w : ℕ) → w * 128 ^ suc k ≡ 2 ^ 63 → w * 128 ≤ 2 ^ 63
worth_fits k w e =
    let p : w * 128 * 1 ≤ w * 128 * 128 ^ k = mul-le-mul_left (w * 128) (one-le-pow k 128 (lit< tt)) in
    let q : w * 128 * 128 ^ k ≡ 2 ^ 63 = worth_next k w e in
    omega arith

group_fits : (w a x : ℕ) → a < w → x < 128 → a + w * x < w * 128
group_fits w a x h k = let p : w * x ≤ w * 127 = mul-le-mul_left w (omega arith) in omega arith

last_group : (k w a x : ℕ) (l : List ℕ) → w * 128 ^ suc k ≡ 2 ^ 63 → a < w → x < 128 → Bytes l
    → After Fits (suc (length l)) (cond (eqb x 0 && ltb 1 w) (fault 4 (x ∷ l)) (parsed (a + w * x) l))
last_group k w a x l e h u b =
    let f : Fits (a + w * x) = below_fits (a + w * x) (omega (arith, worth_fits k w e, group_fits w a x h u)) in
    after_cond (eqb x 0 && ltb 1 w) (λ t. after_fault) (λ t. after_parsed {r = l} f b (omega arith))

good_number_from : (k w a : ℕ) → w * 128 ^ k ≡ 2 ^ 63 → a < w → Good Fits (number_from k w a)
unfolding number_from
good_number_from k w a e h [] b = after_fault
good_number_from zero w a e h (x ∷ l) b =
    let f : Fits (a + w) = below_fits (a + w) (omega arith) in
    after_cond (eqb x 1) (λ t. after_parsed {r = l} f (bytes_tail x l b) (omega arith)) (λ t. after_fault)
good_number_from (suc k) w a e h (x ∷ l) b =
    after_cond (ltb x 128)
    (λ t. last_group k w a x l e h (ltb-true x 128 t) (bytes_tail x l b))
    (λ t. let s : x - 128 < 128 = omega (arith, b 0) in
    after_more {m = length l} (omega arith) (good_number_from k (w * 128) (a + w * (x - 128)) (worth_next k w e) (group_fits w a (x - 128) h s) l (bytes_tail x l b)))

good_number : Good Fits parse_number
good_number = good_number_from 9 1 0 refl (lit< tt)

good_bytes : (n : ℕ) → Good Bytes (parse_bytes n)
good_bytes n l b =
    after_cond (leb n (length l)) (λ t. after_parsed {r = drop n l} (bytes_take n l b) (bytes_drop n l b) (omega (arith, length-drop n l))) (λ t. after_fault)

-- Of anything.
abbrev Any : {A : Type 0} → A → Type 0
Any a = Unit {0}

good_form : Good Any parse_form
unfolding parse_form
good_form [] b = after_fault
good_form (x ∷ l) b = after_cond (ltb 1 x) (λ t. after_fault) (λ t. after_parsed {r = l} tt (bytes_tail x l b) (omega arith))

-- Parts of calls --------------------------------------------------------------------------------------

good_u256 : Good (λ x. u256_fits x ≡ true) parse_u256
good_u256 = good_map (u256_at 0) (good_bytes 32) (u256_at_fits 0)

good_address : Good Any parse_address
good_address = good_map address_of (good_bytes 20) (λ b f. tt)

good_slot : Good (λ s. slot_fits s ≡ true) parse_slot
good_slot = good_map slot_of (good_bytes 52) slot_of_fits

abbrev write_fits : Write → Bool
write_fits w = slot_fits w.slot && u256_fits w.value

good_write : Good (λ w. write_fits w ≡ true) parse_write
good_write = good_map write_of (good_bytes 84) (λ b f. and_intro _ _ (slot_of_fits b f) (u256_at_fits 52 b f))

good_outcome : (f : Bool) → Good (λ o. value_fits o ≡ true) (parse_outcome f)
good_outcome false = good_done refl
good_outcome true = good_map Some good_u256 (λ v q. q)

abbrev member_fits : Member → Bool
member_fits m = slot_fits m.slot && value_fits m.outcome

good_member : Good (λ m. member_fits m ≡ true) parse_member
good_member = good_then good_slot (λ s p. good_then good_form (λ f t. good_map (λ o. record { slot = s; outcome = o }) (good_outcome f) (λ o q. and_intro _ _ p q)))

good_hash : (n : ℕ) (f : Bool) → Fits n → Good (λ a. anchor_fits a ≡ true) (parse_hash n f)
unfolding anchor_fits
good_hash n false p = good_done (and_intro _ _ p refl)
good_hash n true p = good_map (identified n) good_u256 (λ h q. and_intro _ _ p q)

good_anchor : Good (λ a. anchor_fits a ≡ true) parse_anchor
good_anchor = good_then good_number (λ n p. good_then good_form (λ f t. good_hash n f p))

-- Lists of entries ------------------------------------------------------------------------------------

fits_more : (a b c : Bool) → (a && b) ≡ true → c ≡ true → (a && (b && c)) ≡ true
fits_more a b c p q = and_intro a (b && c) (and_left a b p) (and_intro b c (and_right a b p) q)

good_addresses : Good Any (parse_list parse_address)
good_addresses = good_then good_number (λ n p. good_entries Any Any good_address tt (λ a rest q u. tt) n)

good_slots : Good Any (parse_list parse_slot)
good_slots = good_then good_number (λ n p. good_entries (λ s. slot_fits s ≡ true) Any good_slot tt (λ s rest q u. tt) n)

good_writes : Good (λ ws. writes_fit ws ≡ true) (parse_list parse_write)
unfolding writes_fit
good_writes = good_then good_number (λ n p. good_entries (λ w. write_fits w ≡ true) (λ ws. writes_fit ws ≡ true) good_write refl (λ w ws q u. fits_more (slot_fits w.slot) (u256_fits w.value) (writes_fit ws) q u) n)

good_members : Good (λ ms. members_fit ms ≡ true) (parse_list parse_member)
unfolding members_fit
good_members = good_then good_number (λ n p. good_entries (λ m. member_fits m ≡ true) (λ ms. members_fit ms ≡ true) good_member refl (λ m ms q u. fits_more (slot_fits m.slot) (value_fits m.outcome) (members_fit ms) q u) n)

-- Calls -----------------------------------------------------------------------------------------------

-- What a call means fits, whatever an open of byte 0 means that fits.
abbrev pub CallFits : ListedCall → Type 0
CallFits c = (d : OpenLimits) → retention_fits d.retention ≡ true → call_fits (meaning d c) ≡ true

good_retention : (f : Bool) → Good (λ R. retention_fits R ≡ true) (parse_retention f)
good_retention false = good_done refl
good_retention true = good_map IdleBlocks good_number (λ n p. p)

good_limits : (c : ℕ) (f : Bool) → Good CallFits (parse_limits c f)
good_limits c false = good_done (λ d h. h)
good_limits c true = good_then good_number (λ d p. good_then good_form (λ f t. good_map (λ R. open_with c (record { max_depth = d; retention = R })) (good_retention f) (λ R q l h. q)))

good_open : Good CallFits parse_open
good_open = good_then good_number (λ c p. good_then good_form (λ f t. good_limits c f))

good_install : Good CallFits parse_install
good_install = good_map (λ a. on_store (install a)) good_anchor (λ a q d h. q)

good_prepared : (k : ℕ) → Good (λ p. writes_fit p.writes ≡ true) (parse_prepared k)
good_prepared k = good_then good_addresses (λ relevance v. good_map (λ ws. record { skip = k; relevance = relevance; writes = ws }) good_writes (λ ws q. q))

good_advance : Good CallFits parse_advance
good_advance =
    good_then good_anchor (λ child a. good_then good_u256 (λ h t. good_then good_number (λ k u.
    good_map (λ (p : Prepared). on_store (advance child h p)) (good_prepared k) (λ p q d i. and_intro _ _ a q))))

-- Calls with an anchor first.
abbrev AnchoredFits : AnchoredCall → Type 0
AnchoredFits c = anchored_fits c ≡ true

good_anchored : {f : List ℕ → Parsed AnchoredCall} → Good AnchoredFits f → Good CallFits (parse_anchored f)
good_anchored u = good_then good_anchor (λ a p. good_map (λ c. on_store (at_anchor a c)) u (λ c q d h. q))

good_look : Good AnchoredFits (parse_with_slot look)
good_look = good_map (λ s. on_slot (look s)) good_slot (λ s q. q)

good_get : Good AnchoredFits (parse_with_slot get)
good_get = good_map (λ s. on_slot (get s)) good_slot (λ s q. q)

good_put : Good AnchoredFits parse_put
good_put = good_then good_slot (λ s p. good_map (λ v. on_slot (put s v)) good_u256 (λ v q. and_intro _ _ p q))

good_read : Good AnchoredFits (parse_with_slot read)
good_read = good_map (λ s. on_slot (read s)) good_slot (λ s q. q)

good_take : Good AnchoredFits parse_take
good_take = good_done refl

good_round : (f : Bool) → Good AnchoredFits (parse_round f)
good_round false = good_map answer good_members (λ ms q. q)
good_round true = good_map answer_failed good_slots (λ ss q. refl)

good_answer : Good AnchoredFits parse_answer
good_answer = good_then good_form (λ f t. good_round f)

-- The code table --------------------------------------------------------------------------------------

-- Every code's parser is good.
data Codes : List CodeEntry → Type 0 where
  no_code : Codes []
  code : {k : ℕ} {f : List ℕ → Parsed ListedCall} {es : List CodeEntry} → Good CallFits f → Codes es → Codes (entry k f ∷ es)

good_of : (c : ℕ) {es : List CodeEntry} → Codes es → Good CallFits (parse_of c es)
unfolding parse_of
good_of c no_code = λ l b. after_fault
good_of c (code {k = k} u v) = good_cond (eqb k c) u (good_of c v)

all_good : Codes code_table
unfolding code_table
all_good =
    code good_open (code good_install (code good_advance (
    code (good_anchored good_look) (code (good_anchored good_get) (code (good_anchored good_put) (
    code (good_anchored good_read) (code (good_anchored good_take) (code (good_anchored good_answer) no_code))))))))

-- What reading a call leaves: fewer bytes, all of them bytes, and a call whose arguments fit.
pub record ReadOn (c : ListedCall) (r l : List ℕ) : Type 0 where
  pub shorter : length r < length l
  pub bytes : Bytes r
  pub fits : CallFits c

read_on : {c : ListedCall} {r : List ℕ} {n : ℕ} (l : List ℕ) → n < length l → After CallFits n (parsed c r) → ReadOn c r l
read_on l h (after_parsed q b k) = record { shorter = omega arith; bytes = b; fits = q }

pub parsed_call : (l : List ℕ) (c : ListedCall) (r : List ℕ) → Bytes l → parse_call l ≡ parsed c r → ReadOn c r l
unfolding parse_call
parsed_call [] c r b e = let z : ◌≡◌ {A = ℕ} 0 1 = cc in absurd (omega arith)
parsed_call (x ∷ l) c r b e = read_on {n = length l} (x ∷ l) (omega arith) (subst (λ p. After CallFits (length l) p) e (good_of x all_good l (bytes_tail x l b)))
