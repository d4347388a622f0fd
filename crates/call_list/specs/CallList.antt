-- Call lists: numbers, calls, and refusals 3, 4 and 5.
use Rattle.std.specs.Prelude.{ℕ, zero, suc, ◌+◌, ◌-◌, ◌*◌, Bool, true, false, ◌&&◌, cond, List, [], ◌∷◌, eqb, leb, ltb, length, take, drop, None, Option, Some}
use Rattle.model.specs.declared.storage_memo.Address.{Address}
use Rattle.model.specs.declared.storage_memo.U256.{U256}
use Rattle.model.specs.declared.storage_memo.ReadAnchor.{ReadAnchor}
use Rattle.model.specs.declared.delta_snapshot.Slot.{Slot}
use Rattle.model.specs.declared.delta_snapshot.Retention.{Retention}
use Rattle.model.specs.declared.delta_snapshot.Retention.TheVariants.{Unbounded, IdleBlocks}
use Rattle.model.specs.Slots.{at, identified}
use Rattle.model.specs.Entries.{u256_at, address_of, slot_of, write_of}
use Rattle.model.specs.Advance.{Write}
use Rattle.model.specs.Reads.{Member}
use Rattle.model.specs.Store.{SlotCall, look, get, put, read, AnchoredCall, on_slot, take as take_call, answer, answer_failed, Prepared, install, advance, at_anchor}
use Rattle.call_list.specs.Listed.{ListedCall, open_default, open_with, on_store}

-- What reading gives: a thing and the bytes after it; or the refusal of the fault whose byte comes first, and the bytes from that one on, which are none where the list ends.
pub data Parsed (A : Type 0) : Type 0 where
  parsed : A → List ℕ → Parsed A
  fault : ℕ → List ℕ → Parsed A

-- Goes on with what was read, and the bytes after it.
abbrev pub then : {A B : Type 0} → Parsed A → (A → List ℕ → Parsed B) → Parsed B
then (parsed a l) f = f a l
then (fault n r) f = fault n r

-- Numbers and bytes -----------------------------------------------------------------------------------

-- A number from its group on of worth w, with a from the groups before; k groups may follow. Each byte has seven bits, plus 128 where another follows. 5: the list ends inside the number. 4: not in shortest form (a last group of 0 after others), or reaches 2^64 (a tenth byte above 1). Its byte is the last one read.
unfoldable pub number_from : ℕ → ℕ → ℕ → List ℕ → Parsed ℕ
number_from k w a [] = fault 5 []
number_from zero w a (b ∷ l) = cond (eqb b 1) (parsed (a + w) l) (fault 4 (b ∷ l))
number_from (suc k) w a (b ∷ l) =
    cond (ltb b 128) (cond (eqb b 0 && ltb 1 w) (fault 4 (b ∷ l)) (parsed (a + w * b) l)) (number_from k (w * 128) (a + w * (b - 128)) l)

-- A number has at most ten groups.
abbrev pub parse_number : List ℕ → Parsed ℕ
parse_number l = number_from 9 1 0 l

-- n bytes as they stand.
abbrev pub parse_bytes : ℕ → List ℕ → Parsed (List ℕ)
parse_bytes n l = cond (leb n (length l)) (parsed (take n l) (drop n l)) (fault 5 [])

-- A form byte: 0 or 1, else refusal 3.
unfoldable pub parse_form : List ℕ → Parsed Bool
parse_form [] = fault 5 []
parse_form (b ∷ l) = cond (ltb 1 b) (fault 3 (b ∷ l)) (parsed (eqb b 1) l)

-- As many entries as a count says, one after the other. The count isn't compared with what is left.
unfoldable pub parse_entries : {A : Type 0} → (List ℕ → Parsed A) → ℕ → List ℕ → Parsed (List A)
parse_entries f zero l = parsed [] l
parse_entries f (suc n) l = then (f l) (λ a r. then (parse_entries f n r) (λ rest s. parsed (a ∷ rest) s))

abbrev pub parse_list : {A : Type 0} → (List ℕ → Parsed A) → List ℕ → Parsed (List A)
parse_list f l = then (parse_number l) (λ n r. parse_entries f n r)

-- Parts of calls --------------------------------------------------------------------------------------

-- A 32-byte number; an address of 20 bytes; a slot of 52; a write, a slot and 32 bytes.
abbrev pub parse_u256 : List ℕ → Parsed U256
parse_u256 l = then (parse_bytes 32 l) (λ b r. parsed (u256_at 0 b) r)

abbrev pub parse_address : List ℕ → Parsed Address
parse_address l = then (parse_bytes 20 l) (λ b r. parsed (address_of b) r)

abbrev pub parse_slot : List ℕ → Parsed Slot
parse_slot l = then (parse_bytes 52 l) (λ b r. parsed (slot_of b) r)

abbrev pub parse_write : List ℕ → Parsed Write
parse_write l = then (parse_bytes 84 l) (λ b r. parsed (write_of b) r)

-- A member of an answer: a slot, then 1 and its value, or 0.
abbrev pub parse_outcome : Bool → List ℕ → Parsed (Option U256)
parse_outcome false l = parsed None l
parse_outcome true l = then (parse_u256 l) (λ v r. parsed (Some v) r)

abbrev pub parse_member : List ℕ → Parsed Member
parse_member l = then (parse_slot l) (λ s r. then (parse_form r) (λ f q. then (parse_outcome f q) (λ o p. parsed (record { slot = s; outcome = o }) p)))

-- An anchor: number, byte 0, or 1 and hash.
abbrev pub parse_hash : ℕ → Bool → List ℕ → Parsed ReadAnchor
parse_hash n false l = parsed (at n) l
parse_hash n true l = then (parse_u256 l) (λ h r. parsed (identified n h) r)

abbrev pub parse_anchor : List ℕ → Parsed ReadAnchor
parse_anchor l = then (parse_number l) (λ n r. then (parse_form r) (λ f q. parse_hash n f q))

-- Calls -----------------------------------------------------------------------------------------------

-- 1 open: capacity; byte 0, or 1, depth, then byte 0 unbounded or 1 and the idle number.
abbrev pub parse_retention : Bool → List ℕ → Parsed Retention
parse_retention false l = parsed Unbounded l
parse_retention true l = then (parse_number l) (λ n r. parsed (IdleBlocks n) r)

abbrev pub parse_limits : ℕ → Bool → List ℕ → Parsed ListedCall
parse_limits c false l = parsed (open_default c) l
parse_limits c true l =
    then (parse_number l) (λ d r. then (parse_form r) (λ f q. then (parse_retention f q) (λ R p. parsed (open_with c (record { max_depth = d; retention = R })) p)))

abbrev pub parse_open : List ℕ → Parsed ListedCall
parse_open l = then (parse_number l) (λ c r. then (parse_form r) (λ f q. parse_limits c f q))

-- 2 install.
abbrev pub parse_install : List ℕ → Parsed ListedCall
parse_install l = then (parse_anchor l) (λ a r. parsed (on_store (install a)) r)

-- What was prepared for an advance, after its skip: count and addresses, count and writes.
abbrev pub parse_prepared : ℕ → List ℕ → Parsed Prepared
parse_prepared k l = then (parse_list parse_address l) (λ relevance r. then (parse_list parse_write r) (λ ws q. parsed (record { skip = k; relevance = relevance; writes = ws }) q))

-- 3 advance: child, parent hash, skip, and the rest of what was prepared.
abbrev pub parse_advance : List ℕ → Parsed ListedCall
parse_advance l =
    then (parse_anchor l) (λ child l1. then (parse_u256 l1) (λ h l2. then (parse_number l2) (λ k l3.
    then (parse_prepared k l3) (λ p l4. parsed (on_store (advance child h p)) l4))))

-- 4 to 9: an anchor first, then the rest of the call.
abbrev pub parse_anchored : (List ℕ → Parsed AnchoredCall) → List ℕ → Parsed ListedCall
parse_anchored f l = then (parse_anchor l) (λ a r. then (f r) (λ c q. parsed (on_store (at_anchor a c)) q))

-- 4 look, 5 get, 7 read (slot).
abbrev pub parse_with_slot : (Slot → SlotCall) → List ℕ → Parsed AnchoredCall
parse_with_slot f l = then (parse_slot l) (λ s r. parsed (on_slot (f s)) r)

-- 6 put (slot, value).
abbrev pub parse_put : List ℕ → Parsed AnchoredCall
parse_put l = then (parse_slot l) (λ s r. then (parse_u256 r) (λ v q. parsed (on_slot (put s v)) q))

-- 8 take.
abbrev pub parse_take : List ℕ → Parsed AnchoredCall
parse_take l = parsed take_call l

-- 9 answer: byte 0 members or 1 failed; count; slots, with 0 each followed by 1 and value or 0.
abbrev pub parse_round : Bool → List ℕ → Parsed AnchoredCall
parse_round false l = then (parse_list parse_member l) (λ ms r. parsed (answer ms) r)
parse_round true l = then (parse_list parse_slot l) (λ ss r. parsed (answer_failed ss) r)

abbrev pub parse_answer : List ℕ → Parsed AnchoredCall
parse_answer l = then (parse_form l) (λ f r. parse_round f r)

-- The call codes.
pub record CodeEntry : Type 0 where
  pub code : ℕ
  pub parse : List ℕ → Parsed ListedCall

abbrev pub entry : ℕ → (List ℕ → Parsed ListedCall) → CodeEntry
entry c f = record { code = c; parse = f }

unfoldable pub code_table : List CodeEntry
code_table =
    entry 1 parse_open
    ∷ entry 2 parse_install
    ∷ entry 3 parse_advance
    ∷ entry 4 (parse_anchored (parse_with_slot look))
    ∷ entry 5 (parse_anchored (parse_with_slot get))
    ∷ entry 6 (parse_anchored parse_put)
    ∷ entry 7 (parse_anchored (parse_with_slot read))
    ∷ entry 8 (parse_anchored parse_take)
    ∷ entry 9 (parse_anchored parse_answer)
    ∷ []

-- The reader of a code; an unknown code is refusal 3.
unfoldable pub parse_of : ℕ → List CodeEntry → List ℕ → Parsed ListedCall
parse_of c [] = λ l. fault 3 (c ∷ l)
parse_of c (e ∷ es) = cond (eqb e.code c) e.parse (parse_of c es)

unfoldable pub parse_call : List ℕ → Parsed ListedCall
parse_call [] = fault 5 []
parse_call (c ∷ l) = parse_of c code_table l

-- The calls of a list, and the refusal that ends it or none.
pub record CallList : Type 0 where
  pub calls : List ListedCall
  pub ends_with : Option ℕ

-- A call before a list.
abbrev pub add_call : ListedCall → CallList → CallList
add_call c r = record { calls = c ∷ r.calls; ends_with = r.ends_with }

-- The calls of a list of bytes: one after the other until the bytes end or a call is refused. A call has at least one byte, so that k bytes have at most k calls.
abbrev pub no_more_calls : CallList
no_more_calls = record { calls = []; ends_with = None }

abbrev pub after_parse : Parsed ListedCall → (List ℕ → CallList) → CallList
after_parse (parsed c l) f = add_call c (f l)
after_parse (fault n r) f = record { calls = []; ends_with = Some n }

abbrev pub next_call : List ℕ → (List ℕ → CallList) → CallList
next_call [] f = no_more_calls
next_call (b ∷ l) f = after_parse (parse_call (b ∷ l)) f

unfoldable pub parse_calls : ℕ → List ℕ → CallList
parse_calls zero l = no_more_calls
parse_calls (suc k) l = next_call l (λ r. parse_calls k r)

unfoldable pub call_list : List ℕ → CallList
call_list l = parse_calls (length l) l
