-- The listing: what is printed for each call, as bytes.
use Rattle.std.specs.Prelude.{ℕ, zero, suc, ◌+◌, ◌/◌, ◌%◌, cond, List, [], ◌∷◌, ◌++◌, ltb, length, None, Option, Some}
use Prim.Native.String.{String}
use Prim.Native.Char.{code}
use Rattle.model.specs.declared.storage_memo.U256.{U256}
use Rattle.model.specs.declared.delta_snapshot.Slot.{Slot}
use Rattle.model.specs.declared.read_hub.CarryOutcome.{CarryOutcome}
use Rattle.model.specs.declared.read_hub.CarryOutcome.TheVariants.{AlreadyCurrent, Carried, Cold}
use Rattle.model.specs.declared.delta_snapshot.CompactionReport.{CompactionReport}
use Rattle.model.specs.Advance.{lineage_number, skip_number, AppliedWrites, DeltaReport}
use Rattle.model.specs.Store.{Report, opened, anchor_same, anchor_fresh, advanced, value, no_value, stored, waiting, listed, answered}
use Rattle.model.specs.Refusals.{Answer, refuse, ok}

-- The bytes of a word.
unfoldable pub ascii : String → List ℕ
ascii String.[] = []
ascii (String.◌∷◌ c s) = code c ∷ ascii s

-- A digit: 0 to 9, then a to f.
abbrev pub digit : ℕ → ℕ
digit d = cond (ltb d 10) (48 + d) (87 + d)

-- A number in shortest decimals; 20 digits hold any below 2^64.
unfoldable pub decimal_from : ℕ → ℕ → List ℕ → List ℕ
decimal_from zero n l = l
decimal_from (suc k) n l = cond (ltb n 10) (digit n ∷ l) (decimal_from k (n / 10) (digit (n % 10) ∷ l))

-- A number in decimals.
abbrev pub decimal : ℕ → List ℕ
decimal n = decimal_from 20 n []

-- A number in n lower-case hex digits.
unfoldable pub hex : ℕ → ℕ → List ℕ
hex zero x = []
hex (suc n) x = hex n (x / 16) ++ (digit (x % 16) ∷ [])

-- A 32-byte number in 64 hex digits.
abbrev pub u256_hex : U256 → List ℕ
u256_hex x = hex 16 x.w0 ++ (hex 16 x.w1 ++ (hex 16 x.w2 ++ hex 16 x.w3))

-- A slot in 104 hex digits.
abbrev pub slot_hex : Slot → List ℕ
slot_hex s = hex 8 s.address.w0 ++ (hex 16 s.address.w1 ++ (hex 16 s.address.w2 ++ u256_hex s.index))

-- Fields with one blank between them, and a newline.
unfoldable pub line : List ℕ → List (List ℕ) → List ℕ
line w [] = w ++ (10 ∷ [])
line w (f ∷ fs) = w ++ (32 ∷ line f fs)

-- Numbers as fields.
unfoldable pub decimals : List ℕ → List (List ℕ)
decimals [] = []
decimals (n ∷ ns) = decimal n ∷ decimals ns

-- A line for each slot that a take lists.
unfoldable pub slot_lines : List Slot → List ℕ
slot_lines [] = []
slot_lines (s ∷ ss) = line (ascii "slot") (slot_hex s ∷ []) ++ slot_lines ss

-- The applied, overwritten and skipped writes.
abbrev pub write_counts : AppliedWrites → List ℕ → List ℕ
write_counts w l = length w.applied ∷ w.overwritten ∷ w.skipped ∷ l

-- An advance's line, by its outcome.
abbrev pub delta_line : CarryOutcome → DeltaReport → List ℕ
delta_line AlreadyCurrent d = line (ascii "current") (decimals (d.held ∷ d.live ∷ []))
delta_line (Carried n) d =
    let c : CompactionReport = d.compaction in
    line (ascii "carried") (decimals (n ∷ write_counts d.writes (d.held ∷ d.live ∷ c.merged ∷ c.left ∷ c.dropped ∷ [])))
delta_line (Cold l k) d = line (ascii "cold") (decimals (lineage_number l ∷ skip_number k ∷ write_counts d.writes (d.held ∷ d.live ∷ [])))

-- The lines of an accepted call.
abbrev pub report_lines : Report → List ℕ
report_lines opened = line (ascii "open") []
report_lines anchor_same = line (ascii "anchor same") []
report_lines anchor_fresh = line (ascii "anchor fresh") []
report_lines (advanced d) = delta_line d.outcome d
report_lines (value v) = line (ascii "value") (u256_hex v ∷ [])
report_lines no_value = line (ascii "none") []
report_lines stored = line (ascii "put") []
report_lines (waiting n) = line (ascii "wait") (decimals (n ∷ []))
report_lines (listed ss) = line (ascii "take") (decimals (length ss ∷ [])) ++ slot_lines ss
report_lines (answered m e w) = line (ascii "answer") (decimals (m ∷ e ∷ w ∷ []))

-- The line of a refusal.
abbrev pub refusal_line : ℕ → List ℕ
refusal_line n = line (ascii "no") (decimals (n ∷ []))

-- The lines of one call, and of several.
unfoldable pub answer_lines : Answer → List ℕ
answer_lines (refuse n) = refusal_line n
answer_lines (ok r) = report_lines r

unfoldable pub answers_lines : List Answer → List ℕ
answers_lines [] = []
answers_lines (a ∷ l) = answer_lines a ++ answers_lines l

-- The refusal that ends a list, if one does.
abbrev pub end_line : Option ℕ → List ℕ
end_line None = []
end_line (Some n) = refusal_line n
