-- The definitions' run of each recorded list is the oracle's listing; with details it is the oracle's detailed listing.
use Rattle.std.specs.Prelude.{ℕ, zero, suc, ◌-◌, ◌≡◌, List, [], ◌∷◌, ◌++◌, map, length, None, Option, Some}
use Rattle.model.specs.declared.read_hub.ReadTotals.{ReadTotals}
use Rattle.model.specs.Entries.{chunks}
use Rattle.model.specs.Store.{Generation, Memory, Report, opened, anchor_same, anchor_fresh, advanced, value, no_value, stored, waiting, listed, answered}
use Rattle.model.specs.Refusals.{LentCall, StepResult, Answer, refuse, ok, step, installed_in}
use Rattle.image.specs.Output.{output_after}
use Rattle.call_list.specs.Listed.{ListedCall}
use Rattle.call_list.specs.Meaning.{default_limits}
use Rattle.call_list.specs.CallList.{Parsed, parsed, fault, parse_call, CallList, call_list}
use Rattle.call_list.specs.Listing.{ascii, hex, line, decimals, answer_lines, end_line}
use Rattle.call_list.specs.Calls.{lent_calls, calls_output}
use Rattle.recorded.specs.Lists.{recorded_lists}

-- What the listing leaves out: the slots that an advance puts to its output, the totals of a generation's reads, and the place of the fault that ends a list.

-- Bytes in hex, and a line for each entry of an output.
unfoldable pub bytes_hex : List ℕ → List ℕ
bytes_hex [] = []
bytes_hex (b ∷ bs) = hex 2 b ++ bytes_hex bs

unfoldable pub entry_lines : List (List ℕ) → List ℕ
entry_lines [] = []
entry_lines (e ∷ es) = ascii "  slot " ++ (line (bytes_hex e) [] ++ entry_lines es)

-- The applied writes of an advance: their number, and so many entries of the output.
abbrev pub applied_lines : Report → List ℕ → List ℕ
applied_lines opened out = []
applied_lines anchor_same out = []
applied_lines anchor_fresh out = []
applied_lines (advanced d) out =
    let n : ℕ = length d.writes.applied in
    line (ascii "applied") (decimals (n ∷ [])) ++ entry_lines (chunks 52 n out)
applied_lines (value v) out = []
applied_lines no_value out = []
applied_lines stored out = []
applied_lines (waiting n) out = []
applied_lines (listed ss) out = []
applied_lines (answered m e w) out = []

-- The totals of the installed generation: those that the Rust counts, and those that its read futures show.
abbrev pub totals_lines : Option Generation → List ℕ
totals_lines None = []
totals_lines (Some g) =
    let t : ReadTotals = g.totals in
    line (ascii "stats") (decimals (t.coalesced ∷ t.rounds ∷ t.members ∷ t.errors ∷ []))
    ++ line (ascii "reads") (decimals (t.accepted ∷ t.served ∷ t.waiting ∷ t.valued ∷ t.refused ∷ []))

-- An accepted call's details. What its output held before does not matter.
abbrev pub detail_lines : Answer → Memory → List ℕ
detail_lines (refuse n) m = []
detail_lines (ok r) m = applied_lines r (output_after (ok r) []) ++ totals_lines (installed_in m)

-- The listing of calls with their details.
unfoldable pub detailed : Memory → List LentCall → List ℕ
detailed m [] = []
detailed m (c ∷ cs) = let o : StepResult = step m c in answer_lines o.answer ++ (detail_lines o.answer o.memory ++ detailed o.memory cs)

-- The bytes from the fault's byte on that ends a list, or none where the list is whole. k bytes have at most k calls.
abbrev pub fault_or : Parsed ListedCall → (List ℕ → Option (List ℕ)) → Option (List ℕ)
fault_or (parsed c l) f = f l
fault_or (fault n r) f = Some r

abbrev pub fault_after : List ℕ → (List ℕ → Option (List ℕ)) → Option (List ℕ)
fault_after [] f = None
fault_after (b ∷ l) f = fault_or (parse_call (b ∷ l)) f

unfoldable pub fault_from : ℕ → List ℕ → Option (List ℕ)
fault_from zero l = None
fault_from (suc k) l = fault_after l (λ r. fault_from k r)

-- The place of that byte in a list of n bytes.
abbrev pub place_line : ℕ → Option (List ℕ) → List ℕ
place_line n None = []
place_line n (Some r) = line (ascii "at") (decimals ((n - length r) ∷ []))

unfoldable pub detailed_output : List ℕ → List ℕ
detailed_output input =
    let l : CallList = call_list input in
    detailed None (lent_calls default_limits l.calls) ++ (end_line l.ends_with ++ place_line (length input) (fault_from (length input) input))

pub record RecordedAgree : Type 0 where
  pub listings : map (λ r. calls_output r.bytes) recorded_lists ≡ map (λ r. ascii r.text) recorded_lists
  pub details : map (λ r. detailed_output r.bytes) recorded_lists ≡ map (λ r. ascii r.detail) recorded_lists
