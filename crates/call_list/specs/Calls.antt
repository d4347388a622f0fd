-- The run of a whole call list, as the program `calls` makes it.
use Rattle.std.specs.Prelude.{ℕ, List, ◌++◌, map, take, None}
use Rattle.model.specs.Store.{Memory}
use Rattle.model.specs.Refusals.{Lent, LentCall, store_size, work_size, trace}
use Rattle.call_list.specs.Listed.{OpenLimits, ListedCall}
use Rattle.call_list.specs.Meaning.{default_limits, meaning}
use Rattle.call_list.specs.CallList.{CallList, call_list}
use Rattle.call_list.specs.Listing.{answers_lines, end_line}

-- What the program lends: exactly the store bytes for 256 records, and work area and outputs that always suffice: 65,536 bytes have fewer than 781 writes, and at most 64 slots await an answer.
abbrev pub program_lent : Lent
program_lent = record { store_bytes = store_size 256; work_bytes = work_size 256; output_entries = 1024 }

-- What runs: the meaning of each call, where d are the limits of an open of byte 0.
abbrev pub lent_calls : OpenLimits → List ListedCall → List LentCall
lent_calls d cs = map (λ c. record { call = meaning d c; lent = program_lent }) cs

-- The listing of a list of calls on memory as it is found: the lines of each call, then the refusal that ends the list.
unfoldable pub listing : OpenLimits → Memory → CallList → List ℕ
listing d m l = answers_lines (trace m (lent_calls d l.calls)) ++ end_line l.ends_with

-- What `calls` prints: the first 65,536 bytes are the list, and the store's bytes are all 0 before an open, which are no store.
unfoldable pub calls_output : List ℕ → List ℕ
calls_output input = listing default_limits None (call_list (take 65536 input))
