-- The read totals in a store, and what a read and an answer make of them.
use Rattle.std.specs.Prelude.{ℕ, ◌+◌, ◌≤◌, Bool, cond, List, drop}
use Rattle.layout.specs.Layout.{header_width, totals_index, totals_offset}
use Rattle.model.specs.declared.read_hub.ReadTotals.{ReadTotals}
use Rattle.model.specs.Reads.{count_served, count_waiting}
use Rattle.image.specs.Image.{words_of, bytes_of, totals_words, read_totals}
use Rattle.words.specs.Parts.{placed}

-- Every total is below 2^32, so that one more read or answer fits a word. The totals of a well-formed store are (`small_of`).
pub record Small (t : ReadTotals) : Type 0 where
  pub accepted_small : t.accepted ≤ 4294967295
  pub served_small : t.served ≤ 4294967295
  pub waiting_small : t.waiting ≤ 4294967295
  pub valued_small : t.valued ≤ 4294967295
  pub refused_small : t.refused ≤ 4294967295
  pub rounds_small : t.rounds ≤ 4294967295
  pub members_small : t.members ≤ 4294967295
  pub errors_small : t.errors ≤ 4294967295
  pub coalesced_small : t.coalesced ≤ 4294967295

-- An answer's numbers, for totals: the waiters that it wakes are among those that wait.
pub record Answerable (members errors valued refused : ℕ) (t : ReadTotals) : Type 0 where
  pub totals_small : Small t
  pub members_fit : members ≤ 4294967295
  pub errors_fit : errors ≤ 4294967295
  pub wakes_waiting : valued + refused ≤ t.waiting

-- The totals after a read: served, or waiting; `joined` says whether its slot was awaiting already.
abbrev pub count_read : Bool → Bool → ReadTotals → ReadTotals
count_read served joined t = cond served (count_served t) (count_waiting joined t)

-- The totals that a store's bytes give.
unfoldable pub totals_of : List ℕ → ReadTotals
totals_of s = read_totals (drop totals_index (words_of header_width s))

-- A store's bytes with other totals.
abbrev pub with_totals : ReadTotals → List ℕ → List ℕ
with_totals t s = placed totals_offset (bytes_of (totals_words t)) s
