-- Final writes on lent bytes: the lists that the bytes give, and what is answered and put into the outputs.
use Rattle.std.specs.Prelude.{◌≡◌, List, [], ◌∷◌, ◌++◌, map, ℕ, ◌/◌, length, Ok, Err}
use Rattle.std.specs.declared.result.Result.{Result}
use Rattle.model.specs.declared.refusal.Refusal.{Refusal}
use Rattle.model.specs.Refusals.{refusal_number}
use Rattle.model.specs.Entries.{write_of, chunks, slot_bytes, first_slots}
use Rattle.words.specs.Parts.{placed}
use Rattle.entries.specs.Bytes.{write_bytes}
use Rattle.final_change.specs.Changes.{changes_in}
use Rattle.bal_plan.specs.Plan.{BalPlan}
use Rattle.bal_entries.specs.Listed.{slots_in, reads_in}
use Rattle.bal_accounts.specs.Accounts.{accounts_in}
use Rattle.final_writes.specs.declared.SeedCounts.{SeedCounts}
use Rattle.final_writes.specs.FinalWrites.{LentLists, FinalWrites, refuse, seeded, final_writes}

-- The lists that the lent bytes give: accounts of 36 bytes, slots of 40, changes of 40, reads of 32.
abbrev pub lent_lists : List ℕ → List ℕ → List ℕ → List ℕ → LentLists
lent_lists accounts slots changes reads =
    record { accounts = accounts_in accounts; slots = slots_in slots; changes = changes_in changes; reads = reads_in reads }

-- The bytes of entries in a row.
unfoldable pub joined : List (List ℕ) → List ℕ
joined [] = []
joined (b ∷ bs) = b ++ joined bs

-- An output with entries at its beginning; the rest is as it was.
abbrev pub beginning_with : List (List ℕ) → List ℕ → List ℕ
beginning_with bs out = placed 0 (joined bs) out

-- The reply of final writes.
abbrev pub FinalWritesReply : Type 0
FinalWritesReply = Result SeedCounts Refusal

-- What a reply means, with the two outputs after the call: the seed's writes and reads are the outputs' first entries, as many as the reply counts.
-- A refusal is its number and nothing else: it carries no count, document 01's "all counts 0".
abbrev pub final_writes_reply : FinalWritesReply → List ℕ → List ℕ → FinalWrites
final_writes_reply (Err e) wo ro = refuse (refusal_number e)
final_writes_reply (Ok c) wo ro =
    seeded (record { writes = map write_of (chunks 84 c.writes wo); reads = first_slots c.reads ro; filtered = c.filtered; capped = c.capped })

-- The outputs after a call: a refused call keeps every byte, an accepted one those past its last entry.
abbrev pub writes_after : FinalWrites → List ℕ → List ℕ
writes_after (refuse n) wo = wo
writes_after (seeded s) wo = beginning_with (map write_bytes s.writes) wo

abbrev pub reads_after : FinalWrites → List ℕ → List ℕ
reads_after (refuse n) ro = ro
reads_after (seeded s) ro = beginning_with (map slot_bytes s.reads) ro

-- Final writes of lent lists under a plan, on two outputs. An output holds as many entries as it has bytes for.
unfoldable pub lent_final_writes : BalPlan → LentLists → List ℕ → List ℕ → FinalWrites
lent_final_writes p l wo ro = final_writes p l (length wo / 84) (length ro / 52)

-- A call answered, and left its two outputs, as final writes say.
pub record Answers (r : FinalWritesReply) (wo' ro' : List ℕ) (f : FinalWrites) (wo ro : List ℕ) : Type 0 where
  pub answer_is : final_writes_reply r wo' ro' ≡ f
  pub writes_are : wo' ≡ writes_after f wo
  pub reads_are : ro' ≡ reads_after f ro
