-- The twelve cases of document 01, as a table. Each of the four misreadings that it names would change a row: see the comments.
use Rattle.std.specs.Prelude.{ℕ, ◌^◌, ◌-◌, ◌≡◌, take, length, None, Some}
use mathlib.Core.List.{List, [], ◌∷◌, map, Memᴰ}
use Rattle.model.specs.Slots.{Address, U256, Slot, ReadAnchor, at, identified, Unbounded, IdleBlocks}
use Rattle.model.specs.Advance.{CarryOutcome, Carried, Cold, NotConsecutive, ParentHashUnknown, ParentHashMismatch, Decoded, Write, AppliedWrites, CompactionReport, no_compaction}
use Rattle.model.specs.Store.{SlotCall, look, get, put, read, AnchoredCall, on_slot, answer, install, advance, at_anchor, Call, open_store, on_store, advanced, value, no_value, stored, waiting}
use Rattle.model.specs.Refusals.{Lent, Answer, refuse, ok, trace}

-- A row: some runs on memory that is no store, and the last answer of each.
pub record Row : Type 0 where
  pub runs : List (List Call)
  pub answers : List Answer

-- The last of a list of answers, or the given one if there is none.
unfoldable pub last_from : Answer → List Answer → Answer
last_from a [] = a
last_from a (b ∷ bs) = last_from b bs

-- The answer of a run's last call, with enough lent for 4 records.
abbrev pub enough : Lent
enough = record { store_bytes = 8192; work_bytes = 8192; output_entries = 4 }

abbrev pub last_answer : List Call → Answer
last_answer cs = last_from (refuse 0) (trace None (map (λ c. record { call = c; lent = enough }) cs))

-- A 32-byte number from a small one, and the slot of the cases.
abbrev pub small : ℕ → U256
small n = record { w0 = 0; w1 = 0; w2 = 0; w3 = n }

abbrev pub A : Address
A = record { w0 = 2 ^ 31; w1 = 0; w2 = 7 }

abbrev pub P : Slot
P = record { address = A; index = record { w0 = 2 ^ 63; w1 = 0; w2 = 0; w3 = 1 } }

-- A list of one write, to P.
abbrev pub write : ℕ → List Write
write v = record { slot = P; value = small v } ∷ []

-- The block of a number, with the number as its hash; a call at it, one on a slot, and an advance to it over a parent hash.
abbrev pub block : ℕ → ReadAnchor
block n = identified n (small n)

abbrev pub call_at : ℕ → AnchoredCall → Call
call_at n c = on_store (at_anchor (block n) c)

abbrev pub slot_call_at : ℕ → SlotCall → Call
slot_call_at n c = call_at n (on_slot c)

abbrev pub advance_to : ℕ → ℕ → List Address → List Write → Call
advance_to n p relevance ws = on_store (advance (block n) (small p) (record { skip = 0; relevance = relevance; writes = ws }))

-- An advance's answer: outcome; applied slots, overwritten, skipped; held, live; merged, left, dropped.
abbrev pub delta : CarryOutcome → List Slot → ℕ → ℕ → ℕ → ℕ → CompactionReport → Answer
delta o applied overwritten skipped held live c =
    let w : AppliedWrites = record { applied = applied; overwritten = overwritten; skipped = skipped } in
    ok (advanced (record { outcome = o; writes = w; held = held; live = live; compaction = c }))

-- The whole case.
unfoldable pub whole_case : List Call
whole_case =
    open_store 4 1 (IdleBlocks 1)
    ∷ on_store (install (block 10))
    ∷ slot_call_at 10 (put P (small 1))
    ∷ advance_to 11 10 [] (write 2)
    ∷ slot_call_at 11 (look P)
    ∷ advance_to 12 11 [] (write 3)
    ∷ slot_call_at 12 (get P)
    ∷ slot_call_at 12 (read P)
    ∷ advance_to 13 12 [] []
    ∷ call_at 12 (answer (record { slot = P; outcome = Some (small 3) } ∷ []))
    ∷ []

-- A put of P at 0, advances up to 6 with a relevant write of P at 5, and a look, under idle n.
unfoldable pub late_write : ℕ → List Call
late_write n =
    open_store 4 1 (IdleBlocks n)
    ∷ on_store (install (block 0))
    ∷ slot_call_at 0 (put P (small 1))
    ∷ advance_to 1 0 [] []
    ∷ advance_to 2 1 [] []
    ∷ advance_to 3 2 [] []
    ∷ advance_to 4 3 [] []
    ∷ advance_to 5 4 (A ∷ []) (write 2)
    ∷ advance_to 6 5 [] []
    ∷ slot_call_at 6 (look P)
    ∷ []

-- A row of one run, and one of the first k calls of the whole case.
abbrev pub run_row : List Call → Answer → Row
run_row cs a = record { runs = cs ∷ []; answers = a ∷ [] }

abbrev pub whole_case_row : ℕ → Answer → Row
whole_case_row k a = run_row (take k whole_case) a

-- On a store of depth 8 that keeps all, after an install.
abbrev pub after_install : ReadAnchor → List Call → List Call
after_install a cs = open_store 4 8 Unbounded ∷ on_store (install a) ∷ cs

unfoldable pub table : List Row
table =
    whole_case_row 3 (ok stored)
    ∷ whole_case_row 4 (delta (Carried 1) (P ∷ []) 1 0 1 1 no_compaction)
    ∷ whole_case_row 5 (ok (value (small 2)))
    -- the write at 11 kept the use at 10, so that P has lapsed here: a use refreshed by a write would make this an overwrite
    ∷ whole_case_row 6 (delta (Carried 1) [] 0 1 1 0 no_compaction)
    -- the write at 12 was skipped: a skipped write that is kept would be served here
    ∷ whole_case_row 7 (ok no_value)
    ∷ whole_case_row 8 (ok (waiting 1))
    ∷ whole_case_row 9 (delta (Carried 0) [] 0 0 0 0 (record { merged = 2; left = 0; dropped = 1 }))
    ∷ whole_case_row 10 (refuse 22)
    -- lineage 2 at 2^64 − 1
    ∷ run_row (after_install (identified (2 ^ 64 - 1) (small 1)) (advance_to 0 1 [] [] ∷ []))
    (delta (Cold NotConsecutive Decoded) [] 0 0 0 0 no_compaction)
    -- lineage 3
    ∷ run_row (after_install (at 5) (advance_to 6 5 [] [] ∷ [])) (delta (Cold ParentHashUnknown Decoded) [] 0 0 0 0 no_compaction)
    -- a sibling's child, one above with another parent hash, is cold 4 and carries nothing
    ∷ run_row (after_install (block 5) (slot_call_at 5 (put P (small 1)) ∷ advance_to 6 9 [] (write 9) ∷ []))
    (delta (Cold ParentHashMismatch Decoded) [] 0 1 0 0 no_compaction)
    -- idle 1 against 5: a longer idle allowance does not serve more
    ∷ record { runs = late_write 1 ∷ late_write 5 ∷ []; answers = ok (value (small 2)) ∷ ok no_value ∷ [] }
    ∷ []

-- Every row's runs end in the row's answers.
pub record TwelveCases : Type 0 where
  pub twelve : length table ≡ 12
  pub each : (r : Row) → Memᴰ r table → map last_answer r.runs ≡ r.answers
