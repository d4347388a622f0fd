-- A run of true calls, which at its end serves a value put before a fold: the premises of demand 3's first part can hold.
-- It has an advance to block 0, a skipped advance, a fork, a read with its answer, a refused call whose value is not true, a lapse and a fold.
use Rattle.std.specs.Prelude.{ℕ, ◌≡◌, cond, List, [], ◌∷◌, map, None, Some}
use Rattle.model.specs.Slots.{Address, Hash, U256, Slot, slot_eqb, hash_eqb, ReadAnchor, identified, IdleBlocks}
use Rattle.model.specs.Advance.{Write, AppliedWrites, CarryOutcome, Carried, Cold, Linked, NoParent, ParentHashMismatch, Decoded, Rpc, CompactionReport, no_compaction}
use Rattle.model.specs.Store.{get, put, read, AnchoredCall, on_slot, take, answer, install, advance, at_anchor, Call, open_store, on_store, opened, anchor_fresh, advanced, value, stored, waiting, listed, answered}
use Rattle.model.specs.Refusals.{store_size, work_size, LentCall, Answer, refuse, ok, trace, final}
use Rattle.model.specs.TrueInputs.{Truth, TrueInputs, serves_value}
use Rattle.model.specs.Demand3.{calls_of, refusal_flags}

-- The chain ------------------------------------------------------------------------------------------

-- A small number as 32 bytes, and the slot of an index in the one contract.
abbrev pub word : ℕ → U256
word n = record { w0 = 0; w1 = 0; w2 = 0; w3 = n }

abbrev pub contract : Address
contract = record { w0 = 0; w1 = 0; w2 = 7 }

abbrev pub slot_at : ℕ → Slot
slot_at n = record { address = contract; index = word n }

-- P is carried to the end, Q is read and lapses, every block above 0 writes W.
abbrev pub P : Slot
P = slot_at 1

abbrev pub Q : Slot
Q = slot_at 2

abbrev pub W : Slot
W = slot_at 3

-- The canonical block of a number, whose hash is the number; a block 12 on another branch, child of a sibling of block 11.
abbrev pub block : ℕ → ReadAnchor
block n = identified n (word n)

abbrev pub fork_hash : Hash
fork_hash = word 112

abbrev pub fork : ReadAnchor
fork = identified 12 fork_hash

-- W's value is the block's number; P's is 6 in the fork and else 5; any other slot's is 0.
abbrev pub truth : Truth
truth a s = cond (slot_eqb W s) (word a.number) (cond (slot_eqb P s) (cond (hash_eqb a.hash (Some fork_hash)) (word 6) (word 5)) (word 0))

-- The lists of a canonical block above 0 and of the fork. No block is below block 0, so that its list may be empty.
abbrev pub block_writes : ℕ → List Write
block_writes n = record { slot = W; value = word n } ∷ []

abbrev pub fork_writes : List Write
fork_writes = record { slot = W; value = word 12 } ∷ record { slot = P; value = word 6 } ∷ []

-- The run --------------------------------------------------------------------------------------------

abbrev pub lent_call : Call → LentCall
lent_call c = record { call = c; lent = record { store_bytes = store_size 16; work_bytes = work_size 16; output_entries = 2 } }

-- An advance to an anchor, under a parent hash, with a skip and writes; one to a canonical block; and a call at a canonical block.
abbrev pub advance_to : ReadAnchor → ℕ → ℕ → List Write → Call
advance_to child parent k ws = on_store (advance child (word parent) (record { skip = k; relevance = contract ∷ []; writes = ws }))

abbrev pub next : ℕ → ℕ → Call
next n parent = advance_to (block n) parent 0 (block_writes n)

abbrev pub at_block : ℕ → AnchoredCall → Call
at_block n c = on_store (at_anchor (block n) c)

-- An answer with a value of Q.
abbrev pub answer_Q : ℕ → AnchoredCall
answer_Q n = answer (record { slot = Q; outcome = Some (word n) } ∷ [])

-- Capacity 16, depth limit 1, one idle block. The list of block 2 could not be had (skip 2). From block 11 the store goes to the fork and back
-- to block 13, cold both times. There Q is read; the first answer, whose value is not the true one, comes before the take and is refused.
abbrev pub run : List LentCall
run =
    map lent_call (
    open_store 16 1 (IdleBlocks 1)
    ∷ advance_to (block 0) 0 0 []
    ∷ next 1 0
    ∷ advance_to (block 2) 1 2 []
    ∷ on_store (install (block 10))
    ∷ at_block 10 (on_slot (put P (word 5)))
    ∷ next 11 10
    ∷ advance_to fork 111 0 fork_writes
    ∷ next 13 12
    ∷ at_block 13 (on_slot (put P (word 5)))
    ∷ at_block 13 (on_slot (read Q))
    ∷ at_block 13 (answer_Q 9)
    ∷ at_block 13 take
    ∷ at_block 13 (answer_Q 0)
    ∷ next 14 13
    ∷ at_block 14 (on_slot (get P))
    ∷ next 15 14
    ∷ at_block 15 (on_slot (get P))
    ∷ next 16 15
    ∷ [])

-- An advance's report: outcome, slots written, the number of them overwritten, held, live, and the fold.
abbrev pub advance_answer : CarryOutcome → List Slot → ℕ → ℕ → ℕ → CompactionReport → Answer
advance_answer o applied overwritten held live c =
    let w : AppliedWrites = record { applied = applied; overwritten = overwritten; skipped = 0 } in
    ok (advanced (record { outcome = o; writes = w; held = held; live = live; compaction = c }))

-- The answers. At block 15 Q and the old W are lapsed; the last advance folds two layers, leaves P and drops those two.
abbrev pub run_answers : List Answer
run_answers =
    ok opened
    ∷ advance_answer (Cold NoParent Decoded) [] 0 0 0 no_compaction
    ∷ advance_answer (Carried 0) (W ∷ []) 0 1 1 no_compaction
    ∷ advance_answer (Cold Linked Rpc) [] 0 0 0 no_compaction
    ∷ ok anchor_fresh
    ∷ ok stored
    ∷ advance_answer (Carried 1) (W ∷ []) 0 2 2 no_compaction
    ∷ advance_answer (Cold ParentHashMismatch Decoded) (W ∷ P ∷ []) 0 2 2 no_compaction
    ∷ advance_answer (Cold ParentHashMismatch Decoded) (W ∷ []) 0 1 1 no_compaction
    ∷ ok stored
    ∷ ok (waiting 1)
    ∷ refuse 26
    ∷ ok (listed (Q ∷ []))
    ∷ ok (answered 1 0 1)
    ∷ advance_answer (Carried 3) (W ∷ []) 1 3 3 no_compaction
    ∷ ok (value (word 5))
    ∷ advance_answer (Carried 3) (W ∷ []) 0 3 2 no_compaction
    ∷ ok (value (word 5))
    ∷ advance_answer (Carried 2) (W ∷ []) 1 2 2 (record { merged = 2; left = 1; dropped = 2 })
    ∷ []

-- The run's accepted calls are true and answer as listed; the refused one's value is not true.
-- P's value, put at block 13, folded and never written since, is served at block 16; Q is not.
pub record Witness : Type 0 where
  pub true_inputs : TrueInputs truth (calls_of run) (refusal_flags run)
  pub answers : trace None run ≡ run_answers
  pub untrue : word 9 ≡ truth (block 13) Q → ⊥
  pub serves : serves_value (final None run) P ≡ Some (word 5)
  pub lapsed : serves_value (final None run) Q ≡ None
