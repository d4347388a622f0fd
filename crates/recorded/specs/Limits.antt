-- The definitions at their limits and one past them, where a call list reaches no such state or is too long for computation.
use Rattle.std.specs.Prelude.{ℕ, zero, suc, ◌-◌, ◌≤◌, ◌≡◌, false, List, [], ◌∷◌, ◌++◌, map, length, replicate, None, Some}
use Rattle.model.specs.declared.storage_memo.U256.{U256}
use Rattle.model.specs.declared.delta_snapshot.Slot.{Slot}
use Rattle.model.specs.declared.delta_snapshot.Retention.TheVariants.{Unbounded}
use Rattle.model.specs.Slots.{at}
use Rattle.model.specs.Advance.{void_base}
use Rattle.model.specs.Reads.{Pending}
use Rattle.model.specs.Store.{read, AnchoredCall, on_slot, take, advance, at_anchor, Call, on_store, Memory, listed}
use Rattle.model.specs.Refusals.{Lent, work_size, conditions, refusal, refuse, ok}
use Rattle.image.specs.Output.{output_after}
use Rattle.call_list.specs.Meaning.{default_limits}
use Rattle.call_list.specs.CallList.{call_list}
use Rattle.call_list.specs.Calls.{program_lent, listing, calls_output}

-- A 32-byte number from a small one; the slot with it as its index and address 0; n such slots, queued.
abbrev pub small : ℕ → U256
small n = record { w0 = 0; w1 = 0; w2 = 0; w3 = n }

abbrev pub numbered : ℕ → Slot
numbered n = record { address = record { w0 = 0; w1 = 0; w2 = 0 }; index = small n }

unfoldable pub queue : ℕ → List Pending
queue zero = []
queue (suc n) = record { slot = numbered n; waiters = 1; taken = false } ∷ queue n

-- A store of 4 records at block 5 with n queued slots, whose generation has had so many accepted reads.
abbrev pub reading : ℕ → ℕ → Memory
reading n accepted =
    Some
    (record {
      config = record { capacity = 4; max_depth = 1; retention = Unbounded };
      installed =
          Some
          (record {
            anchor = at 5;
            base = void_base;
            top = [];
            pending = queue n;
            totals = record { accepted = accepted; served = accepted - n; waiting = n; valued = 0; refused = 0; rounds = 0; members = 0; errors = 0; coalesced = 0 };
          });
    })

-- Calls at that block, and an advance to the next one with one write.
abbrev pub here : AnchoredCall → Call
here c = on_store (at_anchor (at 5) c)

abbrev pub advance_6 : Call
advance_6 = on_store (advance (at 6) (small 0) (record { skip = 0; relevance = []; writes = record { slot = numbered 0; value = small 1 } ∷ [] }))

-- What is lent: a work area, and an output of so many entries.
abbrev pub lent : ℕ → ℕ → Lent
lent work entries = record { store_bytes = 0; work_bytes = work; output_entries = entries }

-- 25, 27 and an advance's 9 at their limits and one past them; document 01's order of the refusals, and 25 before 24 where both hold.
pub record RefusedAtLimits : Type 0 where
  pub last_read : refusal (reading 0 4294967294) (lent 0 0) (here (on_slot (read (numbered 0)))) ≡ None
  pub read_past_it : refusal (reading 0 4294967295) (lent 0 0) (here (on_slot (read (numbered 0)))) ≡ Some 25
  pub queue_fits : refusal (reading 3 3) (lent 0 3) (here take) ≡ None
  pub queue_past_it : refusal (reading 3 3) (lent 0 2) (here take) ≡ Some 27
  pub areas_fit : refusal (reading 0 0) (lent (work_size 4) 1) advance_6 ≡ None
  pub work_short : refusal (reading 0 0) (lent (work_size 4 - 1) 1) advance_6 ≡ Some 9
  pub output_short : refusal (reading 0 0) (lent (work_size 4) 0) advance_6 ≡ Some 9
  pub order : (m : Memory) (l : Lent) (c : Call) →
      map (λ k. k.number) (conditions m l c) ≡ 20 ∷ 1 ∷ 2 ∷ 6 ∷ 7 ∷ 8 ∷ 9 ∷ 21 ∷ 22 ∷ 26 ∷ 25 ∷ 24 ∷ 23 ∷ 27 ∷ []
  pub only_24 : refusal (reading 64 64) (lent 0 0) (here (on_slot (read (numbered 64)))) ≡ Some 24
  pub both_25 : refusal (reading 64 4294967295) (lent 0 0) (here (on_slot (read (numbered 64)))) ≡ Some 25

-- A take puts its slots to the output's beginning; a refused call keeps every byte.
pub record OutputAfter : Type 0 where
  pub listed_is : output_after (ok (listed (numbered 7 ∷ numbered 8 ∷ []))) (replicate 106 9) ≡ replicate 51 0 ++ (7 ∷ (replicate 51 0 ++ (8 ∷ 9 ∷ 9 ∷ [])))
  pub refused_is : (n : ℕ) (out : List ℕ) → output_after (refuse n) out ≡ out

-- `calls` takes lists of up to 65,536 bytes whole and nothing past them. It lends a work area of 33,472 bytes and an output of 1,024 entries.
pub record CallsTakes : Type 0 where
  pub whole_list : (input : List ℕ) → length input ≤ 65536 → calls_output input ≡ listing default_limits None (call_list input)
  pub rest_ignored : (input rest : List ℕ) → 65536 ≤ length input → calls_output (input ++ rest) ≡ calls_output input
  pub work_lent : program_lent.work_bytes ≡ 36032
  pub entries_lent : program_lent.output_entries ≡ 1024

pub record AtLimits : Type 0 where
  pub refused : RefusedAtLimits
  pub output : OutputAfter
  pub program : CallsTakes
