-- The run of specs/Witness.antt is as claimed: by computation, and its calls are true.
use Rattle.std.specs.Prelude.{None, Some}
use Rattle.std.proofs.lemmas.Option.{none-some, same_Some}
use Prim.Native.Nat.{ℕ}
use native.Mathlib.Omega.{arith}
use mathlib.Core.Path.{◌≡◌, refl, sym, ap, ◌∙◌}
use mathlib.Core.Bool.{true, false}
use mathlib.Core.List.{[]}
use Rattle.model.specs.Slots
use Rattle.model.specs.Layers
use Rattle.model.specs.Advance
use Rattle.model.specs.Reads
use Rattle.model.specs.Store
use Rattle.model.specs.Refusals
use Rattle.model.specs.Slots.{Hash, U256, Slot, slot_eqb, u256_eqb, mem, words_eqb}
use Rattle.model.specs.Refusals.{trace, final}
use Rattle.model.specs.TrueInputs.{TrueWrites, last_value, named_slots, TrueInputs, serves_value}
use Rattle.model.specs.Demand3.{calls_of, refusal_flags}
use Rattle.model.specs.Witness.{word, P, Q, W, block, fork_hash, fork, truth, block_writes, fork_writes, run, run_answers, Witness}
use Rattle.model.proofs.SlotLaws.{split, slot_eqb_sym, slot_eqb_apart}

-- What the run computes to.
record Computed : Type 0 where
  answers : trace None run ≡ run_answers
  serves : serves_value (final None run) P ≡ Some (word 5)
  lapsed : serves_value (final None run) Q ≡ None

computed : Computed
unfolding Slots.words_eqb Slots.words_ltb Slots.address_eqb Slots.u256_eqb Slots.slot_eqb Slots.slot_ltb Slots.mem Slots.anchor_eqb Layers.find Layers.held_value Layers.freshest_use Layers.insert Layers.count_distinct Layers.slots Layers.all_slots Layers.record_count Layers.held_count Layers.live_count Advance.is_void Advance.compact_slots Advance.compact Advance.compact_base Advance.seal Advance.relevant Advance.seed_final_writes Reads.waiters_of Reads.is_awaiting Reads.is_taken Reads.join Reads.queued Reads.take_queued Reads.remove_pending Reads.remove_all_pending Reads.woken Reads.all_taken Reads.has_duplicate Reads.member_slots Reads.valued_slots Reads.refused_slots Reads.settle_members Store.carry Store.cold_advance Store.perform Store.accept Refusals.not_a_store Refusals.capacity_out_of_range Refusals.depth_out_of_range Refusals.skip_with_writes Refusals.skip_out_of_range Refusals.answer_names_twice Refusals.lent_too_short Refusals.nothing_installed Refusals.another_anchor Refusals.answered_not_taken Refusals.reads_exhausted Refusals.queue_full Refusals.over_capacity Refusals.output_short_of_queue Refusals.conditions Refusals.first_that_holds Refusals.refusal Refusals.step Refusals.trace Refusals.final
computed = record { answers = refl; serves = refl; lapsed = refl }

-- Its truth ------------------------------------------------------------------------------------------

-- A canonical block's list, under a parent hash that is not the fork's.
true_block : (n : ℕ) (h : Hash) → u256_eqb (word n) fork_hash ≡ false → u256_eqb h fork_hash ≡ false → TrueWrites truth (block n) h (block_writes n)
unfolding last_value named_slots mem
true_block n h p q = record {
  last_values_true = λ s v e. split (slot_eqb W s) (λ y. rw y (sym (same_Some (word n) v (rw y at e)))) (λ y. absurd (none-some v (rw y at e)));
  names_every_change = λ k e s d. split (slot_eqb W s) (λ y. rw y) (λ y. absurd (d (rw (y, p, q))));
}

-- W is not P.
not_P : (s : Slot) → slot_eqb W s ≡ true → slot_eqb P s ≡ false
unfolding slot_eqb words_eqb
not_P s y = slot_eqb_sym P s ∙ slot_eqb_apart W s P y refl

-- The fork's list.
true_fork : TrueWrites truth fork (word 111) fork_writes
unfolding last_value named_slots mem u256_eqb words_eqb
true_fork = record {
  last_values_true = λ s v e. split (slot_eqb W s)
      (λ y. rw y (sym (same_Some (word 12) v (rw (not_P s y, y) at e))))
      (λ y. split (slot_eqb P s)
      (λ z. rw (y, z) (sym (same_Some (word 6) v (rw z at e))))
      (λ z. absurd (none-some v (rw (z, y) at e))));
  names_every_change = λ k e s d. split (slot_eqb W s) (λ y. rw y) (λ y. rw y (split (slot_eqb P s) (λ z. rw z) (λ z. absurd (d (rw (y, z))))));
}

-- Block 0: it has none below.
true_zero : (h : Hash) → TrueWrites truth (block 0) h []
unfolding last_value
true_zero h = record { last_values_true = λ s v e. absurd (none-some v e); names_every_change = λ n e s d. absurd (omega (arith, e)) }

true_inputs : TrueInputs truth (calls_of run) (refusal_flags run)
unfolding slot_eqb u256_eqb words_eqb
true_inputs =
    rw computed.answers (
      tt,
      (
        λ e. true_zero (word 0),
        (
          λ e. true_block 1 (word 0) refl refl,
          (
            λ e. absurd (omega (arith, e)),
            (
              tt,
              (
                refl,
                (
                  λ e. true_block 11 (word 10) refl refl,
                  (
                    λ e. true_fork,
                    (
                      λ e. true_block 13 (word 12) refl refl,
                      (
                        refl,
                        (
                          tt,
                          (
                            tt,
                            (
                              (refl, tt),
                              (λ e. true_block 14 (word 13) refl refl, (tt, (λ e. true_block 15 (word 14) refl refl, (tt, (λ e. true_block 16 (word 15) refl refl, tt))))),
                            ),
                          ),
                        ),
                      ),
                    ),
                  ),
                ),
              ),
            ),
          ),
        ),
      ),
    )

-- The value of the refused answer.
untrue : word 9 ≡ truth (block 13) Q → ⊥
unfolding slot_eqb u256_eqb words_eqb
untrue e = let n : ◌≡◌ {A = ℕ} 9 0 = ap (λ (x : U256). x.w3) e in omega arith

pub witness : Witness
witness = record { true_inputs = true_inputs; answers = computed.answers; untrue = untrue; serves = computed.serves; lapsed = computed.lapsed }
