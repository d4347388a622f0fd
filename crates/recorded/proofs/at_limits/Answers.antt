-- `recorded::at_limits` meets its contract: by computation, and by the laws of `take`.
use Rattle.std.specs.Prelude.{None}
use mathlib.Core.Path.{refl, ap}
use mathlib.Core.List.{List}
use Prim.Native.Nat.{ℕ}
use lib.Seq.{take_all, take-append-le}
use Rattle.model.specs.Numbers
use Rattle.model.specs.Entries
use Rattle.model.specs.Slots
use Rattle.model.specs.Layers
use Rattle.model.specs.Advance
use Rattle.model.specs.Reads
use Rattle.model.specs.Store
use Rattle.model.specs.Refusals
use Rattle.call_list.specs.Meaning.{default_limits}
use Rattle.call_list.specs.CallList.{call_list}
use Rattle.call_list.specs.Calls.{listing, calls_output}
use Rattle.recorded.specs.Limits.{queue, RefusedAtLimits, OutputAfter, CallsTakes}
use Rattle.recorded.proofs.at_limits.Goals as goal

refused_at_limits : RefusedAtLimits
unfolding Numbers.be Numbers.num_from Entries.chunks Entries.slot_bytes Entries.slots_bytes Slots.words_eqb Slots.words_ltb Slots.address_eqb Slots.u256_eqb Slots.slot_eqb Slots.slot_ltb Slots.mem Slots.anchor_eqb Layers.find Layers.held_value Layers.freshest_use Layers.insert Layers.count_distinct Layers.slots Layers.all_slots Layers.record_count Layers.held_count Layers.live_count Advance.is_void Advance.compact_slots Advance.compact Advance.compact_base Advance.seal Advance.relevant Advance.seed_final_writes Reads.waiters_of Reads.is_awaiting Reads.is_taken Reads.join Reads.queued Reads.take_queued Reads.remove_pending Reads.remove_all_pending Reads.woken Reads.all_taken Reads.has_duplicate Reads.member_slots Reads.valued_slots Reads.refused_slots Reads.settle_members Store.carry Store.cold_advance Store.perform Store.accept Refusals.not_a_store Refusals.capacity_out_of_range Refusals.depth_out_of_range Refusals.skip_with_writes Refusals.skip_out_of_range Refusals.answer_names_twice Refusals.lent_too_short Refusals.nothing_installed Refusals.another_anchor Refusals.answered_not_taken Refusals.reads_exhausted Refusals.queue_full Refusals.over_capacity Refusals.output_short_of_queue Refusals.conditions Refusals.first_that_holds Refusals.refusal Refusals.step Refusals.trace queue
refused_at_limits =
    record {
      last_read = refl;
      read_past_it = refl;
      queue_fits = refl;
      queue_past_it = refl;
      areas_fit = refl;
      work_short = refl;
      output_short = refl;
      order = λ m l c. refl;
      only_24 = refl;
      both_25 = refl;
    }

output_is : OutputAfter
unfolding Numbers.be Entries.slot_bytes Entries.slots_bytes
output_is = record { listed_is = refl; refused_is = λ n out. refl }

calls_takes : CallsTakes
unfolding calls_output
calls_takes =
    record {
      whole_list = λ input h. ap (λ (l : List ℕ). listing default_limits None (call_list l)) (take_all 65536 input h);
      rest_ignored = λ input rest h. ap (λ (l : List ℕ). listing default_limits None (call_list l)) (take-append-le 65536 input rest h);
      work_lent = refl;
      entries_lent = refl;
    }

pub returns : goal.returns
returns c = record { refused = refused_at_limits; output = output_is; program = calls_takes }
