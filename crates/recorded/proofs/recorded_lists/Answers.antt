-- `recorded::recorded_lists` meets its contract, by computation.
use mathlib.Core.Path.{refl}
use Rattle.model.specs.Numbers
use Rattle.model.specs.Entries
use Rattle.model.specs.Slots
use Rattle.model.specs.Layers
use Rattle.model.specs.Advance
use Rattle.model.specs.Reads
use Rattle.model.specs.Store
use Rattle.model.specs.Refusals
use Rattle.call_list.specs.CallList
use Rattle.call_list.specs.Listing
use Rattle.call_list.specs.Calls
use Rattle.recorded.specs.Lists.{recorded_lists}
use Rattle.recorded.specs.Agree.{bytes_hex, entry_lines, fault_from, detailed, detailed_output, RecordedAgree}
use Rattle.recorded.proofs.recorded_lists.Goals as goal

recorded_agree : RecordedAgree
unfolding Numbers.be Numbers.num_from Entries.chunks Entries.slot_bytes Entries.slots_bytes Slots.words_eqb Slots.words_ltb Slots.address_eqb Slots.u256_eqb Slots.slot_eqb Slots.slot_ltb Slots.mem Slots.anchor_eqb Layers.find Layers.held_value Layers.freshest_use Layers.insert Layers.count_distinct Layers.slots Layers.all_slots Layers.record_count Layers.held_count Layers.live_count Advance.is_void Advance.compact_slots Advance.compact Advance.compact_base Advance.seal Advance.relevant Advance.seed_final_writes Reads.waiters_of Reads.is_awaiting Reads.is_taken Reads.join Reads.queued Reads.take_queued Reads.remove_pending Reads.remove_all_pending Reads.woken Reads.all_taken Reads.has_duplicate Reads.member_slots Reads.valued_slots Reads.refused_slots Reads.settle_members Store.carry Store.cold_advance Store.perform Store.accept Refusals.not_a_store Refusals.capacity_out_of_range Refusals.depth_out_of_range Refusals.skip_with_writes Refusals.skip_out_of_range Refusals.answer_names_twice Refusals.lent_too_short Refusals.nothing_installed Refusals.another_anchor Refusals.answered_not_taken Refusals.reads_exhausted Refusals.queue_full Refusals.over_capacity Refusals.output_short_of_queue Refusals.conditions Refusals.first_that_holds Refusals.refusal Refusals.step Refusals.trace CallList.number_from CallList.parse_form CallList.parse_entries CallList.code_table CallList.parse_of CallList.parse_call CallList.parse_calls CallList.call_list Listing.ascii Listing.decimal_from Listing.hex Listing.line Listing.decimals Listing.slot_lines Listing.answer_lines Listing.answers_lines Calls.listing Calls.calls_output bytes_hex entry_lines fault_from detailed detailed_output recorded_lists
recorded_agree = record { listings = refl; details = refl }

pub returns : goal.returns
returns c = recorded_agree
