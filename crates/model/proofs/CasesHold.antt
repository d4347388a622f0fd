-- The twelve cases hold, by computation.
use mathlib.Core.Path.{◌≡◌, refl}
use mathlib.Core.List.Memᴰ
use mathlib.Core.List.{List, [], ◌∷◌, map, Memᴰ, head-eq_of_cons-eq, tail-eq_of_cons-eq}
use mathlib.Core.Logic.{◌⊎◌, inl, inr}
use Rattle.model.specs.Slots.{words_eqb, words_ltb, address_eqb, u256_eqb, slot_eqb, slot_ltb, mem, anchor_eqb}
use Rattle.model.specs.Layers.{find, held_value, freshest_use, insert, count_distinct, slots, all_slots, record_count, held_count, live_count}
use Rattle.model.specs.Advance.{is_void, compact_slots, compact, compact_base, seal, relevant, seed_final_writes}
use Rattle.model.specs.Reads.{waiters_of, is_awaiting, is_taken, join, queued, take_queued, remove_pending, remove_all_pending, woken, all_taken, has_duplicate, member_slots, valued_slots, refused_slots, settle_members}
use Rattle.model.specs.Store.{carry, cold_advance, perform, accept}
use Rattle.model.specs.Refusals.{Answer, not_a_store, capacity_out_of_range, depth_out_of_range, skip_with_writes, skip_out_of_range, answer_names_twice, lent_too_short, nothing_installed, another_anchor, answered_not_taken, reads_exhausted, queue_full, over_capacity, output_short_of_queue, conditions, first_that_holds, refusal, step, trace}
use Rattle.model.specs.Cases.{Row, last_from, last_answer, whole_case, late_write, table, TwelveCases}

-- Every row's runs end in the row's answers.
cases : map (λ r. map last_answer r.runs) table ≡ map (λ r. r.answers) table
unfolding words_eqb words_ltb address_eqb u256_eqb slot_eqb slot_ltb mem anchor_eqb find held_value freshest_use insert count_distinct slots all_slots record_count held_count live_count is_void compact_slots compact compact_base seal relevant seed_final_writes waiters_of is_awaiting is_taken join queued take_queued remove_pending remove_all_pending woken all_taken has_duplicate member_slots valued_slots refused_slots settle_members carry cold_advance perform accept not_a_store capacity_out_of_range depth_out_of_range skip_with_writes skip_out_of_range answer_names_twice lent_too_short nothing_installed another_anchor answered_not_taken reads_exhausted queue_full over_capacity output_short_of_queue conditions first_that_holds refusal step trace last_from whole_case late_write table
cases = refl

-- Two functions with equal results over a list are equal at each of its members.
map_agrees : (f g : Row → List Answer) (l : List Row) (a : Row) → map f l ≡ map g l → Memᴰ a l → f a ≡ g a
map_agrees f g [] a e m = absurd (Memᴰ.not-nil m)
map_agrees f g (x ∷ l) a e m = go (Memᴰ.cases_cons m) (map_agrees f g l a (tail-eq_of_cons-eq e))
  where
    go : (a ≡ x) ⊎ Memᴰ a l → (Memᴰ a l → f a ≡ g a) → f a ≡ g a
    go (inl p) k = rw p (head-eq_of_cons-eq e)
    go (inr n) k = k n

pub twelve_cases : TwelveCases
unfolding table
twelve_cases = record { twelve = refl; each = λ r m. map_agrees (λ q. map last_answer q.runs) (λ q. q.answers) table r cases m }
