-- What acceptance says of a call: none of the refusals' conditions holds.
use Rattle.std.specs.Prelude.{None}
use mathlib.Core.Path.{◌≡◌, sym}
use Rattle.std.proofs.lemmas.Option.{none-some}
use mathlib.Core.Bool.{false}
use mathlib.Core.List.{List, [], ◌∷◌}
use Rattle.model.specs.Store.{Call, Memory}
use Rattle.model.specs.Refusals.{Lent, Condition, conditions, first_that_holds, refusal, not_a_store, capacity_out_of_range, depth_out_of_range, skip_with_writes, skip_out_of_range, answer_names_twice, lent_too_short, nothing_installed, another_anchor, answered_not_taken, reads_exhausted, queue_full, over_capacity, output_short_of_queue}
use Rattle.model.proofs.SlotLaws.{split}

-- No condition of a list holds.
abbrev NoneHolds : List Condition → Type 0
NoneHolds [] = Unit {0}
NoneHolds (k ∷ ks) = (k.holds ≡ false) × NoneHolds ks

none_holds : (ks : List Condition) → first_that_holds ks ≡ None → NoneHolds ks
unfolding first_that_holds
none_holds [] e = tt
none_holds (k ∷ ks) e =
    split k.holds
    (λ y. absurd (none-some k.number (sym (rw y at e))))
    (λ y. (y, none_holds ks (rw y at e)))

-- An accepted call, in the order of the refusals.
pub record Unrefused (m : Memory) (l : Lent) (c : Call) : Type 0 where
  pub a_store : not_a_store m c ≡ false
  pub capacity_in_range : capacity_out_of_range c ≡ false
  pub depth_in_range : depth_out_of_range c ≡ false
  pub skip_without_writes : skip_with_writes c ≡ false
  pub skip_in_range : skip_out_of_range c ≡ false
  pub answer_names_once : answer_names_twice c ≡ false
  pub lent_enough : lent_too_short m l c ≡ false
  pub some_installed : nothing_installed m c ≡ false
  pub same_anchor : another_anchor m c ≡ false
  pub answered_taken : answered_not_taken m c ≡ false
  pub reads_left : reads_exhausted m c ≡ false
  pub queue_has_room : queue_full m c ≡ false
  pub within_capacity : over_capacity m c ≡ false
  pub output_holds_queue : output_short_of_queue m l c ≡ false

pub unrefused : (m : Memory) (l : Lent) (c : Call) → refusal m l c ≡ None → Unrefused m l c
unfolding refusal conditions
unrefused m l c e =
    let (a, (b, (d, (f, (g, (h, (i, (j, (k, (n, (o, (p, (q, (r, z)))))))))))))) = none_holds (conditions m l c) e in
    record { a_store = a; capacity_in_range = b; depth_in_range = d; skip_without_writes = f; skip_in_range = g; answer_names_once = h; lent_enough = i; some_installed = j; same_anchor = k; answered_taken = n; reads_left = o; queue_has_room = p; within_capacity = q; output_holds_queue = r }
