-- What the table of refusals comes to for an advance, and what an advance comes to on bytes. Assumes nothing.
use Rattle.std.specs.Prelude.{None, Option, Some}
use Prim.Native.Nat.{ℕ}
use mathlib.Core.Path.{◌≡◌, refl, ap, ◌∙◌}
use mathlib.Core.Bool.{Bool, true, false, not, ◌&&◌, ◌||◌, cond}
use mathlib.Core.List.{List}
use lib.Dec.{eqb, ltb}
use lib.ListN.{length}
use Rattle.model.specs.declared.storage_memo.U256.{U256}
use Rattle.model.specs.declared.storage_memo.ReadAnchor.{ReadAnchor}
use Rattle.model.specs.Store.{Config, Generation, Prepared, StoreCall, advance, on_store, Memory, accept, perform}
use Rattle.model.specs.Refusals.{Lent, work_size, refuse, ok, StepResult, conclude, step, conditions, first_that_holds, refusal, not_a_store, capacity_out_of_range, depth_out_of_range, skip_with_writes, skip_out_of_range, answer_names_twice, lent_too_short, nothing_installed, another_anchor, answered_not_taken, reads_exhausted, queue_full, over_capacity, output_short_of_queue}
use Rattle.image.specs.Image.{decode, overlay, bytes_after, BytesCall, BytesResult, bytes_step}
use Rattle.unchecked_calls.proofs.Turned.{memory_of}
use Rattle.unchecked_advance.specs.Inner.{too_many, ended}

module _ (cfg : Config) (o : Option Generation) (child : ReadAnchor) (h : U256) (p : Prepared) where
  abbrev call : StoreCall
  call = advance child h p

  -- 6, 7, 9 and 23, in this order.
  abbrev table : Lent → Bool → Option ℕ
  table l x =
      cond (not (eqb p.skip 0) && ltb 0 (length p.writes)) (Some 6)
      (cond (ltb 3 p.skip) (Some 7) (cond (ltb l.work_bytes (work_size cfg.capacity) || ltb l.output_entries (length p.writes)) (Some 9) (cond x (Some 23) None)))

  pub advance_table : (l : Lent) → refusal (memory_of cfg o) l (on_store call) ≡ table l (too_many cfg (perform cfg o call))
  unfolding refusal conditions first_that_holds not_a_store capacity_out_of_range depth_out_of_range skip_with_writes skip_out_of_range answer_names_twice lent_too_short nothing_installed another_anchor answered_not_taken reads_exhausted queue_full over_capacity output_short_of_queue accept
  advance_table l = refl

  -- On bytes.
  module _ (s : List ℕ) (wb oe : ℕ) (e : decode s ≡ memory_of cfg o) where
    abbrev lent : Lent
    lent = record { store_bytes = length s; work_bytes = wb; output_entries = oe }

    abbrev bytes_call : BytesCall
    bytes_call = record { call = on_store call; work_bytes = wb; output_entries = oe }

    abbrev result : StepResult → BytesResult
    result x = record { bytes = bytes_after x s; answer = x.answer }

    by_refusal : (r : Option ℕ) → refusal (memory_of cfg o) lent (on_store call) ≡ r → bytes_step s bytes_call ≡ result (conclude r (memory_of cfg o) (accept (memory_of cfg o) (on_store call)))
    unfolding bytes_step step
    by_refusal r q =
        ap (λ (m : Memory). result (conclude (refusal m lent (on_store call)) m (accept m (on_store call)))) e
        ∙ ap (λ (x : Option ℕ). result (conclude x (memory_of cfg o) (accept (memory_of cfg o) (on_store call)))) q

    -- Refused.
    pub step_refused : (n : ℕ) → table lent (too_many cfg (perform cfg o call)) ≡ Some n → bytes_step s bytes_call ≡ record { bytes = s; answer = refuse n }
    step_refused n q = by_refusal (Some n) (advance_table lent ∙ q)

    -- Not refused by 6, 7 or 9.
    finished : (x : Bool) → result (conclude (cond x (Some 23) None) (memory_of cfg o) (accept (memory_of cfg o) (on_store call)))
        ≡ cond x (record { bytes = s; answer = refuse 23 }) (record { bytes = overlay (memory_of cfg (perform cfg o call).installed) s; answer = ok (perform cfg o call).report })
    unfolding accept
    finished true = refl
    finished false = refl

    pub step_ended : (not (eqb p.skip 0) && ltb 0 (length p.writes)) ≡ false → ltb 3 p.skip ≡ false → (ltb wb (work_size cfg.capacity) || ltb oe (length p.writes)) ≡ false
        → bytes_step s bytes_call ≡ ended cfg (perform cfg o call) s
    step_ended a b c =
        let t : table lent (too_many cfg (perform cfg o call)) ≡ cond (too_many cfg (perform cfg o call)) (Some 23) None = rw (a, b, c) in
        by_refusal _ (advance_table lent ∙ t) ∙ finished (too_many cfg (perform cfg o call))
