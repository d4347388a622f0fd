-- What the check of the bytes says: they are no store, and a call on a store is refused by 20, or they are one. What the check of an answer's flag bytes says.
use Rattle.model.specs.declared.refusal.Refusal.{Refusal}
use Rattle.model.specs.Refusals.{refusal_number}
use Rattle.std.specs.Prelude.{Err}
use Rattle.std.specs.Prelude.{None, Some, is_some}
use Prim.Native.Nat.{ℕ}
use mathlib.Core.Path.{◌≡◌, refl, sym, ap, subst, ◌∙◌}
use mathlib.Core.Bool.{Bool, true, false, cond}
use mathlib.Core.List.{List}
use native.Mathlib.Omega.{arith}
use Rattle.model.specs.declared.storage_memo.ReadAnchor.{ReadAnchor}
use Rattle.model.specs.Entries.{members_of, flags_known}
use Rattle.model.specs.Store.{Memory, StoreCall, on_store, at_anchor, answer}
use Rattle.model.specs.Refusals.{refuse}
use Rattle.image.specs.Image.{decode, BytesCall, BytesResult, bytes_step}
use Rattle.replies.specs.Replies.{alone, answer_step, AdvancedAs}
use Rattle.unchecked_calls.proofs.Turned.{no_store}
use Rattle.unchecked_reads.proofs.Said.{turned_down}

no_memory : (m : Memory) → is_some m ≡ false → m ≡ None
no_memory None e = refl
no_memory (Some st) e = let z : ◌≡◌ {A = ℕ} 0 1 = cc in absurd (omega arith)

-- Of the check's answer.
module _ (b : List ℕ) (r : Bool) (e : r ≡ is_some (decode b)) where
  pub a_store : r ≡ true → is_some (decode b) ≡ true
  a_store t = sym e ∙ t

  -- Bytes that are no store, with any areas lent.
  module _ (c : StoreCall) (work_bytes output_entries : ℕ) (t : r ≡ false) where
    abbrev lent : BytesCall
    lent = record { call = on_store c; work_bytes = work_bytes; output_entries = output_entries }

    pub refused_20 : bytes_step b lent ≡ record { bytes = b; answer = refuse 20 }
    refused_20 = turned_down b None lent (no_memory (decode b) (sym e ∙ t)) 20 (no_store _ c)

-- What an advance's contract names: a refusal.
pub advanced_none : {b out : List ℕ} {n : Refusal} {o : BytesResult} → o ≡ record { bytes = b; answer = refuse (refusal_number n) } → AdvancedAs (Err n) b out o out
advanced_none {b} {out} {n} q = subst (λ (x : BytesResult). AdvancedAs (Err n) b out x out) (sym q) (record { answer_is = refl; bytes_is = refl; output_is = refl })

-- An answer with an unknown flag byte, and one whose flag bytes are known.
module _ (b : List ℕ) (a : ReadAnchor) (m : List ℕ) (r : Bool) (e : r ≡ flags_known m) where
  abbrev answering : BytesResult
  answering = bytes_step b (alone (on_store (at_anchor a (answer (members_of m)))))

  pub unknown_flag : r ≡ false → answer_step b a m ≡ record { bytes = b; answer = refuse 3 }
  unfolding answer_step
  unknown_flag t = ap (λ (x : Bool). cond x answering (record { bytes = b; answer = refuse 3 })) (sym e ∙ t)

  pub known_flags : r ≡ true → answer_step b a m ≡ answering
  unfolding answer_step
  known_flags t = ap (λ (x : Bool). cond x answering (record { bytes = b; answer = refuse 3 })) (sym e ∙ t)
