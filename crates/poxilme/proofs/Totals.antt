-- The read totals of a store's bytes: those of its generation, or 21 where there is none. Assumes nothing.
use Rattle.std.specs.Prelude.{is_some}
use Prim.Native.Nat.{ℕ, ◌≤◌}
use mathlib.Core.Path.{◌≡◌, sym, ap, ◌∙◌}
use mathlib.Core.Bool.{Bool, true}
use mathlib.Core.List.{List}
use native.Mathlib.Omega.{arith}
use lib.ListN.{length}
use Rattle.layout.specs.Layout.{ends_offset}
use Rattle.model.specs.declared.read_hub.ReadTotals.{ReadTotals}
use Rattle.model.specs.Store.{Memory}
use Rattle.image.specs.Image.{decode, read_generation, totals_words}
use Rattle.image.specs.Lent.{words_in, store_of, generation_of, IsStore}
use Rattle.image.proofs.Lent.{installs_some, store_in}
use Rattle.totals.specs.Totals.{totals_of}
use Rattle.totals.proofs.Places.{totals_of_words}
use Rattle.lent_calls.specs.ReplyWords.{accepted, installed_totals, totals_given}

-- The bytes of a store hold all totals.
pub totals_long : (b : List ℕ) → IsStore b → ends_offset ≤ length b
totals_long b e = omega (arith, (store_in b e).long)

-- The totals that the bytes read as.
totals_read : (b : List ℕ) → totals_of b ≡ (generation_of b).totals
unfolding generation_of words_in read_generation
totals_read b = sym (totals_of_words _ b (omega arith))

-- Of the test whether a generation is installed.
module _ (b : List ℕ) (e : IsStore b) {r : Bool} (q : r ≡ is_some (store_of b).installed) where
  pub one_installed : r ≡ true → {x : ReadTotals} → x ≡ totals_of b → totals_given (decode b) ≡ accepted (totals_words x)
  one_installed t p =
      ap (λ (m : Memory). totals_given m) e
      ∙ ap installed_totals (installs_some b e (sym q ∙ t)).installs
      ∙ ap (λ (y : ReadTotals). accepted (totals_words y)) (sym (p ∙ totals_read b))
