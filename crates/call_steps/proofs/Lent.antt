-- The entries of a span as the code lends them: from its start to its end. Assumes nothing.
use Prim.Native.Nat.{ℕ, ◌+◌, ◌-◌, ◌*◌, ◌≤◌}
use mathlib.Core.Path.{◌≡◌, ap, ◌∙◌}
use mathlib.Core.List.{List}
use native.Mathlib.Omega.{arith}
use lib.ListN.{length, take}
use Rattle.model.specs.Entries.{addresses_of, slots_of, writes_of}
use Rattle.words.specs.Parts.{part}
use Rattle.reader.specs.declared.Span.{Span}
use Rattle.reader.specs.Answers.{addresses_at, slots_at, writes_at}
use Rattle.lent_lists.proofs.Entries.{addresses_are, slots_are, writes_are}

to_end : (i n : ℕ) (l : List ℕ) → part i (i + n - i) l ≡ part i n l
to_end i n l = let e : i + n - i ≡ n = omega arith in ap (λ (k : ℕ). part i k l) e

-- The first n bytes.
pub from_start : (n : ℕ) (l : List ℕ) → take (n - 0) l ≡ take n l
from_start n l = let e : n - 0 ≡ n = omega arith in ap (λ (k : ℕ). take k l) e

module _ (l : List ℕ) (p : Span) where
  pub addresses_lent : p.start + p.count * 20 ≤ length l → addresses_of (part p.start (p.start + p.count * 20 - p.start) l) ≡ addresses_at l p
  addresses_lent h = ap addresses_of (to_end p.start (p.count * 20) l) ∙ addresses_are l p h

  pub slots_lent : p.start + p.count * 52 ≤ length l → slots_of (part p.start (p.start + p.count * 52 - p.start) l) ≡ slots_at l p
  slots_lent h = ap slots_of (to_end p.start (p.count * 52) l) ∙ slots_are l p h

  pub writes_lent : p.start + p.count * 84 ≤ length l → writes_of (part p.start (p.start + p.count * 84 - p.start) l) ≡ writes_at l p
  writes_lent h = ap writes_of (to_end p.start (p.count * 84) l) ∙ writes_are l p h
