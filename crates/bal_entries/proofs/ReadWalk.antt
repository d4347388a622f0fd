-- Walking reads, one after another. Assumes nothing.
use mathlib.Core.Path.{◌≡◌, sym, ap, ap₂, ◌∙◌}
use mathlib.Core.Bool.{cond}
use mathlib.Core.List.{List, [], ◌∷◌, ◌++◌, map, map-append}
use Prim.Native.Nat.{ℕ, ◌+◌, ◌*◌, ◌/◌, ◌<◌}
use native.Mathlib.Nat.{add-zero}
use native.Mathlib.Omega.{arith}
use lib.Dec.{ltb}
use lib.ListN.{length, take, drop}
use lib.Seq.{take-add, drop-drop}
use Rattle.model.specs.declared.storage_memo.Address.{Address}
use Rattle.model.specs.declared.storage_memo.U256.{U256}
use Rattle.words.specs.Parts.{placed}
use Rattle.model.specs.Entries.{slot_bytes, u256_at}
use Rattle.entries.proofs.Lists.{entry_at}
use Rattle.bal_entries.specs.Listed.{reads_in}
use Rattle.bal_entries.specs.Filling.{Filled, fill}
use Rattle.bal_entries.specs.Walking.{ReadsSeeded}
use Rattle.bal_entries.proofs.Filling.{fill_append}

module _ (a : Address) (reads : List ℕ) (most from found : ℕ) (out : List ℕ) where
  abbrev bytes : List U256 → List (List ℕ)
  bytes l = map slot_bytes (map (λ i. record { address = a; index = i }) l)

  abbrev before : Filled
  before = record { found = found; out = out }

  pub no_reads_seeded : ReadsSeeded a reads most from 0 found out out
  unfolding fill
  no_reads_seeded = ap (λ (k : ℕ). record { found = k; out = out }) (add-zero found)

  bytes_append : (k l : List U256) → bytes k ++ bytes l ≡ bytes (k ++ l)
  bytes_append k l =
      sym (map-append slot_bytes (map (λ i. record { address = a; index = i }) k) (map (λ i. record { address = a; index = i }) l))
      ∙ ap (map slot_bytes) (sym (map-append (λ i. record { address = a; index = i }) k l))

  pub read_seeded : (i : ℕ) (out' out'' : List ℕ) → from + i < length reads / 32 → ReadsSeeded a reads most from i found out out'
      → out'' ≡ cond (ltb (found + i) most) (placed ((found + i) * 52) (slot_bytes (record { address = a; index = u256_at 0 (drop ((from + i) * 32) reads) })) out') out'
      → ReadsSeeded a reads most from (i + 1) found out out''
  unfolding fill
  read_seeded i out' out'' h s e =
      let l : List U256 = drop from (reads_in reads) in
      let x : U256 = u256_at 0 (drop ((from + i) * 32) reads) in
      let one : take 1 (drop i l) ≡ x ∷ [] = ap (take 1) (drop-drop i from (reads_in reads) ∙ entry_at (u256_at 0) 32 (from + i) (length reads / 32) reads h) in
      let n : found + (i + 1) ≡ found + i + 1 = omega arith in
      ap₂ (λ (k : ℕ) (o : List ℕ). record { found = k; out = o }) n e
      ∙ ap (λ (f : Filled). fill 52 most (bytes (x ∷ [])) f) s
      ∙ ap (λ (k : List U256). fill 52 most (bytes k) (fill 52 most (bytes (take i l)) before)) (sym one)
      ∙ sym (fill_append 52 most (bytes (take i l)) (bytes (take 1 (drop i l))) before)
      ∙ ap (λ (k : List (List ℕ)). fill 52 most k before) (bytes_append (take i l) (take 1 (drop i l)) ∙ ap bytes (sym (take-add i 1 l)))
