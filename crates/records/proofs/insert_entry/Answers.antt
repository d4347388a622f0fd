-- `records::insert_entry` meets its contract.
use mathlib.Core.Path.{◌≡◌, refl, ap, ◌∙◌}
use mathlib.Core.List.{◌++◌}
use Prim.Native.Nat.{ℕ, ◌+◌, ◌*◌, ◌-◌, ◌≤◌}
use native.Mathlib.Omega.{arith}
use lib.ListN.{length, take, drop}
use Rattle.layout.specs.Layout.{slot_size}
use Rattle.model.specs.Slots.{slot_words}
use Rattle.words.specs.Parts.{part}
use Rattle.image.specs.Image.{bytes_of}
use Rattle.records.proofs.Written.{entry_put}
use Rattle.records.proofs.insert_entry.Goals as goal

-- Where n entries and one more end.
entries_end : (i n wide : ℕ) → i ≤ n → i * wide + wide + (n - i) * wide ≡ (n + 1) * wide
entries_end i n wide h =
    let e : n ≡ i + (n - i) = omega arith in
    omega (arith, ap (λ (k : ℕ). k * wide) e)

pub returns : goal.returns
returns g c =
    let a = c.args in
    let s = a.s.now in
    let wide = slot_size + 8 * g.row.WORDS in
    let at = a.i * wide in
    let len = (a.n - a.i) * wide in
    let xs = slot_words a.slot in
    let w : length a.rest ≡ g.row.WORDS = omega arith in
    let e : at + wide + len ≡ (a.n + 1) * wide = entries_end a.i a.n wide c.requires.0 in
    entry_put at len wide xs a.rest s refl (omega arith) (omega (arith, e, c.requires.1)) c.move_up.ensures c.write_slot.ensures c.write_words.ensures
    ∙ ap (λ (k : ℕ). take at s ++ bytes_of (xs ++ a.rest) ++ part at len s ++ drop k s) e
