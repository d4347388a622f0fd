-- The final change of a part of a list in bytes. Assumes nothing.
use Rattle.std.specs.Prelude.{None, Some}
use mathlib.Core.Path.{◌≡◌, sym, ap, ◌∙◌}
use mathlib.Core.List.{List, ◌∷◌}
use Prim.Native.Nat.{ℕ, zero, suc, ◌+◌, ◌-◌, ◌*◌, ◌/◌, ◌≤◌, ◌<◌}
use native.Mathlib.Nat.{add-zero}
use native.Mathlib.Omega.{arith}
use lib.ListN.{length, take, drop}
use lib.Seq.{drop-drop}
use Rattle.model.specs.declared.storage_memo.U256.{U256}
use Rattle.model.specs.Entries.{u256_at}
use Rattle.entries.specs.Lists.{entries}
use Rattle.entries.proofs.Lists.{entry_at}
use Rattle.entries.proofs.Numbers.{u256_first}
use Rattle.final_change.specs.Changes.{StorageChange, final_change, read_change, changes_in}

-- The last of some entries.
final_at : (n from m : ℕ) (l : List ℕ) → from + suc n ≤ m → final_change (take (suc n) (drop from (entries read_change 40 m l))) ≡ Some (u256_at 0 (drop 8 (drop ((from + n) * 40) l)))
unfolding final_change
final_at zero from m l h =
    ap (λ (x : List StorageChange). final_change (take 1 x)) (entry_at read_change 40 from m l (omega arith))
    ∙ ap (λ (i : ℕ). Some (u256_at 0 (drop 8 (drop (i * 40) l)))) (sym (add-zero from))
final_at (suc n) from m l h =
    let es : List StorageChange = entries read_change 40 m l in
    let c : StorageChange = read_change (drop (from * 40) l) in
    let d : StorageChange = read_change (drop (suc from * 40) l) in
    let p : drop (suc from) es ≡ d ∷ drop (suc (suc from)) es = entry_at read_change 40 (suc from) m l (omega arith) in
    let e : suc from + n ≡ from + suc n = omega arith in
    ap (λ (x : List StorageChange). final_change (take (suc (suc n)) x)) (entry_at read_change 40 from m l (omega arith))
    ∙ ap (λ (x : List StorageChange). final_change (c ∷ take (suc n) x)) p
    ∙ sym (ap (λ (x : List StorageChange). final_change (take (suc n) x)) p)
    ∙ final_at n (suc from) m l (omega arith)
    ∙ ap (λ (i : ℕ). Some (u256_at 0 (drop 8 (drop (i * 40) l)))) e

-- The number read at the last change is its value.
pub final_last : (from count : ℕ) (v : U256) (l : List ℕ) → 0 < count → from + count ≤ length l / 40 → v ≡ u256_at ((from + count - 1) * 40 + 8) l
    → Some v ≡ final_change (take count (drop from (changes_in l)))
final_last from count v l h k e =
    let n : ℕ = count - 1 in
    let m : suc n ≡ count = omega arith in
    let i : from + count - 1 ≡ from + n = omega arith in
    let at : u256_at ((from + n) * 40 + 8) l ≡ u256_at 0 (drop 8 (drop ((from + n) * 40) l)) =
    u256_first ((from + n) * 40 + 8) l ∙ ap (u256_at 0) (sym (drop-drop 8 ((from + n) * 40) l)) in
    ap (λ (x : U256). Some x) (e ∙ ap (λ (x : ℕ). u256_at (x * 40 + 8) l) i ∙ at)
    ∙ sym (final_at n from (length l / 40) l (omega arith))
    ∙ ap (λ (x : ℕ). final_change (take x (drop from (changes_in l)))) m

pub final_none : (from count : ℕ) (l : List ℕ) → count ≡ 0 → None ≡ final_change (take count (drop from (changes_in l)))
unfolding final_change
final_none from count l e = sym (ap (λ (x : ℕ). final_change (take x (drop from (changes_in l)))) e)
