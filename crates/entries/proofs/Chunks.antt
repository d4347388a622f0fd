-- The whole entries of a list in bytes: by the first of them, and as `chunks_exact` gives them.
use Prim.Native.Nat.{ℕ, ◌+◌, ◌/◌, ◌<◌}
use mathlib.Core.Path.{◌≡◌, refl, ap, ap₂, subst, ◌∙◌}
use mathlib.Core.Bool.{Bool, ◌||◌}
use mathlib.Core.List.{List, [], ◌∷◌, ◌++◌, map}
use native.Mathlib.Nat.{add-div_right, div-eq_of_lt}
use native.Mathlib.Numerals.{add-one}
use native.Mathlib.Omega.{arith}
use lib.ListN.{length, length-append}
use lib.Seq.{take_at, drop_at}
use Rattle.std.specs.declared.slice.ChunksExact.{ChunksExact}
use Rattle.std.specs.List.{list_any}
use Rattle.std.specs.Slice.Iter.{chunks_exact_rest, chunks_exact_size, chunks_exact_steps}
use Rattle.std.proofs.lemmas.Iterator.{YieldsList}
use Rattle.std.proofs.lemmas.Iterator.Splits.{YieldsList-from_shown_while}
use Rattle.model.specs.declared.storage_memo.Address.{Address}
use Rattle.model.specs.Slots.{address_eqb}
use Rattle.model.specs.Advance.{relevant}
use Rattle.model.specs.Entries.{address_of, addresses_of, chunks}

-- A list that begins with the entry x, and one that has no whole entry.
pub chunks_more : (w : ℕ) (b x r : List ℕ) → 0 < w → b ≡ x ++ r → length x ≡ w → chunks w (length b / w) b ≡ x ∷ chunks w (length r / w) r
unfolding chunks
chunks_more w b x r h e l =
    let n : length b ≡ length r + w = ap length e ∙ length-append x r ∙ omega arith in
    ap₂ (λ (m : ℕ) (y : List ℕ). chunks w m y) (ap (λ (m : ℕ). m / w) n ∙ add-div_right (length r) h ∙ add-one (length r / w)) e
    ∙ ap₂ (λ (y z : List ℕ). y ∷ chunks w (length r / w) z) (take_at x r w l) (drop_at x r w l)

pub chunks_none : (w : ℕ) (r : List ℕ) → length r < w → chunks w (length r / w) r ≡ []
unfolding chunks
chunks_none w r h = ap (λ (m : ℕ). chunks w m r) (div-eq_of_lt h)

-- A chain over the entries begins with this.
pub YieldsList-from_chunks : {s : ChunksExact ℕ} (w : ℕ) (b : List ℕ) → 0 < w → chunks_exact_size s ≡ w → chunks_exact_rest s ≡ b → YieldsList chunks_exact_steps (λ y. y.now) s (chunks w (length b / w) b)
YieldsList-from_chunks {s} w b h e f =
    subst (λ (l : List ℕ). YieldsList chunks_exact_steps (λ y. y.now) s (chunks w (length l / w) l)) f
    (YieldsList-from_shown_while chunks_exact_steps (λ y. y.now) (λ t. chunks w (length (chunks_exact_rest t) / w) (chunks_exact_rest t)) (λ t. chunks_exact_size t ≡ w)
    (λ t u k p. ap length (chunks_none w (chunks_exact_rest t) (omega (arith, k, p.1.0))))
    (λ t x u k p. (p.0 ∙ k, chunks_more w (chunks_exact_rest t) x.now (chunks_exact_rest u) h p.1.0 (p.1.1 ∙ k))) s e)

-- Whether an address is on a list, as a chain over the list's entries answers.
pub any_relevant : (a : Address) (b : List ℕ) → list_any (λ m. address_eqb (address_of m) a) (chunks 20 (length b / 20) b) ≡ relevant (addresses_of b) a
unfolding relevant addresses_of
any_relevant a b = go (chunks 20 (length b / 20) b)
  where
    go : (cs : List (List ℕ)) → list_any (λ m. address_eqb (address_of m) a) cs ≡ relevant (map address_of cs) a
    go [] = refl
    go (m ∷ cs) = ap (λ (r : Bool). address_eqb (address_of m) a || r) (go cs)
