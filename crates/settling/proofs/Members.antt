-- The members of a lent answer, one by one.
use Rattle.std.specs.Prelude.{None, Option, Some, is_some, is_err}
use Prim.Native.Nat.{ℕ, ◌+◌, ◌/◌, ◌<◌}
use mathlib.Core.Path.{◌≡◌, refl, sym, ap, ap₂, ◌∙◌}
use mathlib.Core.Bool.{Bool, true, false, not, ◌&&◌, cond}
use mathlib.Core.List.{List, [], ◌∷◌, ◌++◌, map}
use native.Mathlib.Omega.{arith}
use lib.ListN.{length, get_or}
use borrow.Author.Tests.{eq-eqb, ne_eqb}
use Rattle.std.specs.List.{filter}
use Rattle.model.specs.Layers.{Layer, find}
use Rattle.model.specs.Reads.{settle_outcome, settle_members}
use Rattle.model.specs.Entries.{slot_of, u256_at, member_of, chunks, members_of}
use Rattle.entries.proofs.Chunks.{chunks_more, chunks_none}
use Rattle.model.specs.declared.delta_snapshot.Slot.{Slot}
use Rattle.model.specs.Slots.{Value}
use Rattle.image.specs.Lent.{generation_of, Installed}
use Rattle.image.proofs.Lent.{generation_in}
use Rattle.records.specs.Records.{Found}
use Rattle.records.specs.Records.{place_in}
use Rattle.settling.proofs.Additions.{none_found}
use Rattle.settling.specs.Settling.{missing, adds, adds_one, added}

-- The records added, as a chain over the members counts them.
added_filter : (l : Layer) (cs : List (List ℕ)) → length (filter (λ m. adds_one (member_of m) l) cs) ≡ added (map member_of cs) l
unfolding added
added_filter l [] = refl
added_filter l (m ∷ cs) = go (member_of m).outcome (is_some (find (slot_of m) l)) refl _ _ (added_filter l cs)
  where
    go : (o : Option Value) (h : Bool) → is_some (find (slot_of m) l) ≡ h → (ds : List (List ℕ)) (n : ℕ) → length ds ≡ n → length (cond (is_some o && not h) (m ∷ ds) ds) ≡ adds o (slot_of m) l + n
    go None h p ds n e = omega arith
    go (Some v) true p ds n e = let z : missing (slot_of m) l ≡ 0 = ap (λ (b : Bool). cond b 0 1) p in omega arith
    go (Some v) false p ds n e = let z : missing (slot_of m) l ≡ 1 = ap (λ (b : Bool). cond b 0 1) p in omega arith

pub count_added : (l : Layer) (b : List ℕ) → length (filter (λ m. adds_one (member_of m) l) (chunks 85 (length b / 85) b)) ≡ added (members_of b) l
unfolding members_of
count_added l b = added_filter l (chunks 85 (length b / 85) b)

-- The top after the first member x, and after those after it.
pub settle_more : (n : ℕ) (b x r : List ℕ) (l : Layer) → b ≡ x ++ r → length x ≡ 85 → settle_members n (members_of b) l ≡ settle_members n (members_of r) (settle_outcome n (slot_of x) (member_of x).outcome l)
unfolding settle_members members_of
settle_more n b x r l e k = ap (λ (cs : List (List ℕ)). settle_members n (map member_of cs) l) (chunks_more 85 b x r (omega arith) e k)

pub settle_none : (n : ℕ) (r : List ℕ) (l : Layer) → length r < 85 → settle_members n (members_of r) l ≡ l
unfolding settle_members members_of
settle_none n r l h = ap (λ (cs : List (List ℕ)). settle_members n (map member_of cs) l) (chunks_none 85 r h)

-- The outcome by its mark.
pub refused_is : (m : List ℕ) → get_or m 52 0 ≡ 0 → (member_of m).outcome ≡ None
refused_is m e = rw (eq-eqb (get_or m 52 0) 0 e)

pub valued_is : (m : List ℕ) → (get_or m 52 0 ≡ 0 → ⊥) → (member_of m).outcome ≡ Some (u256_at 53 m)
valued_is m e = rw (ne_eqb (get_or m 52 0) 0 e)

-- A value adds a record where its slot t has none.
value_adds : (m : List ℕ) (t : Slot) (l : Layer) (b : Bool) → (get_or m 52 0 ≡ 0 → ⊥) → t ≡ slot_of m → is_some (find t l) ≡ b → not b ≡ adds_one (member_of m) l
value_adds m t l b e p q = sym (ap₂ (λ (o : Option Value) (h : Bool). is_some o && not h) (valued_is m e) (ap (λ (x : Slot). is_some (find x l)) (sym p) ∙ q))

pub adds_absent : (b m : List ℕ) (t : Slot) (f : Found) → Installed b → (get_or m 52 0 ≡ 0 → ⊥) → t ≡ slot_of m → f ≡ place_in t (generation_of b).top → is_err f ≡ adds_one (member_of m) (generation_of b).top
adds_absent b m t f h e p q = none_found t (generation_of b).top f (generation_in b h).top.rises q ∙ value_adds m t (generation_of b).top _ e p refl
