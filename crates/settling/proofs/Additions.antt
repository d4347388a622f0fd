-- The records that the values of an answer to distinct slots add to a layer.
use Rattle.std.specs.Prelude.{None, Option, Some, is_some, is_err, Err, Ok}
use Prim.Native.Nat.{ℕ, ◌+◌, ◌≤◌}
use mathlib.Core.Path.{◌≡◌, refl, sym, ap, ◌∙◌}
use mathlib.Core.Bool.{Bool, true, false, not, cond}
use mathlib.Core.List.{List, [], ◌∷◌}
use native.Mathlib.Omega.{arith}
use lib.ListN.{length}
use Rattle.model.specs.declared.delta_snapshot.Slot.{Slot}
use Rattle.model.specs.Slots.{Value, slot_eqb, mem}
use Rattle.model.specs.declared.delta_snapshot.Content.{Content}
use Rattle.model.specs.Contents.{valued}
use Rattle.model.specs.Layers.{Layer, find, insert}
use Rattle.model.specs.Reads.{Member, has_duplicate, member_slots, settle_outcome, settle_members}
use Rattle.model.proofs.SlotLaws.{or_false_left, or_false_right, slot_eqb_sym}
use Rattle.model.proofs.LayerLaws.{find_insert}
use Rattle.image.specs.WellFormed.{rising}
use Rattle.image.proofs.RecordsOk.{rising_insert}
use Rattle.records.specs.Records.{Found}
use Rattle.records.specs.Records.{place_in, count_after}
use Rattle.records.proofs.Places.{found_content, absent_none, length_insert}
use Rattle.settling.specs.Settling.{missing, adds, added}

-- A slot's place says whether it is missing.
pub place_missing : (s : Slot) (l : Layer) (f : Found) (n : ℕ) → rising l ≡ true → place_in s l ≡ f → count_after f n ≡ missing s l + n
place_missing s l (Ok i) n r e = let k : missing s l ≡ 0 = ap (λ (o : Option Content). cond (is_some o) 0 1) (found_content l s i e) in omega arith
place_missing s l (Err i) n r e = let k : missing s l ≡ 1 = ap (λ (o : Option Content). cond (is_some o) 0 1) (absent_none l s i r e) in omega arith

length_set : (s : Slot) (c : Content) (l : Layer) → rising l ≡ true → length (insert s c l) ≡ missing s l + length l
length_set s c l r = length_insert l s c ∙ place_missing s l (place_in s l) (length l) r refl

-- Another slot's record is missing before as after.
missing_other : (s t : Slot) (c : Content) (l : Layer) → slot_eqb s t ≡ false → missing t (insert s c l) ≡ missing t l
missing_other s t c l e = ap (λ (o : Option Content). cond (is_some o) 0 1) (find_insert s t c l ∙ ap (λ (b : Bool). cond b (Some c) (find t l)) e)

added_other : (s : Slot) (c : Content) (l : Layer) (ms : List Member) → mem s (member_slots ms) ≡ false → added ms (insert s c l) ≡ added ms l
unfolding added mem member_slots
added_other s c l [] d = refl
added_other s c l (m ∷ ms) d =
    let e : slot_eqb s m.slot ≡ false = slot_eqb_sym s m.slot ∙ or_false_left (slot_eqb m.slot s) (mem s (member_slots ms)) d in
    let h : added ms (insert s c l) ≡ added ms l = added_other s c l ms (or_false_right (slot_eqb m.slot s) (mem s (member_slots ms)) d) in
    go m.outcome e h
  where
    go : (o : Option Value) → slot_eqb s m.slot ≡ false → added ms (insert s c l) ≡ added ms l → adds o m.slot (insert s c l) + added ms (insert s c l) ≡ adds o m.slot l + added ms l
    go None e h = omega arith
    go (Some v) e h = omega (arith, missing_other s m.slot c l e)

-- The top after the members.
pub length_settled : (n : ℕ) (ms : List Member) (l : Layer) → rising l ≡ true → has_duplicate (member_slots ms) ≡ false → length (settle_members n ms l) ≡ added ms l + length l
unfolding settle_members added member_slots has_duplicate
length_settled n [] l r d = omega arith
length_settled n (m ∷ ms) l r d = go m.outcome (or_false_left (mem m.slot (member_slots ms)) (has_duplicate (member_slots ms)) d) (or_false_right (mem m.slot (member_slots ms)) (has_duplicate (member_slots ms)) d) (λ k z b. length_settled n ms k z b)
  where
    go : (o : Option Value) → mem m.slot (member_slots ms) ≡ false → has_duplicate (member_slots ms) ≡ false → ((k : Layer) → rising k ≡ true → has_duplicate (member_slots ms) ≡ false → length (settle_members n ms k) ≡ added ms k + length k) → length (settle_members n ms (settle_outcome n m.slot o l)) ≡ adds o m.slot l + added ms l + length l
    go None a b f = omega (arith, f l r b)
    go (Some v) a b f =
        let k : Layer = insert m.slot (valued n v) l in
        omega (arith, f k (rising_insert m.slot (valued n v) l r) b, added_other m.slot (valued n v) l ms a, length_set m.slot (valued n v) l r)

-- No member takes a record away.
more : (f : Found) (n : ℕ) → n ≤ count_after f n
more (Ok i) n = omega arith
more (Err i) n = omega arith

grows_one : (n : ℕ) (s : Slot) (o : Option Value) (l : Layer) → length l ≤ length (settle_outcome n s o l)
grows_one n s None l = omega arith
grows_one n s (Some v) l = omega (arith, length_insert l s (valued n v), more (place_in s l) (length l))

pub grows : (n : ℕ) (ms : List Member) (l : Layer) → length l ≤ length (settle_members n ms l)
unfolding settle_members
grows n [] l = omega arith
grows n (m ∷ ms) l = omega (arith, grows n ms (settle_outcome n m.slot m.outcome l), grows_one n m.slot m.outcome l)

-- What the place found says.
pub none_found : (s : Slot) (l : Layer) (f : Found) → rising l ≡ true → f ≡ place_in s l → is_err f ≡ not (is_some (find s l))
none_found s l (Ok i) r e = sym (ap (λ (o : Option Content). not (is_some o)) (found_content l s i (sym e)))
none_found s l (Err i) r e = sym (ap (λ (o : Option Content). not (is_some o)) (absent_none l s i r (sym e)))
