-- Slots with words below 2^64 are told apart by their numbers, so that a walk over an index counts distinct slots.
use mathlib.Core.Path.{◌≡◌, refl, sym, ap, subst, ◌∙◌}
use mathlib.Core.Bool.{Bool, true, ◌&&◌}
use mathlib.Core.List.{List, [], ◌∷◌, map}
use Prim.Native.Nat.{ℕ, suc, ◌*◌, ◌≤◌, ◌<◌}
use native.Mathlib.Omega.{arith}
use lib.ListN.{length, get_or}
use Rattle.layout.specs.Layout.{record_size}
use Rattle.model.specs.declared.delta_snapshot.Slot.{Slot}
use Rattle.model.specs.Slots.{slot_words, slot_eqb, mem}
use Rattle.model.specs.Layers.{Record, Layer, slots, count_distinct}
use Rattle.model.proofs.SlotLaws.{split, not_both, and_right, and_true, or_right, slot_eqb_true, slot_eqb_refl}
use Rattle.model.proofs.Count.{count_same}
use Rattle.image.specs.Area.{records_of}
use Rattle.model.proofs.WordLaws.{Fit}
use Rattle.order.specs.Index.{number_of, slot_number, numbers, no_record, up_from, Ordered}
use Rattle.order.proofs.NumberLaws.{slot_eqb_number}
use Rattle.order.proofs.RecordLaws.{Bytes, length_records_of, record_at}
use Rattle.rules.specs.Rules.{group}
use Rattle.order.proofs.CountLaws as by_number
use Rattle.order.proofs.WalkLaws.{along, walk, number_group, walk_groups}
use Rattle.rules.proofs.RuleLaws.{fit_record}

-- Counting distinct slots ------------------------------------------------------------------------------------------

-- A test may change where no member is.
pub count_ext : (p q : Slot → Bool) (l : List Slot) → ((s : Slot) → mem s l ≡ true → p s ≡ q s) → count_distinct p l ≡ count_distinct q l
unfolding count_distinct mem
count_ext p q [] h = refl
count_ext p q (t ∷ l) h =
    let e : p t ≡ q t = h t (rw (slot_eqb_refl t)) in
    let ih : count_distinct p l ≡ count_distinct q l = count_ext p q l (λ s m. h s (or_right (slot_eqb t s) (mem s l) m)) in
    rw (e, ih)

-- Lists with the same members.
pub count_mems : (p : Slot → Bool) (xs ys : List Slot) → ((s : Slot) → mem s xs ≡ mem s ys) → count_distinct p xs ≡ count_distinct p ys
count_mems p xs ys h =
    let q : Slot → Bool = λ s. p s && mem s xs in
    count_ext p q xs (λ s m. sym (ap (λ (k : Bool). p s && k) m ∙ and_true (p s)))
    ∙ count_same q xs ys (λ s e. and_right (p s) (mem s xs) e) (λ s e. sym (h s) ∙ and_right (p s) (mem s xs) e)
    ∙ count_ext q p ys (λ s m. ap (λ (k : Bool). p s && k) (h s ∙ m) ∙ and_true (p s))

-- Slots by their numbers ---------------------------------------------------------------------------------------------

-- The words of every slot of a list are below 2^64.
pub data AllFit : List Slot → Type 0 where
  fit_none : AllFit []
  fit_more : {s : Slot} {l : List Slot} → Fit (slot_words s) → AllFit l → AllFit (s ∷ l)

pub fit_member : (s : Slot) (l : List Slot) → AllFit l → mem s l ≡ true → Fit (slot_words s)
unfolding mem
fit_member s [] f m = not_both m refl
fit_member s (t ∷ l) (fit_more p f) m = split (slot_eqb t s) (λ e. subst (λ (u : Slot). Fit (slot_words u)) (slot_eqb_true t s e) p) (λ e. fit_member s l f (rw e at m))

pub mem_number : (s : Slot) (l : List Slot) → Fit (slot_words s) → AllFit l → mem s l ≡ by_number.mem (slot_number s) (map slot_number l)
unfolding mem by_number.mem
mem_number s [] p f = refl
mem_number s (t ∷ l) p (fit_more q f) = rw (slot_eqb_number t s q p, mem_number s l p f)

count_numbers : (p : ℕ → Bool) (l : List Slot) → AllFit l → by_number.count p (map slot_number l) ≡ count_distinct (λ s. p (slot_number s)) l
unfolding count_distinct by_number.count
count_numbers p [] f = refl
count_numbers p (t ∷ l) (fit_more q f) = rw (← mem_number t l q f, count_numbers p l f)

-- Records -----------------------------------------------------------------------------------------------------------

pub numbers_are : (rs : Layer) → map number_of rs ≡ map slot_number (slots rs)
unfolding slots
numbers_are [] = refl
numbers_are (r ∷ rs) = ap (λ (l : List ℕ). number_of r ∷ l) (numbers_are rs)

-- A slot's records are those of its number.
pub group_number : (s : Slot) (rs : Layer) → Fit (slot_words s) → AllFit (slots rs) → number_group (slot_number s) rs ≡ group s rs
unfolding group number_group slots
group_number s [] p f = refl
group_number s (r ∷ rs) p (fit_more q f) = rw (slot_eqb_number r.slot s q p, group_number s rs p f)

fits_from : (rs : Layer) → ((k : ℕ) → k < length rs → Fit (slot_words (get_or rs k no_record).slot)) → AllFit (slots rs)
unfolding slots
fits_from [] f = fit_none
fits_from (r ∷ rs) f = fit_more (f 0 (omega arith)) (fits_from rs (λ k h. f (suc k) (omega arith)))

pub records_fit : (n : ℕ) (s : List ℕ) → Bytes s → n * record_size ≤ length s → AllFit (slots (records_of n s))
records_fit n s b h =
    let l : length (records_of n s) ≡ n = length_records_of n s in
    fits_from (records_of n s) (λ k g. let i : k < n = omega arith in rw (record_at n k s i) (fit_record k s b (omega arith)))

-- THE LAW: a walk over an index counts the distinct slots whose records, as they stand, pass.
pub walk_slots : {A : Type 0} (g : A → Record → A) (z : A) (t : A → Bool) (p : Slot → Bool) (n : ℕ) (s ix : List ℕ) → Bytes s → n * record_size ≤ length s → Ordered (numbers n s) (up_from 0 n) ix
    → ((u : Slot) → mem u (slots (records_of n s)) ≡ true → t (along g z (group u (records_of n s))) ≡ p u)
    → walk (λ a i. g a (get_or (records_of n s) i no_record)) z t (numbers n s) z ix ≡ count_distinct p (slots (records_of n s))
unfolding numbers
walk_slots g z t p n s ix b h o q =
    let rs : Layer = records_of n s in
    let f : AllFit (slots rs) = records_fit n s b h in
    let T : ℕ → Bool = λ v. t (along g z (number_group v rs)) in
    walk_groups g z t rs ix (subst (λ (k : ℕ). Ordered (map number_of rs) (up_from 0 k) ix) (sym (length_records_of n s)) o)
    ∙ ap (by_number.count T) (numbers_are rs) ∙ count_numbers T (slots rs) f
    ∙ count_ext (λ u. T (slot_number u)) p (slots rs) (λ u m. ap (λ (l : Layer). t (along g z l)) (group_number u rs (fit_member u (slots rs) f m) f) ∙ q u m)
