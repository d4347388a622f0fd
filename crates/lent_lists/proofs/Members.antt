-- The members of a list, and as entries of a lent answer. Assumes nothing.
use Rattle.std.specs.Prelude.{None, Option, Some}
use mathlib.Core.Path.{◌≡◌, refl, sym, ap, ap₂, ◌∙◌}
use mathlib.Core.Bool.{Bool, true, false, cond}
use mathlib.Core.List.{List, [], ◌∷◌, ◌++◌, map, append_assoc, append-nil}
use Prim.Native.Nat.{ℕ, zero, suc, ◌+◌, ◌-◌, ◌*◌, ◌/◌, ◌≤◌, ◌<◌}
use native.Mathlib.Nat.{le-div_iff_mul-le, sub-zero}
use native.Mathlib.Numerals.{add-one}
use native.Mathlib.Omega.{arith}
use lib.Dec.{eqb, leb, ltb}
use lib.ListN.{length, take, drop, get_or, set, length-drop, length-set}
use lib.Seq.{take-take, drop-drop, take_at, drop_at, length-take-le, take-set-le, drop-set-add, get_or-set_same, get_or-take, get_or-drop}
use borrow.Author.Tests.{leb-true, eq-eqb, ne_eqb}
use Rattle.model.specs.declared.storage_memo.U256.{U256}
use Rattle.model.specs.Numbers.{num}
use Rattle.model.specs.Reads.{Member}
use Rattle.model.specs.Entries as lent
use Rattle.model.specs.Entries.{number_at, u256_at, slot_of, chunks, members_of}
use Rattle.words.specs.Parts.{part, placed}
use Rattle.words.proofs.Places.{placed_length}
use Rattle.call_list.specs.CallList.{Parsed, parsed, fault, then, parse_bytes, parse_form, parse_u256, parse_slot, parse_outcome, parse_member}
use Rattle.reader.specs.declared.Span.{Span}
use Rattle.reader.specs.Answers.{member_size, member_of, members, past_members, members_at}
use Rattle.reader.proofs.Runs.{members_turn}
use Rattle.lent_lists.specs.Members.{MembersThere, PutMember}
use Rattle.lent_lists.proofs.Entries.{chunks_snoc, chunks_lent}

-- What was read lies within the list ----------------------------------------------------------------------

-- What was read after another was read from the bytes that the other left.
then_read : {A B P : Type 0} (p : Parsed A) (f : A → List ℕ → Parsed B) (b : B) (r : List ℕ) → then p f ≡ parsed b r → ((a : A) (q : List ℕ) → p ≡ parsed a q → f a q ≡ parsed b r → P) → P
then_read (parsed a q) f b r e go = go a q refl e
then_read (fault n q) f b r e go = let z : ◌≡◌ {A = ℕ} 0 1 = cc in absurd (omega arith)

bytes_read : (n : ℕ) (l b r : List ℕ) → parse_bytes n l ≡ parsed b r → (n ≤ length l) × (r ≡ drop n l)
bytes_read n l b r e = by (leb n (length l)) refl e
  where
    by : (k : Bool) → leb n (length l) ≡ k → cond k (parsed (take n l) (drop n l)) (fault 5 []) ≡ parsed b r → (n ≤ length l) × (r ≡ drop n l)
    by true t g = (leb-true n (length l) t, cc)
    by false t g = let z : ◌≡◌ {A = ℕ} 0 1 = cc in absurd (omega arith)

-- n bytes that stand for something.
fixed_read : {A : Type 0} (f : List ℕ → A) (n : ℕ) (l : List ℕ) (a : A) (r : List ℕ) → then (parse_bytes n l) (λ b q. parsed (f b) q) ≡ parsed a r → (n ≤ length l) × (r ≡ drop n l)
fixed_read f n l a r e =
    then_read (parse_bytes n l) (λ b q. parsed (f b) q) a r e
    (λ b q d g.
    let h = bytes_read n l b q d in
    let s : q ≡ r = cc in
    (h.0, sym s ∙ h.1))

form_read : (l : List ℕ) (f : Bool) (r : List ℕ) → parse_form l ≡ parsed f r → (1 ≤ length l) × (f ≡ eqb (get_or l 0 0) 1) × (r ≡ drop 1 l)
unfolding parse_form
form_read [] f r e = let z : ◌≡◌ {A = ℕ} 0 1 = cc in absurd (omega arith)
form_read (b ∷ l) f r e = by (ltb 1 b) e
  where
    by : (k : Bool) → cond k (fault 3 (b ∷ l)) (parsed (eqb b 1) l) ≡ parsed f r → (1 ≤ length (b ∷ l)) × (f ≡ eqb b 1) × (r ≡ l)
    by true g = let z : ◌≡◌ {A = ℕ} 0 1 = cc in absurd (omega arith)
    by false g = (omega arith, cc, cc)

outcome_read : (f : Bool) (l : List ℕ) (o : Option U256) (r : List ℕ) → parse_outcome f l ≡ parsed o r → (cond f 32 0 ≤ length l) × (r ≡ drop (cond f 32 0) l)
outcome_read false l o r e = (omega arith, cc)
outcome_read true l o r e =
    then_read (parse_u256 l) (λ v q. parsed (Some v) q) o r e
    (λ v q d g.
    let h = fixed_read (u256_at 0) 32 l v q d in
    let s : q ≡ r = cc in
    (h.0, sym s ∙ h.1))

size_is : (k : Bool) → 53 + cond k 32 0 ≡ cond k 85 53
size_is true = refl
size_is false = refl

member_read : (l : List ℕ) (m : Member) (r : List ℕ) → parse_member l ≡ parsed m r → (member_size l ≤ length l) × (r ≡ drop (member_size l) l)
member_read l m r e =
    then_read (parse_slot l) _ m r e
    (λ s q1 d1 e1.
    then_read (parse_form q1) _ m r e1
    (λ f q2 d2 e2.
    then_read (parse_outcome f q2) _ m r e2
    (λ o q3 d3 e3.
    let h1 = fixed_read slot_of 52 l s q1 d1 in
    let h2 = form_read q1 f q2 d2 in
    let h3 = outcome_read f q2 o q3 d3 in
    let b : f ≡ eqb (get_or l 52 0) 1 = h2.1 ∙ ap (λ (x : List ℕ). eqb (get_or x 0 0) 1) h1.1 ∙ ap (λ (x : ℕ). eqb x 1) (get_or-drop 52 l 0 0) in
    let n : 53 + cond f 32 0 ≡ member_size l = size_is f ∙ ap (λ (x : Bool). cond x 85 53) b in
    let q : q2 ≡ drop 53 l = h2.2 ∙ ap (drop 1) h1.1 ∙ drop-drop 1 52 l in
    let k1 : length q1 ≡ length l - 52 = ap length h1.1 ∙ length-drop 52 l in
    let k2 : length q2 ≡ length l - 53 = ap length q ∙ length-drop 53 l in
    let g : q3 ≡ r = cc in
    (omega (arith, h1.0, h2.0, h3.0), sym g ∙ h3.1 ∙ ap (drop (cond f 32 0)) q ∙ drop-drop (cond f 32 0) 53 l ∙ ap (λ (i : ℕ). drop i l) n))))

size_least : (l : List ℕ) → 53 ≤ member_size l
size_least l = by (eqb (get_or l 52 0) 1)
  where
    by : (k : Bool) → 53 ≤ cond k 85 53
    by true = omega arith
    by false = omega arith

-- The first of n members, and those after it.
past_first : (n : ℕ) (l r : List ℕ) → past_members (suc n) l ≡ parsed 0 r → (member_size l ≤ length l) × (past_members n (drop (member_size l) l) ≡ parsed 0 r)
unfolding past_members
past_first n l r e =
    then_read (parse_member l) (λ m q. past_members n q) 0 r e
    (λ m q d g.
    let h = member_read l m q d in
    (h.0, ap (past_members n) (sym h.1) ∙ g))

-- A member has at least 53 bytes.
past_fits : (n : ℕ) (l r : List ℕ) → past_members n l ≡ parsed 0 r → n * 53 ≤ length l
past_fits zero l r e = omega arith
past_fits (suc n) l r e =
    let h = past_first n l r e in
    omega (arith, h.0, size_least l, length-drop (member_size l) l, past_fits n (drop (member_size l) l) r h.1)

-- One member put -----------------------------------------------------------------------------------------

pub part_fits : (l : List ℕ) (at : ℕ) → at + member_size (drop at l) ≤ length l → at + 53 ≤ length l
part_fits l at h = omega (arith, size_least (drop at l))

-- The mark at a place tells the member's size.
module _ (l : List ℕ) (at : ℕ) where
  mark_is : get_or (drop at l) 52 0 ≡ get_or l (at + 52) 0
  mark_is = get_or-drop at l 52 0

  valued : get_or l (at + 52) 0 ≡ 1 → eqb (get_or (drop at l) 52 0) 1 ≡ true
  valued e = eq-eqb (get_or (drop at l) 52 0) 1 (mark_is ∙ e)

  refused : (get_or l (at + 52) 0 ≡ 1 → ⊥) → eqb (get_or (drop at l) 52 0) 1 ≡ false
  refused e = ne_eqb (get_or (drop at l) 52 0) 1 (λ g. e (sym mark_is ∙ g))

  pub valued_size : get_or l (at + 52) 0 ≡ 1 → member_size (drop at l) ≡ 85
  valued_size e = ap (λ (b : Bool). cond b 85 53) (valued e)

  refused_size : (get_or l (at + 52) 0 ≡ 1 → ⊥) → member_size (drop at l) ≡ 53
  refused_size e = ap (λ (b : Bool). cond b 85 53) (refused e)

-- A part of a part.
part_take : (i n w : ℕ) (b : List ℕ) → i + n ≤ w → take n (drop i (take w b)) ≡ take n (drop i b)
part_take zero n w b h = take-take n w b (omega arith)
part_take (suc i) n zero b h = absurd (omega arith)
part_take (suc i) n (suc w) [] h = refl
part_take (suc i) n (suc w) (x ∷ b) h = part_take i n w b (omega arith)

-- A slot takes the first 52 bytes.
slot_of_take : (b : List ℕ) → slot_of (take 52 b) ≡ slot_of b
slot_of_take b =
    let p : (i n : ℕ) → i + n ≤ 52 → number_at i n (take 52 b) ≡ number_at i n b = λ i n k. ap num (part_take i n 52 b k) in
    λ j. record {
      address = record { w0 = p 0 4 (omega arith) j; w1 = p 4 8 (omega arith) j; w2 = p 12 8 (omega arith) j };
      index = record { w0 = p 20 8 (omega arith) j; w1 = p 28 8 (omega arith) j; w2 = p 36 8 (omega arith) j; w3 = p 44 8 (omega arith) j };
    }

-- The value of an entry.
value_is : (d : List ℕ) → u256_at 53 (take 85 d) ≡ u256_at 0 (take 32 (drop 53 d))
value_is d =
    let f : (k : ℕ) → k + 8 ≤ 32 → number_at (53 + k) 8 (take 85 d) ≡ number_at k 8 (take 32 (drop 53 d)) =
    λ k h. ap num (part_take (53 + k) 8 85 d (omega arith) ∙ ap (take 8) (sym (drop-drop k 53 d)) ∙ sym (part_take k 8 32 (drop 53 d) h)) in
    λ j. record { w0 = f 0 (omega arith) j; w1 = f 8 (omega arith) j; w2 = f 16 (omega arith) j; w3 = f 24 (omega arith) j }

-- An entry with a value, and one that is refused.
valued_entry : (d : List ℕ) → eqb (get_or d 52 0) 1 ≡ true → get_or d 52 0 ≡ 1 → lent.member_of (take 85 d) ≡ member_of d
valued_entry d t e =
    let s : slot_of (take 85 d) ≡ slot_of (take 52 d) = sym (slot_of_take (take 85 d)) ∙ ap slot_of (take-take 52 85 d (omega arith)) in
    let m : get_or (take 85 d) 52 0 ≡ 1 = get_or-take 85 d 52 0 (omega arith) ∙ e in
    let o : ◌≡◌ {A = Option U256} (cond (eqb (get_or (take 85 d) 52 0) 0) None (Some (u256_at 53 (take 85 d)))) (cond (eqb (get_or d 52 0) 1) (Some (u256_at 0 (take 32 (drop 53 d)))) None) =
    ap₂ (λ (n : ℕ) (v : U256). cond (eqb n 0) None (Some v)) m (value_is d) ∙ sym (ap (λ (b : Bool). cond b (Some (u256_at 0 (take 32 (drop 53 d)))) None) t) in
    λ j. record { slot = s j; outcome = o j }

refused_entry : (b d : List ℕ) → eqb (get_or d 52 0) 1 ≡ false → get_or b 52 0 ≡ 0 → take 52 b ≡ take 52 d → lent.member_of b ≡ member_of d
refused_entry b d t e g =
    let s : slot_of b ≡ slot_of (take 52 d) = sym (slot_of_take b) ∙ ap slot_of g in
    let o : ◌≡◌ {A = Option U256} (cond (eqb (get_or b 52 0) 0) None (Some (u256_at 53 b))) (cond (eqb (get_or d 52 0) 1) (Some (u256_at 0 (take 32 (drop 53 d)))) None) =
    ap (λ (n : ℕ). cond (eqb n 0) None (Some (u256_at 53 b))) e ∙ sym (ap (λ (x : Bool). cond x (Some (u256_at 0 (take 32 (drop 53 d)))) None) t) in
    λ j. record { slot = s j; outcome = o j }

-- What was placed, and what stands before it.
module _ (at : ℕ) (v s : List ℕ) (h : at + length v ≤ length s) where
  placed_before : take at (placed at v s) ≡ take at s
  placed_before =
      ap (take at) (append_assoc (take at s) v (drop (at + length v) s))
      ∙ take_at (take at s) (v ++ drop (at + length v) s) at (length-take-le at s (omega arith))

  placed_there : (n : ℕ) → length v ≡ n → part at n (placed at v s) ≡ v
  placed_there n e =
      ap (λ (x : List ℕ). part at n x) (append_assoc (take at s) v (drop (at + length v) s))
      ∙ ap (take n) (drop_at (take at s) (v ++ drop (at + length v) s) at (length-take-le at s (omega arith)))
      ∙ take_at v (drop (at + length v) s) n e

module _ (l : List ℕ) (at : ℕ) (before : List ℕ) (k : ℕ) (room : k * 85 + 85 ≤ length before) where
  pub put_valued : (n : ℕ) (after : List ℕ) → at + member_size (drop at l) ≤ length l → get_or l (at + 52) 0 ≡ 1 → n ≡ 85 → after ≡ placed (k * 85) (part at n l) before → PutMember (at + 85) after l at before k
  put_valued n after fits e m g =
      let v : List ℕ = part at n l in
      let z : member_size (drop at l) ≡ 85 = valued_size l at e in
      let d : length (drop at l) ≡ length l - at = length-drop at l in
      let y : length v ≡ 85 = length-take-le n (drop at l) (omega arith) ∙ m in
      let w : k * 85 + length v ≤ length before = omega arith in
      record {
        next_is = ap (λ (x : ℕ). at + x) (sym z);
        same_length = ap length g ∙ placed_length (k * 85) v before w;
        before_is = ap (take (k * 85)) g ∙ placed_before (k * 85) v before w;
        member_is =
            ap (λ (x : List ℕ). lent.member_of (part (k * 85) 85 x)) g ∙ ap lent.member_of (placed_there (k * 85) v before w 85 y)
            ∙ ap (λ (x : ℕ). lent.member_of (part at x l)) m ∙ valued_entry (drop at l) (valued l at e) (mark_is l at ∙ e);
      }

  pub put_refused : (n : ℕ) (placing after : List ℕ) → at + 53 ≤ length l → (get_or l (at + 52) 0 ≡ 1 → ⊥) → n ≡ 52 → placing ≡ placed (k * 85) (part at n l) before → after ≡ set placing (k * 85 + 52) 0
      → PutMember (at + 53) after l at before k
  put_refused n placing after fits e m p g =
      let v : List ℕ = part at n l in
      let z : member_size (drop at l) ≡ 53 = refused_size l at e in
      let d : length (drop at l) ≡ length l - at = length-drop at l in
      let y : length v ≡ 52 = length-take-le n (drop at l) (omega arith) ∙ m in
      let w : k * 85 + length v ≤ length before = omega arith in
      let q : length placing ≡ length before = ap length p ∙ placed_length (k * 85) v before w in
      let x : List ℕ = drop (k * 85) placing in
      let t : length x ≡ length placing - k * 85 = length-drop (k * 85) placing in
      let a : part (k * 85) 85 after ≡ take 85 (set x 52 0) = ap (λ (b : List ℕ). part (k * 85) 85 b) g ∙ ap (take 85) (drop-set-add (k * 85) placing 52 0) in
      let mark : get_or (take 85 (set x 52 0)) 52 0 ≡ 0 = get_or-take 85 (set x 52 0) 52 0 (omega arith) ∙ get_or-set_same x 52 0 0 (omega arith) in
      let slot : take 52 (take 85 (set x 52 0)) ≡ take 52 (drop at l) =
      take-take 52 85 (set x 52 0) (omega arith) ∙ take-set-le 52 x 52 0 (omega arith) ∙ ap (λ (b : List ℕ). part (k * 85) 52 b) p
      ∙ placed_there (k * 85) v before w 52 y ∙ ap (λ (i : ℕ). part at i l) m in
      record {
        next_is = ap (λ (x : ℕ). at + x) (sym z);
        same_length = ap length g ∙ length-set placing (k * 85 + 52) 0 ∙ q;
        before_is = ap (take (k * 85)) g ∙ take-set-le (k * 85) placing (k * 85 + 52) 0 (omega arith) ∙ ap (take (k * 85)) p ∙ placed_before (k * 85) v before w;
        member_is = ap lent.member_of a ∙ refused_entry (take 85 (set x 52 0)) (drop at l) (refused l at e) mark slot;
      }

-- Along the members --------------------------------------------------------------------------------------

-- The first k entries of a lent answer, and one more.
first_members : (k : ℕ) (b : List ℕ) → k * 85 ≤ length b → members_of (take (k * 85) b) ≡ map lent.member_of (chunks 85 k b)
unfolding members_of
first_members k b h = ap (map lent.member_of) (chunks_lent 85 k b (omega arith) h)

map_snoc : (c : List (List ℕ)) (x : List ℕ) → map lent.member_of (c ++ (x ∷ [])) ≡ map lent.member_of c ++ (lent.member_of x ∷ [])
map_snoc [] x = refl
map_snoc (y ∷ c) x = ap (λ (m : List Member). lent.member_of y ∷ m) (map_snoc c x)

one_more : (k : ℕ) (b : List ℕ) → k * 85 + 85 ≤ length b → members_of (take ((k + 1) * 85) b) ≡ members_of (take (k * 85) b) ++ (lent.member_of (part (k * 85) 85 b) ∷ [])
one_more k b h =
    first_members (k + 1) b (omega arith) ∙ ap (λ (n : ℕ). map lent.member_of (chunks 85 n b)) (add-one k)
    ∙ ap (map lent.member_of) (chunks_snoc 85 k b) ∙ map_snoc (chunks 85 k b) (part (k * 85) 85 b)
    ∙ ap (λ (m : List Member). m ++ (lent.member_of (part (k * 85) 85 b) ∷ [])) (sym (first_members k b (omega arith)))

-- The first k members are put, and the next is at a place: those that are left give the whole.
pub record Putting (l : List ℕ) (p : Span) (out : List ℕ) (at k : ℕ) : Type 0 where
  pub few : k ≤ p.count
  pub within : at ≤ length l
  pub next : ℕ
  pub left : past_members (p.count - k) (drop at l) ≡ parsed 0 (drop next l)
  pub members_are : members_of (take (k * 85) out) ++ members (p.count - k) (drop at l) ≡ members_at l p

pub putting_start : (l : List ℕ) (p : Span) (out : List ℕ) → MembersThere l p → Putting l p out p.start 0
unfolding members_of chunks
putting_start l p out h =
    record {
      few = omega arith;
      within = h.within.0;
      next = h.next;
      left = ap (λ (n : ℕ). past_members n (drop p.start l)) (sub-zero p.count) ∙ h.within.1;
      members_are = ap (λ (n : ℕ). members n (drop p.start l)) (sub-zero p.count);
    }

-- There is room for every member.
pub room_for : (l : List ℕ) (p : Span) (n : ℕ) → MembersThere l p → length l / 53 * 85 ≤ n → p.count * 85 ≤ n
room_for l p n h r =
    let f : p.count * 53 ≤ length l = omega (arith, past_fits p.count (drop p.start l) _ h.within.1, length-drop p.start l) in
    let d : p.count ≤ length l / 53 = (le-div_iff_mul-le {k = 53} {x = p.count} {y = length l} (omega arith)).1 f in
    omega arith

module _ (l : List ℕ) (p : Span) (out : List ℕ) (at k : ℕ) (h : Putting l p out at k) where
  turn : k < p.count → p.count - k ≡ suc (p.count - (k + 1))
  turn b = omega arith

  first : k < p.count → (member_size (drop at l) ≤ length (drop at l)) × (past_members (p.count - (k + 1)) (drop (member_size (drop at l)) (drop at l)) ≡ parsed 0 (drop h.next l))
  first b = past_first (p.count - (k + 1)) (drop at l) (drop h.next l) (sym (ap (λ (n : ℕ). past_members n (drop at l)) (turn b)) ∙ h.left)

  pub member_there : k < p.count → at + member_size (drop at l) ≤ length l
  member_there b = omega (arith, h.within, (first b).0, length-drop at l)

  pub putting_next : (r : ℕ) (after : List ℕ) → k < p.count → k * 85 + 85 ≤ length out → PutMember r after l at out k → Putting l p after r (k + 1)
  putting_next r after b room m =
      let s : ℕ = member_size (drop at l) in
      let e : drop s (drop at l) ≡ drop r l = drop-drop s at l ∙ ap (λ (i : ℕ). drop i l) (sym m.next_is) in
      let j : ℕ = p.count - (k + 1) in
      let w : k * 85 + 85 ≤ length after = omega (arith, m.same_length) in
      let x : Member = member_of (drop at l) in
      let here : members (p.count - k) (drop at l) ≡ x ∷ members j (drop r l) =
      members_turn (p.count - k) j at l (turn b) ∙ ap (λ (i : ℕ). x ∷ members j (drop i l)) (sym m.next_is) in
      let done : members_of (take ((k + 1) * 85) after) ≡ members_of (take (k * 85) out) ++ (x ∷ []) =
      one_more k after w ∙ ap₂ (λ (y : List ℕ) (z : Member). members_of y ++ (z ∷ [])) m.before_is m.member_is in
      record {
        few = omega arith;
        within = omega (arith, m.next_is, member_there b);
        next = h.next;
        left = ap (past_members j) (sym e) ∙ (first b).1;
        members_are =
            ap (λ (y : List Member). y ++ members j (drop r l)) done ∙ append_assoc (members_of (take (k * 85) out)) (x ∷ []) (members j (drop r l))
            ∙ ap (λ (y : List Member). members_of (take (k * 85) out) ++ y) (sym here) ∙ h.members_are;
      }

  pub putting_end : p.count ≤ k → members_of (take (p.count * 85) out) ≡ members_at l p
  unfolding members
  putting_end b =
      let e : k ≡ p.count = omega (arith, h.few) in
      let z : p.count - k ≡ 0 = omega arith in
      sym (append-nil (members_of (take (p.count * 85) out)))
      ∙ ap₂ (λ (i n : ℕ). members_of (take (i * 85) out) ++ members n (drop at l)) (sym e) (sym z) ∙ h.members_are
