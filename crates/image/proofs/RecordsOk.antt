-- Each change of a generation's records keeps them right.
use Rattle.std.specs.Prelude.{None, Option, Some}
use Rattle.std.proofs.lemmas.Option.{none-some, same_Some}
use Prim.Native.Nat.{ℕ, zero, suc}
use mathlib.Core.Path.{◌≡◌, refl, ap, ◌∙◌}
use mathlib.Core.Bool.{Bool, true, false, ◌&&◌, cond}
use mathlib.Core.List.{List, [], ◌∷◌}
use lib.ListN.{drop}
use borrow.Author.Tests.{le-leb}
use Rattle.model.specs.declared.storage_memo.Address.{Address}
use Rattle.model.specs.declared.delta_snapshot.Slot.{Slot}
use Rattle.model.specs.declared.delta_snapshot.Retention.{Retention}
use Rattle.model.specs.Slots.{Value, LastUse, slot_eqb, slot_ltb, serves, fits_64, u256_fits}
use Rattle.model.specs.declared.delta_snapshot.Content.{Content}
use Rattle.model.specs.Contents.{use_of, last_use_of, max_option, valued, valued_use, touch, value_fits, content_fits, content_ok, top_content_ok}
use Rattle.model.specs.Layers.{LayerOf, Layer, find, insert, held_value, freshest_use, resolved_through_policy, all_slots}
use Rattle.model.specs.Advance.{Write, apply_write, write_kind, unserved_kind, final_write_kind, relevant, seed_final_writes, compact_slots, compact_slot, compact, compact_if, is_void, seal}
use Rattle.model.specs.Reads.{Member, settle_outcome, settle_members}
use Rattle.image.specs.WellFormed.{slot_fits, every, rising_from, rising, chain_ok}
use Rattle.image.specs.Claims.{writes_fit, members_fit}
use Rattle.model.proofs.SlotLaws.{split, and_left, and_right, and_intro, slot_eqb_true, slot_ltb_total}
use Rattle.model.proofs.ContentLaws.{content_parts, use_over_all, content_fits_valued, content_fits_touch, content_ok_later, UseWithValue, neither, both, Holds, use_with_value_at, content_ok_settle, content_ok_overwrite, content_ok_touch, content_ok_compact, content_ok_again}
use Rattle.model.proofs.LayerLaws.{find_compact, freshest_use_void, held_value_void}

-- The tests of a record: over the layers below; of its numbers; in the top, over the base.
abbrev pub right_over : ℕ → List Layer → Slot → Content → Bool
right_over n b s c = content_ok n (held_value s b) (freshest_use s b) c

abbrev pub record_fits : Slot → Content → Bool
record_fits s c = slot_fits s && content_fits c

abbrev pub serves_over : Retention → ℕ → List Layer → Slot → Content → Bool
serves_over R n b s c = top_content_ok R n (freshest_use s b) c

-- Inserts -------------------------------------------------------------------------------------------

rising_insert_from : {A : Type 0} (a s : Slot) (c : A) (l : LayerOf A) → slot_ltb a s ≡ true → rising_from a l ≡ true → rising_from a (insert s c l) ≡ true
unfolding rising_from insert
rising_insert_from a s c [] h e = rw h
rising_insert_from a s c (r ∷ l) h e =
    let p : slot_ltb a r.slot ≡ true = and_left (slot_ltb a r.slot) _ e in
    let q : rising_from r.slot l ≡ true = and_right (slot_ltb a r.slot) _ e in
    split (slot_eqb r.slot s)
    (λ y. rw (y, h) (rw (slot_eqb_true r.slot s y) at q))
    (λ y. rw y (split (slot_ltb s r.slot)
    (λ z. rw (z, h, z, q))
    (λ z. rw (z, p) (rising_insert_from r.slot s c l (slot_ltb_total r.slot s y z) q))))

pub rising_insert : {A : Type 0} (s : Slot) (c : A) (l : LayerOf A) → rising l ≡ true → rising (insert s c l) ≡ true
unfolding rising_from insert
rising_insert s c [] e = refl
rising_insert s c (r ∷ l) q =
    split (slot_eqb r.slot s)
    (λ y. rw y (rw (slot_eqb_true r.slot s y) at q))
    (λ y. rw y (split (slot_ltb s r.slot)
    (λ z. rw (z, z, q))
    (λ z. rw z (rising_insert_from r.slot s c l (slot_ltb_total r.slot s y z) q))))

every_insert : {A : Type 0} (p : Slot → A → Bool) (s : Slot) (c : A) (l : LayerOf A) → p s c ≡ true → every p l ≡ true → every p (insert s c l) ≡ true
unfolding every insert
every_insert p s c [] h e = rw h
every_insert p s c (r ∷ l) h e =
    let a : p r.slot r.content ≡ true = and_left (p r.slot r.content) _ e in
    let b : every p l ≡ true = and_right (p r.slot r.content) _ e in
    split (slot_eqb r.slot s)
    (λ y. rw (y, h) b)
    (λ y. rw y (split (slot_ltb s r.slot) (λ z. rw (z, h, a) b) (λ z. rw (z, a) (every_insert p s c l h b))))

every_implies : {A : Type 0} (p q : Slot → A → Bool) (l : LayerOf A) → ((s : Slot) (c : A) → p s c ≡ true → q s c ≡ true) → every p l ≡ true → every q l ≡ true
unfolding every
every_implies p q [] f e = refl
every_implies p q (r ∷ l) f e =
    let x : Bool = p r.slot r.content in
    rw (f r.slot r.content (and_left x _ e)) (every_implies p q l f (and_right x _ e))

every_and : {A : Type 0} (p q : Slot → A → Bool) (l : LayerOf A) → every p l ≡ true → every q l ≡ true → every (λ s c. p s c && q s c) l ≡ true
unfolding every
every_and p q [] d e = refl
every_and p q (r ∷ l) d e =
    let x : Bool = p r.slot r.content in
    let y : Bool = q r.slot r.content in
    rw (and_left x _ d, and_left y _ e) (every_and p q l (and_right x _ d) (and_right y _ e))

find_every : {A : Type 0} (p : Slot → A → Bool) (s : Slot) (l : LayerOf A) (c : A) → every p l ≡ true → find s l ≡ Some c → p s c ≡ true
unfolding every find
find_every p s [] c e f = absurd (none-some c f)
find_every p s (r ∷ l) c e f =
    let x : Bool = p r.slot r.content in
    split (slot_eqb r.slot s)
    (λ y. let q : r.content ≡ c = same_Some r.content c (rw y at f) in
    rw (slot_eqb_true r.slot s y, q) at (and_left x _ e))
    (λ y. find_every p s l c (and_right x _ e) (rw y at f))

-- A chain's slots -----------------------------------------------------------------------------------

-- The parts of a right chain: its first layer, and the layers below.
pub record LayerOk (n : ℕ) (l : Layer) (ls : List Layer) : Type 0 where
  pub sorted : rising l ≡ true
  pub contents_ok : every (right_over n ls) l ≡ true
  pub records_fit : every record_fits l ≡ true
  pub below_ok : chain_ok n ls ≡ true

-- From the test to its parts, and back.
pub layer_ok : (n : ℕ) (l : Layer) (ls : List Layer) → chain_ok n (l ∷ ls) ≡ true → LayerOk n l ls
unfolding chain_ok
layer_ok n l ls e =
    let x : Bool = rising l in
    let y : Bool = every (right_over n ls) l in
    let z : Bool = every record_fits l in
    record { sorted = and_left x _ e; contents_ok = and_left y _ (and_right x _ e); records_fit = and_left z _ (and_right y _ (and_right x _ e)); below_ok = and_right z _ (and_right y _ (and_right x _ e)) }

pub chain_ok_layer : (n : ℕ) (l : Layer) (ls : List Layer) → LayerOk n l ls → chain_ok n (l ∷ ls) ≡ true
unfolding chain_ok
chain_ok_layer n l ls k = rw (k.sorted, k.contents_ok, k.records_fit, k.below_ok)

-- A slot's last use does not fall from a layer to the next above: the highest record has the freshest use.
pub highest_is_freshest : (n : ℕ) (l : Layer) (ls : List Layer) (s : Slot) (c : Content) → chain_ok n (l ∷ ls) ≡ true → find s l ≡ Some c → freshest_use s (l ∷ ls) ≡ Some (use_of c)
unfolding freshest_use
highest_is_freshest n l ls s c e q =
    ap (λ (t : Option Content). max_option (last_use_of t) (freshest_use s ls)) q
    ∙ use_over_all n (held_value s ls) (freshest_use s ls) c (find_every (right_over n ls) s l c (layer_ok n l ls e).contents_ok q)

-- The lowest layers of a right chain are a right chain.
pub chain_ok_drop : (n i : ℕ) (ls : List Layer) → chain_ok n ls ≡ true → chain_ok n (drop i ls) ≡ true
chain_ok_drop n zero ls e = e
chain_ok_drop n (suc i) [] e = e
chain_ok_drop n (suc i) (l ∷ ls) e = chain_ok_drop n i ls (layer_ok n l ls e).below_ok

use_with_value : (n : ℕ) (b : List Layer) → chain_ok n b ≡ true → (s : Slot) → UseWithValue n (slot_fits s) (freshest_use s b) (held_value s b)
unfolding freshest_use held_value
use_with_value n [] e s = neither
use_with_value n (l ∷ ls) e s =
    let k : LayerOk n l ls = layer_ok n l ls e in
    use_with_value_at (find s l) (use_with_value n ls k.below_ok s) (λ c. find_every (right_over n ls) s l c k.contents_ok) (λ c. find_every record_fits s l c k.records_fit)

-- The top -------------------------------------------------------------------------------------------

-- The top is right over its base.
pub record TopOk (R : Retention) (n : ℕ) (b : List Layer) (l : Layer) : Type 0 where
  pub chain_right : LayerOk n l b
  pub uses_served : every (serves_over R n b) l ≡ true

pub top_ok_empty : (R : Retention) (n : ℕ) (b : List Layer) → chain_ok n b ≡ true → TopOk R n b []
unfolding every
top_ok_empty R n b k = record { chain_right = record { sorted = refl; contents_ok = refl; records_fit = refl; below_ok = k }; uses_served = refl }

module _ {R : Retention} {n : ℕ} {b : List Layer} (l : Layer) (t : TopOk R n b l) where
  top_ok_insert : (s : Slot) (c : Content) → right_over n b s c ≡ true → record_fits s c ≡ true → serves_over R n b s c ≡ true → TopOk R n b (insert s c l)
  top_ok_insert s c p f q = record {
    chain_right = record {
      sorted = rising_insert s c l t.chain_right.sorted;
      contents_ok = every_insert (right_over n b) s c l p t.chain_right.contents_ok;
      records_fit = every_insert record_fits s c l f t.chain_right.records_fit;
      below_ok = t.chain_right.below_ok;
    };
    uses_served = every_insert (serves_over R n b) s c l q t.uses_served;
  }

  found_ok : (s : Slot) → Holds (right_over n b s) (find s l)
  found_ok s c e = find_every (right_over n b) s l c t.chain_right.contents_ok e

  found_fits : (s : Slot) → Holds content_fits (find s l)
  found_fits s c e = and_right (slot_fits s) _ (find_every record_fits s l c t.chain_right.records_fit e)

  module _ (number_fits : fits_64 n ≡ true) (s : Slot) (slot_fit : slot_fits s ≡ true) where
    base_use_with_value : UseWithValue n (slot_fits s) (freshest_use s b) (held_value s b)
    base_use_with_value = use_with_value n b t.chain_right.below_ok s

    top_ok_valued : (u : LastUse) (v : Value) → u256_fits v ≡ true → right_over n b s (valued u v) ≡ true → TopOk R n b (insert s (valued u v) l)
    top_ok_valued u v f p = top_ok_insert s (valued u v) p (and_intro _ _ slot_fit (content_fits_valued n u v number_fits (content_parts n (held_value s b) (freshest_use s b) (valued u v) p).use_within f)) refl

    pub top_ok_settle : (v : Value) → u256_fits v ≡ true → TopOk R n b (insert s (valued n v) l)
    top_ok_settle v f = top_ok_valued n v f (content_ok_settle v base_use_with_value)

    pub top_ok_touch : (x : Value) → resolved_through_policy R n (freshest_use s (l ∷ b)) (held_value s (l ∷ b)) ≡ Some x → TopOk R n b (insert s (touch n (find s l)) l)
    unfolding freshest_use held_value
    top_ok_touch x e =
        let z = content_ok_touch R x (find s l) base_use_with_value (found_ok s) (λ c. find_every (serves_over R n b) s l c t.uses_served) e in
        top_ok_insert s (touch n (find s l)) z.0 (and_intro _ _ slot_fit (content_fits_touch n (find s l) number_fits (found_fits s))) z.1

    pub top_ok_apply_write : (x : Value) → u256_fits x ≡ true → (j : Bool) → TopOk R n b (apply_write n (final_write_kind R n j (valued_use (find s l)) (freshest_use s b)) s x l)
    top_ok_apply_write x fx j = go (valued_use (find s l)) refl
      where
        unserved_write : (i : Bool) → TopOk R n b (apply_write n (unserved_kind i) s x l)
        unserved_write true = top_ok_settle x fx
        unserved_write false = t

        over_base : (o : Option LastUse) → freshest_use s b ≡ o → TopOk R n b (apply_write n (write_kind R n j o) s x l)
        over_base None e = unserved_write j
        over_base (Some u) e = split (serves R u n) (λ y. rw y (top_ok_valued u x fx (content_ok_overwrite u x base_use_with_value e))) (λ y. rw y (unserved_write j))

        go : (o : Option LastUse) → valued_use (find s l) ≡ o → TopOk R n b (apply_write n (final_write_kind R n j o (freshest_use s b)) s x l)
        go None e = over_base (freshest_use s b) refl
        go (Some u) e = top_ok_valued u x fx (content_ok_again n (held_value s b) (freshest_use s b) (find s l) u x e (found_ok s))

pub top_ok_seed_final_writes : (R : Retention) (n : ℕ) (relevance : List Address) (b : List Layer) (ws : List Write) (l : Layer) → fits_64 n ≡ true → writes_fit ws ≡ true → TopOk R n b l → TopOk R n b (seed_final_writes R n relevance b ws l).top
unfolding seed_final_writes writes_fit
top_ok_seed_final_writes R n relevance b [] l e f t = t
top_ok_seed_final_writes R n relevance b (w ∷ ws) l e f t =
    let x : Bool = slot_fits w.slot in
    let y : Bool = u256_fits w.value in
    top_ok_seed_final_writes R n relevance b ws _ e (and_right y _ (and_right x _ f))
    (top_ok_apply_write l t e w.slot (and_left x _ f) w.value (and_left y _ (and_right x _ f)) (relevant relevance w.slot.address))

pub top_ok_settle_members : (R : Retention) (n : ℕ) (b : List Layer) (ms : List Member) (l : Layer) → fits_64 n ≡ true → members_fit ms ≡ true → TopOk R n b l → TopOk R n b (settle_members n ms l)
unfolding settle_members members_fit
top_ok_settle_members R n b [] l e f t = t
top_ok_settle_members R n b (m ∷ ms) l e f t =
    let x : Bool = slot_fits m.slot in
    let y : Bool = value_fits m.outcome in
    top_ok_settle_members R n b ms _ e (and_right y _ (and_right x _ f)) (one m.outcome (and_left x _ f) (and_left y _ (and_right x _ f)))
  where
    one : (r : Option Value) → slot_fits m.slot ≡ true → value_fits r ≡ true → TopOk R n b (settle_outcome n m.slot r l)
    one None a d = t
    one (Some v) a d = top_ok_settle l t e m.slot a v d

-- Fold and seal -------------------------------------------------------------------------------------

-- One number later.
chain_ok_later : (n : ℕ) (b : List Layer) → chain_ok n b ≡ true → chain_ok (suc n) b ≡ true
unfolding chain_ok
chain_ok_later n [] e = refl
chain_ok_later n (l ∷ ls) e =
    let k : LayerOk n l ls = layer_ok n l ls e in
    chain_ok_layer (suc n) l ls (record {
      sorted = k.sorted;
      contents_ok = every_implies (right_over n ls) (right_over (suc n) ls) l (λ s c. content_ok_later n c (freshest_use s ls) (held_value s ls)) k.contents_ok;
      records_fit = k.records_fit;
      below_ok = chain_ok_later n ls k.below_ok;
    })

-- The one layer of a fold.
compact_slots_ok : (R : Retention) (n : ℕ) (b : List Layer) (ss : List Slot) → fits_64 n ≡ true → chain_ok n b ≡ true → LayerOk n (compact_slots R n b ss) []
unfolding compact_slots every chain_ok held_value freshest_use
compact_slots_ok R n b [] e k = record { sorted = refl; contents_ok = refl; records_fit = refl; below_ok = refl }
compact_slots_ok R n b (s ∷ ss) e k = one (use_with_value n b k s) (compact_slots_ok R n b ss e k)
  where
    one : {f : Option LastUse} {h : Option Value} → UseWithValue n (slot_fits s) f h → LayerOk n (compact_slots R n b ss) [] → LayerOk n (compact_slot R n s f h (compact_slots R n b ss)) []
    one neither z = z
    one (both u v p a d) z =
        let l : Layer = compact_slots R n b ss in
        split (serves R u n)
        (λ y. rw y (record {
          sorted = rising_insert s (valued u v) l z.sorted;
          contents_ok = every_insert (right_over n []) s (valued u v) l (le-leb u n p) z.contents_ok;
          records_fit = every_insert record_fits s (valued u v) l (and_intro _ _ a (content_fits_valued n u v e p d)) z.records_fit;
          below_ok = refl;
        }))
        (λ y. rw y z)

-- The top over the base that a fold, if it is due, leaves.
layer_ok_compact : (R : Retention) (n : ℕ) (due : Bool) (b : List Layer) (l : Layer) → fits_64 n ≡ true → TopOk R n b l → LayerOk n l (compact_if due R n b).base
unfolding compact held_value freshest_use
layer_ok_compact R n true b l e t =
    let k : chain_ok n b ≡ true = t.chain_right.below_ok in
    record {
      sorted = t.chain_right.sorted;
      contents_ok =
          every_implies (λ s c. right_over n b s c && serves_over R n b s c) (right_over n (compact_slots R n b (all_slots b) ∷ [])) l
          (λ s c p. rw find_compact (content_ok_compact R c (use_with_value n b k s) p))
          (every_and (right_over n b) (serves_over R n b) l t.chain_right.contents_ok t.uses_served);
      records_fit = t.chain_right.records_fit;
      below_ok = chain_ok_layer n (compact_slots R n b (all_slots b)) [] (compact_slots_ok R n b (all_slots b) e k);
    }
layer_ok_compact R n false b l e t = t.chain_right

chain_ok_none : (n : ℕ) → chain_ok n [] ≡ true
unfolding chain_ok
chain_ok_none n = refl

-- The top sealed on the base.
chain_ok_seal : (n : ℕ) (l : Layer) (b : List Layer) → LayerOk n l b → chain_ok n (seal l b) ≡ true
unfolding seal
chain_ok_seal n l b k =
    let v : List Layer = cond (is_void b) [] b in
    chain_ok_layer n l v (record {
      sorted = k.sorted;
      contents_ok = every_implies (right_over n b) (right_over n v) l (λ s c p. rw (freshest_use_void s b, held_value_void s b) p) k.contents_ok;
      records_fit = k.records_fit;
      below_ok = split (is_void b) (λ e. rw e (chain_ok_none n)) (λ e. rw e k.below_ok);
    })

-- The base of a carry, at the child's number.
pub carried_base_ok : (R : Retention) (n : ℕ) (due : Bool) (b : List Layer) (l : Layer) → fits_64 n ≡ true → TopOk R n b l → chain_ok (suc n) (seal l (compact_if due R n b).base) ≡ true
carried_base_ok R n due b l e t = chain_ok_later n _ (chain_ok_seal n l (compact_if due R n b).base (layer_ok_compact R n due b l e t))
