-- Laws of a search of the layers: records by their number, a layer's part, the layers passed on the way down, the top over the base, what a look answers.
use Rattle.std.specs.Prelude.{None, Option, Some, is_some, Err, Ok}
use Prim.Native.Nat.{ℕ, suc, ◌+◌, ◌-◌, ◌*◌, ◌≤◌, ◌<◌}
use mathlib.Core.Path.{◌≡◌, refl, sym, ap, ap₂, subst, ◌∙◌}
use mathlib.Core.Bool.{Bool, true, false, cond}
use mathlib.Core.List.{List, [], ◌∷◌}
use native.Mathlib.Omega.{arith}
use lib.ListN.{length, take, drop, length-drop}
use lib.Seq.{take_all, drop-drop}
use Rattle.layout.specs.Layout.{record_size, record_width, records_offset}
use Rattle.model.specs.declared.delta_snapshot.Slot.{Slot}
use Rattle.model.specs.Slots.{Value, LastUse, serves}
use Rattle.model.specs.declared.delta_snapshot.Content.{Content}
use Rattle.model.specs.Contents.{own_value, use_of, has_value, valued_use, last_use_of, value_of, or_else, max_option}
use Rattle.model.specs.Layers.{Record, Layer, find, held_value, freshest_use, resolved_through_policy, record_count}
use Rattle.model.specs.Store.{Generation, chain, resolved}
use Rattle.model.specs.declared.delta_snapshot.Retention.{Retention}
use Rattle.model.proofs.SlotLaws.{not_both}
use Rattle.image.specs.Image.{words_of, read_record}
use Rattle.image.specs.WellFormed.{rising, chain_ok}
use Rattle.image.specs.Area.{records_of, layers_below}
use Rattle.image.specs.Lent.{generation_of, Installed, layer_of}
use Rattle.image.proofs.Areas.{Area, below_none, below_all, below_suc}
use Rattle.image.proofs.Lent.{generation_in}
use Rattle.image.proofs.RecordsOk.{layer_ok, highest_is_freshest, chain_ok_drop}
use Rattle.records.specs.Records.{Found}
use Rattle.records.specs.Records.{place_from, place_in, words_at, record_at}
use Rattle.records.proofs.Places.{found_lt, found_content, absent_none}
use Rattle.records.proofs.RecordsAt.{record_words_at}
use Rattle.layers.specs.declared.Row.{Row}
use Rattle.layers.specs.Answers.{row_content, First, HighestIn, ValueIn, ValueAt}

-- Records in bytes ------------------------------------------------------------------------------------

-- The bytes from record x on, and from the first on.
abbrev pub lent : ℕ → List ℕ → List ℕ
lent x b = take (length b - (records_offset + record_size * x)) (drop (records_offset + record_size * x) b)

rest : (a : ℕ) (b : List ℕ) → take (length b - a) (drop a b) ≡ drop a b
rest a b = take_all (length b - a) (drop a b) (omega (arith, length-drop a b))

pub lent_rest : (x : ℕ) (b : List ℕ) → lent x b ≡ drop (records_offset + record_size * x) b
lent_rest x b = rest (records_offset + record_size * x) b

-- The record of number `row` in the part that begins with the first.
pub rows_room : (row : ℕ) (b : List ℕ) → records_offset + record_size * (row + 1) ≤ length b → (row + 1) * record_size ≤ length (take (length b - records_offset) (drop records_offset b))
rows_room row b h = omega (arith, ap length (rest records_offset b), length-drop records_offset b)

pub row_read : {A : Type 0} (f : Content → A) (row : ℕ) (b : List ℕ) {e : A} → e ≡ f (read_record (words_at row (take (length b - records_offset) (drop records_offset b)))).content → e ≡ f (row_content row b)
row_read f row b p = p ∙ ap (λ (l : List ℕ). f (read_record (words_at row l)).content) (rest records_offset b)

-- Of the n records of a layer, from record x on: what a search asks, and what it finds.
module _ (b : List ℕ) (from : ℕ) (l : Layer) (area : Area b from l) (x n : ℕ) (p : x ≡ from) (q : n ≡ length l) where
  area_reads : records_of n (drop (records_offset + record_size * x) b) ≡ l
  area_reads = ap₂ (λ (m k : ℕ). records_of m (drop (records_offset + record_size * k) b)) q p ∙ area.reads

  pub area_asks : (records_offset + record_size * (x + n) ≤ length b) × (rising (records_of n (drop (records_offset + record_size * x) b)) ≡ true)
  area_asks = (omega (arith, area.room), ap rising area_reads ∙ area.rises)

  pub area_finds : (t : Slot) (k : Found) → k ≡ place_in t (records_of n (drop (records_offset + record_size * x) b)) → k ≡ place_in t l
  area_finds t k e = e ∙ ap (λ (y : Layer). place_in t y) area_reads

-- A layer without records.
pub empty_place : (l : Layer) (t : Slot) → length l ≡ 0 → Err 0 ≡ place_in t l
unfolding place_from
empty_place [] t e = refl
empty_place (r ∷ l) t e = absurd (omega arith)

-- A slot's record, found in a layer at place i over the layers ls: its number among all records, its use and its value.
module _ (b : List ℕ) (from : ℕ) (l : Layer) (area : Area b from l) (t : Slot) (i : ℕ) (q : place_in t l ≡ Ok i) where
  pub row_room : records_offset + record_size * (from + i + 1) ≤ length b
  row_room = omega (arith, area.room, found_lt l t i q)

  row_is : (record_at i l).content ≡ row_content (from + i) b
  row_is =
      let a : ℕ = records_offset + record_size * from in
      let e : a + i * record_size ≡ records_offset + (from + i) * record_size = omega arith in
      ap (λ (k : Layer). (record_at i k).content) (sym area.reads) ∙ ap (λ (r : Record). r.content) (record_words_at (length l) i (drop a b) (found_lt l t i q))
      ∙ ap (λ (x : List ℕ). (read_record (words_of record_width x)).content) (drop-drop (i * record_size) a b ∙ ap (λ (k : ℕ). drop k b) e ∙ sym (drop-drop ((from + i) * record_size) records_offset b))

  pub row_found : find t l ≡ Some (row_content (from + i) b)
  row_found = found_content l t i q ∙ ap Some row_is

  pub row_first : (n : ℕ) (ls : List Layer) (k : ℕ) → chain_ok n (l ∷ ls) ≡ true → k ≤ length (generation_of b).base → layers_below k (generation_of b).base ≡ ls → First t (l ∷ ls) k (from + i) b
  unfolding held_value
  row_first n ls k ok h e =
      record {
        room = row_room;
        few = h;
        use_is = sym (highest_is_freshest n l ls t (row_content (from + i) b) ok row_found);
        value_is = ap (λ (x : List Layer). or_else (own_value (row_content (from + i) b)) (held_value t x)) e ∙ ap (λ (x : Option Content). or_else (value_of x) (held_value t ls)) (sym row_found);
      }

-- The layer of number k stands past the records below it, as many as the next layer starts later.
pub layer_area : (b : List ℕ) (k : ℕ) → Installed b → k < length (generation_of b).base → Area b (record_count (layers_below k (generation_of b).base)) (layer_of k (generation_of b).base)
layer_area b k i h = (generation_in b i).layer k (layer_of k (generation_of b).base) (below_suc k (generation_of b).base h)

-- The top stands past the records of the base.
pub top_area : (b : List ℕ) → Installed b → Area b (record_count (generation_of b).base) (generation_of b).top
top_area b i = (generation_in b i).top

-- Of where layer k starts and where the next does: the number of its records.
module _ (b : List ℕ) (k x y : ℕ) (i : Installed b) (h : k < length (generation_of b).base)
    (p : x ≡ record_count (layers_below k (generation_of b).base)) (q : y ≡ record_count (layers_below (k + 1) (generation_of b).base)) where
  pub layer_count : y ≡ length (layer_of k (generation_of b).base) + x
  unfolding record_count
  layer_count =
      let ls : List Layer = (generation_of b).base in
      let e : k + 1 ≡ suc k = omega arith in
      let f : record_count (layers_below (k + 1) ls) ≡ length (layer_of k ls) + record_count (layers_below k ls) = ap (λ (j : ℕ). record_count (layers_below j ls)) e ∙ ap record_count (below_suc k ls h) in
      omega arith

  pub layer_length : y - x ≡ length (layer_of k (generation_of b).base)
  layer_length = omega (arith, layer_count)

-- From a layer down -----------------------------------------------------------------------------------

-- Layers below k, of which there is one: the layer of number k - 1 and those below it.
below_step : (ls : List Layer) (k : ℕ) → 0 < k → k ≤ length ls → layers_below k ls ≡ layer_of (k - 1) ls ∷ layers_below (k - 1) ls
below_step ls k z h =
    let e : k ≡ suc (k - 1) = omega arith in
    ap (λ (i : ℕ). layers_below i ls) e ∙ below_suc (k - 1) ls (omega arith)

below_zero : (ls : List Layer) (k : ℕ) → k ≡ 0 → layers_below k ls ≡ []
below_zero ls k z = ap (λ (i : ℕ). layers_below i ls) z ∙ below_none ls

-- The layers from j up to k have no record of the slot.
pub record Passed (t : Slot) (j k : ℕ) (ls : List Layer) : Type 0 where
  pub fresh_same : freshest_use t (layers_below j ls) ≡ freshest_use t (layers_below k ls)
  pub held_same : held_value t (layers_below j ls) ≡ held_value t (layers_below k ls)

pub passed_start : (t : Slot) (k : ℕ) (ls : List Layer) → Passed t k k ls
passed_start t k ls = record { fresh_same = refl; held_same = refl }

module _ (t : Slot) (j k : ℕ) (ls : List Layer) (p : Passed t j k ls) where
  pub passed_all : j ≡ 0 → (freshest_use t (layers_below k ls) ≡ None) × (held_value t (layers_below k ls) ≡ None)
  unfolding freshest_use held_value
  passed_all z = (sym p.fresh_same ∙ ap (freshest_use t) (below_zero ls j z), sym p.held_same ∙ ap (held_value t) (below_zero ls j z))

  -- One layer more.
  module _ (z : 0 < j) (h : j ≤ length ls) where
    pub passed_next : find t (layer_of (j - 1) ls) ≡ None → Passed t (j - 1) k ls
    unfolding freshest_use held_value
    passed_next e =
        record {
          fresh_same = ap (λ (x : Option Content). max_option (last_use_of x) (freshest_use t (layers_below (j - 1) ls))) (sym e) ∙ sym (ap (freshest_use t) (below_step ls j z h)) ∙ p.fresh_same;
          held_same = ap (λ (x : Option Content). or_else (value_of x) (held_value t (layers_below (j - 1) ls))) (sym e) ∙ sym (ap (held_value t) (below_step ls j z h)) ∙ p.held_same;
        }

    -- A record of the layer over the layers below, as one below k.
    pub passed_first : (row : ℕ) (b : List ℕ) → First t (layer_of (j - 1) ls ∷ layers_below (j - 1) ls) (j - 1) row b → First t (layers_below k ls) (j - 1) row b
    passed_first row b f =
        record {
          room = f.room;
          few = f.few;
          use_is = f.use_is ∙ sym (ap (freshest_use t) (below_step ls j z h)) ∙ p.fresh_same;
          value_is = f.value_is ∙ sym (ap (held_value t) (below_step ls j z h)) ∙ p.held_same;
        }

-- What is found below j is what is found below k.
pub passed_highest : (r : Option Row) (t : Slot) (j k : ℕ) (b : List ℕ) → Passed t j k (generation_of b).base → j ≤ k → HighestIn r t j b → HighestIn r t k b
passed_highest None t j k b p h (e, f) = (sym p.fresh_same ∙ e, sym p.held_same ∙ f)
passed_highest (Some w) t j k b p h (l, f) = (omega arith, record { room = f.room; few = f.few; use_is = f.use_is ∙ p.fresh_same; value_is = f.value_is ∙ p.held_same })

-- Layers without records.
no_records : (t : Slot) (ls : List Layer) → record_count ls ≡ 0 → (freshest_use t ls ≡ None) × (held_value t ls ≡ None)
unfolding record_count freshest_use held_value find
no_records t [] e = (refl, refl)
no_records t ([] ∷ ls) e = let z : record_count ls ≡ 0 = omega arith in no_records t ls z
no_records t ((r ∷ l) ∷ ls) e = absurd (omega arith)

pub passed_empty : (t : Slot) (j k : ℕ) (ls : List Layer) → Passed t j k ls → record_count (layers_below j ls) ≡ 0 → (freshest_use t (layers_below k ls) ≡ None) × (held_value t (layers_below k ls) ≡ None)
passed_empty t j k ls p e =
    let n = no_records t (layers_below j ls) e in
    (sym p.fresh_same ∙ n.0, sym p.held_same ∙ n.1)

-- The layers of a store are right.
base_right : (b : List ℕ) → Installed b → chain_ok (generation_of b).anchor.number (generation_of b).base ≡ true
base_right b i = let g : Generation = generation_of b in (layer_ok g.anchor.number g.top g.base (generation_in b i).facts.chain_right).below_ok

-- The search of layer j - 1, where the layers above up to k have no record: the slot's record, or none either.
module _ (b : List ℕ) (t : Slot) (j k : ℕ) (s : Installed b) (p : Passed t j k (generation_of b).base) (z : 0 < j) (h : j ≤ length (generation_of b).base) (f : Found) (q : f ≡ place_in t (layer_of (j - 1) (generation_of b).base)) (i : ℕ) where
  pub first_below : (x : ℕ) → x ≡ record_count (layers_below (j - 1) (generation_of b).base) → f ≡ Ok i → First t (layers_below k (generation_of b).base) (j - 1) (x + i) b
  first_below x e d =
      let g : Generation = generation_of b in
      let ls : List Layer = g.base in
      let ok : chain_ok g.anchor.number (layer_of (j - 1) ls ∷ layers_below (j - 1) ls) ≡ true =
      subst (λ (y : List Layer). chain_ok g.anchor.number y ≡ true) (below_step ls j z h) (chain_ok_drop g.anchor.number (length ls - j) ls (base_right b s)) in
      subst (λ (y : ℕ). First t (layers_below k ls) (j - 1) (y + i) b) (sym e)
      (passed_first t j k ls p z h (record_count (layers_below (j - 1) ls) + i) b
      (row_first b (record_count (layers_below (j - 1) ls)) (layer_of (j - 1) ls) (layer_area b (j - 1) s (omega arith)) t i (sym q ∙ d) g.anchor.number (layers_below (j - 1) ls) (j - 1) ok (omega arith) refl))

  pub none_below : f ≡ Err i → Passed t (j - 1) k (generation_of b).base
  none_below d = passed_next t j k (generation_of b).base p z h (absent_none (layer_of (j - 1) (generation_of b).base) t i (layer_area b (j - 1) s (omega arith)).rises (sym q ∙ d))

-- The record found in the top, and one of the base where the top has none.
pub first_top : (b : List ℕ) (t : Slot) (n x i : ℕ) (f : Found) → Installed b → n ≡ length (generation_of b).base → x ≡ record_count (generation_of b).base → f ≡ place_in t (generation_of b).top → f ≡ Ok i
    → First t (chain (generation_of b)) n (x + i) b
first_top b t n x i f s m e q d =
    let g : Generation = generation_of b in
    subst (λ (y : ℕ). First t (chain g) n (y + i) b) (sym e)
    (row_first b (record_count g.base) g.top (top_area b s) t i (sym q ∙ d) g.anchor.number g.base n (generation_in b s).facts.chain_right (omega arith) (ap (λ (k : ℕ). layers_below k g.base) m ∙ below_all g.base))

-- The last use of the top's record, if it has a value.
pub top_unvalued : (b : List ℕ) (t : Slot) (i : ℕ) (f : Found) → Installed b → f ≡ place_in t (generation_of b).top → f ≡ Err i → None ≡ valued_use (find t (generation_of b).top)
top_unvalued b t i f s q d = sym (ap valued_use (absent_none (generation_of b).top t i (top_area b s).rises (sym q ∙ d)))

module _ (b : List ℕ) (t : Slot) (x i : ℕ) (f : Found) (s : Installed b) (e : x ≡ record_count (generation_of b).base) (q : f ≡ place_in t (generation_of b).top) (d : f ≡ Ok i) where
  pub top_room : records_offset + record_size * (x + i + 1) ≤ length b
  top_room = (first_top b t (length (generation_of b).base) x i f s refl e q d).room

  top_valued : valued_use (Some (row_content (x + i) b)) ≡ valued_use (find t (generation_of b).top)
  top_valued =
      ap (λ (y : ℕ). valued_use (Some (row_content (y + i) b))) e
      ∙ ap valued_use (sym (row_found b (record_count (generation_of b).base) (generation_of b).top (top_area b s) t i (sym q ∙ d)))

  pub top_use_none : has_value (row_content (x + i) b) ≡ false → None ≡ valued_use (find t (generation_of b).top)
  top_use_none h = ap (λ (k : Bool). cond k (Some (use_of (row_content (x + i) b))) None) (sym h) ∙ top_valued

  pub top_use_some : (u : ℕ) → has_value (row_content (x + i) b) ≡ true → u ≡ use_of (row_content (x + i) b) → Some u ≡ valued_use (find t (generation_of b).top)
  top_use_some u h m = ap Some m ∙ ap (λ (k : Bool). cond k (Some (use_of (row_content (x + i) b))) None) (sym h) ∙ top_valued

-- The top has no record of the slot.
module _ (b : List ℕ) (t : Slot) (s : Installed b) (f : Found) (i : ℕ) (q : f ≡ place_in t (generation_of b).top) (d : f ≡ Err i) (n : ℕ) (m : n ≡ length (generation_of b).base) where
  top_none : find t (generation_of b).top ≡ None
  top_none = absent_none (generation_of b).top t i (top_area b s).rises (sym q ∙ d)

  all_below : layers_below n (generation_of b).base ≡ (generation_of b).base
  all_below = ap (λ (k : ℕ). layers_below k (generation_of b).base) m ∙ below_all (generation_of b).base

  fresh_below : freshest_use t (layers_below n (generation_of b).base) ≡ freshest_use t (chain (generation_of b))
  unfolding freshest_use
  fresh_below = ap (freshest_use t) all_below ∙ ap (λ (x : Option Content). max_option (last_use_of x) (freshest_use t (generation_of b).base)) (sym top_none)

  held_below : held_value t (layers_below n (generation_of b).base) ≡ held_value t (chain (generation_of b))
  unfolding held_value
  held_below = ap (held_value t) all_below ∙ ap (λ (x : Option Content). or_else (value_of x) (held_value t (generation_of b).base)) (sym top_none)

  pub first_chain : (k row : ℕ) → First t (layers_below n (generation_of b).base) k row b → First t (chain (generation_of b)) k row b
  first_chain k row h = record { room = h.room; few = h.few; use_is = h.use_is ∙ fresh_below; value_is = h.value_is ∙ held_below }

  pub unused : (R : Retention) → freshest_use t (layers_below n (generation_of b).base) ≡ None → None ≡ resolved R (generation_of b) t
  unused R e = ap (λ (x : Option LastUse). resolved_through_policy R (generation_of b).anchor.number x (held_value t (chain (generation_of b)))) (sym e ∙ fresh_below)

-- What a search of the layers below k answered, by the answer.
module _ (r : Option Row) (t : Slot) (k : ℕ) (b : List ℕ) (h : HighestIn r t k b) where
  pub highest_at : (w : Row) → r ≡ Some w → (w.layer < k) × First t (layers_below k (generation_of b).base) w.layer w.row b
  highest_at w e = subst (λ (x : Option Row). HighestIn x t k b) e h

  pub highest_none : r ≡ None → (freshest_use t (layers_below k (generation_of b).base) ≡ None) × (held_value t (layers_below k (generation_of b).base) ≡ None)
  highest_none e = subst (λ (x : Option Row). HighestIn x t k b) e h

-- Of an answer that equals it.
value_as : (r : Option ℕ) (b : List ℕ) {o p : Option Value} → o ≡ p → ValueAt r o b → ValueAt r p b
value_as r b e h = subst (λ (x : Option Value). ValueAt r x b) e h

-- A row's value, or the one below.
or_own : (c : Content) (h : Option Value) → has_value c ≡ true → own_value c ≡ or_else (own_value c) h
or_own c h e = go (own_value c) e
  where
    go : (o : Option Value) → is_some o ≡ true → o ≡ or_else o h
    go None q = not_both q refl
    go (Some v) q = refl

or_below : (c : Content) (h : Option Value) → has_value c ≡ false → h ≡ or_else (own_value c) h
or_below c h e = go (own_value c) e
  where
    go : (o : Option Value) → is_some o ≡ false → h ≡ or_else o h
    go None q = refl
    go (Some v) q = not_both refl q

module _ (t : Slot) (ls : List Layer) (k row : ℕ) (b : List ℕ) (f : First t ls k row b) where
  pub value_here : has_value (row_content row b) ≡ true → ValueIn row (held_value t ls) b
  value_here e = record { room = f.room; has = e; value_is = or_own (row_content row b) (held_value t (layers_below k (generation_of b).base)) e ∙ f.value_is }

  pub value_below : (r : Option ℕ) → has_value (row_content row b) ≡ false → ValueAt r (held_value t (layers_below k (generation_of b).base)) b → ValueAt r (held_value t ls) b
  value_below r e h = value_as r b (or_below (row_content row b) (held_value t (layers_below k (generation_of b).base)) e ∙ f.value_is) h

-- What a look answers ---------------------------------------------------------------------------------

-- Of the freshest use of a slot, tested by the code's retention S and number n with the answer b.
module _ (R : Retention) (g : Generation) (t : Slot) (u n : ℕ) (S : Retention) (b : Bool) (fresh : Some u ≡ freshest_use t (chain g)) (q : S ≡ R) (m : n ≡ g.anchor.number) (d : b ≡ serves S u n) where
  tested : cond b (held_value t (chain g)) None ≡ resolved R g t
  tested =
      ap (λ (x : Bool). cond x (held_value t (chain g)) None) (d ∙ (λ i. serves (q i) u (m i)))
      ∙ ap (λ (x : Option LastUse). resolved_through_policy R g.anchor.number x (held_value t (chain g))) fresh

  pub resolved_served : (r : Option ℕ) (s : List ℕ) → b ≡ true → ValueAt r (held_value t (chain g)) s → ValueAt r (resolved R g t) s
  resolved_served r s e h = value_as r s (ap (λ (x : Bool). cond x (held_value t (chain g)) None) (sym e) ∙ tested) h

  pub resolved_stale : b ≡ false → None ≡ resolved R g t
  resolved_stale e = ap (λ (x : Bool). cond x (held_value t (chain g)) None) (sym e) ∙ tested

-- The row of an answer.
pub value_at : (r : Option ℕ) (o : Option Value) (b : List ℕ) (row : ℕ) → ValueAt r o b → r ≡ Some row → ValueIn row o b
value_at r o b row h e = subst (λ (x : Option ℕ). ValueAt x o b) e h

pub no_row : (r : Option ℕ) (o : Option Value) (b : List ℕ) → ValueAt r o b → r ≡ None → None ≡ o
no_row r o b h e = subst (λ (x : Option ℕ). ValueAt x o b) e h

pub row_none : (r : Option ℕ) (o : Option Value) (b : List ℕ) → r ≡ None → None ≡ o → ValueAt r o b
row_none r o b e h = subst (λ (x : Option ℕ). ValueAt x o b) (sym e) h
