-- The checks of a store's words decide whether the words are the image of the well-formed state that they read as.
use Rattle.std.specs.Prelude.{None, Option, Some}
use Prim.Native.Nat.{ℕ, zero, suc, pred, ◌+◌, ◌-◌, ◌*◌, ◌^◌, ◌≤◌, ◌<◌}
use mathlib.Core.Path.{◌≡◌, refl, sym, ap, ap₂, subst, ◌∙◌}
use mathlib.Core.Bool.{Bool, true, false, ◌&&◌, cond}
use mathlib.Core.List.{List, [], ◌∷◌, ◌++◌, map, append_assoc}
use native.Mathlib.Omega.{arith}
use lib.Dec.{eqb, leb, ltb}
use lib.ListN.{length, take, drop, get_or, replicate, length-append, length-drop, length-map, replicate-append-replicate}
use lib.Seq.{length-take-le, take-append-le, drop-append-le, drop_at, drop-drop}
use borrow.Author.Tests.{lt-ltb, le-leb, leb-true, eqb-true, eq-eqb}
use Rattle.layout.specs.Layout.{accepted_index, awaiting_count_index, awaiting_table, awaiting_width, capacity_index, coalesced_index, depth_index, ends_limit, errors_index, generation_width, hash_index, header_width, idle_index, installed_index, magic, max_depth_index, members_index, number_index, record_width, records_count_index, refused_index, retention_index, rounds_index, served_index, table_width, valued_index, waiting_index}
use Rattle.model.specs.declared.delta_snapshot.Retention.TheVariants.{Unbounded, IdleBlocks}
use Rattle.model.specs.declared.read_hub.ReadTotals.{ReadTotals}
use Rattle.model.specs.Slots.{words_eqb}
use Rattle.model.specs.Layers.{Record, Layer, record_count, freshest_use}
use Rattle.model.specs.Reads.{Pending}
use Rattle.model.specs.Store.{Config, Generation, Store, chain}
use Rattle.model.proofs.SlotLaws.{split, and_left, and_right, and_intro, and_false, and_true, words_eqb_true, words_eqb_refl}
use Rattle.model.specs.Contents.{content_fits, top_content_ok}
use Rattle.image.specs.WellFormed.{slot_fits, chain_ok, all_waiters, every, records_ok, sizes_ok, totals_ok, config_ok, generation_ok, installed_ok, well_formed, anchor_fits, retention_fits, hash_fits}
use Rattle.image.specs.Image.{config_words, generation_words, hash_words, totals_words, table_words, installed_words, image_words, padded, layer_ends, flat_records, all_record_words, all_pending_words, read_record, read_pending, read_store, read_generation, entries, Cut, cut}
use Rattle.model.proofs.WordLaws.{Fit}
use Rattle.image.proofs.Words.{length_padded}
use Rattle.image.proofs.Facts.{ConfigFacts, GenerationFacts, generation_facts}
use Rattle.image.proofs.Entries.{length_flat, length_ends, length_records, length_pending}
use Rattle.image.proofs.Extent.{Room, room}
use Rattle.rules.specs.Rules.{all_rising, all_content_ok}
use Rattle.rules.proofs.LayerLaws.{chain_parts}
use Rattle.checking.specs.Checks.{awaiting_right, record_right, entries_rise, waiters_sum, all_zero, all_of, normal, config_right, anchor_right, counts_right, totals_right, totals_add_up, ends_rise, ends_right, queue_right, reads_right, area_right, records_right, layers_rise, cross_right, parts_right, rules_right, store_right}
use Rattle.checking.proofs.Bools.{length_entries, and_swap, and_under, iff, and_implied, eqb_same, words_eqb_append, words_eqb_zeros, words_eqb_padded, spell, spelled, fit_at}
use Rattle.checking.proofs.Cuts.{CutSays, cut_says, length_cut, layer_ends_rise, all_rising_cut}
use Rattle.checking.proofs.Reading.{low, formed, used, waits, few, flagged, records_apart, awaiting_apart, records_fit, records_eqb, uses_right, pendings_eqb, pendings_right, waiters_are, few_each}
use Rattle.model.specs.declared.storage_memo.U256.{U256}

-- Reading ---------------------------------------------------------------------------------------------

-- The header's words by number; what they read as.
abbrev config_of : (ℕ → ℕ) → Config
config_of f = record { capacity = f capacity_index; max_depth = f max_depth_index; retention = cond (eqb (f retention_index) 0) Unbounded (IdleBlocks (f idle_index)) }

abbrev hash_of : (ℕ → ℕ) → Option U256
hash_of f = cond (eqb (f hash_index) 0) None (Some (record { w0 = f (hash_index + 1); w1 = f (hash_index + 2); w2 = f (hash_index + 3); w3 = f (hash_index + 4) }))

abbrev totals_of : (ℕ → ℕ) → ReadTotals
totals_of f = record { accepted = f accepted_index; served = f served_index; waiting = f waiting_index; valued = f valued_index; refused = f refused_index; rounds = f rounds_index; members = f members_index; errors = f errors_index; coalesced = f coalesced_index }

-- The generation of a header, layers and awaiting slots.
abbrev generation_of : (ℕ → ℕ) → Cut → List Pending → Generation
generation_of f c q = record { anchor = record { number = f number_index; hash = hash_of f }; base = c.base; top = c.top; pending = q; totals = totals_of f }

-- The same of a header and the words after it.
abbrev generation_at : (ℕ → ℕ) → List ℕ → Generation
generation_at f t = generation_of f (cut 0 (take (suc (f depth_index)) t) (map read_record (entries record_width (f records_count_index) (drop table_width t))) []) (map read_pending (entries awaiting_width (f awaiting_count_index) (drop ends_limit t)))

read_shape : (f : ℕ → ℕ) (t : List ℕ) → read_store (spell header_width f ++ t) ≡ record { config = config_of f; installed = cond (eqb (f installed_index) 0) None (Some (generation_at f t)) }
unfolding read_store read_generation spell
read_shape f t = refl

-- The config ------------------------------------------------------------------------------------------

-- Words 0 to 4.
config_law : (f : ℕ → ℕ) → ((i : ℕ) → f i < 2 ^ 64) → (config_ok (config_of f) && words_eqb (f 0 ∷ f capacity_index ∷ f max_depth_index ∷ f retention_index ∷ f idle_index ∷ []) (config_words (config_of f))) ≡ config_right (spell header_width f)
unfolding config_ok config_right words_eqb normal all_zero spell
config_law f h =
    split (eqb (f retention_index) 0)
    (λ e. rw e (simp (eqb_same, e, and_true) (turn (ltb 0 (f capacity_index)) (leb (f capacity_index) 4096) (ltb 0 (f max_depth_index)) (leb (f max_depth_index) 255) (eqb (f 0) magic) (eqb (f idle_index) 0))))
    (λ e. rw e (simp (eqb_same, and_true, lt-ltb (f idle_index) (2 ^ 64) (h 4)) (turn (ltb 0 (f capacity_index)) (leb (f capacity_index) 4096) (ltb 0 (f max_depth_index)) (leb (f max_depth_index) 255) (eqb (f 0) magic) (eqb (f retention_index) 1))))
  where
    turn : (a b c d m x : Bool) → ((a && (b && (c && d))) && (m && x)) ≡ (m && (a && (b && (c && (d && x)))))
    turn false b c d m x = sym (and_false m)
    turn true false c d m x = sym (and_false m)
    turn true true false d m x = sym (and_false m)
    turn true true true false m x = sym (and_false m)
    turn true true true true m x = refl

-- The facts of a right config.
config_facts : (f : ℕ → ℕ) → ((i : ℕ) → f i < 2 ^ 64) → config_right (spell header_width f) ≡ true → ConfigFacts (config_of f)
unfolding config_right spell
config_facts f h e =
    let e₁ = and_right (eqb (f 0) magic) _ e in
    let e₂ = and_right (ltb 0 (f capacity_index)) _ e₁ in
    let e₃ = and_right (leb (f capacity_index) 4096) _ e₂ in
    let e₄ = and_right (ltb 0 (f max_depth_index)) _ e₃ in
    record { capacity_limit = leb-true _ _ (and_left (leb (f capacity_index) 4096) _ e₂); depth_limit = leb-true _ _ (and_left (leb (f max_depth_index) 255) _ e₄); retention_fit = fit (eqb (f retention_index) 0) }
  where
    fit : (b : Bool) → retention_fits (cond b Unbounded (IdleBlocks (f idle_index))) ≡ true
    fit true = refl
    fit false = lt-ltb (f idle_index) (2 ^ 64) (h 4)

-- The generation's words ------------------------------------------------------------------------------

-- Words 5 to 23 before other words.
abbrev later : (ℕ → ℕ) → List ℕ → List ℕ
later f t =
    f installed_index ∷ f number_index ∷ f hash_index ∷ f (hash_index + 1) ∷ f (hash_index + 2) ∷ f (hash_index + 3) ∷ f (hash_index + 4) ∷ f depth_index ∷ f records_count_index ∷ f awaiting_count_index ∷ f accepted_index ∷ f served_index ∷ f waiting_index ∷ f valued_index ∷ f refused_index ∷ f rounds_index ∷ f members_index ∷ f errors_index ∷ f coalesced_index ∷ t

-- The words of a hash, and whether it fits.
abbrev hash_normal : (ℕ → ℕ) → Bool
hash_normal f = normal (f hash_index) (f (hash_index + 1) ∷ f (hash_index + 2) ∷ f (hash_index + 3) ∷ f (hash_index + 4) ∷ [])

-- Its three counts.
abbrev counted : (ℕ → ℕ) → Generation → Bool
counted f g = eqb (f depth_index) (pred (length g.base)) && (eqb (f records_count_index) (record_count (chain g)) && eqb (f awaiting_count_index) (length g.pending))

header_words : (f : ℕ → ℕ) (b : Bool) → eqb (f hash_index) 0 ≡ b → (k m n : ℕ) (t u : List ℕ) →
    words_eqb (later f t) (1 ∷ f number_index ∷ (hash_words (cond b None (Some (record { w0 = f (hash_index + 1); w1 = f (hash_index + 2); w2 = f (hash_index + 3); w3 = f (hash_index + 4) }))) ++ (k ∷ m ∷ n ∷ (totals_words (totals_of f) ++ u))))
    ≡ ((eqb (f installed_index) 1 && cond b (all_zero (f (hash_index + 1) ∷ f (hash_index + 2) ∷ f (hash_index + 3) ∷ f (hash_index + 4) ∷ [])) (eqb (f hash_index) 1)) && ((eqb (f depth_index) k && (eqb (f records_count_index) m && eqb (f awaiting_count_index) n)) && words_eqb t u))
unfolding words_eqb all_zero
header_words f true h k m n t u = simp (eqb_same, h) (four (eqb (f installed_index) 1) (eqb (f (hash_index + 1)) 0) (eqb (f (hash_index + 2)) 0) (eqb (f (hash_index + 3)) 0) (eqb (f (hash_index + 4)) 0) (eqb (f depth_index) k) (eqb (f records_count_index) m) (eqb (f awaiting_count_index) n) (words_eqb t u))
  where
    four : (a b c d e x y z w : Bool) → (a && (b && (c && (d && (e && (x && (y && (z && w)))))))) ≡ ((a && (b && (c && (d && (e && true))))) && ((x && (y && z)) && w))
    four false b c d e x y z w = refl
    four true false c d e x y z w = refl
    four true true false d e x y z w = refl
    four true true true false e x y z w = refl
    four true true true true false x y z w = refl
    four true true true true true false y z w = refl
    four true true true true true true false z w = refl
    four true true true true true true true z w = refl
header_words f false h k m n t u = simp eqb_same (one (eqb (f installed_index) 1) (eqb (f hash_index) 1) (eqb (f depth_index) k) (eqb (f records_count_index) m) (eqb (f awaiting_count_index) n) (words_eqb t u))
  where
    one : (a b x y z w : Bool) → (a && (b && (x && (y && (z && w))))) ≡ ((a && b) && ((x && (y && z)) && w))
    one false b x y z w = refl
    one true false x y z w = refl
    one true true false y z w = refl
    one true true true false z w = refl
    one true true true true z w = refl

header_law : (f : ℕ → ℕ) (c : Cut) (q : List Pending) (t u : List ℕ) →
    let g : Generation = generation_of f c q in
    words_eqb (later f t) (generation_words g ++ u) ≡ ((eqb (f installed_index) 1 && hash_normal f) && (counted f g && words_eqb t u))
unfolding normal
header_law f c q t u =
    ap (λ (x : List ℕ). words_eqb (later f t) (1 ∷ f number_index ∷ x)) (append_assoc (hash_words (hash_of f)) _ u)
    ∙ header_words f (eqb (f hash_index) 0) refl (pred (length c.base)) (record_count (c.top ∷ c.base)) (length q) t u

-- The tables' words.
tables_law : (n : ℕ) (E A R e a r : List ℕ) → length E ≡ ends_limit → length A ≡ awaiting_table → length R ≡ record_width * n → length e ≤ ends_limit → length a ≤ awaiting_table → length r ≤ record_width * n →
    words_eqb (E ++ (A ++ R)) (table_words n e a r)
    ≡ ((words_eqb (take (length e) E) e && all_zero (drop (length e) E)) && ((words_eqb (take (length a) A) a && all_zero (drop (length a) A)) && (words_eqb (take (length r) R) r && all_zero (drop (length r) R))))
tables_law n E A R e a r hE hA hR he ha hr =
    words_eqb_append E (A ++ R) (padded ends_limit e) (padded awaiting_table a ++ padded (record_width * n) r) (hE ∙ sym (length_padded ends_limit e he))
    ∙ ap₂ (λ (x y : Bool). x && y) (words_eqb_padded ends_limit E e hE he)
    (words_eqb_append A R (padded awaiting_table a) (padded (record_width * n) r) (hA ∙ sym (length_padded awaiting_table a ha))
    ∙ ap₂ (λ (x y : Bool). x && y) (words_eqb_padded awaiting_table A a hA ha) (words_eqb_padded (record_width * n) R r hR hr))

-- With nothing installed ------------------------------------------------------------------------------

empty_law : (n : ℕ) (l : List ℕ) → length l ≡ generation_width + table_width + record_width * n → words_eqb l (installed_words n None) ≡ all_zero l
empty_law n l h = ap (words_eqb l) (zeros generation_width ends_limit awaiting_table (record_width * n - 0)) ∙ words_eqb_zeros (generation_width + (ends_limit + (awaiting_table + (record_width * n - 0)))) l (omega arith)
  where
    zeros : (a b c d : ℕ) → ◌≡◌ {A = List ℕ} (replicate a 0 ++ (replicate b 0 ++ (replicate c 0 ++ replicate d 0))) (replicate (a + (b + (c + d))) 0)
    zeros a b c d =
        ap (λ (x : List ℕ). replicate a 0 ++ (replicate b 0 ++ x)) (replicate-append-replicate c d 0)
        ∙ ap (λ (x : List ℕ). replicate a 0 ++ x) (replicate-append-replicate b (c + d) 0)
        ∙ replicate-append-replicate a (b + (c + d)) 0

-- With a generation installed -------------------------------------------------------------------------

-- The awaiting slots, and what an image has after the config.
abbrev queue_of : (ℕ → ℕ) → List ℕ → List Pending
queue_of f A = map read_pending (entries awaiting_width (f awaiting_count_index) A)

abbrev layers_at : (ℕ → ℕ) → List ℕ → List ℕ → Cut
layers_at f E R = cut 0 (take (suc (f depth_index)) E) (map read_record (entries record_width (f records_count_index) R)) []

-- A generation is right, and words are its own.
abbrev is_image : (ℕ → ℕ) → List ℕ → Generation → Bool
is_image f t g = generation_ok (config_of f) g && words_eqb (later f t) (installed_words (f capacity_index) (Some g))

-- What that says: facts of the generation, its numbers, and its tables.
record ImageFacts (f : ℕ → ℕ) (t : List ℕ) (g : Generation) : Type 0 where
  right : GenerationFacts (config_of f) g
  depth_is : f depth_index ≡ pred (length g.base)
  records_are : f records_count_index ≡ record_count (chain g)
  awaiting_are : f awaiting_count_index ≡ length g.pending
  tables_are : words_eqb t (table_words (f capacity_index) (layer_ends g.base) (all_pending_words g.pending) (all_record_words (flat_records (chain g)))) ≡ true

image_facts : (f : ℕ → ℕ) (t : List ℕ) (c : Cut) (q : List Pending) → is_image f t (generation_of f c q) ≡ true → ImageFacts f t (generation_of f c q)
image_facts f t c q e =
    let g : Generation = generation_of f c q in
    let u : List ℕ = table_words (f capacity_index) (layer_ends c.base) (all_pending_words q) (all_record_words (flat_records (chain g))) in
    let ok : Bool = generation_ok (config_of f) g in
    let head : Bool = eqb (f installed_index) 1 && hash_normal f in
    let w : (counted f g && words_eqb t u) ≡ true = and_right head _ (sym (header_law f c q t u) ∙ and_right ok _ e) in
    let n : counted f g ≡ true = and_left (counted f g) _ w in
    let x : Bool = eqb (f depth_index) (pred (length c.base)) in
    let y : Bool = eqb (f records_count_index) (record_count (chain g)) in
    let z : Bool = eqb (f awaiting_count_index) (length q) in
    record {
      right = generation_facts (config_of f) g (and_left ok _ e);
      depth_is = eqb-true _ _ (and_left x _ n);
      records_are = eqb-true _ _ (and_left y z (and_right x _ n));
      awaiting_are = eqb-true _ _ (and_right y z (and_right x _ n));
      tables_are = and_right (counted f g) _ w;
    }

-- The numbers are within their limits.
counts_of : (f : ℕ → ℕ) (t : List ℕ) (c : Cut) (q : List Pending) → is_image f t (generation_of f c q) ≡ true → counts_right (spell header_width f) ≡ true
unfolding counts_right spell
counts_of f t c q e =
    let k : ImageFacts f t (generation_of f c q) = image_facts f t c q e in
    let a : f depth_index ≤ f max_depth_index = omega arith in
    let b : f records_count_index ≤ f capacity_index = omega arith in
    let d : f awaiting_count_index ≤ 64 = omega arith in
    and_intro _ _ (le-leb (f depth_index) (f max_depth_index) a) (and_intro _ _ (le-leb (f records_count_index) (f capacity_index) b) (le-leb (f awaiting_count_index) 64 d))

record Counts (f : ℕ → ℕ) : Type 0 where
  depth : f depth_index ≤ f max_depth_index
  records : f records_count_index ≤ f capacity_index
  awaiting : f awaiting_count_index ≤ 64

counts_facts : (f : ℕ → ℕ) → counts_right (spell header_width f) ≡ true → Counts f
unfolding counts_right spell
counts_facts f e =
    let x : Bool = leb (f depth_index) (f max_depth_index) in
    let y : Bool = leb (f records_count_index) (f capacity_index) in
    let z : Bool = leb (f awaiting_count_index) 64 in
    record { depth = leb-true _ _ (and_left x _ e); records = leb-true _ _ (and_left y z (and_right x _ e)); awaiting = leb-true _ _ (and_right y z (and_right x _ e)) }

entries_append : (w n : ℕ) (a b : List ℕ) → w * n ≤ length a → entries w n (a ++ b) ≡ entries w n a
unfolding entries
entries_append w zero a b h = refl
entries_append w (suc n) a b h =
    let d : length (drop w a) ≡ length a - w = length-drop w a in
    let e : w * suc n ≡ w + w * n = omega arith in
    ap₂ (λ (x : List ℕ) (y : List ℕ). x ∷ entries w n y) (take-append-le w a b (omega arith)) (drop-append-le w a b (omega arith))
    ∙ ap (λ (y : List (List ℕ)). take w a ∷ y) (entries_append w n (drop w a) b (omega arith))

totals_law : (f : ℕ → ℕ) (q : List Pending) (w n : ℕ) → all_waiters q ≡ w → length q ≡ n → totals_ok q (totals_of f) ≡ totals_right w n (spell header_width f)
unfolding totals_ok totals_right totals_add_up spell
totals_law f q w n h k = rw (h, k)

-- What the checks of a generation say of its numbers and ends.
counts_in : (f : ℕ → ℕ) (E A R : List ℕ) → parts_right (spell header_width f) E A R ≡ true → counts_right (spell header_width f) ≡ true
unfolding parts_right
counts_in f E A R e = and_left (counts_right (spell header_width f)) _ (and_right (anchor_right (spell header_width f)) _ e)

rise_in : (f : ℕ → ℕ) (E A R : List ℕ) → parts_right (spell header_width f) E A R ≡ true → ends_rise (f records_count_index) 0 (take (suc (f depth_index)) E) ≡ true
unfolding parts_right ends_right spell
rise_in f E A R e =
    let h : List ℕ = spell header_width f in
    let e₁ : (ends_right (f depth_index) (f records_count_index) E && _) ≡ true = and_right (counts_right h) _ (and_right (anchor_right h) _ e) in
    and_left (ends_rise (f records_count_index) 0 (take (suc (f depth_index)) E)) _ (and_left (ends_right (f depth_index) (f records_count_index) E) _ e₁)

-- Totals that add up bound the waiters.
few_waiters : (f : ℕ → ℕ) (w n : ℕ) → totals_right w n (spell header_width f) ≡ true → w ≤ 4294967295
unfolding totals_right totals_add_up spell
few_waiters f w n e =
    let a : Bool = leb (f accepted_index) 4294967295 in
    let b : Bool = eqb (f accepted_index) (f served_index + f waiting_index + f valued_index + f refused_index) in
    let c : Bool = eqb (f waiting_index) w in
    let e₁ = and_right a _ e in
    let e₂ = and_right b _ e₁ in
    let x : f accepted_index ≤ 4294967295 = leb-true _ _ (and_left a _ e) in
    let y : f accepted_index ≡ f served_index + f waiting_index + f valued_index + f refused_index = eqb-true _ _ (and_left b _ e₁) in
    let z : f waiting_index ≡ w = eqb-true _ _ (and_left c _ e₂) in
    omega arith

-- The checks in the code's order are the tests of the state and of the words.
arrange : (a b c d e f g h i j k l m n o p q : Bool) →
    (((a && b) && (true && ((true && c) && ((((d && (e && (f && g))) && (h && i)) && j) && (((k && (l && m)) && n) && o))))) && (p && q))
    ≡ ((((o && ((p && m) && k)) && q) && (((d && e) && h) && (j && f))) && ((a && b) && (true && (c && ((g && i) && (l && n))))))
arrange false b c d e f g h i j k l m n o p q = simp and_false
arrange true false c d e f g h i j k l m n o p q = simp and_false
arrange true true false d e f g h i j k l m n o p q = simp and_false
arrange true true true false e f g h i j k l m n o p q = simp and_false
arrange true true true true false f g h i j k l m n o p q = simp and_false
arrange true true true true true false g false i j k l m n o p q = simp and_false
arrange true true true true true false g true i j k l m n o p q = simp and_false
arrange true true true true true true false h i j k l m n o p q = simp and_false
arrange true true true true true true true false i j k l m n o p q = simp and_false
arrange true true true true true true true true false j k l m n o p q = simp and_false
arrange true true true true true true true true true false k l m n o p q = simp and_false
arrange true true true true true true true true true true false l m n o p q = simp and_false
arrange true true true true true true true true true true true false m n o p q = simp and_false
arrange true true true true true true true true true true true true false n o p q = simp and_false
arrange true true true true true true true true true true true true true false o p q = simp and_false
arrange true true true true true true true true true true true true true true false p q = refl
arrange true true true true true true true true true true true true true true true false q = refl
arrange true true true true true true true true true true true true true true true true false = refl
arrange true true true true true true true true true true true true true true true true true = refl

-- A store's four parts: the header's words, 256 words of ends, 576 of awaiting slots, and the records.
module _ (f : ℕ → ℕ) (E A R : List ℕ) (hE : length E ≡ ends_limit) (hA : length A ≡ awaiting_table) (hR : length R ≡ record_width * f capacity_index) (small : (i : ℕ) → f i < 2 ^ 64) (fitA : Fit A) (fitR : Fit R) (config : ConfigFacts (config_of f)) where
  -- What is read is what stands in the parts.
  read_parts : Counts f → generation_at f (E ++ (A ++ R)) ≡ generation_of f (layers_at f E R) (queue_of f A)
  read_parts k =
      let t : List ℕ = E ++ (A ++ R) in
      let p : take (suc (f depth_index)) t ≡ take (suc (f depth_index)) E = take-append-le (suc (f depth_index)) E (A ++ R) (omega arith) in
      let q : drop ends_limit t ≡ A ++ R = drop_at E (A ++ R) ends_limit hE in
      let r : drop table_width t ≡ R = sym (drop-drop awaiting_table ends_limit t) ∙ ap (drop awaiting_table) q ∙ drop_at A R awaiting_table hA in
      let z : entries awaiting_width (f awaiting_count_index) (drop ends_limit t) ≡ entries awaiting_width (f awaiting_count_index) A = ap (entries awaiting_width (f awaiting_count_index)) q ∙ entries_append awaiting_width (f awaiting_count_index) A R (omega arith) in
      ap₂ (λ (x y : List ℕ). generation_of f (cut 0 x (map read_record (entries record_width (f records_count_index) y)) []) (map read_pending (entries awaiting_width (f awaiting_count_index) (drop ends_limit t)))) p r
      ∙ ap (λ (x : List (List ℕ)). generation_of f (layers_at f E R) (map read_pending x)) z

  length_queue : length (queue_of f A) ≡ f awaiting_count_index
  length_queue = length-map (entries awaiting_width (f awaiting_count_index) A) read_pending ∙ length_entries awaiting_width (f awaiting_count_index) A

  length_layers : Counts f → length (layers_at f E R).base ≡ suc (f depth_index)
  length_layers k = length_cut 0 (take (suc (f depth_index)) E) (map read_record (entries record_width (f records_count_index) R)) [] ∙ omega (arith, length-take-le (suc (f depth_index)) E (omega arith))

  -- The ends rise where the words are an image's.
  ends_of : Counts f → is_image f (E ++ (A ++ R)) (generation_of f (layers_at f E R) (queue_of f A)) ≡ true → ends_rise (f records_count_index) 0 (take (suc (f depth_index)) E) ≡ true
  unfolding record_count
  ends_of k e =
      let g : Generation = generation_of f (layers_at f E R) (queue_of f A) in
      let i : ImageFacts f (E ++ (A ++ R)) g = image_facts f (E ++ (A ++ R)) (layers_at f E R) (queue_of f A) e in
      let le : List ℕ = layer_ends g.base in
      let ap' : List ℕ = all_pending_words g.pending in
      let ar : List ℕ = all_record_words (flat_records (chain g)) in
      let r : Room (f capacity_index) le ap' ar = room (config_of f) g config i.right in
      let same : Bool = words_eqb (take (length le) E) le in
      let w = sym (tables_law (f capacity_index) E A R le ap' ar hE hA hR r.ends_room r.awaiting_room r.records_room) ∙ i.tables_are in
      let v : (same && all_zero (drop (length le) E)) ≡ true = and_left (same && all_zero (drop (length le) E)) _ w in
      let x : take (length le) E ≡ le = words_eqb_true _ _ (and_left same _ v) in
      let y : length le ≡ suc (f depth_index) = length_ends g.base ∙ length_layers k in
      let z : record_count g.base ≤ f records_count_index = omega arith in
      ap (ends_rise (f records_count_index) 0) (ap (λ (n : ℕ). take n E) (sym y) ∙ x) ∙ layer_ends_rise g.base (f records_count_index) z

  -- The parts of an image whose numbers are within their limits and whose ends rise.
  module _ (k : Counts f) (counts : counts_right (spell header_width f) ≡ true) (rise : ends_rise (f records_count_index) 0 (take (suc (f depth_index)) E) ≡ true) where
    says : CutSays [] (take (suc (f depth_index)) E) (map read_record (entries record_width (f records_count_index) R)) (layers_at f E R)
    unfolding record_count
    says = cut_says (f records_count_index) 0 (take (suc (f depth_index)) E) (map read_record (entries record_width (f records_count_index) R)) [] refl (length-map (entries record_width (f records_count_index) R) read_record ∙ length_entries record_width (f records_count_index) R ∙ omega arith) rise

    ends_are : layer_ends (layers_at f E R).base ≡ take (suc (f depth_index)) E
    unfolding layer_ends
    ends_are = says.ends

    flat_is : flat_records ((layers_at f E R).top ∷ (layers_at f E R).base) ≡ map read_record (entries record_width (f records_count_index) R)
    unfolding flat_records
    flat_is = says.flat

    count_is : record_count ((layers_at f E R).top ∷ (layers_at f E R).base) ≡ f records_count_index
    count_is = sym (length_flat ((layers_at f E R).top ∷ (layers_at f E R).base)) ∙ ap length flat_is ∙ length-map (entries record_width (f records_count_index) R) read_record ∙ length_entries record_width (f records_count_index) R

    -- The words of the header are its own, but for the hash.
    counted_is : counted f (generation_of f (layers_at f E R) (queue_of f A)) ≡ true
    counted_is =
        let d : f depth_index ≡ pred (length (layers_at f E R).base) = omega (arith, length_layers k) in
        and_intro _ _ (eq-eqb _ _ d) (and_intro _ _ (eq-eqb _ _ (sym count_is)) (eq-eqb _ _ (sym length_queue)))

    -- The tables: zeros after the ends, awaiting slots and records, and these in their one form.
    tables_are : words_eqb (E ++ (A ++ R)) (table_words (f capacity_index) (layer_ends (layers_at f E R).base) (all_pending_words (queue_of f A)) (all_record_words (flat_records ((layers_at f E R).top ∷ (layers_at f E R).base))))
        ≡ (all_zero (drop (suc (f depth_index)) E) && ((all_of flagged (entries awaiting_width (f awaiting_count_index) A) && all_zero (drop (awaiting_width * f awaiting_count_index) A)) && (all_of formed (entries record_width (f records_count_index) R) && all_zero (drop (record_width * f records_count_index) R))))
    tables_are =
        let es : List (List ℕ) = entries record_width (f records_count_index) R in
        let e : List ℕ = take (suc (f depth_index)) E in
        let a : List ℕ = all_pending_words (queue_of f A) in
        let r : List ℕ = all_record_words (map read_record es) in
        let n : length e ≡ suc (f depth_index) = length-take-le (suc (f depth_index)) E (omega arith) in
        let m : length a ≡ awaiting_width * f awaiting_count_index = length_pending (queue_of f A) ∙ ap (λ (x : ℕ). awaiting_width * x) length_queue in
        let o : length r ≡ record_width * f records_count_index = length_records (map read_record es) ∙ ap (λ (x : ℕ). record_width * x) (length-map es read_record ∙ length_entries record_width (f records_count_index) R) in
        ap₂ (λ (x : List ℕ) (y : List Record). words_eqb (E ++ (A ++ R)) (table_words (f capacity_index) x a (all_record_words y))) ends_are flat_is
        ∙ tables_law (f capacity_index) E A R e a r hE hA hR (omega arith) (omega arith) (omega arith)
        ∙ ap₂ (λ (x y : Bool). x && y)
        (ap (λ (x : ℕ). words_eqb (take x E) e && all_zero (drop x E)) n ∙ ap (λ (x : Bool). x && all_zero (drop (suc (f depth_index)) E)) (words_eqb_refl e))
        (ap₂ (λ (x y : Bool). x && y)
        (ap (λ (x : ℕ). words_eqb (take x A) a && all_zero (drop x A)) m ∙ ap (λ (x : Bool). x && all_zero (drop (awaiting_width * f awaiting_count_index) A)) (pendings_eqb (f awaiting_count_index) A (omega arith)))
        (ap (λ (x : ℕ). words_eqb (take x R) r && all_zero (drop x R)) o ∙ ap (λ (x : Bool). x && all_zero (drop (record_width * f records_count_index) R)) (records_eqb (f records_count_index) R (omega arith))))

    -- The generation's tests.
    generation_is : generation_ok (config_of f) (generation_of f (layers_at f E R) (queue_of f A))
        ≡ (((layers_rise 0 (take (suc (f depth_index)) E) (entries record_width (f records_count_index) R) && (all_content_ok (f number_index) ((layers_at f E R).top ∷ (layers_at f E R).base) && all_of low (entries record_width (f records_count_index) R)))
        && every (λ s c. top_content_ok (config_of f).retention (f number_index) (freshest_use s (layers_at f E R).base) c) (layers_at f E R).top)
        && (((all_of low (entries awaiting_width (f awaiting_count_index) A) && all_of waits (entries awaiting_width (f awaiting_count_index) A)) && entries_rise (entries awaiting_width (f awaiting_count_index) A)) && totals_right (waiters_sum (entries awaiting_width (f awaiting_count_index) A)) (f awaiting_count_index) (spell header_width f)))
    unfolding generation_ok records_ok sizes_ok anchor_fits all_rising
    generation_is =
        let c : Cut = layers_at f E R in
        let g : Generation = generation_of f c (queue_of f A) in
        let es : List (List ℕ) = entries record_width (f records_count_index) R in
        let ends : List ℕ = take (suc (f depth_index)) E in
        let ls : List Layer = c.top ∷ c.base in
        let top : Bool = every (λ s k. top_content_ok (config_of f).retention (f number_index) (freshest_use s c.base) k) c.top in
        let rises : all_rising ls ≡ layers_rise 0 ends es = all_rising_cut 0 ends es [] ∙ and_true _ in
        let fits : every (λ s k. slot_fits s && content_fits k) (flat_records ls) ≡ all_of low es = ap (every (λ s k. slot_fits s && content_fits k)) flat_is ∙ records_fit (f records_count_index) fitR (omega arith) in
        let chained : chain_ok (f number_index) ls ≡ (layers_rise 0 ends es && (all_content_ok (f number_index) ls && all_of low es)) = chain_parts (f number_index) ls ∙ ap₂ (λ (x y : Bool). x && (all_content_ok (f number_index) ls && y)) rises fits in
        let base : length c.base ≡ suc (f depth_index) = length_layers k in
        let anchor : anchor_fits g.anchor ≡ true = and_intro _ _ (lt-ltb (f number_index) (2 ^ 64) (small 6)) (hash_fit (eqb (f hash_index) 0)) in
        let deep : ltb 0 (length c.base) ≡ true = lt-ltb 0 (length c.base) (omega arith) in
        let flat : leb (length c.base) (suc (f max_depth_index)) ≡ true = le-leb (length c.base) (suc (f max_depth_index)) (omega arith) in
        let room' : leb (record_count ls) (f capacity_index) ≡ true = le-leb (record_count ls) (f capacity_index) (omega (arith, count_is)) in
        let short : leb (length (queue_of f A)) 64 ≡ true = le-leb (length (queue_of f A)) 64 (omega (arith, length_queue)) in
        glue anchor (ap (λ (x : Bool). x && top) chained) (and_intro _ _ deep (and_intro _ _ flat room')) (pendings_right (f awaiting_count_index) fitA (omega arith)) short (totals_law f (queue_of f A) _ _ (waiters_are (entries awaiting_width (f awaiting_count_index) A)) length_queue)
      where
        hash_fit : (b : Bool) → hash_fits (cond b None (Some (record { w0 = f (hash_index + 1); w1 = f (hash_index + 2); w2 = f (hash_index + 3); w3 = f (hash_index + 4) }))) ≡ true
        hash_fit true = refl
        hash_fit false = rw (lt-ltb (f (hash_index + 1)) (2 ^ 64) (small (hash_index + 1)), lt-ltb (f (hash_index + 2)) (2 ^ 64) (small (hash_index + 2)), lt-ltb (f (hash_index + 3)) (2 ^ 64) (small (hash_index + 3)), lt-ltb (f (hash_index + 4)) (2 ^ 64) (small (hash_index + 4)))

        glue : {a b b' c d d' e t t' : Bool} → a ≡ true → b ≡ b' → c ≡ true → d ≡ d' → e ≡ true → t ≡ t' → (a && (b && (c && (d && (e && t))))) ≡ (b' && (d' && t'))
        glue pa pb pc pd pe pt = rw (pa, pb, pc, pd, pe, pt)

    parts_law : (parts_right (spell header_width f) E A R && rules_right (spell header_width f) E R) ≡ is_image f (E ++ (A ++ R)) (generation_of f (layers_at f E R) (queue_of f A))
    unfolding parts_right rules_right cross_right anchor_right ends_right queue_right reads_right area_right records_right spell
    parts_law =
        let c : Cut = layers_at f E R in
        let g : Generation = generation_of f c (queue_of f A) in
        let ls : List Layer = c.top ∷ c.base in
        let es : List (List ℕ) = entries record_width (f records_count_index) R in
        let ws : List (List ℕ) = entries awaiting_width (f awaiting_count_index) A in
        let ends : List ℕ = take (suc (f depth_index)) E in
        let tables : List ℕ = table_words (f capacity_index) (layer_ends c.base) (all_pending_words (queue_of f A)) (all_record_words (flat_records ls)) in
        let v : Bool = eqb (f installed_index) 1 in
        let h : Bool = hash_normal f in
        let ez : Bool = all_zero (drop (suc (f depth_index)) E) in
        let pr : Bool = entries_rise ws in
        let pz : Bool = all_zero (drop (awaiting_width * f awaiting_count_index) A) in
        let tt' : Bool = totals_right (waiters_sum ws) (f awaiting_count_index) (spell header_width f) in
        let rz : Bool = all_zero (drop (record_width * f records_count_index) R) in
        let lr : Bool = layers_rise 0 ends es in
        let ac : Bool = all_content_ok (f number_index) ls in
        let tc : Bool = every (λ s x. top_content_ok (config_of f).retention (f number_index) (freshest_use s c.base) x) c.top in
        let lo9 : Bool = all_of low ws in
        let wt : Bool = all_of waits ws in
        let fw : Bool = all_of few ws in
        let pf : Bool = all_of flagged ws in
        let lo : Bool = all_of low es in
        let nf : Bool = all_of formed es in
        let us : Bool = all_of (used (f number_index)) es in
        let uses : ac ≡ (ac && us) = and_implied ac us (uses_right (f number_index) ls es flat_is) in
        let limit : tt' ≡ (tt' && fw) = and_implied tt' fw (λ e. few_each ws (few_waiters f (waiters_sum ws) (f awaiting_count_index) e)) in
        let left : (parts_right (spell header_width f) E A R && rules_right (spell header_width f) E R)
        ≡ (((v && h) && (true && ((true && ez) && ((((lo9 && (wt && (fw && pf))) && (pr && pz)) && tt') && (((lo && (nf && us)) && rz) && lr))))) && (ac && tc)) =
        ap₂ (λ (x y : Bool). ((v && h) && (x && ((y && ez) && (((all_of awaiting_right ws && (pr && pz)) && tt') && ((all_of (record_right (f number_index)) es && rz) && lr))))) && (ac && tc)) counts rise
        ∙ ap₂ (λ (x y : Bool). ((v && h) && (true && ((true && ez) && (((x && (pr && pz)) && tt') && ((y && rz) && lr))))) && (ac && tc)) (awaiting_apart ws) (records_apart (f number_index) es) in
        let right : is_image f (E ++ (A ++ R)) g ≡ ((((lr && (ac && lo)) && tc) && (((lo9 && wt) && pr) && tt')) && ((v && h) && (true && (ez && ((pf && pz) && (nf && rz)))))) =
        ap₂ (λ (x y : Bool). x && y) generation_is
        (header_law f c (queue_of f A) (E ++ (A ++ R)) tables ∙ ap₂ (λ (x y : Bool). (v && h) && (x && y)) counted_is tables_are) in
        left
        ∙ arrange v h ez lo9 wt fw pf pr pz tt' lo nf us rz lr ac tc
        ∙ ap₂ (λ (x y : Bool). (((lr && (x && lo)) && tc) && (((lo9 && wt) && pr) && y)) && ((v && h) && (true && (ez && ((pf && pz) && (nf && rz)))))) (sym uses) (sym limit)
        ∙ sym right

  -- An installed generation: its checks decide whether the words are its image.
  installed_law : (parts_right (spell header_width f) E A R && rules_right (spell header_width f) E R) ≡ is_image f (E ++ (A ++ R)) (generation_at f (E ++ (A ++ R)))
  installed_law =
      let t : List ℕ = E ++ (A ++ R) in
      iff _ _
      (λ e. let p : parts_right (spell header_width f) E A R ≡ true = and_left (parts_right (spell header_width f) E A R) _ e in
      let k : Counts f = counts_facts f (counts_in f E A R p) in
      ap (is_image f t) (read_parts k) ∙ sym (parts_law k (counts_in f E A R p) (rise_in f E A R p)) ∙ e)
      (λ e. let counts : counts_right (spell header_width f) ≡ true = counts_of f t _ _ e in
      let k : Counts f = counts_facts f counts in
      let d : is_image f t (generation_of f (layers_at f E R) (queue_of f A)) ≡ true = ap (is_image f t) (sym (read_parts k)) ∙ e in
      parts_law k counts (ends_of k d) ∙ d)

-- The store -------------------------------------------------------------------------------------------

-- The checks of a store's words are right exactly when the words are the image of the well-formed state that they read as.
store_law : (f : ℕ → ℕ) (E A R : List ℕ) → length E ≡ ends_limit → length A ≡ awaiting_table → length R ≡ record_width * f capacity_index → ((i : ℕ) → f i < 2 ^ 64) → Fit A → Fit R →
    let ws : List ℕ = spell header_width f ++ (E ++ (A ++ R)) in
    store_right (spell header_width f) E A R ≡ (well_formed (read_store ws) && words_eqb ws (image_words (read_store ws)))
unfolding store_right well_formed image_words spell
store_law f E A R hE hA hR small fitA fitR =
    let t : List ℕ = E ++ (A ++ R) in
    let ws : List ℕ = spell header_width f ++ t in
    let cfg : Config = config_of f in
    let i : Option Generation = cond (eqb (f installed_index) 0) None (Some (generation_at f t)) in
    let first : List ℕ = f 0 ∷ f capacity_index ∷ f max_depth_index ∷ f retention_index ∷ f idle_index ∷ [] in
    let rest : Bool = installed_ok cfg i && words_eqb (later f t) (installed_words (f capacity_index) i) in
    let n : length t ≡ table_width + record_width * f capacity_index = length-append E (A ++ R) ∙ omega (arith, length-append A R) in
    let apart : (well_formed (read_store ws) && words_eqb ws (image_words (read_store ws))) ≡ (config_right (spell header_width f) && rest) =
    ap (λ (st : Store). well_formed st && words_eqb ws (image_words st)) (read_shape f t)
    ∙ ap (λ (b : Bool). (config_ok cfg && installed_ok cfg i) && b) (words_eqb_append first (later f t) (config_words cfg) (installed_words (f capacity_index) i) (five (eqb (f retention_index) 0)))
    ∙ and_swap (config_ok cfg) (installed_ok cfg i) (words_eqb first (config_words cfg)) (words_eqb (later f t) (installed_words (f capacity_index) i))
    ∙ ap (λ (b : Bool). b && rest) (config_law f small) in
    and_under (config_right (spell header_width f)) _ rest
    (λ e. either (eqb (f installed_index) 0) (sym (empty_law (f capacity_index) (later f t) (omega arith))) (installed_law f E A R hE hA hR small fitA fitR (config_facts f small e)))
    ∙ sym apart
  where
    five : (b : Bool) → 5 ≡ length (config_words (record { capacity = f capacity_index; max_depth = f max_depth_index; retention = cond b Unbounded (IdleBlocks (f idle_index)) }))
    five true = refl
    five false = refl

    either : (b : Bool) {x y : Bool} → x ≡ words_eqb (later f (E ++ (A ++ R))) (installed_words (f capacity_index) None) → y ≡ is_image f (E ++ (A ++ R)) (generation_at f (E ++ (A ++ R))) →
        let i : Option Generation = cond b None (Some (generation_at f (E ++ (A ++ R)))) in
        cond b x y ≡ (installed_ok (config_of f) i && words_eqb (later f (E ++ (A ++ R))) (installed_words (f capacity_index) i))
    either true p q = p
    either false p q = q

-- The same of any four parts.
pub checks_law : (h E A R : List ℕ) → length h ≡ header_width → length E ≡ ends_limit → length A ≡ awaiting_table → length R ≡ record_width * get_or h capacity_index 0 → Fit h → Fit A → Fit R →
    let ws : List ℕ = h ++ (E ++ (A ++ R)) in
    store_right h E A R ≡ (well_formed (read_store ws) && words_eqb ws (image_words (read_store ws)))
checks_law h E A R hh hE hA hR fith fitA fitR =
    subst (λ (x : List ℕ). store_right x E A R ≡ (well_formed (read_store (x ++ (E ++ (A ++ R)))) && words_eqb (x ++ (E ++ (A ++ R))) (image_words (read_store (x ++ (E ++ (A ++ R)))))))
    (sym (spelled header_width h hh)) (store_law (λ i. get_or h i 0) E A R hE hA hR (fit_at fith) fitA fitR)
