-- What the tests of records and awaiting slots say of the words that they are read from.
use Prim.Native.Nat.{ℕ, zero, suc, ◌+◌, ◌-◌, ◌*◌, ◌^◌, ◌≤◌, ◌<◌}
use mathlib.Core.Path.{◌≡◌, refl, sym, ap, ap₂, subst, ◌∙◌}
use mathlib.Core.Bool.{Bool, true, false, ◌&&◌}
use mathlib.Core.List.{List, [], ◌∷◌, map}
use native.Mathlib.Omega.{arith}
use lib.Dec.{leb, eqb, ltb}
use lib.ListN.{length, take, drop, get_or, length-drop, take-append-drop}
use lib.Seq.{length-take-le}
use borrow.Author.Tests.{lt-ltb, le-leb}
use Rattle.layout.specs.Layout.{awaiting_width, record_width, second_waiters_index, slot_width, taken_index, waiters_index}
use Rattle.model.specs.declared.delta_snapshot.Slot.{Slot}
use Rattle.model.specs.Slots.{slot_words, slot_ltb, words_eqb}
use Rattle.model.specs.declared.delta_snapshot.Content.{Content}
use Rattle.model.specs.Contents.{use_of, content_fits, content_ok, content_words, read_content, content_right}
use Rattle.model.specs.Layers.{Layer, held_value, freshest_use}
use Rattle.model.proofs.SlotLaws.{and_left, and_right, and_intro, and_false, and_true, words_eqb_refl}
use Rattle.model.proofs.ContentLaws.{content_fits_read, content_parts}
use Rattle.image.specs.WellFormed.{every, slot_fits, pending_ok_from, pending_ok, all_waiters}
use Rattle.image.specs.Image.{flat_records, record_words, pending_words, all_record_words, all_pending_words, read_slot, read_record, read_pending, entries}
use Rattle.model.proofs.WordLaws.{Fit}
use Rattle.image.proofs.Entries.{record_wide, records_joined, pending_joined}
use Rattle.checking.specs.Checks.{all_of, awaiting_right, record_right, entries_rise_from, entries_rise, waiters_sum}
use Rattle.rules.specs.Rules.{all_content_ok}
use Rattle.rules.proofs.LayerLaws.{every_append}
use Rattle.checking.proofs.Bools.{eqb_same, flag_eqb, spell, spelled, words_eqb_append, fit_take, fit_drop, fit_at, entries_eqb, all_of_and}

-- The tests of an entry's words -----------------------------------------------------------------------

-- The first word of a slot fits.
abbrev pub low : List ℕ → Bool
low e = ltb (get_or e 0 0) (2 ^ 32)

-- A record's words after its slot are those of a content; its last use is within a number.
abbrev pub formed : List ℕ → Bool
formed e = content_right (drop slot_width e)

abbrev pub used : ℕ → List ℕ → Bool
used n e = leb (use_of (read_content (drop slot_width e))) n

-- An awaiting slot has a waiter, not too many, is taken or not, and has no second number.
abbrev pub waits : List ℕ → Bool
waits e = ltb 0 (get_or e waiters_index 0)

abbrev pub few : List ℕ → Bool
few e = leb (get_or e waiters_index 0) 4294967295

abbrev pub flagged : List ℕ → Bool
flagged e = leb (get_or e taken_index 0) 1 && eqb (get_or e second_waiters_index 0) 0

-- The tests of all entries, apart.
pub records_apart : (n : ℕ) (es : List (List ℕ)) → all_of (record_right n) es ≡ (all_of low es && (all_of formed es && all_of (used n) es))
unfolding record_right
records_apart n es = all_of_and low (λ e. formed e && used n e) es ∙ ap (λ (t : Bool). all_of low es && t) (all_of_and formed (used n) es)

pub awaiting_apart : (es : List (List ℕ)) → all_of awaiting_right es ≡ (all_of low es && (all_of waits es && (all_of few es && all_of flagged es)))
unfolding awaiting_right
awaiting_apart es =
    all_of_and low (λ e. waits e && (few e && flagged e)) es
    ∙ ap (λ (t : Bool). all_of low es && t) (all_of_and waits (λ e. few e && flagged e) es ∙ ap (λ (t : Bool). all_of waits es && t) (all_of_and few flagged es))

-- Two tests that agree on entries of w words that fit.
pub all_of_same : (w : ℕ) (p q : List ℕ → Bool) → ((e : List ℕ) → length e ≡ w → Fit e → p e ≡ q e) → (n : ℕ) {l : List ℕ} → Fit l → w * n ≤ length l → all_of p (entries w n l) ≡ all_of q (entries w n l)
unfolding all_of entries
all_of_same w p q same zero f h = refl
all_of_same w p q same (suc n) {l} f h =
    let d : length (drop w l) ≡ length l - w = length-drop w l in
    let e : w * suc n ≡ w + w * n = omega arith in
    ap₂ (λ (a b : Bool). a && b) (same (take w l) (length-take-le w l (omega arith)) (fit_take w f)) (all_of_same w p q same n (fit_drop w f) (omega arith))

-- Slots -----------------------------------------------------------------------------------------------

-- A slot of words that fit fits exactly when its first word does.
slot_fits_low : (f : ℕ → ℕ) → ((i : ℕ) → f i < 2 ^ 64) → slot_fits (read_slot (spell slot_width f)) ≡ ltb (f 0) (2 ^ 32)
unfolding slot_fits spell
slot_fits_low f h =
    simp (lt-ltb (f 1) (2 ^ 64) (h 1), lt-ltb (f 2) (2 ^ 64) (h 2), lt-ltb (f 3) (2 ^ 64) (h 3), lt-ltb (f 4) (2 ^ 64) (h 4), lt-ltb (f 5) (2 ^ 64) (h 5), lt-ltb (f 6) (2 ^ 64) (h 6), and_true)

-- Records ---------------------------------------------------------------------------------------------

-- Words that begin with a slot's are the slot's that they are read as.
slot_same : (f : ℕ → ℕ) → slot_words (read_slot (spell record_width f)) ≡ take slot_width (spell record_width f)
unfolding spell
slot_same f = refl

every_entry : (p : Slot → Content → Bool) (es : List (List ℕ)) → every p (map read_record es) ≡ all_of (λ e. p (read_slot e) (read_content (drop slot_width e))) es
unfolding every all_of
every_entry p [] = refl
every_entry p (e ∷ es) = ap (λ (t : Bool). p (read_slot e) (read_content (drop slot_width e)) && t) (every_entry p es)

-- A record's entry, by its words.
record_low : (e : List ℕ) → length e ≡ record_width → Fit e → (slot_fits (read_slot e) && content_fits (read_content (drop slot_width e))) ≡ low e
unfolding spell
record_low e k g =
    ap₂ (λ (a b : Bool). a && b)
    (subst (λ (x : List ℕ). slot_fits (read_slot x) ≡ low x) (sym (spelled record_width e k)) (slot_fits_low (λ i. get_or e i 0) (fit_at g)))
    (content_fits_read (drop slot_width e) (fit_at (fit_drop slot_width g)))
    ∙ and_true (low e)

record_formed : (e : List ℕ) → length e ≡ record_width → words_eqb e (record_words (read_record e)) ≡ formed e
record_formed e k =
    let s : slot_words (read_slot e) ≡ take slot_width e = subst (λ (x : List ℕ). slot_words (read_slot x) ≡ take slot_width x) (sym (spelled record_width e k)) (slot_same (λ i. get_or e i 0)) in
    ap (λ (l : List ℕ). words_eqb l (record_words (read_record e))) (sym (take-append-drop slot_width e))
    ∙ words_eqb_append (take slot_width e) (drop slot_width e) (slot_words (read_slot e)) (content_words (read_content (drop slot_width e))) (ap length (sym s))
    ∙ ap (λ (t : Bool). t && formed e) (ap (words_eqb (take slot_width e)) s ∙ words_eqb_refl (take slot_width e))

-- The records of n entries fit exactly when each first word does.
pub records_fit : (n : ℕ) {l : List ℕ} → Fit l → record_width * n ≤ length l → every (λ s c. slot_fits s && content_fits c) (map read_record (entries record_width n l)) ≡ all_of low (entries record_width n l)
records_fit n {l} f h =
    every_entry (λ s c. slot_fits s && content_fits c) (entries record_width n l)
    ∙ all_of_same record_width (λ e. slot_fits (read_slot e) && content_fits (read_content (drop slot_width e))) low record_low n f h

-- Words are those of the records that they read as exactly when each record's are those of a content.
pub records_eqb : (n : ℕ) (l : List ℕ) → record_width * n ≤ length l → words_eqb (take (record_width * n) l) (all_record_words (map read_record (entries record_width n l))) ≡ all_of formed (entries record_width n l)
records_eqb n l h =
    ap (words_eqb (take (record_width * n) l)) (records_joined (map read_record (entries record_width n l)))
    ∙ entries_eqb record_width record_words read_record formed record_wide record_formed n l h

-- Every record of right layers is used within the number.
abbrev use_within : ℕ → Slot → Content → Bool
use_within n s c = leb (use_of c) n

within_layer : (n : ℕ) (ls : List Layer) (l : Layer) → every (λ s c. content_ok n (held_value s ls) (freshest_use s ls) c) l ≡ true → every (use_within n) l ≡ true
unfolding every
within_layer n ls [] e = refl
within_layer n ls (r ∷ l) e =
    let a : Bool = content_ok n (held_value r.slot ls) (freshest_use r.slot ls) r.content in
    and_intro _ _ (le-leb _ _ (content_parts n (held_value r.slot ls) (freshest_use r.slot ls) r.content (and_left a _ e)).use_within) (within_layer n ls l (and_right a _ e))

within_all : (n : ℕ) (ls : List Layer) → all_content_ok n ls ≡ true → every (use_within n) (flat_records ls) ≡ true
unfolding all_content_ok flat_records every
within_all n [] e = refl
within_all n (l ∷ ls) e =
    let a : Bool = every (λ s c. content_ok n (held_value s ls) (freshest_use s ls) c) l in
    every_append (use_within n) (flat_records ls) l ∙ and_intro _ _ (within_all n ls (and_right a _ e)) (within_layer n ls l (and_left a _ e))

within_used : (n : ℕ) (es : List (List ℕ)) → every (use_within n) (map read_record es) ≡ all_of (used n) es
unfolding every all_of
within_used n [] = refl
within_used n (e ∷ es) = ap (λ (b : Bool). used n e && b) (within_used n es)

pub uses_right : (n : ℕ) (ls : List Layer) (es : List (List ℕ)) → flat_records ls ≡ map read_record es → all_content_ok n ls ≡ true → all_of (used n) es ≡ true
uses_right n ls es h e = sym (within_used n es) ∙ ap (every (use_within n)) (sym h) ∙ within_all n ls e

-- Awaiting slots --------------------------------------------------------------------------------------

pending_same : (f : ℕ → ℕ) → words_eqb (spell awaiting_width f) (pending_words (read_pending (spell awaiting_width f))) ≡ (leb (f taken_index) 1 && eqb (f second_waiters_index) 0)
unfolding words_eqb spell
pending_same f = simp (eqb_same, and_true, flag_eqb)

pending_flagged : (e : List ℕ) → length e ≡ awaiting_width → words_eqb e (pending_words (read_pending e)) ≡ flagged e
unfolding spell
pending_flagged e k = subst (λ (x : List ℕ). words_eqb x (pending_words (read_pending x)) ≡ flagged x) (sym (spelled awaiting_width e k)) (pending_same (λ i. get_or e i 0))

pub pendings_eqb : (n : ℕ) (l : List ℕ) → awaiting_width * n ≤ length l → words_eqb (take (awaiting_width * n) l) (all_pending_words (map read_pending (entries awaiting_width n l))) ≡ all_of flagged (entries awaiting_width n l)
pendings_eqb n l h =
    ap (words_eqb (take (awaiting_width * n) l)) (pending_joined (map read_pending (entries awaiting_width n l)))
    ∙ entries_eqb awaiting_width pending_words read_pending flagged (λ w. refl) pending_flagged n l h

-- Awaiting slots are right exactly when each fits and waits, and they rise.
abbrev fits_waits : List ℕ → Bool
fits_waits e = slot_fits (read_slot e) && waits e

pending_from : (e : List ℕ) (es : List (List ℕ)) → pending_ok_from (read_slot e) (map read_pending es) ≡ (all_of fits_waits es && entries_rise_from e es)
unfolding pending_ok_from all_of entries_rise_from
pending_from e [] = refl
pending_from e (f ∷ es) =
    let r : Bool = slot_ltb (read_slot e) (read_slot f) in
    let a : Bool = slot_fits (read_slot f) in
    ap (λ (t : Bool). r && (a && (waits f && t))) (pending_from f es) ∙ turn r a (waits f) (all_of fits_waits es) (entries_rise_from f es)
  where
    turn : (r a w x y : Bool) → (r && (a && (w && (x && y)))) ≡ (((a && w) && x) && (r && y))
    turn false a w x y = simp and_false
    turn true false w x y = refl
    turn true true false x y = refl
    turn true true true x y = refl

pending_apart : (es : List (List ℕ)) → pending_ok (map read_pending es) ≡ (all_of fits_waits es && entries_rise es)
unfolding pending_ok all_of
pending_apart [] = refl
pending_apart (e ∷ es) =
    ap (λ (t : Bool). slot_fits (read_slot e) && (waits e && t)) (pending_from e es) ∙ turn (slot_fits (read_slot e)) (waits e) (all_of fits_waits es) (entries_rise_from e es)
  where
    turn : (a w x y : Bool) → (a && (w && (x && y))) ≡ (((a && w) && x) && y)
    turn false w x y = refl
    turn true false x y = refl
    turn true true x y = refl

-- An awaiting slot's slot.
slot_low : (e : List ℕ) → length e ≡ awaiting_width → Fit e → slot_fits (read_slot e) ≡ low e
unfolding spell
slot_low e k g = subst (λ (x : List ℕ). slot_fits (read_slot x) ≡ low x) (sym (spelled awaiting_width e k)) (slot_fits_low (λ i. get_or e i 0) (fit_at g))

pub pendings_right : (n : ℕ) {l : List ℕ} → Fit l → awaiting_width * n ≤ length l → pending_ok (map read_pending (entries awaiting_width n l)) ≡ ((all_of low (entries awaiting_width n l) && all_of waits (entries awaiting_width n l)) && entries_rise (entries awaiting_width n l))
pendings_right n {l} f h =
    pending_apart (entries awaiting_width n l)
    ∙ ap (λ (t : Bool). t && entries_rise (entries awaiting_width n l))
    (all_of_and (λ e. slot_fits (read_slot e)) waits (entries awaiting_width n l) ∙ ap (λ (t : Bool). t && all_of waits (entries awaiting_width n l)) (all_of_same awaiting_width (λ e. slot_fits (read_slot e)) low slot_low n f h))

pub waiters_are : (es : List (List ℕ)) → all_waiters (map read_pending es) ≡ waiters_sum es
unfolding all_waiters waiters_sum
waiters_are [] = refl
waiters_are (e ∷ es) = ap (λ (n : ℕ). get_or e waiters_index 0 + n) (waiters_are es)

-- No slot has more waiters than all together.
pub few_each : (es : List (List ℕ)) → waiters_sum es ≤ 4294967295 → all_of few es ≡ true
unfolding waiters_sum all_of
few_each [] h = refl
few_each (e ∷ es) h = and_intro _ _ (le-leb (get_or e waiters_index 0) 4294967295 (omega arith)) (few_each es (omega arith))
