-- Bytes after a record is set: they read as the records set, so that the next can be set. For callers that set several.
use Prim.Native.Nat.{ℕ, zero, suc, ◌+◌, ◌-◌, ◌*◌, ◌^◌, ◌≤◌, ◌<◌}
use mathlib.Core.Path.{◌≡◌, sym, ap, ◌∙◌}
use mathlib.Core.List.{List, [], ◌∷◌, ◌++◌, map, append-nil}
use native.Mathlib.Numerals.{add-one}
use native.Mathlib.Omega.{arith}
use lib.Dec.{lit<}
use lib.ListN.{length, take, drop, get_or, length-append, length-drop}
use lib.Seq.{take-suc, drop_at, drop-drop, get_or-drop}
use Rattle.layout.specs.Layout.{record_size, record_width, slot_width}
use Rattle.model.specs.declared.delta_snapshot.Slot.{Slot}
use Rattle.model.specs.Numbers.{num, num_from, Bytes}
use Rattle.model.specs.Slots.{u256_words, slot_eqb, slot_ltb, read_u256}
use Rattle.model.specs.declared.delta_snapshot.Content.{Content}
use Rattle.model.specs.Contents.{read_content}
use Rattle.model.specs.Layers.{Layer, insert}
use Rattle.model.proofs.NumberLaws.{num_from_snoc}
use Rattle.model.proofs.SlotLaws.{split}
use Rattle.words.proofs.Numbers.{more_fits}
use Rattle.image.specs.Image.{bytes_of, words_of, record_words, all_record_words, read_record, entries}
use Rattle.image.specs.Area.{records_of, with_records}
use Rattle.model.proofs.WordLaws.{Fit, fit_nil, fit_cons, fit_append, fit_left}
use Rattle.model.proofs.ContentLaws.{content_fits_read, fit_content}
use Rattle.image.proofs.Words.{length_bytes_of, words_of_bytes}
use Rattle.image.proofs.Entries.{length_records, read_records}
use Rattle.records.proofs.RecordsAt.{records_none, records_more}

-- Words that were read fit ----------------------------------------------------------------------------

num_lt : (l : List ℕ) → Bytes l → (n : ℕ) → n ≤ length l → num (take n l) < 256 ^ n
unfolding num_from
num_lt l b zero h = lit< tt
num_lt l b (suc n) h =
    let x : ℕ = get_or l n 0 in
    let y : ℕ = num (take n l) in
    let e : num (take (suc n) l) ≡ y * 256 + x = ap num (take-suc l n 0 h) ∙ num_from_snoc 0 (take n l) x in
    rw (e, ← add-one n) (more_fits n y x (num_lt l b n (omega arith)) (b n))

fit_words : (n : ℕ) (b : List ℕ) → Bytes b → 8 * n ≤ length b → Fit (words_of n b)
unfolding words_of
fit_words zero b f h = fit_nil
fit_words (suc n) b f h =
    let k : 8 * n ≤ length (drop 8 b) = rw length-drop (omega arith) in
    fit_cons (num_lt b f 8 (omega arith)) (fit_words n (drop 8 b) (λ j. rw get_or-drop (f (8 + j))) k)

fit_get : {ws : List ℕ} → Fit ws → (i : ℕ) → get_or ws i 0 < 2 ^ 64
fit_get fit_nil i = lit< tt
fit_get (fit_cons h p) zero = h
fit_get (fit_cons h p) (suc i) = fit_get p i

fit_value : (ws : List ℕ) → ((i : ℕ) → get_or ws i 0 < 2 ^ 64) → Fit (u256_words (read_u256 ws))
fit_value ws g = fit_cons (g 0) (fit_cons (g 1) (fit_cons (g 2) (fit_cons (g 3) fit_nil)))

fit_record : (ws : List ℕ) → ((i : ℕ) → get_or ws i 0 < 2 ^ 64) → Fit (record_words (read_record ws))
fit_record ws g =
    fit_append (fit_cons (g 0) (fit_cons (g 1) (fit_cons (g 2) (fit_value (drop 3 ws) (λ i. rw get_or-drop (g (3 + i)))))))
    (fit_content (read_content (drop slot_width ws)) (content_fits_read (drop slot_width ws) (λ i. rw get_or-drop (g (slot_width + i)))))

-- The words of records that were read.
pub fit_read : (n : ℕ) (s : List ℕ) → Bytes s → n * record_size ≤ length s → Fit (all_record_words (records_of n s))
unfolding all_record_words
fit_read zero s f h = rw records_none fit_nil
fit_read (suc n) s f h =
    let k : n * record_size ≤ length (drop record_size s) = rw length-drop (omega arith) in
    rw records_more (fit_append (fit_record (words_of record_width s) (fit_get (fit_words record_width s f (omega arith)))) (fit_read n (drop record_size s) (λ j. rw get_or-drop (f (record_size + j))) k))

fit_rest : (xs ys : List ℕ) → Fit (xs ++ ys) → Fit ys
fit_rest [] ys p = p
fit_rest (x ∷ xs) ys (fit_cons h p) = fit_rest xs ys p

-- The words after a record is set.
pub fit_insert : (t : Slot) (c : Content) (l : Layer) → Fit (record_words (record { slot = t; content = c })) → Fit (all_record_words l) → Fit (all_record_words (insert t c l))
unfolding all_record_words insert
fit_insert t c [] f g = fit_append f fit_nil
fit_insert t c (r ∷ l) f g =
    split (slot_eqb r.slot t)
    (λ p. rw p (fit_append f (fit_rest (record_words r) (all_record_words l) g)))
    (λ p. split (slot_ltb t r.slot) (λ q. rw (p, q) (fit_append f g)) (λ q. rw (p, q) (fit_append (fit_left (record_words r) (all_record_words l) g) (fit_insert t c l f (fit_rest (record_words r) (all_record_words l) g)))))

-- Bytes with records read back ------------------------------------------------------------------------

pub records_back : (l : Layer) (s : List ℕ) → Fit (all_record_words l) → records_of (length l) (with_records l s) ≡ l
unfolding records_of with_records
records_back l s f =
    let w = all_record_words l in
    let d = drop (record_size * length l) s in
    let e : record_width * length l ≡ length w = sym (length_records l) in
    ap (λ (k : ℕ). map read_record (entries record_width (length l) (words_of k (bytes_of w ++ d)))) e
    ∙ ap (λ (x : List ℕ). map read_record (entries record_width (length l) x)) (words_of_bytes d f ∙ sym (append-nil w))
    ∙ read_records l []

-- Records over at most as many others.
pub with_more : (k l : Layer) (s : List ℕ) → length l ≤ length k → with_records k (with_records l s) ≡ with_records k s
unfolding with_records
with_more k l s h =
    let x = bytes_of (all_record_words l) in
    let d = drop (record_size * length l) s in
    let m = record_size * length k - record_size * length l in
    let e : record_size * length k ≡ record_size * length l + m = omega arith in
    let n : length x ≡ record_size * length l = omega (arith, length_bytes_of (all_record_words l), length_records l) in
    ap (λ (y : List ℕ). bytes_of (all_record_words k) ++ y)
    (ap (λ (j : ℕ). drop j (x ++ d)) e ∙ sym (drop-drop m (record_size * length l) (x ++ d)) ∙ ap (drop m) (drop_at x d (record_size * length l) n) ∙ drop-drop m (record_size * length l) s ∙ ap (λ (j : ℕ). drop j s) (sym e))

pub length_with : (l : Layer) (s : List ℕ) → length l * record_size ≤ length s → length (with_records l s) ≡ length s
unfolding with_records
length_with l s h =
    length-append (bytes_of (all_record_words l)) (drop (record_size * length l) s)
    ∙ omega (arith, length_bytes_of (all_record_words l), length_records l, length-drop (record_size * length l) s)

-- The bytes are exactly those of the records set, as `Ready` asks.
pub exact_again : (l : Layer) (s : List ℕ) → Fit (all_record_words l) → with_records (records_of (length l) (with_records l s)) (with_records l s) ≡ with_records l s
exact_again l s f = ap (λ (k : Layer). with_records k (with_records l s)) (records_back l s f) ∙ with_more l l s (omega arith)
