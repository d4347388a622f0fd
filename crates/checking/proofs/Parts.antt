-- A record's words, a flag's words, and the parts of a store, each by its tests.
use Prim.Native.Nat.{ℕ, suc, ◌+◌, ◌-◌, ◌*◌, ◌^◌, ◌≤◌, ◌<◌}
use mathlib.Core.Path.{◌≡◌, refl, sym, ap, ap₂, subst, ◌∙◌}
use mathlib.Core.Bool.{Bool, true, ◌&&◌}
use mathlib.Core.List.{List, [], ◌∷◌}
use native.Mathlib.Omega.{arith}
use lib.Dec.{eqb, leb, ltb, lit<}
use lib.ListN.{length, take, drop, get_or, length-drop}
use lib.Seq.{take_all, get_or-drop}
use Rattle.layout.specs.Layout.{awaiting_offset, awaiting_size, awaiting_table, awaiting_width, ends_limit, ends_offset, has_index, header_width, last_use_index, record_size, record_width, records_offset, second_use_index, slot_width, value_index}
use Rattle.model.proofs.SlotLaws.{and_left}
use Rattle.model.proofs.ContentLaws.{use_read, content_right_words}
use Rattle.checking.proofs.Bools.{spell, spelled}
use Rattle.model.specs.Numbers.{num}
use Rattle.model.specs.Slots.{words_eqb}
use Rattle.model.specs.Contents.{content_right}
use Rattle.image.specs.Image.{words_of, entries}
use Rattle.checking.specs.declared.Counted.{Counted}
use Rattle.checking.specs.Checks.{all_zero, all_of, normal, totals_right, ends_rise, ends_right, awaiting_right, waiters_sum, queue_right, reads_right, record_right, area_right, records_right, layers_rise, rows, slots_of, slots_rise}
use Rattle.records.proofs.Slots.{word_at}
use Rattle.checking.proofs.Rows.{rows_are, slots_awaiting, slots_entries}
use Rattle.image.proofs.Words.{length_words_of}
use Rattle.checking.proofs.Steps.{zero_tail, zero_range, layers_next, layers_end}

-- A record has a value or zeros.
abbrev pub formed_value : List ℕ → Bool
formed_value e = normal (get_or e has_index 0) (get_or e value_index 0 ∷ get_or e (value_index + 1) 0 ∷ get_or e (value_index + 2) 0 ∷ get_or e (value_index + 3) 0 ∷ [])

-- With no second use, its words are those of a content.
content_formed : (e : List ℕ) → length e ≡ record_width → content_right (drop slot_width e) ≡ (formed_value e && eqb (get_or e second_use_index 0) 0)
unfolding normal all_zero words_eqb spell
content_formed e k =
    subst (λ (x : List ℕ). content_right (drop slot_width x) ≡ (formed_value x && eqb (get_or x second_use_index 0) 0)) (sym (spelled record_width e k))
    (content_right_words (get_or e last_use_index 0) (get_or e has_index 0) (get_or e value_index 0) (get_or e (value_index + 1) 0) (get_or e (value_index + 2) 0) (get_or e (value_index + 3) 0) (get_or e second_use_index 0))

-- A record by itself, in the order of the tests.
pub record_words_right : (number : ℕ) (e : List ℕ) → length e ≡ record_width → record_right number e ≡ (ltb (get_or e 0 0) (2 ^ 32) && ((formed_value e && eqb (get_or e second_use_index 0) 0) && leb (get_or e last_use_index 0) number))
unfolding record_right
record_words_right number e k = ap₂ (λ (a : Bool) (u : ℕ). ltb (get_or e 0 0) (2 ^ 32) && (a && leb u number)) (content_formed e k) (use_read (drop slot_width e) ∙ get_or-drop slot_width e 0 0)

-- A flag and the words with it ------------------------------------------------------------------------

-- Words that begin at word k of others.
shift : (m n k i at : ℕ) (s : List ℕ) → i < m → k + i < n → get_or (words_of m (drop (at + 8 * k) s)) i 0 ≡ get_or (words_of n (drop at s)) (k + i) 0
shift m n k i at s h j =
    let e : at + 8 * k + 8 * i ≡ at + 8 * (k + i) = omega arith in
    word_at m i (at + 8 * k) s h ∙ ap (λ (x : ℕ). num (take 8 (drop x s))) e ∙ sym (word_at n (k + i) at s j)

spread : (x : List ℕ) → words_of 4 x ≡ get_or (words_of 4 x) 0 0 ∷ get_or (words_of 4 x) 1 0 ∷ get_or (words_of 4 x) 2 0 ∷ get_or (words_of 4 x) 3 0 ∷ []
unfolding words_of
spread x = refl

-- The four words after word i.
pub zero_four : (n at i : ℕ) (s : List ℕ) → i + 5 ≤ n → at + 8 * (i + 5) ≤ length s →
    let w : List ℕ = words_of n (drop at s) in
    all_zero (drop (at + 8 * (i + 1)) (take (at + 8 * (i + 5)) s)) ≡ all_zero (get_or w (i + 1) 0 ∷ get_or w (i + 2) 0 ∷ get_or w (i + 3) 0 ∷ get_or w (i + 4) 0 ∷ [])
zero_four n at i s h k =
    let w : List ℕ = words_of n (drop at s) in
    let x : List ℕ = drop (at + 8 * (i + 1)) s in
    let same : (j m : ℕ) → j < 4 → i + 1 + j ≡ m → get_or (words_of 4 x) j 0 ≡ get_or w m 0 = λ j m l e. shift 4 n (i + 1) j at s l (omega arith) ∙ ap (λ (o : ℕ). get_or w o 0) e in
    zero_range 4 (at + 8 * (i + 1)) (at + 8 * (i + 5)) s (omega arith) k
    ∙ ap all_zero (spread x ∙ rw (same 0 (i + 1) (lit< tt) (omega arith), same 1 (i + 2) (lit< tt) (omega arith), same 2 (i + 3) (lit< tt) (omega arith), same 3 (i + 4) (lit< tt) (omega arith)))

-- Parts -----------------------------------------------------------------------------------------------

-- A part that is lent to the end.
pub rest : (a : ℕ) (s : List ℕ) → take (length s - a) (drop a s) ≡ drop a s
rest a s = take_all (length s - a) (drop a s) (simp length-drop (omega arith))

-- The entries of words, as they stand in bytes.
pub rows_awaiting : (n : ℕ) (t : List ℕ) → n ≤ 64 → entries awaiting_width n (words_of awaiting_table t) ≡ rows awaiting_width n t
rows_awaiting n t h =
    let e : awaiting_width * n + (awaiting_table - awaiting_width * n) ≡ awaiting_table = omega arith in
    ap (λ (m : ℕ). entries awaiting_width n (words_of m t)) (sym e) ∙ rows_are awaiting_width n (awaiting_table - awaiting_width * n) t

pub rows_area : (n m : ℕ) (t : List ℕ) → n ≤ m → entries record_width n (words_of (record_width * m) t) ≡ rows record_width n t
rows_area n m t h =
    let e : record_width * n + (record_width * m - record_width * n) ≡ record_width * m = omega arith in
    ap (λ (x : ℕ). entries record_width n (words_of x t)) (sym e) ∙ rows_are record_width n (record_width * m - record_width * n) t

-- The layer ends.
pub ends_both : (c : Counted) →
    let s : List ℕ = c.bytes.now in
    ends_right c.depth c.records (words_of ends_limit (drop ends_offset s)) ≡ (ends_rise c.records 0 (take (suc c.depth) (words_of ends_limit (drop ends_offset s))) && all_zero (drop (ends_offset + 8 + 8 * c.depth) (take awaiting_offset s)))
unfolding ends_right
ends_both c =
    let s : List ℕ = c.bytes.now in
    let d : ℕ = c.depth in
    let e : suc d + (255 - d) ≡ ends_limit = omega (arith, c.shallow) in
    let z : all_zero (drop (ends_offset + 8 + 8 * d) (take awaiting_offset s)) ≡ all_zero (drop (suc d) (words_of ends_limit (drop ends_offset s))) =
    zero_tail (suc d) (255 - d) ends_offset (ends_offset + 8 + 8 * d) awaiting_offset s (omega arith) (omega (arith, c.shallow)) (omega (arith, c.within)) ∙ ap (λ (m : ℕ). all_zero (drop (suc d) (words_of m (drop ends_offset s)))) e in
    rw z

-- The awaiting slots.
pub queue_all : (c : Counted) →
    let s : List ℕ = c.bytes.now in
    queue_right c.awaiting (words_of awaiting_table (drop awaiting_offset s))
    ≡ (all_of awaiting_right (rows awaiting_width c.awaiting (drop awaiting_offset s)) && (slots_rise (slots_of awaiting_size c.awaiting (take (length s - awaiting_offset) (drop awaiting_offset s))) && all_zero (drop (awaiting_offset + awaiting_size * c.awaiting) (take records_offset s))))
unfolding queue_right
queue_all c =
    let s : List ℕ = c.bytes.now in
    let n : ℕ = c.awaiting in
    let e : awaiting_width * n + (awaiting_table - awaiting_width * n) ≡ awaiting_table = omega (arith, c.short) in
    let t : List ℕ = drop awaiting_offset s in
    let z : all_zero (drop (awaiting_offset + awaiting_size * n) (take records_offset s)) ≡ all_zero (drop (awaiting_width * n) (words_of awaiting_table t)) =
    zero_tail (awaiting_width * n) (awaiting_table - awaiting_width * n) awaiting_offset (awaiting_offset + awaiting_size * n) records_offset s (omega arith) (omega (arith, c.short)) (omega (arith, c.within)) ∙ ap (λ (m : ℕ). all_zero (drop (awaiting_width * n) (words_of m t))) e in
    rw (rest awaiting_offset s, rows_awaiting n t c.short, slots_awaiting n t, slots_entries (rows awaiting_width n t), z)

-- The record area.
pub area_both : (number : ℕ) (c : Counted) →
    let s : List ℕ = c.bytes.now in
    area_right number c.records (words_of (record_width * c.capacity) (drop records_offset s))
    ≡ (all_of (record_right number) (rows record_width c.records (drop records_offset s)) && all_zero (drop (records_offset + record_size * c.records) (take (records_offset + record_size * c.capacity) s)))
unfolding area_right
area_both number c =
    let s : List ℕ = c.bytes.now in
    let n : ℕ = c.records in
    let m : ℕ = c.capacity in
    let e : record_width * n + (record_width * m - record_width * n) ≡ record_width * m = omega (arith, c.few) in
    let t : List ℕ = drop records_offset s in
    let z : all_zero (drop (records_offset + record_size * n) (take (records_offset + record_size * m) s)) ≡ all_zero (drop (record_width * n) (words_of (record_width * m) t)) =
    zero_tail (record_width * n) (record_width * m - record_width * n) records_offset (records_offset + record_size * n) (records_offset + record_size * m) s (omega arith) (omega (arith, c.few)) c.within ∙ ap (λ (x : ℕ). all_zero (drop (record_width * n) (words_of x t))) e in
    rw (rows_area n m t c.few.0, z)

-- The awaiting slots and the totals.
pub queue_rows : (c : Counted) → queue_right c.awaiting (words_of awaiting_table (drop awaiting_offset c.bytes.now)) ≡ true → all_of awaiting_right (rows awaiting_width c.awaiting (drop awaiting_offset c.bytes.now)) ≡ true
unfolding queue_right
queue_rows c e = rw (← rows_awaiting c.awaiting (drop awaiting_offset c.bytes.now) c.short) (and_left (all_of awaiting_right (entries awaiting_width c.awaiting (words_of awaiting_table (drop awaiting_offset c.bytes.now)))) _ e)

pub reads_both : (c : Counted) →
    let s : List ℕ = c.bytes.now in
    reads_right c.awaiting (words_of header_width s) (words_of awaiting_table (drop awaiting_offset s))
    ≡ (queue_right c.awaiting (words_of awaiting_table (drop awaiting_offset s)) && totals_right (waiters_sum (rows awaiting_width c.awaiting (drop awaiting_offset s))) c.awaiting (words_of header_width s))
unfolding reads_right
reads_both c = rw (rows_awaiting c.awaiting (drop awaiting_offset c.bytes.now) c.short)

-- The records by themselves and in their layers.
pub records_both : (number : ℕ) (c : Counted) →
    let s : List ℕ = c.bytes.now in
    records_right number c.depth c.records (words_of ends_limit (drop ends_offset s)) (words_of (record_width * c.capacity) (drop records_offset s))
    ≡ (area_right number c.records (words_of (record_width * c.capacity) (drop records_offset s)) && layers_rise 0 (take (suc c.depth) (words_of ends_limit (drop ends_offset s))) (rows record_width c.records (drop records_offset s)))
unfolding records_right
records_both number c = rw (rows_area c.records c.capacity (drop records_offset c.bytes.now) c.few.0)

-- A layer, and the layers and the top after it.
pub next_layer : (c : Counted) (from k : ℕ) →
    let s : List ℕ = c.bytes.now in
    let ends : List ℕ = words_of ends_limit (drop ends_offset s) in
    let x : ℕ = get_or ends k 0 in
    let es : List (List ℕ) = rows record_width c.records (drop records_offset s) in
    k ≤ c.depth → from ≤ x → x ≤ c.records →
    layers_rise from (drop k (take (suc c.depth) ends)) (drop from es)
    ≡ (slots_rise (drop from (slots_of record_size x (take (length s - records_offset) (drop records_offset s)))) && layers_rise x (drop (k + 1) (take (suc c.depth) ends)) (drop x es))
next_layer c from k h a b =
    let s : List ℕ = c.bytes.now in
    let ends : List ℕ = words_of ends_limit (drop ends_offset s) in
    rw (rest records_offset s) (layers_next c.records from k c.depth ends (drop records_offset s) h (omega (arith, c.shallow, length_words_of ends_limit (drop ends_offset s))) a b)

-- The top.
pub last_layer : (c : Counted) (from k : ℕ) →
    let s : List ℕ = c.bytes.now in
    suc c.depth ≤ k → from ≤ c.records →
    layers_rise from (drop k (take (suc c.depth) (words_of ends_limit (drop ends_offset s)))) (drop from (rows record_width c.records (drop records_offset s)))
    ≡ slots_rise (drop from (slots_of record_size c.records (take (length s - records_offset) (drop records_offset s))))
last_layer c from k h a =
    let s : List ℕ = c.bytes.now in
    rw (rest records_offset s) (layers_end c.records from k c.depth (words_of ends_limit (drop ends_offset s)) (drop records_offset s) h a)
