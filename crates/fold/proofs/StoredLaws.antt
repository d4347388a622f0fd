-- Records written one after the other.
use mathlib.Core.Path.{◌≡◌, sym, ap, ap₂, ◌∙◌}
use mathlib.Core.Bool.{Bool, true, false, cond}
use mathlib.Core.List.{List, [], ◌∷◌, ◌++◌, append_assoc, append-nil}
use Prim.Native.Nat.{ℕ, suc, ◌+◌, ◌*◌, ◌≤◌}
use native.Mathlib.Omega.{arith}
use lib.ListN.{length, take, drop, length-append, length-drop, take-append-drop}
use lib.Seq.{take_at, drop_at, drop-drop, length-take-le, get_or-drop}
use Rattle.layout.specs.Layout.{record_size, record_width, slot_size, slot_width}
use Rattle.model.specs.declared.delta_snapshot.Content.{Content}
use Rattle.model.specs.Numbers.{Bytes}
use Rattle.model.specs.Slots.{slot_words}
use Rattle.model.specs.Contents.{content_words}
use Rattle.model.specs.Layers.{Record, Layer}
use Rattle.model.proofs.ContentLaws.{content_wide}
use Rattle.words.specs.Parts.{part, placed}
use Rattle.image.specs.Image.{bytes_of, words_of, record_words, all_record_words, read_slot}
use Rattle.image.specs.Area.{with_records}
use Rattle.image.proofs.Words.{length_bytes_of, bytes_of_words}
use Rattle.image.proofs.Entries.{record_wide}
use Rattle.image.proofs.Written.{bytes_append, placed_after}
use Rattle.fold.specs.Stored.{renewed, kept, stored, Stored}

-- A record's words --------------------------------------------------------------------------------------------------------

-- A slot's bytes, of which there are n, are those of its words.
slot_bytes : (at n : ℕ) (s : List ℕ) → n ≡ slot_size → Bytes s → at + slot_size ≤ length s → part at n s ≡ bytes_of (slot_words (read_slot (words_of record_width (drop at s))))
unfolding words_of
slot_bytes at n s e b h =
    ap (λ (k : ℕ). part at k s) e ∙ sym (bytes_of_words slot_width (drop at s) (λ j. rw get_or-drop (b (at + j))) (omega (arith, length-drop at s)))

-- A slot copied, and a content written after it.
pub record_placed : (at from n : ℕ) (c : Content) (s o : List ℕ) {t u : List ℕ} → n ≡ slot_size → Bytes s → from + slot_size ≤ length s → at + record_size ≤ length o
    → t ≡ placed at (part from n s) o → u ≡ placed (at + slot_size) (bytes_of (content_words c)) t
    → u ≡ placed at (bytes_of (record_words (record { slot = read_slot (words_of record_width (drop from s)); content = c }))) o
record_placed at from n c s o g b h k e f =
    let v : List ℕ = slot_words (read_slot (words_of record_width (drop from s))) in
    f ∙ ap (placed (at + slot_size) (bytes_of (content_words c))) (e ∙ ap (λ (x : List ℕ). placed at x o) (slot_bytes from n s g b h))
    ∙ placed_after at (at + slot_size) (bytes_of v) (bytes_of (content_words c)) o (omega (arith, length_bytes_of v)) (omega (arith, length_bytes_of (content_words c), content_wide c))
    ∙ ap (λ (x : List ℕ). placed at x o) (sym (bytes_append v (content_words c)))

-- Records one after the other -----------------------------------------------------------------------------------------------

pub stored_nil : (c : ℕ) (s : List ℕ) → stored c [] s ≡ s
unfolding stored all_record_words bytes_of
stored_nil c s =
    let e : (c + 0) * record_size ≡ c * record_size = omega arith in
    ap₂ (λ (x : List ℕ) (k : ℕ). x ++ drop k s) (append-nil (take (c * record_size) s)) e ∙ take-append-drop (c * record_size) s

length_one : (r : Record) → length (bytes_of (record_words r)) ≡ record_size
length_one r = length_bytes_of (record_words r) ∙ omega (arith, record_wide r)

one_record : (r : Record) → bytes_of (all_record_words (r ∷ [])) ≡ bytes_of (record_words r)
unfolding all_record_words
one_record r = ap bytes_of (append-nil (record_words r))

stored_more : (c : ℕ) (r : Record) (rest : Layer) (s : List ℕ) → (c + 1) * record_size ≤ length s → stored (c + 1) rest (stored c (r ∷ []) s) ≡ stored c (r ∷ rest) s
unfolding stored all_record_words
stored_more c r rest s h =
    let a : List ℕ = take (c * record_size) s in
    let v : List ℕ = bytes_of (record_words r) in
    let v' : List ℕ = bytes_of (record_words r ++ []) in
    let b : List ℕ = drop ((c + 1) * record_size) s in
    let w : List ℕ = bytes_of (all_record_words rest) in
    let k : ℕ = length rest in
    let ev : v' ≡ v = ap bytes_of (append-nil (record_words r)) in
    let la : length a ≡ c * record_size = length-take-le (c * record_size) s (omega arith) in
    let l : length (a ++ v) ≡ (c + 1) * record_size = length-append a v ∙ omega (arith, length_one r) in
    let p : take ((c + 1) * record_size) (a ++ v ++ b) ≡ a ++ v = take_at (a ++ v) b ((c + 1) * record_size) l in
    let q : drop ((c + 1) * record_size) (a ++ v ++ b) ≡ b = drop_at (a ++ v) b ((c + 1) * record_size) l in
    let i : (c + 1 + k) * record_size ≡ (c + 1) * record_size + k * record_size = omega arith in
    let j : (c + 1) * record_size + k * record_size ≡ (c + suc k) * record_size = omega arith in
    let d : drop ((c + 1 + k) * record_size) (a ++ v ++ b) ≡ drop ((c + suc k) * record_size) s =
    ap (λ (m : ℕ). drop m (a ++ v ++ b)) i ∙ sym (drop-drop (k * record_size) ((c + 1) * record_size) (a ++ v ++ b)) ∙ ap (drop (k * record_size)) q ∙ drop-drop (k * record_size) ((c + 1) * record_size) s ∙ ap (λ (m : ℕ). drop m s) j in
    ap (λ (x : List ℕ). take ((c + 1) * record_size) (a ++ x ++ b) ++ w ++ drop ((c + 1 + k) * record_size) (a ++ x ++ b)) ev
    ∙ ap₂ (λ (x y : List ℕ). x ++ w ++ y) p d
    ∙ ap (λ (x : List ℕ). x ++ drop ((c + suc k) * record_size) s) (append_assoc a v w ∙ ap (λ (x : List ℕ). a ++ x) (sym (bytes_append (record_words r) (all_record_words rest))))

pub stored_with : (l : Layer) (s : List ℕ) → stored 0 l s ≡ with_records l s
unfolding stored with_records
stored_with l s = let e : (0 + length l) * record_size ≡ record_size * length l = omega arith in ap (λ (k : ℕ). bytes_of (all_record_words l) ++ drop k s) e

-- The functions' steps --------------------------------------------------------------------------------------------------------

placed_stored : (c : ℕ) (r : Record) (s : List ℕ) → placed (c * record_size) (bytes_of (record_words r)) s ≡ stored c (r ∷ []) s
unfolding stored
placed_stored c r s =
    let i : c * record_size + length (bytes_of (record_words r)) ≡ (c + 1) * record_size = omega (arith, length_one r) in
    ap₂ (λ (x : List ℕ) (m : ℕ). take (c * record_size) s ++ x ++ drop m s) (sym (one_record r)) i

pub settled_yes : (keep : Bool) (u c : ℕ) (r : Record) (w s : List ℕ) {t : List ℕ} → keep ≡ true → w ≡ record_words (renewed u r) → t ≡ placed (c * record_size) (bytes_of w) s → Stored c (c + 1) (kept keep u r) s t
settled_yes keep u c r w s q e h =
    let k : kept keep u r ≡ renewed u r ∷ [] = ap (λ (b : Bool). cond b (renewed u r ∷ []) []) q in
    record {
      next_is = ap (λ (l : Layer). c + length l) (sym k);
      bytes_are = h ∙ ap (λ (x : List ℕ). placed (c * record_size) (bytes_of x) s) e ∙ placed_stored c (renewed u r) s ∙ ap (λ (l : Layer). stored c l s) (sym k);
    }

pub settled_no : (keep : Bool) (u c : ℕ) (r : Record) (s : List ℕ) → keep ≡ false → Stored c c (kept keep u r) s s
settled_no keep u c r s q =
    let k : kept keep u r ≡ [] = ap (λ (b : Bool). cond b (renewed u r ∷ []) []) q in
    let z : c ≡ c + 0 = omega arith in
    record { next_is = z ∙ ap (λ (l : Layer). c + length l) (sym k); bytes_are = sym (stored_nil c s) ∙ ap (λ (l : Layer). stored c l s) (sym k) }

pub settled_then : (keep : Bool) (u c d : ℕ) (r : Record) (rest : Layer) (s t : List ℕ) → Stored c d (kept keep u r) s t → (c + 1) * record_size ≤ length s → stored d rest t ≡ stored c (kept keep u r ++ rest) s
settled_then true u c d r rest s t p h = ap₂ (λ (k : ℕ) (x : List ℕ). stored k rest x) p.next_is p.bytes_are ∙ stored_more c (renewed u r) rest s h
settled_then false u c d r rest s t p h =
    let z : c + 0 ≡ c = omega arith in
    ap₂ (λ (k : ℕ) (x : List ℕ). stored k rest x) (p.next_is ∙ z) (p.bytes_are ∙ stored_nil c s)

pub kept_small : (keep : Bool) (u : ℕ) (r : Record) → length (kept keep u r) ≤ 1
kept_small true u r = omega arith
kept_small false u r = omega arith
