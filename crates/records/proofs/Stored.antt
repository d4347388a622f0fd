-- Records in bytes: one replaced, one put between.
use Prim.Native.Nat.{ℕ, suc, ◌+◌, ◌-◌, ◌*◌, ◌≤◌, ◌<◌}
use mathlib.Core.Path.{◌≡◌, refl, sym, ap, ap₂, ◌∙◌}
use mathlib.Core.List.{List, [], ◌∷◌, ◌++◌, append_assoc, append-nil}
use native.Mathlib.Omega.{arith}
use lib.ListN.{length, take, drop, length-append, length-drop, take-append-drop, drop_of_length-le}
use lib.Seq.{take_at, drop_at, drop-cons, length-take-le}
use Rattle.layout.specs.Layout.{content_size, last_use_offset, record_size, slot_size}
use Rattle.model.specs.declared.delta_snapshot.Slot.{Slot}
use Rattle.model.specs.Slots.{slot_words}
use Rattle.model.specs.declared.delta_snapshot.Content.{Content}
use Rattle.model.specs.Contents.{content_words}
use Rattle.model.specs.Layers.{Record, Layer}
use Rattle.model.proofs.ContentLaws.{content_wide}
use Rattle.words.specs.Parts.{part, placed}
use Rattle.words.proofs.Places.{placed_field}
use Rattle.image.specs.Image.{bytes_of, record_words, all_record_words, read_record}
use Rattle.image.specs.Area.{with_records}
use Rattle.image.proofs.Words.{length_bytes_of}
use Rattle.image.proofs.Entries.{length_records}
use Rattle.records.specs.Records.{record_at}
use Rattle.image.proofs.Written.{bytes_append}

-- The bytes of records --------------------------------------------------------------------------------

abbrev image_of : Layer → List ℕ
image_of l = bytes_of (all_record_words l)

all_append : (k l : Layer) → all_record_words (k ++ l) ≡ all_record_words k ++ all_record_words l
unfolding all_record_words
all_append [] l = refl
all_append (r ∷ k) l = ap (λ (x : List ℕ). record_words r ++ x) (all_append k l) ∙ sym (append_assoc (record_words r) (all_record_words k) (all_record_words l))

image_append : (k l : Layer) → image_of (k ++ l) ≡ image_of k ++ image_of l
image_append k l = ap bytes_of (all_append k l) ∙ bytes_append (all_record_words k) (all_record_words l)

image_cons : (r : Record) (l : Layer) → image_of (r ∷ l) ≡ bytes_of (record_words r) ++ image_of l
unfolding all_record_words
image_cons r l = bytes_append (record_words r) (all_record_words l)

length_image : (l : Layer) → length (image_of l) ≡ record_size * length l
length_image l = omega (arith, length_bytes_of (all_record_words l), length_records l)

length_record : (r : Record) → length (bytes_of (record_words r)) ≡ record_size
unfolding all_record_words bytes_of
length_record r = ap length (sym (append-nil (bytes_of (record_words r))) ∙ sym (image_cons r [])) ∙ length_image (r ∷ [])

length_content : (c : Content) → length (bytes_of (content_words c)) ≡ content_size
length_content c = omega (arith, length_bytes_of (content_words c), content_wide c)

-- Bytes that begin with records, cut between two of them.
front : (k l : Layer) (rest s : List ℕ) (m : ℕ) → image_of (k ++ l) ++ rest ≡ s → m ≡ record_size * length k → take m s ≡ image_of k
front k l rest s m e h =
    let f : image_of k ++ (image_of l ++ rest) ≡ s = sym (append_assoc (image_of k) (image_of l) rest) ∙ ap (λ (x : List ℕ). x ++ rest) (sym (image_append k l)) ∙ e in
    let n : length (image_of k) ≡ m = length_image k ∙ sym h in
    ap (take m) (sym f) ∙ take_at (image_of k) (image_of l ++ rest) m n

back : (k l : Layer) (rest s : List ℕ) (m : ℕ) → image_of (k ++ l) ++ rest ≡ s → m ≡ record_size * length k → drop m s ≡ image_of l ++ rest
back k l rest s m e h =
    let f : image_of k ++ (image_of l ++ rest) ≡ s = sym (append_assoc (image_of k) (image_of l) rest) ∙ ap (λ (x : List ℕ). x ++ rest) (sym (image_append k l)) ∙ e in
    let n : length (image_of k) ≡ m = length_image k ∙ sym h in
    ap (drop m) (sym f) ∙ drop_at (image_of k) (image_of l ++ rest) m n

-- Bytes that are exactly those of the records that they begin with ---------------------------------------

module _ (l : Layer) (s : List ℕ) (exact : with_records l s ≡ s) where
  -- the same, cut before record i
  cut_at : (i : ℕ) → image_of (take i l ++ drop i l) ++ drop (record_size * length l) s ≡ s
  unfolding with_records
  cut_at i = ap (λ (x : Layer). image_of x ++ drop (record_size * length l) s) (take-append-drop i l) ∙ exact

  front_at : (i : ℕ) → i ≤ length l → take (i * record_size) s ≡ image_of (take i l)
  front_at i h =
      let n : length (take i l) ≡ i = length-take-le i l h in
      front (take i l) (drop i l) (drop (record_size * length l) s) s (i * record_size) (cut_at i) (omega arith)

  back_at : (i : ℕ) → i ≤ length l → drop (i * record_size) s ≡ image_of (drop i l) ++ drop (record_size * length l) s
  back_at i h =
      let n : length (take i l) ≡ i = length-take-le i l h in
      back (take i l) (drop i l) (drop (record_size * length l) s) s (i * record_size) (cut_at i) (omega arith)

  -- the bytes of record i
  record_part : (i : ℕ) → i < length l → part (i * record_size) record_size s ≡ bytes_of (record_words (record_at i l))
  record_part i h =
      let r = record_at i l in
      let k = drop (suc i) l in
      let d = drop (record_size * length l) s in
      ap (take record_size) (back_at i (omega arith)
      ∙ ap (λ (x : Layer). image_of x ++ d) (drop-cons l i (read_record []) h)
      ∙ ap (λ (x : List ℕ). x ++ d) (image_cons r k) ∙ append_assoc (bytes_of (record_words r)) (image_of k) d)
      ∙ take_at (bytes_of (record_words r)) (image_of k ++ d) record_size (length_record r)

  -- record i replaced
  pub replaced : (i : ℕ) (r : Record) → i < length l → placed (i * record_size) (bytes_of (record_words r)) s ≡ with_records (take i l ++ (r ∷ drop (i + 1) l)) s
  unfolding with_records
  replaced i r h =
      let a = take i l in
      let k = drop (i + 1) l in
      let b = bytes_of (record_words r) in
      let d = drop (record_size * length l) s in
      let n : length a ≡ i = length-take-le i l (omega arith) in
      let m : length k ≡ length l - (i + 1) = length-drop (i + 1) l in
      let q : length (a ++ (r ∷ k)) ≡ length l = length-append a (r ∷ k) ∙ omega arith in
      let g : i * record_size + length b ≡ (i + 1) * record_size = omega (arith, length_record r) in
      let left : placed (i * record_size) b s ≡ image_of a ++ b ++ (image_of k ++ d) =
      ap₂ (λ (x y : List ℕ). x ++ b ++ y) (front_at i (omega arith)) (ap (λ (j : ℕ). drop j s) g ∙ back_at (i + 1) (omega arith)) in
      let right : with_records (a ++ (r ∷ k)) s ≡ image_of a ++ (b ++ image_of k) ++ d =
      ap₂ (λ (x : List ℕ) (j : ℕ). x ++ drop (record_size * j) s) (image_append a (r ∷ k) ∙ ap (λ (x : List ℕ). image_of a ++ x) (image_cons r k)) q in
      let mid : image_of a ++ b ++ (image_of k ++ d) ≡ image_of a ++ (b ++ image_of k) ++ d = simp append_assoc in
      left ∙ mid ∙ sym right

  -- a record put before record i
  pub between : (i n : ℕ) (r : Record) → n ≡ length l → i ≤ n
      → take (i * record_size) s ++ bytes_of (record_words r) ++ part (i * record_size) ((n - i) * record_size) s ++ drop ((n + 1) * record_size) s ≡ with_records (take i l ++ (r ∷ drop i l)) s
  unfolding with_records
  between i n r e h =
      let a = take i l in
      let k = drop i l in
      let b = bytes_of (record_words r) in
      let d = drop (record_size * length l) s in
      let z = drop ((n + 1) * record_size) s in
      let f : length a ≡ i = length-take-le i l (omega arith) in
      let m : length k ≡ length l - i = length-drop i l in
      let q : record_size * length (a ++ (r ∷ k)) ≡ (n + 1) * record_size = ap (λ (j : ℕ). record_size * j) (length-append a (r ∷ k)) ∙ omega arith in
      let p : part (i * record_size) ((n - i) * record_size) s ≡ image_of k =
      ap (take ((n - i) * record_size)) (back_at i (omega arith)) ∙ take_at (image_of k) d ((n - i) * record_size) (length_image k ∙ omega arith) in
      let left : take (i * record_size) s ++ b ++ part (i * record_size) ((n - i) * record_size) s ++ z ≡ image_of a ++ b ++ image_of k ++ z =
      ap₂ (λ (x y : List ℕ). x ++ b ++ y ++ z) (front_at i (omega arith)) p in
      let right : with_records (a ++ (r ∷ k)) s ≡ image_of a ++ (b ++ image_of k) ++ z =
      ap₂ (λ (x : List ℕ) (j : ℕ). x ++ drop j s) (image_append a (r ∷ k) ∙ ap (λ (x : List ℕ). image_of a ++ x) (image_cons r k)) q in
      let mid : image_of a ++ b ++ image_of k ++ z ≡ image_of a ++ (b ++ image_of k) ++ z = simp append_assoc in
      left ∙ mid ∙ sym right

  -- the content of record i replaced
  pub content_replaced : (i : ℕ) (t : Slot) (c : Content) → i < length l → (record_size * length l) ≤ length s → (record_at i l).slot ≡ t
      → placed (i * record_size + last_use_offset) (bytes_of (content_words c)) s ≡ with_records (take i l ++ (record { slot = t; content = c } ∷ drop (i + 1) l)) s
  content_replaced i t c h room e =
      let r = record_at i l in
      let v = bytes_of (content_words c) in
      let x = bytes_of (slot_words r.slot) in
      let y = bytes_of (content_words r.content) in
      let p : part (i * record_size) record_size s ≡ x ++ y = record_part i h ∙ bytes_append (slot_words r.slot) (content_words r.content) in
      let n : length x ≡ slot_size = length_bytes_of (slot_words r.slot) in
      let g : length v ≡ content_size = length_content c in
      let k : length (x ++ y) ≤ slot_size + length v = omega (arith, length-append x y, length_content r.content) in
      let w : placed last_use_offset v (x ++ y) ≡ x ++ v = ap₂ (λ (a b : List ℕ). a ++ v ++ b) (take_at x y slot_size n) (drop_of_length-le (x ++ y) k) ∙ append-nil (x ++ v) in
      let o : x ++ v ≡ bytes_of (record_words (record { slot = t; content = c })) =
      sym (bytes_append (slot_words r.slot) (content_words c)) ∙ ap (λ (u : Slot). bytes_of (slot_words u ++ content_words c)) e in
      placed_field (i * record_size) last_use_offset record_size v s (omega arith) (omega arith)
      ∙ ap (λ (b : List ℕ). placed (i * record_size) (placed last_use_offset v b) s) p
      ∙ ap (λ (b : List ℕ). placed (i * record_size) b s) (w ∙ o)
      ∙ replaced i (record { slot = t; content = c }) h
