-- Awaiting slots in bytes: one replaced, one put between, one taken away; the bytes after a change read back.
use Prim.Native.Nat.{ℕ, suc, ◌+◌, ◌-◌, ◌*◌, ◌^◌, ◌≤◌, ◌<◌, max}
use mathlib.Core.Path.{◌≡◌, refl, sym, ap, ap₂, ◌∙◌}
use mathlib.Core.Bool.{Bool, true}
use mathlib.Core.List.{List, [], ◌∷◌, ◌++◌, map, append_assoc, append-nil}
use native.Mathlib.Omega.{arith}
use lib.ListN.{length, take, drop, replicate, length-append, length-drop, length-replicate, take-append-drop, replicate-append-replicate}
use lib.Seq.{take_at, drop_at, drop-cons, length-take-le}
use Rattle.layout.specs.Layout.{awaiting_size, awaiting_table_size, awaiting_width, taken_offset, waiters_offset}
use Rattle.model.specs.declared.delta_snapshot.Slot.{Slot}
use Rattle.model.specs.Numbers.{be}
use Rattle.model.specs.Slots.{slot_words}
use Rattle.model.specs.Reads.{Pending}
use Rattle.model.proofs.NumberLaws.{length_be}
use Rattle.words.specs.Parts.{part, placed}
use Rattle.words.proofs.Places.{placed_field}
use Rattle.image.specs.Image.{flag, bytes_of, words_of, pending_words, all_pending_words, read_pending, entries}
use Rattle.image.specs.WellFormed.{pending_ok, all_waiters}
use Rattle.image.specs.Area.{pending_of, with_pending}
use Rattle.model.proofs.WordLaws.{Fit}
use Rattle.image.proofs.Words.{length_bytes_of, words_of_bytes}
use Rattle.image.proofs.Entries.{length_pending, read_pendings, fit_pendings}
use Rattle.image.proofs.Written.{bytes_append}
use Rattle.awaiting.specs.Awaiting.{Ready, Holds}
use Rattle.awaiting.proofs.Places.{pending_at}

-- The bytes of awaiting slots -----------------------------------------------------------------------------

abbrev pub image_of : List Pending → List ℕ
image_of q = bytes_of (all_pending_words q)

all_append : (k l : List Pending) → all_pending_words (k ++ l) ≡ all_pending_words k ++ all_pending_words l
unfolding all_pending_words
all_append [] l = refl
all_append (w ∷ k) l = ap (λ (x : List ℕ). pending_words w ++ x) (all_append k l) ∙ sym (append_assoc (pending_words w) (all_pending_words k) (all_pending_words l))

image_append : (k l : List Pending) → image_of (k ++ l) ≡ image_of k ++ image_of l
image_append k l = ap bytes_of (all_append k l) ∙ bytes_append (all_pending_words k) (all_pending_words l)

pub image_cons : (w : Pending) (l : List Pending) → image_of (w ∷ l) ≡ bytes_of (pending_words w) ++ image_of l
unfolding all_pending_words
image_cons w l = bytes_append (pending_words w) (all_pending_words l)

pub image_none : image_of [] ≡ []
unfolding all_pending_words bytes_of
image_none = refl

pub length_image : (l : List Pending) → length (image_of l) ≡ awaiting_size * length l
length_image l = omega (arith, length_bytes_of (all_pending_words l), length_pending l)

pub length_entry : (w : Pending) → length (bytes_of (pending_words w)) ≡ awaiting_size
length_entry w = length_bytes_of (pending_words w)

-- The bytes after a change, by what is free and what follows.
pub with_as : (n : ℕ) (q : List Pending) (s : List ℕ) (m k : ℕ) → awaiting_size * (n - length q) ≡ m → awaiting_size * max n (length q) ≡ k → with_pending n q s ≡ image_of q ++ (replicate m 0 ++ drop k s)
unfolding with_pending
with_as n q s m k e f = ap₂ (λ (x y : ℕ). image_of q ++ (replicate x 0 ++ drop y s)) e f

-- Bytes that are exactly those of the awaiting slots that they begin with -----------------------------------

abbrev pub Exact : List Pending → List ℕ → Type 0
Exact q s = image_of q ++ drop (length q * awaiting_size) s ≡ s

pub exactly : (n : ℕ) (q : List Pending) (s : List ℕ) → length q ≡ n → with_pending n q s ≡ s → Exact q s
exactly n q s e h = sym (with_as n q s 0 (length q * awaiting_size) (omega arith) (omega arith)) ∙ h

module _ (q : List Pending) (s : List ℕ) (exact : Exact q s) where
  -- the same, cut before awaiting slot i
  cut_at : (i : ℕ) → image_of (take i q) ++ (image_of (drop i q) ++ drop (length q * awaiting_size) s) ≡ s
  cut_at i =
      let d = drop (length q * awaiting_size) s in
      sym (append_assoc (image_of (take i q)) (image_of (drop i q)) d)
      ∙ ap (λ (x : List ℕ). x ++ d) (sym (image_append (take i q) (drop i q)) ∙ ap image_of (take-append-drop i q)) ∙ exact

  length_front : (i : ℕ) → i ≤ length q → length (image_of (take i q)) ≡ i * awaiting_size
  length_front i h = omega (arith, length_image (take i q), length-take-le i q h)

  pub front_at : (i : ℕ) → i ≤ length q → take (i * awaiting_size) s ≡ image_of (take i q)
  front_at i h = ap (take (i * awaiting_size)) (sym (cut_at i)) ∙ take_at (image_of (take i q)) (image_of (drop i q) ++ drop (length q * awaiting_size) s) (i * awaiting_size) (length_front i h)

  pub back_at : (i : ℕ) → i ≤ length q → drop (i * awaiting_size) s ≡ image_of (drop i q) ++ drop (length q * awaiting_size) s
  back_at i h = ap (drop (i * awaiting_size)) (sym (cut_at i)) ∙ drop_at (image_of (take i q)) (image_of (drop i q) ++ drop (length q * awaiting_size) s) (i * awaiting_size) (length_front i h)

  -- the bytes of awaiting slot i
  pub entry_part : (i : ℕ) → i < length q → part (i * awaiting_size) awaiting_size s ≡ bytes_of (pending_words (pending_at i q))
  entry_part i h =
      let w = pending_at i q in
      let k = drop (suc i) q in
      let d = drop (length q * awaiting_size) s in
      ap (take awaiting_size) (back_at i (omega arith)
      ∙ ap (λ (x : List Pending). image_of x ++ d) (drop-cons q i (read_pending []) h)
      ∙ ap (λ (x : List ℕ). x ++ d) (image_cons w k) ∙ append_assoc (bytes_of (pending_words w)) (image_of k) d)
      ∙ take_at (bytes_of (pending_words w)) (image_of k ++ d) awaiting_size (length_entry w)

  -- awaiting slot i replaced
  pub replaced : (i : ℕ) (w : Pending) → i < length q → placed (i * awaiting_size) (bytes_of (pending_words w)) s ≡ with_pending (length q) (take i q ++ (w ∷ drop (suc i) q)) s
  replaced i w h =
      let a = take i q in
      let k = drop (suc i) q in
      let b = bytes_of (pending_words w) in
      let d = drop (length q * awaiting_size) s in
      let n : length a ≡ i = length-take-le i q (omega arith) in
      let m : length k ≡ length q - suc i = length-drop (suc i) q in
      let e : length (a ++ (w ∷ k)) ≡ length q = length-append a (w ∷ k) ∙ omega arith in
      let g : i * awaiting_size + length b ≡ suc i * awaiting_size = omega (arith, length_entry w) in
      let left : placed (i * awaiting_size) b s ≡ image_of a ++ b ++ (image_of k ++ d) =
      ap₂ (λ (x y : List ℕ). x ++ b ++ y) (front_at i (omega arith)) (ap (λ (j : ℕ). drop j s) g ∙ back_at (suc i) (omega arith)) in
      let right : with_pending (length q) (a ++ (w ∷ k)) s ≡ image_of a ++ (b ++ image_of k) ++ d =
      with_as (length q) (a ++ (w ∷ k)) s 0 (length q * awaiting_size) (omega arith) (omega arith)
      ∙ ap (λ (x : List ℕ). x ++ d) (image_append a (w ∷ k) ∙ ap (λ (x : List ℕ). image_of a ++ x) (image_cons w k)) in
      let mid : image_of a ++ b ++ (image_of k ++ d) ≡ image_of a ++ (b ++ image_of k) ++ d = simp append_assoc in
      left ∙ mid ∙ sym right

  -- one put before awaiting slot i
  pub between : (i n : ℕ) (w : Pending) → n ≡ length q → i ≤ n
      → take (i * awaiting_size) s ++ bytes_of (pending_words w) ++ part (i * awaiting_size) ((n - i) * awaiting_size) s ++ drop ((n + 1) * awaiting_size) s ≡ with_pending n (take i q ++ (w ∷ drop i q)) s
  between i n w e h =
      let a = take i q in
      let k = drop i q in
      let b = bytes_of (pending_words w) in
      let d = drop (length q * awaiting_size) s in
      let z = drop ((n + 1) * awaiting_size) s in
      let f : length a ≡ i = length-take-le i q (omega arith) in
      let m : length k ≡ length q - i = length-drop i q in
      let g : length (a ++ (w ∷ k)) ≡ n + 1 = length-append a (w ∷ k) ∙ omega arith in
      let p : part (i * awaiting_size) ((n - i) * awaiting_size) s ≡ image_of k =
      ap (take ((n - i) * awaiting_size)) (back_at i (omega arith)) ∙ take_at (image_of k) d ((n - i) * awaiting_size) (length_image k ∙ omega arith) in
      let left : take (i * awaiting_size) s ++ b ++ part (i * awaiting_size) ((n - i) * awaiting_size) s ++ z ≡ image_of a ++ b ++ image_of k ++ z =
      ap₂ (λ (x y : List ℕ). x ++ b ++ y ++ z) (front_at i (omega arith)) p in
      let right : with_pending n (a ++ (w ∷ k)) s ≡ image_of a ++ (b ++ image_of k) ++ z =
      with_as n (a ++ (w ∷ k)) s 0 ((n + 1) * awaiting_size) (omega arith) (omega arith)
      ∙ ap (λ (x : List ℕ). x ++ z) (image_append a (w ∷ k) ∙ ap (λ (x : List ℕ). image_of a ++ x) (image_cons w k)) in
      let mid : image_of a ++ b ++ image_of k ++ z ≡ image_of a ++ (b ++ image_of k) ++ z = simp append_assoc in
      left ∙ mid ∙ sym right

  -- awaiting slot i taken away
  pub removed : (i n : ℕ) → n ≡ length q → i < n
      → take (i * awaiting_size) s ++ part ((i + 1) * awaiting_size) ((n - (i + 1)) * awaiting_size) s ++ replicate awaiting_size 0 ++ drop (n * awaiting_size) s ≡ with_pending n (take i q ++ drop (suc i) q) s
  removed i n e h =
      let a = take i q in
      let k = drop (suc i) q in
      let d = drop (length q * awaiting_size) s in
      let z : List ℕ = replicate awaiting_size 0 in
      let y = drop (n * awaiting_size) s in
      let f : length a ≡ i = length-take-le i q (omega arith) in
      let m : length k ≡ length q - suc i = length-drop (suc i) q in
      let g : length (a ++ k) + 1 ≡ n = ap (λ (j : ℕ). j + 1) (length-append a k) ∙ omega arith in
      let o : (i + 1) * awaiting_size ≡ suc i * awaiting_size = omega arith in
      let p : part ((i + 1) * awaiting_size) ((n - (i + 1)) * awaiting_size) s ≡ image_of k =
      ap (λ (j : ℕ). part j ((n - (i + 1)) * awaiting_size) s) o ∙ ap (take ((n - (i + 1)) * awaiting_size)) (back_at (suc i) (omega arith)) ∙ take_at (image_of k) d ((n - (i + 1)) * awaiting_size) (length_image k ∙ omega arith) in
      let left : take (i * awaiting_size) s ++ part ((i + 1) * awaiting_size) ((n - (i + 1)) * awaiting_size) s ++ z ++ y ≡ image_of a ++ image_of k ++ z ++ y =
      ap₂ (λ (x v : List ℕ). x ++ v ++ z ++ y) (front_at i (omega arith)) p in
      let right : with_pending n (a ++ k) s ≡ (image_of a ++ image_of k) ++ (z ++ y) =
      with_as n (a ++ k) s awaiting_size (n * awaiting_size) (omega arith) (omega arith) ∙ ap (λ (x : List ℕ). x ++ (z ++ y)) (image_append a k) in
      left ∙ append_assoc (image_of a ++ image_of k) z y ∙ sym right

-- A field of an entry -------------------------------------------------------------------------------------

field : (at : ℕ) (x v u r : List ℕ) → length x ≡ at → length v ≡ length u → placed at u (x ++ (v ++ r)) ≡ x ++ (u ++ r)
field at x v u r e f =
    let g : at + length u ≡ length x + length v = omega arith in
    let h : drop (at + length u) (x ++ (v ++ r)) ≡ r =
    ap (λ (l : List ℕ). drop (at + length u) l) (sym (append_assoc x v r)) ∙ drop_at (x ++ v) r (at + length u) (length-append x v ∙ sym g) in
    ap₂ (λ (a b : List ℕ). a ++ u ++ b) (take_at x (v ++ r) at e) h ∙ append_assoc x u r

-- The bytes of an entry, cut at its waiters, and at its taken mark.
entry_bytes : (t : Slot) (m : ℕ) (b : Bool) → bytes_of (pending_words (record { slot = t; waiters = m; taken = b })) ≡ bytes_of (slot_words t) ++ (be 8 m ++ (be 8 (flag b) ++ (be 8 0 ++ [])))
unfolding bytes_of
entry_bytes t m b = bytes_append (slot_words t) (m ∷ flag b ∷ 0 ∷ [])

entry_bytes_late : (t : Slot) (m : ℕ) (b : Bool) → bytes_of (pending_words (record { slot = t; waiters = m; taken = b })) ≡ (bytes_of (slot_words t) ++ be 8 m) ++ (be 8 (flag b) ++ (be 8 0 ++ []))
entry_bytes_late t m b = entry_bytes t m b ∙ sym (append_assoc (bytes_of (slot_words t)) (be 8 m) (be 8 (flag b) ++ (be 8 0 ++ [])))

-- The waiters of an entry at place i written, and its taken mark.
pub waiters_written : (i : ℕ) (w : Pending) (x : ℕ) (s : List ℕ) → (i + 1) * awaiting_size ≤ length s → part (i * awaiting_size) awaiting_size s ≡ bytes_of (pending_words w)
    → placed (i * awaiting_size + waiters_offset) (be 8 x) s ≡ placed (i * awaiting_size) (bytes_of (pending_words (record { slot = w.slot; waiters = x; taken = w.taken }))) s
waiters_written i w x s h e =
    let t = bytes_of (slot_words w.slot) in
    let n : waiters_offset + length (be 8 x) ≤ awaiting_size = omega (arith, length_be 8 x) in
    placed_field (i * awaiting_size) waiters_offset awaiting_size (be 8 x) s n (omega arith)
    ∙ ap (λ (y : List ℕ). placed (i * awaiting_size) (placed waiters_offset (be 8 x) y) s) (e ∙ entry_bytes w.slot w.waiters w.taken)
    ∙ ap (λ (y : List ℕ). placed (i * awaiting_size) y s) (field waiters_offset t (be 8 w.waiters) (be 8 x) (be 8 (flag w.taken) ++ (be 8 0 ++ [])) (length_bytes_of (slot_words w.slot)) (length_be 8 w.waiters ∙ sym (length_be 8 x))
    ∙ sym (entry_bytes w.slot x w.taken))

pub taken_written : (i : ℕ) (w : Pending) (s : List ℕ) → (i + 1) * awaiting_size ≤ length s → part (i * awaiting_size) awaiting_size s ≡ bytes_of (pending_words w)
    → placed (i * awaiting_size + taken_offset) (be 8 1) s ≡ placed (i * awaiting_size) (bytes_of (pending_words (record { slot = w.slot; waiters = w.waiters; taken = true }))) s
taken_written i w s h e =
    let t = bytes_of (slot_words w.slot) in
    let f = be 8 (flag w.taken) in
    let n : taken_offset + length (be 8 1) ≤ awaiting_size = omega (arith, length_be 8 1) in
    let m : length (t ++ be 8 w.waiters) ≡ taken_offset = length-append t (be 8 w.waiters) ∙ omega (arith, length_bytes_of (slot_words w.slot), length_be 8 w.waiters) in
    placed_field (i * awaiting_size) taken_offset awaiting_size (be 8 1) s n (omega arith)
    ∙ ap (λ (y : List ℕ). placed (i * awaiting_size) (placed taken_offset (be 8 1) y) s) (e ∙ entry_bytes_late w.slot w.waiters w.taken)
    ∙ ap (λ (y : List ℕ). placed (i * awaiting_size) y s) (field taken_offset (t ++ be 8 w.waiters) f (be 8 1) (be 8 0 ++ []) m (length_be 8 (flag w.taken) ∙ sym (length_be 8 1))
    ∙ sym (entry_bytes_late w.slot w.waiters true))

-- The bytes after a change ----------------------------------------------------------------------------------

pub length_with : (n : ℕ) (q : List Pending) (s : List ℕ) → awaiting_size * max n (length q) ≤ length s → length (with_pending n q s) ≡ length s
unfolding with_pending
length_with n q s h =
    let z : List ℕ = replicate (awaiting_size * (n - length q)) 0 in
    let d = drop (awaiting_size * max n (length q)) s in
    let a : length (z ++ d) ≡ length z + length d = length-append z d in
    let b : length z ≡ awaiting_size * (n - length q) = length-replicate (awaiting_size * (n - length q)) 0 in
    let c : length d ≡ length s - awaiting_size * max n (length q) = length-drop (awaiting_size * max n (length q)) s in
    length-append (image_of q) (z ++ d) ∙ omega (arith, length_image q)

-- They begin with the awaiting slots that were written.
pub read_back : (n : ℕ) (q : List Pending) (s : List ℕ) → pending_ok q ≡ true → all_waiters q < 2 ^ 64 → pending_of (length q) (with_pending n q s) ≡ q
unfolding pending_of with_pending
read_back n q s e h =
    let rest : List ℕ = replicate (awaiting_size * (n - length q)) 0 ++ drop (awaiting_size * max n (length q)) s in
    let f : Fit (all_pending_words q) = fit_pendings q e h in
    let g : words_of (awaiting_width * length q) (image_of q ++ rest) ≡ all_pending_words q = ap (λ (k : ℕ). words_of k (image_of q ++ rest)) (sym (length_pending q)) ∙ words_of_bytes rest f in
    ap (λ (x : List ℕ). map read_pending (entries awaiting_width (length q) x)) (g ∙ sym (append-nil (all_pending_words q))) ∙ read_pendings q []

pub zeros_join : (x y z : ℕ) → x + y ≡ z → replicate {A = ℕ} x 0 ++ replicate y 0 ≡ replicate z 0
zeros_join x y z e = replicate-append-replicate x y 0 ∙ ap (λ (k : ℕ). replicate k 0) e

-- A change after a change: the second starts from the m awaiting slots that the first left, of n or fewer.
pub with_twice : (n m : ℕ) (p q : List Pending) (s : List ℕ) → length p ≡ m → m ≤ n → length q ≤ m → with_pending m q (with_pending n p s) ≡ with_pending n q s
with_twice n m p q s e h k =
    let d = drop (n * awaiting_size) s in
    let a : List ℕ = replicate (awaiting_size * (n - m)) 0 in
    let b : List ℕ = replicate (awaiting_size * (m - length q)) 0 in
    let f : with_pending n p s ≡ image_of p ++ (a ++ d) = with_as n p s (awaiting_size * (n - m)) (n * awaiting_size) (omega arith) (omega arith) in
    let g : drop (awaiting_size * m) (with_pending n p s) ≡ a ++ d = ap (drop (awaiting_size * m)) f ∙ drop_at (image_of p) (a ++ d) (awaiting_size * m) (length_image p ∙ omega arith) in
    let r : b ++ a ≡ replicate (awaiting_size * (n - length q)) 0 = zeros_join (awaiting_size * (m - length q)) (awaiting_size * (n - m)) (awaiting_size * (n - length q)) (omega arith) in
    let v : with_pending m q (with_pending n p s) ≡ image_of q ++ (b ++ drop (awaiting_size * m) (with_pending n p s)) = with_as m q (with_pending n p s) (awaiting_size * (m - length q)) (awaiting_size * m) refl (omega arith) in
    let w : b ++ drop (awaiting_size * m) (with_pending n p s) ≡ replicate (awaiting_size * (n - length q)) 0 ++ d = ap (λ (x : List ℕ). b ++ x) g ∙ sym (append_assoc b a d) ∙ ap (λ (x : List ℕ). x ++ d) r in
    let u : with_pending n q s ≡ image_of q ++ (replicate (awaiting_size * (n - length q)) 0 ++ d) = with_as n q s (awaiting_size * (n - length q)) (n * awaiting_size) refl (omega arith) in
    v ∙ ap (λ (x : List ℕ). image_of q ++ x) w ∙ sym u

-- A change again changes nothing.
pub with_same : (n : ℕ) (q : List Pending) (s : List ℕ) → with_pending (length q) q (with_pending n q s) ≡ with_pending n q s
unfolding with_pending
with_same n q s =
    let r : List ℕ = replicate (awaiting_size * (n - length q)) 0 ++ drop (awaiting_size * max n (length q)) s in
    with_as (length q) q (with_pending n q s) 0 (awaiting_size * length q) (omega arith) (omega arith)
    ∙ ap (λ (x : List ℕ). image_of q ++ x) (drop_at (image_of q) r (awaiting_size * length q) (length_image q))

-- What a change leaves is ready for the next, and reads as what was written.
pub ready_after : (n k : ℕ) (q : List Pending) (s b : List ℕ) → Ready n s → Holds k b n q s → pending_ok q ≡ true → all_waiters q < 2 ^ 32 → k ≤ 64 → Ready k b × (pending_of k b ≡ q)
ready_after n k q s b r h e f g =
    let l : k ≡ length q = h.count_is in
    let a : n ≤ 64 = r.few in
    let i : awaiting_table_size ≤ length s = r.area in
    let w = with_pending n q s in
    let o : length w ≡ length s = length_with n q s (omega arith) in
    let p : pending_of k b ≡ q = ap₂ pending_of l h.bytes_are ∙ read_back n q s e (omega arith) in
    let x : with_pending k q b ≡ b = ap₂ (λ (j : ℕ) (y : List ℕ). with_pending j q y) l h.bytes_are ∙ with_same n q s ∙ sym h.bytes_are in
    let y : length b ≡ length w = ap length h.bytes_are in
    (record { few = g; area = omega arith; ok = ap pending_ok p ∙ e; waiters_fit = rw p f; exact = ap (λ (z : List Pending). with_pending k z b) p ∙ x }, p)
