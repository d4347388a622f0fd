-- The awaiting area of a store's image: ready for a change, and after a change the area of the new awaiting slots.
use Prim.Native.Nat.{ℕ, zero, suc, ◌-◌, ◌*◌, ◌^◌, ◌≤◌, ◌<◌, max}
use mathlib.Core.Path.{◌≡◌, refl, sym, ap, ◌∙◌}
use mathlib.Core.Bool.{true}
use mathlib.Core.List.{List, ◌++◌, append_assoc}
use native.Mathlib.Omega.{arith}
use lib.ListN.{length, drop, replicate, length-append, length-replicate}
use lib.Seq.{drop_at}
use Rattle.layout.specs.Layout.{awaiting_size, awaiting_table, awaiting_table_size, awaiting_width}
use Rattle.model.specs.Numbers.{be}
use Rattle.model.specs.Reads.{Pending}
use Rattle.image.specs.Image.{bytes_of, all_pending_words, padded}
use Rattle.image.specs.WellFormed.{pending_ok, all_waiters}
use Rattle.image.specs.Area.{pending_of, with_pending}
use Rattle.image.proofs.Entries.{length_pending}
use Rattle.image.proofs.Written.{bytes_append}
use Rattle.awaiting.specs.Awaiting.{Ready}
use Rattle.awaiting.proofs.Stored.{image_of, length_image, with_as, zeros_join, read_back}

-- The bytes of the area.
abbrev pub area_of : List Pending → List ℕ
area_of q = bytes_of (padded awaiting_table (all_pending_words q))

zero_bytes : (k : ℕ) → bytes_of (replicate k 0) ≡ replicate (8 * k) 0
unfolding bytes_of be
zero_bytes zero = refl
zero_bytes (suc k) = ap (λ (l : List ℕ). be 8 0 ++ l) (zero_bytes k) ∙ zeros_join 8 (8 * k) (8 * suc k) (omega arith)

-- They are those of the awaiting slots, and 0.
area_is : (q : List Pending) → length q ≤ 64 → area_of q ≡ image_of q ++ replicate (awaiting_size * (64 - length q)) 0
area_is q h =
    let l = all_pending_words q in
    let n : length l ≡ awaiting_width * length q = length_pending q in
    let e : 8 * (awaiting_table - length l) ≡ awaiting_size * (64 - length q) = omega arith in
    bytes_append l (replicate (awaiting_table - length l) 0) ∙ ap (λ (x : List ℕ). image_of q ++ x) (zero_bytes (awaiting_table - length l) ∙ ap (λ (k : ℕ). replicate k 0) e)

-- A change of the area.
pub area_changed : (p q : List Pending) (rest : List ℕ) → length p ≤ 64 → length q ≤ 64 → with_pending (length p) q (area_of p ++ rest) ≡ area_of q ++ rest
area_changed p q rest h k =
    let n = length p in
    let m = max n (length q) in
    let s = area_of p ++ rest in
    let a : List ℕ = replicate (awaiting_size * (m - n)) 0 in
    let b : List ℕ = replicate (awaiting_size * (64 - m)) 0 in
    let c : List ℕ = replicate (awaiting_size * (n - length q)) 0 in
    let z : a ++ b ≡ replicate (awaiting_size * (64 - n)) 0 = zeros_join (awaiting_size * (m - n)) (awaiting_size * (64 - m)) (awaiting_size * (64 - n)) (omega arith) in
    let y : c ++ b ≡ replicate (awaiting_size * (64 - length q)) 0 = zeros_join (awaiting_size * (n - length q)) (awaiting_size * (64 - m)) (awaiting_size * (64 - length q)) (omega arith) in
    let e : s ≡ (image_of p ++ a) ++ (b ++ rest) = ap (λ (x : List ℕ). x ++ rest) (area_is p h ∙ ap (λ (x : List ℕ). image_of p ++ x) (sym z)) ∙ regroup (image_of p) a b rest in
    let l : length (image_of p ++ a) ≡ awaiting_size * m = length-append (image_of p) a ∙ omega (arith, length_image p, length-replicate {A = ℕ} (awaiting_size * (m - n)) 0) in
    let d : drop (awaiting_size * m) s ≡ b ++ rest = ap (drop (awaiting_size * m)) e ∙ drop_at (image_of p ++ a) (b ++ rest) (awaiting_size * m) l in
    let f : with_pending n q s ≡ image_of q ++ (c ++ drop (awaiting_size * m) s) = with_as n q s (awaiting_size * (n - length q)) (awaiting_size * m) refl refl in
    let g : image_of q ++ (c ++ (b ++ rest)) ≡ (image_of q ++ (c ++ b)) ++ rest = simp append_assoc in
    let o : image_of q ++ (c ++ b) ≡ area_of q = ap (λ (x : List ℕ). image_of q ++ x) y ∙ sym (area_is q k) in
    f ∙ ap (λ (x : List ℕ). image_of q ++ (c ++ x)) d ∙ g ∙ ap (λ (x : List ℕ). x ++ rest) o
  where
    regroup : (u v w r : List ℕ) → (u ++ (v ++ w)) ++ r ≡ (u ++ v) ++ (w ++ r)
    regroup u v w r = simp append_assoc

-- The area of right awaiting slots is ready, and reads as them.
pub ready_area : (q : List Pending) (rest : List ℕ) → pending_ok q ≡ true → length q ≤ 64 → all_waiters q < 2 ^ 32
    → Ready (length q) (area_of q ++ rest) × (pending_of (length q) (area_of q ++ rest) ≡ q)
ready_area q rest e h f =
    let s = area_of q ++ rest in
    let x : with_pending (length q) q s ≡ s = area_changed q q rest h h in
    let p : pending_of (length q) s ≡ q = ap (pending_of (length q)) (sym x) ∙ read_back (length q) q s e (omega arith) in
    let l : length (area_of q) ≡ awaiting_table_size = ap length (area_is q h) ∙ length-append (image_of q) (replicate (awaiting_size * (64 - length q)) 0) ∙ omega (arith, length_image q, length-replicate {A = ℕ} (awaiting_size * (64 - length q)) 0) in
    let a : awaiting_table_size ≤ length s = omega (arith, length-append (area_of q) rest) in
    (record { few = h; area = a; ok = ap pending_ok p ∙ e; waiters_fit = rw p f; exact = ap (λ (y : List Pending). with_pending (length q) y s) p ∙ x }, p)
