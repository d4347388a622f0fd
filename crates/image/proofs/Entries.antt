-- Records and awaiting slots in words: their number of words, that they fit, and reading them back.
use Prim.Native.Nat.{ℕ, suc, ◌+◌, ◌-◌, ◌*◌, ◌^◌, ◌<◌}
use mathlib.Core.Path.{◌≡◌, refl, sym, ap, ap₂, ◌∙◌}
use mathlib.Core.Bool.{Bool, true, false, ◌&&◌}
use mathlib.Core.List.{List, [], ◌∷◌, ◌++◌, map, append_assoc, append-nil}
use native.Mathlib.Omega.{arith}
use lib.Dec.{ltb, lit<}
use lib.ListN.{length, length-append}
use lib.Seq.{take_at, drop_at}
use borrow.Author.Tests.{ltb-true}
use Rattle.layout.specs.Layout.{awaiting_width, record_width}
use Rattle.model.specs.declared.storage_memo.Address.{Address}
use Rattle.model.specs.declared.delta_snapshot.Slot.{Slot}
use Rattle.model.specs.Slots.{slot_words, slot_ltb, fits_64, u256_fits}
use Rattle.model.specs.declared.delta_snapshot.Content.{Content}
use Rattle.model.specs.Contents.{content_fits, content_ok, content_words}
use Rattle.model.specs.Layers.{LayerOf, Record, Layer, held_value, freshest_use, record_count}
use Rattle.model.specs.Reads.{Pending}
use Rattle.model.proofs.SlotLaws.{and_left, and_right, and_intro}
use Rattle.image.specs.WellFormed.{slot_fits, every, chain_ok, pending_ok_from, pending_ok, all_waiters, rising}
use Rattle.image.specs.Image.{flag, record_words, pending_words, all_record_words, all_pending_words, flat_records, layer_ends, read_record, read_pending, entries, cut}
use Rattle.model.proofs.WordLaws.{Fit, fit_nil, fit_cons, fit_append, fits, fit_and, fit_u256}
use Rattle.model.proofs.ContentLaws.{content_wide, content_back, fit_content}

-- Entries of any kind ---------------------------------------------------------------------------------

-- The words of entries in a row.
unfoldable pub joined : {A : Type 0} → (A → List ℕ) → List A → List ℕ
joined f [] = []
joined f (a ∷ l) = f a ++ joined f l

-- Entries of w words each, and a reading that gives each back.
module _ {A : Type 0} (w : ℕ) (f : A → List ℕ) (wide : (a : A) → length (f a) ≡ w) where
  length_joined : (l : List A) → length (joined f l) ≡ w * length l
  unfolding joined
  length_joined [] = omega arith
  length_joined (a ∷ l) = length-append (f a) (joined f l) ∙ omega (arith, wide a, length_joined l)

  read_joined : (rd : List ℕ → A) → ((a : A) → rd (f a) ≡ a) → (l : List A) (rest : List ℕ) → map rd (entries w (length l) (joined f l ++ rest)) ≡ l
  unfolding joined entries
  read_joined rd back [] rest = refl
  read_joined rd back (a ∷ l) rest =
      let q : List ℕ = joined f l ++ rest in
      ap (λ (k : List ℕ). map rd (entries w (suc (length l)) k)) (append_assoc (f a) (joined f l) rest)
      ∙ ap₂ (λ (x y : List ℕ). rd x ∷ map rd (entries w (length l) y)) (take_at (f a) q w (wide a)) (drop_at (f a) q w (wide a))
      ∙ ap₂ (λ (x : A) (y : List A). x ∷ y) (back a) (read_joined rd back l rest)

-- Fitting ---------------------------------------------------------------------------------------------

fit_slot : (s : Slot) → slot_fits s ≡ true → Fit (slot_words s)
unfolding slot_fits
fit_slot s e =
    let a : Address = s.address in
    let low : Bool = fits_64 a.w1 && fits_64 a.w2 in
    let p : (ltb a.w0 (2 ^ 32) && low) ≡ true = and_left (ltb a.w0 (2 ^ 32) && low) (u256_fits s.index) e in
    let q : low ≡ true = and_right (ltb a.w0 (2 ^ 32)) low p in
    let h : a.w0 < 2 ^ 64 = omega (arith, ltb-true a.w0 (2 ^ 32) (and_left (ltb a.w0 (2 ^ 32)) low p)) in
    fit_cons h (fit_and a.w1 _ q (λ e₁. fit_cons (fits a.w2 e₁) (fit_u256 s.index (and_right (ltb a.w0 (2 ^ 32) && low) (u256_fits s.index) e))))

-- Records ---------------------------------------------------------------------------------------------

pub record_wide : (r : Record) → length (record_words r) ≡ record_width
record_wide r = length-append (slot_words r.slot) (content_words r.content) ∙ omega (arith, content_wide r.content)

record_back : (r : Record) → read_record (record_words r) ≡ r
record_back r = ap (λ (c : Content). record { slot = r.slot; content = c }) (content_back r.content)

pub records_joined : (rs : List Record) → all_record_words rs ≡ joined record_words rs
unfolding all_record_words joined
records_joined [] = refl
records_joined (r ∷ rs) = ap (λ (l : List ℕ). record_words r ++ l) (records_joined rs)

pub length_records : (rs : List Record) → length (all_record_words rs) ≡ record_width * length rs
length_records rs = ap length (records_joined rs) ∙ length_joined record_width record_words record_wide rs

pub read_records : (rs : List Record) (rest : List ℕ) → map read_record (entries record_width (length rs) (all_record_words rs ++ rest)) ≡ rs
read_records rs rest =
    ap (λ (l : List ℕ). map read_record (entries record_width (length rs) (l ++ rest))) (records_joined rs)
    ∙ read_joined record_width record_words record_wide read_record record_back rs rest

-- Every record of a layer fits.
abbrev fitting : Layer → Bool
fitting l = every (λ s c. slot_fits s && content_fits c) l

fit_records : (rs : List Record) → fitting rs ≡ true → Fit (all_record_words rs)
unfolding every all_record_words
fit_records [] e = fit_nil
fit_records (r ∷ rs) e =
    let x : Bool = slot_fits r.slot in
    let y : Bool = content_fits r.content in
    let p : (x && y) ≡ true = and_left (x && y) (fitting rs) e in
    fit_append (fit_append (fit_slot r.slot (and_left x y p)) (fit_content r.content (and_right x y p))) (fit_records rs (and_right (x && y) (fitting rs) e))

every_append : {A : Type 0} (p : Slot → A → Bool) (k l : LayerOf A) → every p k ≡ true → every p l ≡ true → every p (k ++ l) ≡ true
unfolding every
every_append p [] l e f = f
every_append p (r ∷ k) l e f =
    let x : Bool = p r.slot r.content in
    and_intro x (every p (k ++ l)) (and_left x (every p k) e) (every_append p k l (and_right x (every p k) e) f)

-- The records of a right chain fit.
flat_fitting : (now : ℕ) (ls : List Layer) → chain_ok now ls ≡ true → fitting (flat_records ls) ≡ true
unfolding chain_ok flat_records every
flat_fitting now [] e = refl
flat_fitting now (l ∷ ls) e =
    let right : Bool = every (λ s c. content_ok now (held_value s ls) (freshest_use s ls) c) l in
    let p : (fitting l && chain_ok now ls) ≡ true = and_right right (fitting l && chain_ok now ls) (and_right (rising l) _ e) in
    every_append _ (flat_records ls) l (flat_fitting now ls (and_right (fitting l) (chain_ok now ls) p)) (and_left (fitting l) (chain_ok now ls) p)

pub fit_chain : (now : ℕ) (ls : List Layer) → chain_ok now ls ≡ true → Fit (all_record_words (flat_records ls))
fit_chain now ls e = fit_records (flat_records ls) (flat_fitting now ls e)

-- Layers ----------------------------------------------------------------------------------------------

pub length_flat : {A : Type 0} (ls : List (LayerOf A)) → length (flat_records ls) ≡ record_count ls
unfolding flat_records record_count
length_flat [] = refl
length_flat (l ∷ ls) = length-append (flat_records ls) l ∙ omega (arith, length_flat ls)

pub length_ends : {A : Type 0} (ls : List (LayerOf A)) → length (layer_ends ls) ≡ length ls
unfolding layer_ends
length_ends [] = refl
length_ends (l ∷ ls) = length-append (layer_ends ls) (record_count (l ∷ ls) ∷ []) ∙ omega (arith, length_ends ls)

pub fit_ends : {A : Type 0} (ls : List (LayerOf A)) → record_count ls < 2 ^ 64 → Fit (layer_ends ls)
unfolding layer_ends record_count
fit_ends [] h = fit_nil
fit_ends (l ∷ ls) h = fit_append (fit_ends ls (omega arith)) (fit_cons h fit_nil)

-- The ends of some layers cut the records of those layers off; what is above them is cut next.
cut_off : {A : Type 0} (ls : List (LayerOf A)) (es : List ℕ) (rest : LayerOf A) → cut 0 (layer_ends ls ++ es) (flat_records ls ++ rest) [] ≡ cut (record_count ls) es rest ls
unfolding cut layer_ends flat_records record_count
cut_off {A} [] es rest = refl
cut_off {A} (l ∷ ls) es rest =
    let n : ℕ = length l + record_count ls in
    let e : length l ≡ n - record_count ls = omega arith in
    ap₂ (λ (x : List ℕ) (y : LayerOf A). cut 0 x y []) (append_assoc (layer_ends ls) (n ∷ []) es) (append_assoc (flat_records ls) l rest)
    ∙ cut_off ls (n ∷ es) (l ++ rest)
    ∙ ap₂ (λ (x y : LayerOf A). cut n es x (y ∷ ls)) (drop_at l rest (n - record_count ls) e) (take_at l rest (n - record_count ls) e)

pub cut_back : {A : Type 0} (ls : List (LayerOf A)) (top : LayerOf A) → cut 0 (layer_ends ls) (flat_records ls ++ top) [] ≡ record { base = ls; top = top }
unfolding cut
cut_back ls top = ap (λ (x : List ℕ). cut 0 x (flat_records ls ++ top) []) (sym (append-nil (layer_ends ls))) ∙ cut_off ls [] top

-- Awaiting slots --------------------------------------------------------------------------------------

pending_back : (s : Slot) (n : ℕ) (t : Bool) → read_pending (pending_words (record { slot = s; waiters = n; taken = t })) ≡ record { slot = s; waiters = n; taken = t }
pending_back s n true = refl
pending_back s n false = refl

pub pending_joined : (q : List Pending) → all_pending_words q ≡ joined pending_words q
unfolding all_pending_words joined
pending_joined [] = refl
pending_joined (w ∷ q) = ap (λ (l : List ℕ). pending_words w ++ l) (pending_joined q)

pub length_pending : (q : List Pending) → length (all_pending_words q) ≡ awaiting_width * length q
length_pending q = ap length (pending_joined q) ∙ length_joined awaiting_width pending_words (λ w. refl) q

pub read_pendings : (q : List Pending) (rest : List ℕ) → map read_pending (entries awaiting_width (length q) (all_pending_words q ++ rest)) ≡ q
read_pendings q rest =
    ap (λ (l : List ℕ). map read_pending (entries awaiting_width (length q) (l ++ rest))) (pending_joined q)
    ∙ read_joined awaiting_width pending_words (λ w. refl) read_pending (λ w. pending_back w.slot w.waiters w.taken) q rest

fit_flag : (t : Bool) → flag t < 2 ^ 64
fit_flag true = lit< tt
fit_flag false = lit< tt

fit_pending : (w : Pending) → slot_fits w.slot ≡ true → w.waiters < 2 ^ 64 → Fit (pending_words w)
fit_pending w e h = fit_append (fit_slot w.slot e) (fit_cons h (fit_cons (fit_flag w.taken) (fit_cons (lit< tt) fit_nil)))

-- Awaiting slots that rise from a slot are right by themselves.
unplaced : (s : Slot) (q : List Pending) → pending_ok_from s q ≡ true → pending_ok q ≡ true
unfolding pending_ok_from pending_ok
unplaced s [] e = refl
unplaced s (w ∷ q) e = and_right (slot_ltb s w.slot) (pending_ok (w ∷ q)) e

pub fit_pendings : (q : List Pending) → pending_ok q ≡ true → all_waiters q < 2 ^ 64 → Fit (all_pending_words q)
unfolding pending_ok all_waiters all_pending_words
fit_pendings [] e h = fit_nil
fit_pendings (w ∷ q) e h =
    let rest : Bool = pending_ok_from w.slot q in
    let x : Bool = slot_fits w.slot in
    let y : Bool = ltb 0 w.waiters in
    let p : rest ≡ true = and_right y rest (and_right x (y && rest) e) in
    fit_append (fit_pending w (and_left x (y && rest) e) (omega arith)) (fit_pendings q (unplaced w.slot q p) (omega arith))
