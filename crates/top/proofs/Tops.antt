-- The part of the bytes from the top on, lent and returned.
use Rattle.std.specs.Prelude.{Err, Ok}
use Prim.Native.Nat.{ℕ, ◌+◌, ◌-◌, ◌*◌, ◌≤◌}
use mathlib.Core.Path.{◌≡◌, refl, sym, ap, ap₂, ◌∙◌}
use mathlib.Core.List.{List, ◌∷◌, ◌++◌, append-nil}
use native.Mathlib.Omega.{arith}
use lib.ListN.{length, take, drop, length-drop, drop_of_length-le}
use borrow.Rule.Slice.PartMut.{put_mid}
use Rattle.layout.specs.Layout.{record_size, records_count_offset, records_offset}
use Rattle.model.specs.declared.delta_snapshot.Slot.{Slot}
use Rattle.model.specs.Numbers.{be, Bytes}
use Rattle.model.specs.declared.delta_snapshot.Content.{Content}
use Rattle.model.specs.Contents.{touch}
use Rattle.model.specs.Layers.{Layer, find, record_count, insert}
use Rattle.model.specs.Store.{Generation, chain, touched_top}
use Rattle.words.specs.Parts.{placed}
use Rattle.image.specs.WellFormed.{rising}
use Rattle.image.specs.Image.{overlay}
use Rattle.image.specs.Area.{records_of, with_records}
use Rattle.image.specs.Lent.{store_of, generation_of, Installed}
use Rattle.image.proofs.Lent.{store_in, generation_in}
use Rattle.records.specs.Records.{Found}
use Rattle.records.specs.Records.{place_in, count_after, Ready, Holds}
use Rattle.records.proofs.Places.{length_insert}
use Rattle.layers.proofs.Search.{lent, lent_rest}
use Rattle.top.specs.Top.{topped, Placed}
use Rattle.top.proofs.Changed.{new_top, top_exact}

-- A part that was lent from place a to the end is back at ys.
pub lent_back : (a : ℕ) (s ys : List ℕ) → put_mid a (length s - a) s ys ≡ take a s ++ ys
lent_back a s ys =
    let m : length (drop a s) ≤ length s - a = omega (arith, length-drop a s) in
    ap (λ (x : List ℕ). take a s ++ (ys ++ x)) (drop_of_length-le (drop a s) m) ∙ ap (λ (x : List ℕ). take a s ++ x) (append-nil ys)

-- A record set at a place adds to the records of several layers as it does to those of one.
count_more : (f : Found) (n m : ℕ) → count_after f n + m ≡ count_after f (n + m)
count_more (Ok i) n m = refl
count_more (Err i) n m = omega arith

count_least : (f : Found) (n : ℕ) → n ≤ count_after f n
count_least (Ok i) n = omega arith
count_least (Err i) n = omega arith

-- The number of all records after a record of the top is set.
pub count_set : (g : Generation) (s : Slot) (c : Content) (f : Found) → f ≡ place_in s g.top → record_count (insert s c g.top ∷ g.base) ≡ count_after f (record_count (chain g))
unfolding record_count
count_set g s c f e =
    ap (λ (n : ℕ). n + record_count g.base) (length_insert g.top s c ∙ ap (λ (x : Found). count_after x (length g.top)) (sym e)) ∙ count_more f (length g.top) (record_count g.base)

-- Of where the top starts, x, and its number of records, n.
module _ (b : List ℕ) (h : Installed b) (x n : ℕ) (p : x ≡ record_count (generation_of b).base) (q : n ≡ length (generation_of b).top) where
  abbrev g : Generation
  g = generation_of b

  lent_drop : lent x b ≡ drop (records_offset + record_size * record_count g.base) b
  lent_drop = lent_rest x b ∙ ap (λ (k : ℕ). drop (records_offset + record_size * k) b) p

  lent_reads : records_of n (lent x b) ≡ g.top
  lent_reads = ap₂ records_of q lent_drop ∙ (generation_in b h).top.reads

  -- The records are as many as the header says, and there is room for them.
  pub top_fits : records_offset + record_size * (x + n) ≤ length b
  top_fits = let k = (generation_in b h).top.room in omega arith

  module _ (f : Bytes b) where
    lent_exact : with_records (records_of n (lent x b)) (lent x b) ≡ lent x b
    lent_exact = ap₂ with_records lent_reads lent_drop ∙ top_exact b (store_of b) g f h.is_store h.installs ∙ sym lent_drop

    pub top_ready : (place : Found) (s : Slot) → Placed place s b → Ready place s n (lent x b)
    unfolding record_count
    top_ready place s k =
        let long : records_offset + record_size * (store_of b).config.capacity ≤ length b = (store_in b h.is_store).long in
        let room : count_after place (length g.top + record_count g.base) ≤ (store_of b).config.capacity = k.room in
        let more : count_after place n + x ≡ count_after place (length g.top + record_count g.base) = count_more place n x ∙ ap₂ (λ (i j : ℕ). count_after place (i + j)) q p in
        record {
          place_is = k.place_is ∙ ap (place_in s) (sym lent_reads);
          room = omega (arith, ap length (lent_rest x b), length-drop (records_offset + record_size * x) b);
          exact = lent_exact;
          rises = ap rising lent_reads ∙ (generation_in b h).top.rises;
        }

    -- The bytes after a record of the top was set, and the number of records written.
    pub top_set : (place : Found) (s : Slot) (c : Content) (count : ℕ) (ys u : List ℕ) → Placed place s b → Holds count ys (insert s c (records_of n (lent x b))) (lent x b)
        → u ≡ placed records_count_offset (be 8 (x + count)) (put_mid (records_offset + record_size * x) (length b - (records_offset + record_size * x)) b ys) → u ≡ overlay (topped (store_of b).config g (insert s c g.top)) b
    unfolding record_count
    top_set place s c count ys u k hold e =
        let t : Layer = insert s c g.top in
        let at : ℕ = records_offset + record_size * record_count g.base in
        let same : insert s c (records_of n (lent x b)) ≡ t = ap (insert s c) lent_reads in
        let total : record_count (t ∷ g.base) ≡ count_after place (record_count (chain g)) = count_set g s c place k.place_is in
        let len : length t ≡ count_after (place_in s g.top) (length g.top) = length_insert g.top s c in
        let least : length g.top ≤ length t = omega (arith, count_least (place_in s g.top) (length g.top)) in
        let num : x + count ≡ record_count (t ∷ g.base) = omega (arith, hold.count_is, ap length same) in
        let back : put_mid (records_offset + record_size * x) (length b - (records_offset + record_size * x)) b ys ≡ take at b ++ with_records t (drop at b) =
        lent_back (records_offset + record_size * x) b ys ∙ ap₂ (λ (i : ℕ) (l : List ℕ). take (records_offset + record_size * i) b ++ l) p (hold.bytes_are ∙ ap₂ with_records same lent_drop) in
        e ∙ ap₂ (λ (i : ℕ) (l : List ℕ). placed records_count_offset (be 8 i) l) num back
        ∙ sym (new_top b (store_of b) g f h.is_store h.installs t least (omega (arith, k.room)))

    -- The number of all records then.
    pub top_total : (place : Found) (s : Slot) (c : Content) (count : ℕ) (ys : List ℕ) → Placed place s b → Holds count ys (insert s c (records_of n (lent x b))) (lent x b) → x + count ≤ 4096
    unfolding record_count
    top_total place s c count ys k hold =
        let limit : (store_of b).config.capacity ≤ 4096 = (store_in b h.is_store).capacity_limit in
        let total : record_count (insert s c g.top ∷ g.base) ≡ count_after place (record_count (chain g)) = count_set g s c place k.place_is in
        omega (arith, hold.count_is, ap (λ (l : Layer). length (insert s c l)) lent_reads, k.room)

    -- A use.
    pub top_touched : (place : Found) (s : Slot) (used count : ℕ) (ys u : List ℕ) → Placed place s b → used ≡ g.anchor.number
        → Holds count ys (insert s (touch used (find s (records_of n (lent x b)))) (records_of n (lent x b))) (lent x b)
        → u ≡ placed records_count_offset (be 8 (x + count)) (put_mid (records_offset + record_size * x) (length b - (records_offset + record_size * x)) b ys) → u ≡ overlay (topped (store_of b).config g (touched_top g s)) b
    top_touched place s used count ys u k e hold r =
        top_set place s (touch used (find s (records_of n (lent x b)))) count ys u k hold r
        ∙ ap₂ (λ (m : ℕ) (l : Layer). overlay (topped (store_of b).config g (insert s (touch m (find s l)) g.top)) b) e lent_reads
