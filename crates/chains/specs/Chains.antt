-- The last record of a slot below a record, and the chains of records by bucket that find it.
use Rattle.std.specs.Prelude.{ℕ, suc, ◌+◌, ◌*◌, ◌/◌, ◌%◌, ◌≤◌, ◌<◌, ◌≡◌, List, length, get_or, Option, Some, None}
use Rattle.order.specs.Index.{slot_at}

-- p says which is the last number below i that has a property: one more than it, or 0 if none has it.
pub record Last (P : ℕ → Type 0) (i p : ℕ) : Type 0 where
  pub low : p ≤ i
  pub has : (k : ℕ) → p ≡ suc k → P k
  pub later : (k : ℕ) → p ≤ k → k < i → P k → ⊥

-- The number that stands for a record, or for none: one more than the record's, or 0.
abbrev pub place_of : Option ℕ → ℕ
place_of None = 0
place_of (Some k) = suc k

-- p says which is the last record below record i that has its slot.
abbrev pub LastOfSlot : List ℕ → ℕ → ℕ → Type 0
LastOfSlot s i p = Last (λ k. slot_at k s ≡ slot_at i s) i p

-- Two words mixed to the number of one of 8,192 buckets. Nothing rests on how.
abbrev pub mixed : ℕ → ℕ → ℕ
mixed x y = (x % 4294967296 * 1481765933 + (y % 4294967296 + y / 4294967296) * 663608941) / 131072 % 8192

-- The bucket of the slot of record i.
unfoldable pub bucket_at : ℕ → List ℕ → ℕ
bucket_at i s = mixed (slot_at i s).address.w2 (slot_at i s).index.w3

-- The table over the records below i: for each bucket its last record, and for each record the last one of its bucket below it.
pub record Chained (s : List ℕ) (i : ℕ) (head prev : List ℕ) : Type 0 where
  pub buckets : length head ≡ 8192
  pub places : length prev ≡ 4096
  pub heads : (b : ℕ) → b < 8192 → Last (λ k. bucket_at k s ≡ b) i (get_or head b 0)
  pub prevs : (j : ℕ) → j < i → Last (λ k. bucket_at k s ≡ bucket_at j s) j (get_or prev j 0)
