-- Slots, anchors and retention. The types are the code's own structs and enums.
use Rattle.std.specs.Prelude.{ℕ, ◌-◌, ◌^◌, Bool, true, false, ◌&&◌, ◌||◌, List, [], ◌∷◌, eqb, leb, ltb, get_or, None, Option, Some}
pub use Rattle.model.specs.declared.storage_memo.Address.{Address}
pub use Rattle.model.specs.declared.storage_memo.U256.{U256}
pub use Rattle.model.specs.declared.storage_memo.ReadAnchor.{ReadAnchor}
pub use Rattle.model.specs.declared.delta_snapshot.Slot.{Slot}
pub use Rattle.model.specs.declared.delta_snapshot.Retention.{Retention}
pub use Rattle.model.specs.declared.delta_snapshot.Retention.TheVariants.{Unbounded, IdleBlocks}

-- A value has 32 bytes; a last use is a block number; a hash has 32 bytes.
abbrev pub Value : Type 0
Value = U256

abbrev pub LastUse : Type 0
LastUse = ℕ

abbrev pub Hash : Type 0
Hash = U256

-- The words of an address, of a 32-byte number and of a slot, the highest first.
abbrev pub address_words : Address → List ℕ
address_words a = a.w0 ∷ a.w1 ∷ a.w2 ∷ []

abbrev pub u256_words : U256 → List ℕ
u256_words x = x.w0 ∷ x.w1 ∷ x.w2 ∷ x.w3 ∷ []

abbrev pub slot_words : Slot → List ℕ
slot_words s = s.address.w0 ∷ s.address.w1 ∷ s.address.w2 ∷ u256_words s.index

-- The 32-byte number of four words.
abbrev pub read_u256 : List ℕ → U256
read_u256 l = record { w0 = get_or l 0 0; w1 = get_or l 1 0; w2 = get_or l 2 0; w3 = get_or l 3 0 }

-- Whether a number fits a word, and whether each word of a 32-byte number does.
abbrev pub fits_64 : ℕ → Bool
fits_64 n = ltb n (2 ^ 64)

abbrev pub u256_fits : U256 → Bool
u256_fits x = fits_64 x.w0 && (fits_64 x.w1 && (fits_64 x.w2 && fits_64 x.w3))

-- Whether two lists of words are equal.
unfoldable pub words_eqb : List ℕ → List ℕ → Bool
words_eqb [] [] = true
words_eqb [] (y ∷ ys) = false
words_eqb (x ∷ xs) [] = false
words_eqb (x ∷ xs) (y ∷ ys) = eqb x y && words_eqb xs ys

-- Whether a number comes before another, both given by as many words, the highest first.
unfoldable pub words_ltb : List ℕ → List ℕ → Bool
words_ltb [] ys = false
words_ltb (x ∷ xs) [] = false
words_ltb (x ∷ xs) (y ∷ ys) = ltb x y || (eqb x y && words_ltb xs ys)

-- Whether two addresses, two 32-byte numbers, two slots are equal.
unfoldable pub address_eqb : Address → Address → Bool
address_eqb a b = words_eqb (address_words a) (address_words b)

unfoldable pub u256_eqb : U256 → U256 → Bool
u256_eqb x y = words_eqb (u256_words x) (u256_words y)

unfoldable pub slot_eqb : Slot → Slot → Bool
slot_eqb s t = words_eqb (slot_words s) (slot_words t)

-- Whether a slot comes before another: compared as big-endian numbers, address first.
unfoldable pub slot_ltb : Slot → Slot → Bool
slot_ltb s t = words_ltb (slot_words s) (slot_words t)

-- Whether a list has a slot.
unfoldable pub mem : Slot → List Slot → Bool
mem s [] = false
mem s (t ∷ l) = slot_eqb t s || mem s l

-- An anchor with a number alone (`ReadAnchor::at`), and one with its hash (`ReadAnchor::identified`).
abbrev pub at : ℕ → ReadAnchor
at n = record { number = n; hash = None }

abbrev pub identified : ℕ → Hash → ReadAnchor
identified n h = record { number = n; hash = Some h }

-- Whether two hashes, each known or not, are equal.
abbrev pub hash_eqb : Option Hash → Option Hash → Bool
hash_eqb None None = true
hash_eqb None (Some k) = false
hash_eqb (Some h) None = false
hash_eqb (Some h) (Some k) = u256_eqb h k

-- Whether two anchors are equal: both parts are.
unfoldable pub anchor_eqb : ReadAnchor → ReadAnchor → Bool
anchor_eqb a b = eqb a.number b.number && hash_eqb a.hash b.hash

-- Whether a last use serves at `now` (`Retention::serves`): unbounded always; idle n exactly when now minus last use, taken as 0 where negative, is at most n.
abbrev pub serves : Retention → LastUse → ℕ → Bool
serves Unbounded u now = true
serves (IdleBlocks n) u now = leb (now - u) n
