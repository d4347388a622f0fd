-- The store and the generation that lent bytes hold, as functions of the bytes, and a base's layers by number: what contracts over a store's bytes speak of.
use Rattle.std.specs.Prelude.{◌≡◌, List, [], ℕ, suc, ◌-◌, length, take, drop, get_or, Some}
use Rattle.model.specs.Numbers.{num}
use Rattle.model.specs.Layers.{LayerOf}
use Rattle.model.specs.Store.{Generation, Store}
use Rattle.model.specs.Refusals.{store_words}
use Rattle.image.specs.Image.{words_of, read_generation, read_store, decode}

-- The words of a store that bytes begin with, by the capacity in its second word.
unfoldable pub words_in : List ℕ → List ℕ
words_in b = words_of (store_words (num (take 8 (drop 8 b)))) b

-- The store that bytes read as, and the generation. They mean something only of bytes that are a store, and one with a generation.
unfoldable pub store_of : List ℕ → Store
store_of b = read_store (words_in b)

unfoldable pub generation_of : List ℕ → Generation
generation_of b = read_generation (words_in b)

-- The bytes are a store.
abbrev pub IsStore : List ℕ → Type 0
IsStore b = decode b ≡ Some (store_of b)

-- The bytes are a store with a generation installed.
pub record Installed (b : List ℕ) : Type 0 where
  pub is_store : IsStore b
  pub installs : (store_of b).installed ≡ Some (generation_of b)

-- The layer of number k of some layers (the newest first).
abbrev pub layer_of : {A : Type 0} → ℕ → List (LayerOf A) → LayerOf A
layer_of k b = get_or b (length b - suc k) []
