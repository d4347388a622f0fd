-- A store's bytes are its image and what follows, and the header's words are as many as they are.
use Rattle.std.specs.Prelude.{None, Option, Some}
use Prim.Native.Nat.{ℕ}
use mathlib.Core.Path.{◌≡◌, refl, sym, ap, ◌∙◌}
use mathlib.Core.List.{List, ◌++◌}
use lib.ListN.{length, drop, take-append-drop}
use Rattle.model.specs.declared.delta_snapshot.Retention.{Retention}
use Rattle.model.specs.declared.delta_snapshot.Retention.TheVariants.{Unbounded, IdleBlocks}
use Rattle.model.specs.Numbers.{Bytes}
use Rattle.model.specs.Store.{Store}
use Rattle.image.specs.Image.{retention_words, hash_words, image, decode}
use Rattle.image.proofs.ReadBack.{image_reads_back}
use Rattle.model.specs.declared.storage_memo.U256.{U256}

-- Bytes that are a store are its image, and what follows.
pub store_split : (b : List ℕ) (st : Store) → Bytes b → decode b ≡ Some st → b ≡ image st ++ drop (length (image st)) b
store_split b st f e =
    sym (take-append-drop (length (image st)) b) ∙ ap (λ (l : List ℕ). l ++ drop (length (image st)) b) (image_reads_back.is_image b st f e).1

-- The words of a retention, and of a hash.
pub length_retention : (R : Retention) → length (retention_words R) ≡ 2
length_retention Unbounded = refl
length_retention (IdleBlocks n) = refl

pub length_hash : (h : Option U256) → length (hash_words h) ≡ 5
length_hash None = refl
length_hash (Some h) = refl
