-- The store that an advance begins is well formed, and its bytes are that store.
use Rattle.std.specs.Prelude.{Option, Some}
use Prim.Native.Nat.{ℕ, suc, ◌+◌, ◌≤◌}
use mathlib.Core.Path.{◌≡◌, refl, ap, subst}
use mathlib.Core.Bool.{Bool, true, false}
use mathlib.Core.List.{List, [], ◌∷◌}
use native.Mathlib.Omega.{arith}
use lib.Dec.{ltb}
use lib.ListN.{length}
use borrow.Author.Tests.{le-ltb}
use Rattle.model.specs.declared.storage_memo.ReadAnchor.{ReadAnchor}
use Rattle.model.specs.Layers.{Layer, record_count}
use Rattle.model.specs.Advance.{Compaction, void_base, compact_if, compact_base, seal, seed_final_writes}
use Rattle.model.specs.Store.{Config, Generation, Store, new_generation, carry}
use Rattle.model.proofs.SlotLaws.{and_left, and_right, and_intro}
use Rattle.image.specs.WellFormed.{anchor_fits, config_ok, generation_ok, installed_ok, well_formed}
use Rattle.image.specs.Claims.{writes_fit}
use Rattle.image.specs.Image.{flat_records, decode, overlay}
use Rattle.image.specs.Lent.{store_of, generation_of, IsStore, Installed}
use Rattle.image.proofs.Entries.{length_flat}
use Rattle.image.proofs.ReadBack.{decode_image}
use Rattle.image.proofs.Areas.{GenerationBytes}
use Rattle.image.proofs.Lent.{store_is, installed, generation_is, store_in, generation_in}
use Rattle.image.proofs.Closure.{GenerationOk, generation_parts, generation_ok_parts, fresh_ok, carry_ok, depth_some}
use Rattle.fold.proofs.FoldedLaws.{compact_is}
use Rattle.fold.proofs.FitLaws.{folded_short}
use Rattle.seal.specs.Sealed.{begun_on, compacted}
use Rattle.seal.proofs.Kept.{kept_count}
use Rattle.seal.proofs.Compacted.{base_rises}

config_right : (st : Store) → well_formed st ≡ true → config_ok st.config ≡ true
unfolding well_formed
config_right st e = and_left (config_ok st.config) _ e

begun_right : (cfg : Config) (a : ReadAnchor) (b : List Layer) → config_ok cfg ≡ true → GenerationOk cfg (new_generation a b []) → record_count b ≤ cfg.capacity → well_formed (record { config = cfg; installed = Some (new_generation a b []) }) ≡ true
unfolding well_formed record_count
begun_right cfg a b c k h = and_intro _ _ c (generation_ok_parts cfg (new_generation a b []) k (le-ltb cfg.capacity (record_count ([] ∷ b)) (omega arith)))

-- A cold advance's.
pub cold_decodes : (s w : List ℕ) (child : ReadAnchor) → IsStore s → anchor_fits child ≡ true → decode (overlay (begun_on (store_of s).config child void_base) w) ≡ begun_on (store_of s).config child void_base
unfolding record_count
cold_decodes s w child e f =
    let cfg : Config = (store_of s).config in
    let c : config_ok cfg ≡ true = config_right (store_of s) (store_in s e).right in
    decode_image (record { config = cfg; installed = Some (new_generation child void_base []) }) _ (begun_right cfg child void_base c (fresh_ok cfg child f) (omega arith))

-- A fold leaves no more records, and a seal keeps their number.
compact_few : (s : List ℕ) (due : Bool) → Installed s → record_count (compact_if due (store_of s).config.retention (generation_of s).anchor.number (generation_of s).base).base ≤ record_count (generation_of s).base
unfolding record_count
compact_few s true h =
    let g : Generation = generation_of s in
    let e = compact_is (store_of s).config.retention g.anchor.number (flat_records g.base) g.base refl (base_rises s h) in
    omega (arith, ap (λ (k : Compaction). record_count k.base) e, folded_short (store_of s).config.retention g.anchor.number (flat_records g.base), length_flat g.base)
compact_few s false h = omega arith

seal_few : (t : Layer) (b : List Layer) → record_count (seal t b) ≡ length t + record_count b
unfolding seal record_count
seal_few t b = kept_count t b

installed_right : (s : List ℕ) → Installed s → generation_ok (store_of s).config (generation_of s) ≡ true
unfolding well_formed
installed_right s h =
    subst (λ (x : Option Generation). installed_ok (store_of s).config x ≡ true) h.installs (and_right (config_ok (store_of s).config) _ (store_in s h.is_store).right)

-- A carry's.
pub carried_decodes : (s w : List ℕ) (child : ReadAnchor) → Installed s → anchor_fits child ≡ true → child.number ≡ suc (generation_of s).anchor.number
    → let b : List Layer = seal (generation_of s).top (compacted (store_of s).config (generation_of s)).base in decode (overlay (begun_on (store_of s).config child b) w) ≡ begun_on (store_of s).config child b
unfolding carry seed_final_writes writes_fit compact_base record_count
carried_decodes s w child h f e =
    let cfg : Config = (store_of s).config in
    let g : Generation = generation_of s in
    let bytes : GenerationBytes s (store_of s) g = generation_in s h in
    let right : well_formed (store_of s) ≡ true = bytes.store.right in
    let c : config_ok cfg ≡ true = config_right (store_of s) right in
    let b : List Layer = seal g.top (compacted cfg g).base in
    let ok : generation_ok cfg g ≡ true = installed_right s h in
    let few : length g.top + record_count g.base ≤ cfg.capacity = bytes.facts.few_records in
    let k : GenerationOk cfg (new_generation child b []) = carry_ok cfg child (record { skip = 0; relevance = []; writes = [] }) f refl g (generation_parts cfg g ok) (depth_some cfg c) e in
    decode_image (record { config = cfg; installed = Some (new_generation child b []) }) _
    (begun_right cfg child b c k (omega (arith, seal_few g.top (compacted cfg g).base, compact_few s (ltb cfg.max_depth (length g.base)) h)))

-- What the next steps of an advance find in the work area.
pub record Begun (b : List ℕ) (cfg : Config) (child : ReadAnchor) (base : List Layer) : Type 0 where
  pub holds : Installed b
  pub config_is : (store_of b).config ≡ cfg
  pub generation_of_it : generation_of b ≡ new_generation child base []

begun_in : (b : List ℕ) (cfg : Config) (child : ReadAnchor) (base : List Layer) → decode b ≡ begun_on cfg child base → Begun b cfg child base
begun_in b cfg child base e =
    let st : Store = record { config = cfg; installed = Some (new_generation child base []) } in
    record { holds = installed b st (new_generation child base []) e refl; config_is = ap (λ (x : Store). x.config) (store_is b st e); generation_of_it = generation_is b st (new_generation child base []) e refl }

pub cold_begun : (s w : List ℕ) (child : ReadAnchor) → IsStore s → anchor_fits child ≡ true → Begun (overlay (begun_on (store_of s).config child void_base) w) (store_of s).config child void_base
cold_begun s w child e f = begun_in _ (store_of s).config child void_base (cold_decodes s w child e f)

pub carried_begun : (s w : List ℕ) (child : ReadAnchor) → Installed s → anchor_fits child ≡ true → child.number ≡ suc (generation_of s).anchor.number
    → let b : List Layer = seal (generation_of s).top (compacted (store_of s).config (generation_of s)).base in Begun (overlay (begun_on (store_of s).config child b) w) (store_of s).config child b
carried_begun s w child h f e = begun_in _ (store_of s).config child _ (carried_decodes s w child h f e)
