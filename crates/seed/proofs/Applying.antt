-- A write applied to the bytes of a store, and that it leaves a store. Assumes nothing.
use Rattle.std.specs.Prelude.{None, Option, Some}
use Rattle.std.specs.Bool.{then_some}
use Rattle.std.proofs.lemmas.Option.{none-some, same_Some}
use mathlib.Core.Path.{◌≡◌, refl, sym, ap, ap₂, subst, ◌∙◌}
use mathlib.Core.Bool.{Bool, true, false, cond}
use mathlib.Core.List.{List, ◌∷◌, ◌++◌}
use Prim.Native.Nat.{ℕ}
use lib.Dec.{leb}
use lib.ListN.{length, drop}
use lib.Seq.{drop_at}
use borrow.Author.Tests.{le-leb, leb-true, le-ltb}
use Rattle.model.specs.declared.delta_snapshot.Slot.{Slot}
use Rattle.model.specs.Numbers.{Bytes}
use Rattle.model.specs.Slots.{Value, u256_fits}
use Rattle.model.specs.declared.delta_snapshot.Content.{Content}
use Rattle.model.specs.Contents.{valued}
use Rattle.model.specs.Layers.{Layer, insert, record_count}
use Rattle.model.specs.Advance.{WriteKind, apply_write, relevant}
use Rattle.model.specs.Entries.{addresses_of}
use Rattle.model.specs.Store.{Config, Generation, Store, chain, with_top}
use Rattle.model.specs.Refusals.{store_size}
use Rattle.model.proofs.SlotLaws.{and_left, and_right, and_intro}
use Rattle.image.specs.WellFormed.{slot_fits, config_ok, generation_ok, installed_ok, well_formed}
use Rattle.image.specs.Image.{image, decode, overlay}
use Rattle.image.specs.Lent.{store_of, generation_of, Installed}
use Rattle.image.proofs.RecordsOk.{top_ok_apply_write}
use Rattle.image.proofs.Closure.{GenerationOk, generation_parts, generation_ok_parts, number_fits}
use Rattle.image.proofs.ReadBack.{decode_some, length_image, decode_image}
use Rattle.image.proofs.Lent.{generation_in, store_is, installed, generation_is}
use Rattle.records.specs.Records.{Found}
use Rattle.records.specs.Records.{place_in, count_after}
use Rattle.header.proofs.Images.{store_split}
use Rattle.top.proofs.Tops.{count_set}
use Rattle.seed.specs.declared.WriteKind.{WriteKind as Kind}
use Rattle.seed.specs.declared.WriteKind.TheVariants.{Overwrite, New, Skip}
use Rattle.seed.specs.Writes.{kind_of, applied_kind, retopped, has_room_for, kind_in, top_after, Settled, Wrote}

-- A record set if there is room for it, by the place that was found and the answer r of the question for room.
module _ (b : List ℕ) (s : Slot) (c : Content) (f : Found) (r : Bool) (p : f ≡ place_in s (generation_of b).top)
    (q : r ≡ leb (count_after f (record_count (chain (generation_of b)))) (store_of b).config.capacity) where
  room_for : r ≡ has_room_for (insert s c (generation_of b).top) b
  room_for = q ∙ ap (λ (n : ℕ). leb n (store_of b).config.capacity) (sym (count_set (generation_of b) s c f p))

  pub settled_not : r ≡ false → Settled false b (insert s c (generation_of b).top) b
  settled_not e = record { room_is = sym e ∙ room_for; bytes_are = refl }

  pub settled_so : (after : List ℕ) → r ≡ true → after ≡ retopped (insert s c (generation_of b).top) b → Settled true after (insert s c (generation_of b).top) b
  settled_so after e h = record { room_is = sym e ∙ room_for; bytes_are = h }

-- What a write did, where there was room.
done : (room : Bool) (w : Kind) → applied_kind (then_some room w) ≡ cond room (Some (kind_of w)) None
done true w = refl
done false w = refl

-- A write of the kind w, as the code has it.
module _ (b addresses : List ℕ) (s : Slot) (v : Value) (w : Kind) (e : kind_of w ≡ kind_in b addresses s) where
  abbrev own : Layer
  own = (generation_of b).top

  abbrev number : ℕ
  number = (generation_of b).anchor.number

  -- The top after it, by a top t that it gives.
  top_is : (t : Layer) → apply_write number (kind_of w) s v own ≡ t → top_after b addresses s v ≡ t
  top_is t p = ap (λ (k : WriteKind). apply_write number k s v own) (sym e) ∙ p

  wrote : (r : Option Kind) (after : List ℕ) (t : Layer) (room : Bool) → apply_write number (kind_of w) s v own ≡ t → applied_kind r ≡ cond room (Some (kind_of w)) None → Settled room after t b → Wrote r after b addresses s v
  wrote r after t room p a h =
      let q : top_after b addresses s v ≡ t = top_is t p in
      let m : room ≡ has_room_for (top_after b addresses s v) b = h.room_is ∙ ap (λ (x : Layer). has_room_for x b) (sym q) in
      record {
        answer_is = a ∙ ap₂ (λ (x : Bool) (k : WriteKind). cond x (Some k) None) m e;
        bytes_are = h.bytes_are ∙ ap₂ (λ (x : Bool) (y : Layer). cond x (retopped y b) b) m (sym q);
      }

  pub wrote_over : (r : Option Kind) (after : List ℕ) (u : ℕ) (room : Bool) → w ≡ Overwrite u → r ≡ then_some room (Overwrite u) → Settled room after (insert s (valued u v) own) b → Wrote r after b addresses s v
  wrote_over r after u room i a h = wrote r after (insert s (valued u v) own) room (ap (λ (x : Kind). apply_write number (kind_of x) s v own) i) (ap applied_kind a ∙ done room (Overwrite u) ∙ ap (λ (x : Kind). cond room (Some (kind_of x)) None) (sym i)) h

  pub wrote_new : (r : Option Kind) (after : List ℕ) (n : ℕ) (room : Bool) → w ≡ New → n ≡ number → r ≡ then_some room w → Settled room after (insert s (valued n v) own) b → Wrote r after b addresses s v
  wrote_new r after n room i m a h =
      wrote r after (insert s (valued n v) own) room (ap (λ (x : Kind). apply_write number (kind_of x) s v own) i ∙ ap (λ (x : ℕ). insert s (valued x v) own) (sym m)) (ap applied_kind a ∙ done room w) h

  -- A skipped write leaves the bytes, which are those of the store with its own top.
  pub wrote_none : Bytes b → Installed b → w ≡ Skip → Wrote (Some w) b b addresses s v
  wrote_none f h i =
      let few : true ≡ has_room_for own b = sym (le-leb _ _ (generation_in b h).facts.few_records) in
      let same : b ≡ retopped own b = store_split b (store_of b) f h.is_store ∙ ap (λ (x : Option Generation). overlay (Some (record { config = (store_of b).config; installed = x })) b) h.installs in
      wrote (Some w) b own true (ap (λ (x : Kind). apply_write number (kind_of x) s v own) i) refl (record { room_is = few; bytes_are = same })

-- What a write leaves is a store again: with the same configuration, and the same generation but for the top.
pub record Again (after b : List ℕ) (cfg : Config) (g : Generation) : Type 0 where
  pub installed_still : Installed after
  pub config_is : (store_of after).config ≡ cfg
  pub generation_is : generation_of after ≡ g
  pub past_it : drop (store_size cfg.capacity) after ≡ drop (store_size cfg.capacity) b

-- The parts of the generation that bytes hold.
pub parts_of : (b : List ℕ) → Installed b → GenerationOk (store_of b).config (generation_of b)
unfolding well_formed
parts_of b h =
    let st : Store = store_of b in
    let right : well_formed st ≡ true = (decode_some b st h.is_store).right in
    generation_parts st.config (generation_of b) (subst (λ (x : Option Generation). installed_ok st.config x ≡ true) h.installs (and_right (config_ok st.config) _ right))

config_right : (b : List ℕ) → Installed b → config_ok (store_of b).config ≡ true
unfolding well_formed
config_right b h = and_left (config_ok (store_of b).config) _ (decode_some b (store_of b) h.is_store).right

store_right : (cfg : Config) (g : Generation) → config_ok cfg ≡ true → generation_ok cfg g ≡ true → well_formed (record { config = cfg; installed = Some g }) ≡ true
unfolding well_formed
store_right cfg g c d = and_intro (config_ok cfg) (generation_ok cfg g) c d

-- The image of a well-formed store reads back.
pub image_again : (b : List ℕ) (cfg : Config) (g : Generation) → config_ok cfg ≡ true → generation_ok cfg g ≡ true → Again (overlay (Some (record { config = cfg; installed = Some g })) b) b cfg g
image_again b cfg g c d =
    let st : Store = record { config = cfg; installed = Some g } in
    let after : List ℕ = image st ++ drop (length (image st)) b in
    let w : well_formed st ≡ true = store_right cfg g c d in
    let e : decode after ≡ Some st = decode_image st (drop (length (image st)) b) w in
    let n : length (image st) ≡ store_size cfg.capacity = length_image st w in
    record {
      installed_still = installed after st g e refl;
      config_is = ap (λ (x : Store). x.config) (store_is after st e);
      generation_is = generation_is after st g e refl;
      past_it = drop_at (image st) (drop (length (image st)) b) (store_size cfg.capacity) n ∙ ap (λ (k : ℕ). drop k b) n;
    }

-- The generation with the top that a write leaves is right.
module _ (b addresses : List ℕ) (s : Slot) (v : Value) (h : Installed b) (slot_fit : slot_fits s ≡ true) (value_fit : u256_fits v ≡ true) (room : has_room_for (top_after b addresses s v) b ≡ true) where
  generation_right : generation_ok (store_of b).config (with_top (generation_of b) (top_after b addresses s v)) ≡ true
  generation_right =
      let g : Generation = generation_of b in
      let k : GenerationOk (store_of b).config g = parts_of b h in
      let t : Layer = top_after b addresses s v in
      generation_ok_parts (store_of b).config (with_top g t)
      (record {
        anchor_fit = k.anchor_fit;
        records_right = top_ok_apply_write g.top k.records_right (number_fits g.anchor k.anchor_fit) s slot_fit v value_fit (relevant (addresses_of addresses) s.address);
        some_layer = k.some_layer;
        few_layers = k.few_layers;
        reads_right = k.reads_right;
      })
      (le-ltb (store_of b).config.capacity (record_count (t ∷ g.base)) (leb-true _ _ room))

  pub applied_again : Again (retopped (top_after b addresses s v) b) b (store_of b).config (with_top (generation_of b) (top_after b addresses s v))
  applied_again = image_again b (store_of b).config (with_top (generation_of b) (top_after b addresses s v)) (config_right b h) generation_right

-- By the answer of a write ----------------------------------------------------------------------------

none_false : (x : Bool) (k : WriteKind) → None ≡ cond x (Some k) None → x ≡ false
none_false true k e = absurd (none-some k e)
none_false false k e = refl

some_true : (x : Bool) (j k : WriteKind) → Some j ≡ cond x (Some k) None → (x ≡ true) × (j ≡ k)
some_true true j k e = (refl, same_Some j k e)
some_true false j k e = absurd (none-some j (sym e))

module _ (r : Option Kind) (after b addresses : List ℕ) (s : Slot) (v : Value) where
  pub wrote_full : Wrote r after b addresses s v → r ≡ None → has_room_for (top_after b addresses s v) b ≡ false
  wrote_full h e = none_false _ (kind_in b addresses s) (ap applied_kind (sym e) ∙ h.answer_is)

  -- The bytes stay where there is no room.
  pub wrote_same : Wrote r after b addresses s v → r ≡ None → after ≡ b
  wrote_same h e = h.bytes_are ∙ ap (λ (x : Bool). cond x (retopped (top_after b addresses s v) b) b) (wrote_full h e)

  module _ (w : Kind) where
    pub wrote_done : Wrote r after b addresses s v → r ≡ Some w → (has_room_for (top_after b addresses s v) b ≡ true) × (kind_of w ≡ kind_in b addresses s)
    wrote_done h e = some_true _ (kind_of w) (kind_in b addresses s) (ap applied_kind (sym e) ∙ h.answer_is)

    pub wrote_bytes : Wrote r after b addresses s v → r ≡ Some w → after ≡ retopped (top_after b addresses s v) b
    wrote_bytes h e = h.bytes_are ∙ ap (λ (x : Bool). cond x (retopped (top_after b addresses s v) b) b) (wrote_done h e).0

    -- A store again.
    pub wrote_again : Installed b → slot_fits s ≡ true → u256_fits v ≡ true → Wrote r after b addresses s v → r ≡ Some w
        → Again after b (store_of b).config (with_top (generation_of b) (top_after b addresses s v))
    wrote_again i p q h e =
        subst (λ (x : List ℕ). Again x b (store_of b).config (with_top (generation_of b) (top_after b addresses s v))) (sym (wrote_bytes h e))
        (applied_again b addresses s v i p q (wrote_done h e).0)
