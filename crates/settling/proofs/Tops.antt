-- A store with another top is a store: no change, a value put, and one change after another.
use Rattle.std.specs.Prelude.{None, Option, Some}
use Prim.Native.Nat.{ℕ, ◌≤◌, ◌<◌}
use mathlib.Core.Path.{◌≡◌, refl, sym, ap, ap₂, subst, ◌∙◌}
use mathlib.Core.Bool.{Bool, true, cond}
use mathlib.Core.List.{List, ◌∷◌, ◌++◌}
use native.Mathlib.Omega.{arith}
use lib.ListN.{length, drop}
use lib.Seq.{drop_at}
use borrow.Author.Tests.{eq-eqb, le-ltb}
use Rattle.model.specs.declared.delta_snapshot.Slot.{Slot}
use Rattle.model.specs.declared.storage_memo.ReadAnchor.{ReadAnchor}
use Rattle.model.specs.Slots.{Value, u256_words, u256_eqb, hash_eqb, anchor_eqb, u256_fits}
use Rattle.model.specs.Numbers.{Bytes}
use Rattle.model.specs.Layers.{Layer, record_count, settle}
use Rattle.model.specs.Store.{Config, Generation, Store, put, on_slot, on_store, at_anchor, Memory, Accepted, chain, with_top}
use Rattle.model.specs.Contents.{valued}
use Rattle.model.specs.Refusals.{LentCall, conclude, step, refusal, store_size}
use Rattle.model.proofs.SlotLaws.{and_intro, words_eqb_refl}
use Rattle.image.specs.WellFormed.{slot_fits, well_formed}
use Rattle.image.specs.Claims.{memory_ok}
use Rattle.image.specs.Image.{image, decode, overlay, lent_call}
use Rattle.image.specs.Lent.{store_of, generation_of, Installed}
use Rattle.image.proofs.ReadBack.{decode_some, decode_image, length_image}
use Rattle.image.proofs.Lent.{store_is, installed, generation_is}
use Rattle.image.proofs.Closure.{closure}
use Rattle.replies.specs.Replies.{alone}
use Rattle.top.specs.Top.{topped}
use Rattle.header.proofs.Images.{store_split}
use Rattle.unchecked_calls.proofs.Turned.{plain_put, memory_of, this_there, put_accepted, over_by}
use Rattle.model.specs.Reads.{settle_outcome, settle_members}
use Rattle.model.specs.Entries.{slot_of, member_of, members_of}
use Rattle.records.specs.Records.{Found}
use Rattle.records.specs.Records.{place_in, count_after}
use Rattle.top.specs.Top.{Placed}
use Rattle.top.proofs.Tops.{count_set}
use Rattle.settling.specs.Settling.{Settled}
use Rattle.settling.proofs.Additions.{grows}
use Rattle.settling.proofs.Members.{settle_more, settle_none}
use Rattle.model.specs.declared.storage_memo.U256.{U256}

hash_same : (k : Option U256) → hash_eqb k k ≡ true
unfolding u256_eqb
hash_same None = refl
hash_same (Some x) = words_eqb_refl (u256_words x)

-- An anchor is itself.
pub anchor_same : (a : ReadAnchor) → anchor_eqb a a ≡ true
unfolding anchor_eqb
anchor_same a = and_intro _ _ (eq-eqb a.number a.number refl) (hash_same a.hash)

abbrev stored : Config → Generation → Store
stored cfg g = record { config = cfg; installed = Some g }

-- No change.
pub unchanged : (b : List ℕ) → Installed b → Bytes b → Settled b b (generation_of b).top
unchanged b h f =
    record {
      bytes_are = store_split b (store_of b) f h.is_store ∙ ap (λ (i : Option Generation). overlay (memory_of (store_of b).config i) b) h.installs;
      installed = h;
      config_is = refl;
      generation_is = refl;
    }

-- A well-formed store with another top.
well_settled : (b u : List ℕ) (t : Layer) → well_formed (stored (store_of b).config (with_top (generation_of b) t)) ≡ true → u ≡ overlay (topped (store_of b).config (generation_of b) t) b → Settled u b t
well_settled b u t w e =
    let st : Store = stored (store_of b).config (with_top (generation_of b) t) in
    let d : decode u ≡ Some st = ap decode e ∙ decode_image st (drop (length (image st)) b) w in
    record {
      bytes_are = e;
      installed = installed u st (with_top (generation_of b) t) d refl;
      config_is = ap (λ (x : Store). x.config) (store_is u st d);
      generation_is = generation_is u st (with_top (generation_of b) t) d refl;
    }

-- A value put.
module _ (b : List ℕ) (h : Installed b) (s : Slot) (v : Value) (fs : slot_fits s ≡ true) (fv : u256_fits v ≡ true) where
  abbrev g : Generation
  g = generation_of b

  abbrev cfg : Config
  cfg = (store_of b).config

  abbrev t : Layer
  t = settle g.anchor.number s v g.top

  put_right : record_count (t ∷ g.base) ≤ cfg.capacity → well_formed (stored cfg (with_top g t)) ≡ true
  unfolding step
  put_right room =
      let m : Memory = memory_of cfg (Some g) in
      let c : LentCall = lent_call (length b) (alone (on_store (at_anchor g.anchor (on_slot (put s v))))) in
      let a = put_accepted cfg g g.anchor s v in
      let r : refusal m c.lent c.call ≡ None =
      this_there cfg g c.lent g.anchor (plain_put s v) (anchor_same g.anchor)
      ∙ ap (λ (y : Bool). cond y (Some 23) None) (over_by _ _ cfg (with_top g t) _ a refl ∙ le-ltb _ _ room) in
      let k : memory_ok m ≡ true = ap (λ (i : Option Generation). memory_ok (memory_of cfg i)) (sym h.installs) ∙ (decode_some b (store_of b) h.is_store).right in
      let z : memory_ok (step m c).memory ≡ true = closure m c k (and_intro _ _ fs fv) in
      ap₂ (λ (o : Option ℕ) (y : Accepted). memory_ok (conclude o m y).memory) (sym r) (sym a) ∙ z

  pub put_settled : (u : List ℕ) → record_count (t ∷ g.base) ≤ cfg.capacity → u ≡ overlay (topped cfg g t) b → Settled u b t
  put_settled u room e = well_settled b u t (put_right room) e

-- One change after another.
settled_size : {u b : List ℕ} {t : Layer} → Settled u b t → length (image (stored (store_of b).config (with_top (generation_of b) t))) ≡ store_size (store_of b).config.capacity
settled_size {u} {b} {t} k =
    let st : Store = stored (store_of b).config (with_top (generation_of b) t) in
    let i : Option Generation = (store_of u).installed in
    let e : store_of u ≡ st = λ j. record { config = k.config_is j; installed = (k.installed.installs ∙ ap Some k.generation_is) j } in
    let w : well_formed st ≡ true = subst (λ (x : Store). well_formed x ≡ true) e (decode_some u (store_of u) k.installed.is_store).right in
    length_image st w

pub settled_twice : {u s b : List ℕ} {t t' : Layer} → Settled s b t → Settled u s t' → Settled u b t'
settled_twice {u} {s} {b} {t} {t'} k m =
    let g : Generation = generation_of b in
    let cfg : Config = (store_of b).config in
    let x : Generation = with_top g t' in
    let p : topped (store_of s).config (generation_of s) t' ≡ Some (stored cfg x) = ap₂ (λ (c : Config) (y : Generation). topped c y t') k.config_is k.generation_is in
    let q : generation_of u ≡ x = m.generation_is ∙ ap (λ (y : Generation). with_top y t') k.generation_is in
    let i : List ℕ = image (stored cfg (with_top g t)) in
    let j : List ℕ = image (stored cfg x) in
    let n : length i ≡ store_size cfg.capacity = settled_size k in
    let o : length j ≡ length i = ap₂ (λ (c : Config) (y : Generation). length (image (stored c (with_top y t')))) (sym k.config_is) (sym k.generation_is) ∙ settled_size m ∙ ap (λ (c : Config). store_size c.capacity) k.config_is ∙ sym n in
    let d : drop (length j) s ≡ drop (length j) b =
    ap (drop (length j)) k.bytes_are ∙ drop_at i (drop (length i) b) (length j) (sym o) ∙ ap (λ (y : ℕ). drop y b) (sym o) in
    record {
      bytes_are = m.bytes_are ∙ ap (λ (y : Memory). overlay y s) p ∙ ap (λ (y : List ℕ). j ++ y) d;
      installed = m.installed;
      config_is = m.config_is ∙ k.config_is;
      generation_is = q;
    }

-- A refused member changes nothing; a valued one is put.
module _ (b : List ℕ) (h : Installed b) (s : Slot) where
  pub refused_settled : Bytes b → (o : Option Value) → o ≡ None → Settled b b (settle_outcome (generation_of b).anchor.number s o (generation_of b).top)
  refused_settled f o e = subst (λ (x : Option Value). Settled b b (settle_outcome (generation_of b).anchor.number s x (generation_of b).top)) (sym e) (unchanged b h f)

  pub valued_settled : (v : Value) (o : Option Value) → o ≡ Some v → slot_fits s ≡ true → u256_fits v ≡ true → record_count (settle_outcome (generation_of b).anchor.number s o (generation_of b).top ∷ (generation_of b).base) ≤ (store_of b).config.capacity →
      (u : List ℕ) (s' : Slot) (v' : Value) → s' ≡ s → v' ≡ v → u ≡ overlay (topped (store_of b).config (generation_of b) (settle (generation_of b).anchor.number s' v' (generation_of b).top)) b →
      Settled u b (settle_outcome (generation_of b).anchor.number s o (generation_of b).top)
  valued_settled v o e fs fv room u s' v' p q r =
      let n : ℕ = (generation_of b).anchor.number in
      let l : Layer = (generation_of b).top in
      subst (λ (x : Option Value). Settled u b (settle_outcome n s x l)) (sym e)
      (put_settled b h s v fs fv u (subst (λ (x : Option Value). record_count (settle_outcome n s x l ∷ (generation_of b).base) ≤ (store_of b).config.capacity) e room)
      (r ∙ ap₂ (λ (x : Slot) (y : Value). overlay (topped (store_of b).config (generation_of b) (settle n x y l)) b) p q))

  pub valued_placed : (v v' : Value) (o : Option Value) → o ≡ Some v → (s' : Slot) → s' ≡ s → record_count (settle_outcome (generation_of b).anchor.number s o (generation_of b).top ∷ (generation_of b).base) ≤ (store_of b).config.capacity →
      (f : Found) → f ≡ place_in s' (generation_of b).top → Placed f s' b
  valued_placed v v' o e s' p room f q =
      let n : ℕ = (generation_of b).anchor.number in
      let l : Layer = (generation_of b).top in
      let k : record_count (settle n s v l ∷ (generation_of b).base) ≤ (store_of b).config.capacity = subst (λ (x : Option Value). record_count (settle_outcome n s x l ∷ (generation_of b).base) ≤ (store_of b).config.capacity) e room in
      let j : record_count (settle n s v l ∷ (generation_of b).base) ≡ count_after f (record_count (chain (generation_of b))) = count_set (generation_of b) s (valued n v) f (q ∙ ap (λ (x : Slot). place_in x l) p) in
      record { installed = h; place_is = q; room = omega arith }

-- A member x after others, and before r.
module _ (b s l v x r : List ℕ) (k : Settled s b (generation_of s).top)
    (e : settle_members (generation_of b).anchor.number (members_of v) (generation_of s).top ≡ settle_members (generation_of b).anchor.number (members_of l) (generation_of b).top) (parts : v ≡ x ++ r) (whole : length x ≡ 85) where
  abbrev one : Layer
  one = settle_outcome (generation_of s).anchor.number (slot_of x) (member_of x).outcome (generation_of s).top

  number_same : (generation_of s).anchor.number ≡ (generation_of b).anchor.number
  number_same = ap (λ (g : Generation). g.anchor.number) k.generation_is

  the_rest : settle_members (generation_of b).anchor.number (members_of r) one ≡ settle_members (generation_of b).anchor.number (members_of l) (generation_of b).top
  the_rest =
      ap (λ (n : ℕ). settle_members (generation_of b).anchor.number (members_of r) (settle_outcome n (slot_of x) (member_of x).outcome (generation_of s).top)) number_same
      ∙ sym (settle_more (generation_of b).anchor.number v x r (generation_of s).top parts whole) ∙ e

  pub next_room : record_count (settle_members (generation_of b).anchor.number (members_of l) (generation_of b).top ∷ (generation_of b).base) ≤ (store_of b).config.capacity → record_count (one ∷ (generation_of s).base) ≤ (store_of s).config.capacity
  unfolding record_count
  next_room room =
      let i : record_count (generation_of s).base ≡ record_count (generation_of b).base = ap (λ (g : Generation). record_count g.base) k.generation_is in
      let j : (store_of s).config.capacity ≡ (store_of b).config.capacity = ap (λ (c : Config). c.capacity) k.config_is in
      let m : length (settle_members (generation_of b).anchor.number (members_of r) one) ≡ length (settle_members (generation_of b).anchor.number (members_of l) (generation_of b).top) = ap length the_rest in
      omega (arith, grows (generation_of b).anchor.number (members_of r) one)

  pub next : (u : List ℕ) → Settled u s one → Settled u b (generation_of u).top × (settle_members (generation_of b).anchor.number (members_of r) (generation_of u).top ≡ settle_members (generation_of b).anchor.number (members_of l) (generation_of b).top)
  next u m =
      let p : (generation_of u).top ≡ one = ap (λ (g : Generation). g.top) m.generation_is in
      (subst (λ (t : Layer). Settled u b t) (sym p) (settled_twice k m), ap (settle_members (generation_of b).anchor.number (members_of r)) p ∙ the_rest)

-- After the last one.
pub all_settled : (b s l r : List ℕ) → Settled s b (generation_of s).top →
    settle_members (generation_of b).anchor.number (members_of r) (generation_of s).top ≡ settle_members (generation_of b).anchor.number (members_of l) (generation_of b).top → length r < 85 →
    Settled s b (settle_members (generation_of b).anchor.number (members_of l) (generation_of b).top)
all_settled b s l r k e h = subst (λ (t : Layer). Settled s b t) (sym (settle_none (generation_of b).anchor.number r (generation_of s).top h) ∙ e) k
