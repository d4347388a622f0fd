-- Which way an advance goes, and what an advance to the installed anchor comes to. Assumes nothing.
use Rattle.std.specs.Prelude.{None, Option, Some, Ok}
use Rattle.std.specs.declared.result.Result.{Result}
use Rattle.std.specs.Result.{result_eq}
use Rattle.model.specs.declared.refusal.Refusal.{Refusal}
use Prim.Native.Nat.{ℕ, suc}
use mathlib.Core.Path.{◌≡◌, refl, sym, ap, ap₂, subst, ◌∙◌}
use mathlib.Core.Bool.{Bool, true, false}
use mathlib.Core.List.{List}
use lib.Dec.{ltb}
use borrow.Author.Tests.{le-ltb}
use Rattle.model.specs.declared.storage_memo.U256.{U256}
use Rattle.model.specs.declared.storage_memo.ReadAnchor.{ReadAnchor}
use Rattle.model.specs.declared.read_hub.Lineage.{Lineage}
use Rattle.model.specs.declared.bal_prefetch.BalSkip.{BalSkip}
use Rattle.model.specs.Numbers.{Bytes}
use Rattle.model.specs.Layers.{record_count}
use Rattle.model.specs.Advance.{skip_of, classify_link, carries}
use Rattle.model.specs.Entries.{slots_bytes}
use Rattle.model.specs.Store.{Config, Generation, Prepared, Performed, chain, advance, perform, performed, already_current, carry, cold_advance}
use Rattle.model.specs.Refusals.{ok}
use Rattle.image.specs.Image.{overlay, BytesResult}
use Rattle.image.specs.Lent.{store_of, generation_of, IsStore, Installed}
use Rattle.image.proofs.Lent.{installed, generation_is, generation_in}
use Rattle.unchecked_calls.proofs.Turned.{memory_of}
use Rattle.header.proofs.Images.{store_split}
use Rattle.header.specs.Header.{anchored_refusal}
use Rattle.header.proofs.Guards.{Here, Other, past_guard, not_here, not_refused, is_refused}
use Rattle.seal.specs.Sealed.{anchor_of, installed_anchor}
use Rattle.replies.specs.Replies.{AdvanceReply}
use Rattle.replies.specs.Replies.{advance_reply, AdvancedAs}
use Rattle.replies.specs.Replies.{lent_prepared}
use Rattle.unchecked_advance.specs.Inner.{ended}
use Rattle.unchecked_advance.proofs.Performs.{performs_current, performs_carry, performs_cold, performs_first, carries_none, carries_next}

-- The store laid over its own bytes changes none.
own_bytes : (s : List ℕ) → Bytes s → Installed s → s ≡ overlay (memory_of (store_of s).config (Some (generation_of s))) s
own_bytes s f h = store_split s (store_of s) f h.is_store ∙ ap (λ (o : Option Generation). overlay (memory_of (store_of s).config o) s) h.installs

-- The guard's answer, compared with an acceptance: the child is the installed anchor, or it is not.
module _ (E : Unit {0} → Unit {0} → Bool) (F : Refusal → Refusal → Bool) (s : List ℕ) (child : ReadAnchor) (r : Result (Unit {0}) Refusal) (g : r ≡ anchored_refusal (store_of s).installed child) {t : Bool} (q : t ≡ result_eq E F r (Ok tt)) where
  pub here_by : IsStore s → t ≡ true → Here s child
  here_by e z = past_guard s child e (sym g ∙ not_refused E F r (sym z ∙ q))

  pub other_by : E tt tt ≡ true → t ≡ false → Other (store_of s).installed child
  other_by y z = let n = is_refused E F r (sym z ∙ q) y in not_here (store_of s).installed child n.0 (sym g ∙ n.1)

-- What a carry's child follows: something is installed, and its number is the next.
pub record Follows (s : List ℕ) (child : ReadAnchor) : Type 0 where
  pub has : Installed s
  pub next : child.number ≡ suc (generation_of s).anchor.number

pub follows : (s : List ℕ) (child : ReadAnchor) (h : U256) (l : Lineage) (x : BalSkip) → IsStore s → l ≡ classify_link (installed_anchor (store_of s)) child h → carries l x ≡ true → Follows s child
follows s child h l x e m c = go (store_of s).installed refl (sym (ap (λ (y : Lineage). carries y x) m) ∙ c)
  where
    go : (o : Option Generation) → (store_of s).installed ≡ o → carries (classify_link (anchor_of o) child h) x ≡ true → Follows s child
    go None i t = absurd (carries_none child h x t)
    go (Some g) i t =
        record {
          has = installed s (store_of s) g e i;
          next = subst (λ (y : Generation). child.number ≡ suc y.anchor.number) (sym (generation_is s (store_of s) g e i)) (carries_next g.anchor child h x t);
        }

module _ (s : List ℕ) (child : ReadAnchor) (h : U256) (k : ℕ) (addresses writes : List ℕ) where
  abbrev p : Prepared
  p = lent_prepared k addresses writes

  abbrev does : Option Generation → Performed
  does o = perform (store_of s).config o (advance child h p)

  -- To the installed anchor.
  pub proceed_current : (r : AdvanceReply) (out : List ℕ) → Bytes s → Here s child → advance_reply r out ≡ ok (already_current (store_of s).config (generation_of s))
      → AdvancedAs r s out (ended (store_of s).config (does (store_of s).installed) s) out
  unfolding slots_bytes
  proceed_current r out f e q =
      let cfg : Config = (store_of s).config in
      let g : Generation = generation_of s in
      let y : does (store_of s).installed ≡ performed g (already_current cfg g) = ap does e.has.installs ∙ performs_current cfg g child h p e.same in
      let room : ltb cfg.capacity (record_count (chain g)) ≡ false = le-ltb cfg.capacity (record_count (chain g)) (generation_in s e.has).facts.few_records in
      let z : ended cfg (performed g (already_current cfg g)) s ≡ record { bytes = overlay (memory_of cfg (Some g)) s; answer = ok (already_current cfg g) } = rw room in
      subst (λ (o : BytesResult). AdvancedAs r s out o out) (sym (ap (λ (x : Performed). ended cfg x s) y ∙ z)) (record { answer_is = q; bytes_is = own_bytes s f e.has; output_is = refl })

  module _ (e : IsStore s) (other : Other (store_of s).installed child) where
    -- By a carry.
    pub proceed_carry : (l : Lineage) (x : BalSkip) → l ≡ classify_link (installed_anchor (store_of s)) child h → x ≡ skip_of k → carries l x ≡ true
        → does (store_of s).installed ≡ carry (store_of s).config (generation_of s) child p
    proceed_carry l x m q c = go (store_of s).installed refl other (sym (ap₂ carries m q) ∙ c)
      where
        go : (o : Option Generation) → (store_of s).installed ≡ o → Other o child → carries (classify_link (anchor_of o) child h) (skip_of k) ≡ true → does o ≡ carry (store_of s).config (generation_of s) child p
        go None i y t = absurd (carries_none child h (skip_of k) t)
        go (Some g) i y t = performs_carry (store_of s).config g child h p y t ∙ ap (λ (x : Generation). carry (store_of s).config x child p) (sym (generation_is s (store_of s) g e i))

    -- Cold.
    pub proceed_cold : (l : Lineage) (x : BalSkip) → l ≡ classify_link (installed_anchor (store_of s)) child h → x ≡ skip_of k → carries l x ≡ false
        → does (store_of s).installed ≡ cold_advance (store_of s).config child l p
    proceed_cold l x m q c =
        go (store_of s).installed other (sym (ap₂ carries m q) ∙ c) ∙ ap (λ (y : Lineage). cold_advance (store_of s).config child y p) (sym m)
      where
        go : (o : Option Generation) → Other o child → carries (classify_link (anchor_of o) child h) (skip_of k) ≡ false
            → does o ≡ cold_advance (store_of s).config child (classify_link (anchor_of o) child h) p
        go None y t = performs_first (store_of s).config (generation_of s) child h p
        go (Some g) y t = performs_cold (store_of s).config g child h p y t

  -- The same answer of what is performed another way.
  pub as_performed : (q : Performed) (r : AdvanceReply) (after out' out : List ℕ) → does (store_of s).installed ≡ q → AdvancedAs r after out' (ended (store_of s).config q s) out
      → AdvancedAs r after out' (ended (store_of s).config (does (store_of s).installed) s) out
  as_performed q r after out' out e y = subst (λ (x : Performed). AdvancedAs r after out' (ended (store_of s).config x s) out) (sym e) y
