-- Which kind an advance is, and what follows of a carry's child. Assumes nothing.
use Rattle.std.specs.Prelude.{None, Some}
use Prim.Native.Nat.{suc, ◌-◌, ◌^◌}
use mathlib.Core.Path.{◌≡◌, refl, sym, ap, ◌∙◌}
use mathlib.Core.Bool.{Bool, true, false, ◌&&◌, cond, true≢false}
use lib.Dec.{eqb, ltb}
use borrow.Author.Tests.{eqb-true}
use Rattle.model.specs.declared.storage_memo.U256.{U256}
use Rattle.model.specs.declared.storage_memo.ReadAnchor.{ReadAnchor}
use Rattle.model.specs.declared.read_hub.Lineage.TheVariants.{NotConsecutive}
use Rattle.model.specs.declared.bal_prefetch.BalSkip.{BalSkip}
use Rattle.model.specs.Slots.{anchor_eqb}
use Rattle.model.specs.Advance.{skip_of, classify_hash, classify_link, carries}
use Rattle.model.specs.Store.{Config, Generation, Prepared, advance, perform, performed, already_current, carry, cold_advance}
use Rattle.model.proofs.SlotLaws.{split, and_right}

module _ (cfg : Config) (g : Generation) (child : ReadAnchor) (h : U256) (p : Prepared) where
  pub performs_current : anchor_eqb g.anchor child ≡ true → perform cfg (Some g) (advance child h p) ≡ performed g (already_current cfg g)
  unfolding perform
  performs_current e = rw e

  pub performs_carry : anchor_eqb g.anchor child ≡ false → carries (classify_link (Some g.anchor) child h) (skip_of p.skip) ≡ true → perform cfg (Some g) (advance child h p) ≡ carry cfg g child p
  unfolding perform
  performs_carry e c = rw (e, c)

  pub performs_cold : anchor_eqb g.anchor child ≡ false → carries (classify_link (Some g.anchor) child h) (skip_of p.skip) ≡ false
      → perform cfg (Some g) (advance child h p) ≡ cold_advance cfg child (classify_link (Some g.anchor) child h) p
  unfolding perform
  performs_cold e c = rw (e, c)

  pub performs_first : perform cfg None (advance child h p) ≡ cold_advance cfg child (classify_link None child h) p
  unfolding perform
  performs_first = refl

-- A carry has a parent, and its child's number is the parent's plus one.
pub carries_none : (child : ReadAnchor) (h : U256) (x : BalSkip) → carries (classify_link None child h) x ≡ true → ⊥
carries_none child h x e = true≢false (sym e)

pub carries_next : (p child : ReadAnchor) (h : U256) (x : BalSkip) → carries (classify_link (Some p) child h) x ≡ true → child.number ≡ suc p.number
carries_next p child h x e =
    let below : Bool = ltb p.number (2 ^ 64 - 1) in
    let next : Bool = eqb child.number (suc p.number) in
    split (below && next)
    (λ y. eqb-true child.number (suc p.number) (and_right below next y))
    (λ y. absurd (true≢false (sym e ∙ ap (λ (b : Bool). carries (cond b (classify_hash p.hash h) NotConsecutive) x) y)))
