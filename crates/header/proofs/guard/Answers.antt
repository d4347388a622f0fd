-- `header::guard` meets its contract.
use mathlib.Core.Path.{sym, ap, ◌∙◌}
use Rattle.model.specs.declared.storage_memo.ReadAnchor.{ReadAnchor}
use Rattle.model.specs.Slots.{anchor_eqb}
use Rattle.image.specs.Lent.{store_of, Installed}
use Rattle.image.proofs.Lent.{installs_some}
use Rattle.header.proofs.Guards.{guard_none, guard_other, guard_this}
use Rattle.header.proofs.guard.Goals as goal

pub returns-then-not-is_installed : goal.returns-then-not-is_installed
returns-then-not-is_installed c =
    let a = c.args in
    guard_none (store_of a.store.bytes.now).installed a.anchor (sym c.is_installed.ensures ∙ c.if-not-is_installed.true)

pub invariant_of-generation : goal.invariant_of-generation
invariant_of-generation c = record { installed = installs_some _ c.args.store.is_store (sym c.is_installed.ensures ∙ c.if-not-is_installed.false) }

pub returns-then-not-same : goal.returns-then-not-same
returns-then-not-same c =
    let has : Installed c.args.store.bytes.now = installs_some _ c.args.store.is_store (sym c.is_installed.ensures ∙ c.if-not-is_installed.false) in
    guard_other _ c.args.anchor has (ap (λ (x : ReadAnchor). anchor_eqb x c.args.anchor) (sym c.installed_anchor.ensures) ∙ sym c.same.ensures ∙ c.if-not-same.true)

pub returns : goal.returns
returns c =
    let has : Installed c.args.store.bytes.now = installs_some _ c.args.store.is_store (sym c.is_installed.ensures ∙ c.if-not-is_installed.false) in
    guard_this _ c.args.anchor has (ap (λ (x : ReadAnchor). anchor_eqb x c.args.anchor) (sym c.installed_anchor.ensures) ∙ sym c.same.ensures ∙ c.if-not-same.false)
