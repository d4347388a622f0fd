-- `seal::classify_link` meets its contract. Assumes nothing.
use mathlib.Core.Path.{sym, ◌∙◌}
use native.Mathlib.Omega.{arith}
use Rattle.image.specs.Lent.{store_of}
use Rattle.seal.proofs.Link.{none_parent, parent_in, last_parent, not_next, next_parent}
use Rattle.seal.proofs.classify_link.Goals as goal

pub returns-then-not-is_installed : goal.returns-then-not-is_installed
returns-then-not-is_installed c = none_parent (store_of c.args.store.bytes.now).installed c.args.child c.args.parent_hash (sym c.is_installed.ensures ∙ c.if-not-is_installed.true)

pub invariant_of-generation : goal.invariant_of-generation
invariant_of-generation c = record { installed = parent_in _ c.args.store.is_store c.is_installed.ensures c.if-not-is_installed.false }

pub returns-then-number : goal.returns-then-number
returns-then-number c =
    let i = parent_in _ c.args.store.is_store c.is_installed.ensures c.if-not-is_installed.false in
    last_parent _ i c.args.child c.args.parent_hash _ c.installed_number-number.ensures c.if-number.true

pub returns-then-child-number : goal.returns-then-child-number
returns-then-child-number c =
    let i = parent_in _ c.args.store.is_store c.is_installed.ensures c.if-not-is_installed.false in
    not_next _ i c.args.child c.args.parent_hash _ c.installed_number-number.ensures c.if-child-number.true

pub returns : goal.returns
returns c =
    let i = parent_in _ c.args.store.is_store c.is_installed.ensures c.if-not-is_installed.false in
    next_parent _ i c.args.child c.args.parent_hash _ c.installed_number-number.ensures (omega arith) c.if-child-number.false c.classify_hash.ensures
