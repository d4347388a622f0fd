-- `call_steps::on_store` meets its contract: an open, and an install. Assumes nothing.
use mathlib.Core.Path.{◌≡◌, ap}
use lib.ListN.{length}
use Rattle.call_list.specs.Meaning.{default_limits}
use Rattle.call_reader.specs.declared.ListedCall.TheVariants.{OpenWith, Install}
use Rattle.call_steps.specs.Steps.{meant}
use Rattle.call_steps.proofs.Said.{plain_install, silent_installed, named_as, refused_as, stepped_as}
use borrow.Author.Rules.{rules}
use Rattle.call_steps.proofs.on_store.Goals as goal

pub returns-in-OpenWith : goal.returns-in-OpenWith
returns-in-OpenWith c =
    let a = c.args in
    let q : a.call ≡ OpenWith c.in-OpenWith.capacity c.in-OpenWith.depth c.in-OpenWith.retention = search rules in
    named_as a.s.now (length a.work.now) a.entries.now (ap (meant a.list.now) q) (c.«open».ensures default_limits (length a.work.now) a.entries.now)

pub returns-in_err-install-in-Install : goal.returns-in_err-install-in-Install
returns-in_err-install-in-Install c =
    let a = c.args in
    let q : a.call ≡ Install c.in-Install.anchor = search rules in
    refused_as _ a.s.now (length a.work.now) a.entries.now (ap (meant a.list.now) q) (plain_install _) c.from_residual.ensures.1 c.in_err-install-in-Install.ensures

pub returns-in_ok-install-in-Install : goal.returns-in_ok-install-in-Install
returns-in_ok-install-in-Install c =
    let a = c.args in
    let q : a.call ≡ Install c.in-Install.anchor = search rules in
    stepped_as a.s.now (length a.work.now) a.entries.now (ap (meant a.list.now) q) (plain_install _) (silent_installed c.in_ok-install-in-Install.field-0) (c.from.ensures a.entries.now) c.in_ok-install-in-Install.ensures
