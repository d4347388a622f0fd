-- `call_steps::on_other` meets its contract: an open, or 20. Assumes nothing.
use mathlib.Core.Path.{◌≡◌, ap}
use Rattle.call_list.specs.Meaning.{default_limits}
use Rattle.call_reader.specs.declared.ListedCall.TheVariants.{OpenWith}
use Rattle.call_steps.specs.Steps.{meant}
use Rattle.call_steps.proofs.Said.{named_as, said_20}
use borrow.Author.Rules.{rules}
use Rattle.call_steps.proofs.on_other.Goals as goal

pub returns-in-OpenWith : goal.returns-in-OpenWith
returns-in-OpenWith c l w e =
    let a = c.args in
    let q : a.call ≡ OpenWith c.in-OpenWith.capacity c.in-OpenWith.depth c.in-OpenWith.retention = search rules in
    named_as a.s.now w e (ap (meant l) q) (c.«open».ensures default_limits w e)

pub returns-in-Install : goal.returns-in-Install
returns-in-Install c l w e = named_as c.args.s.now w e (ap (meant l) c.in-Install.is) (said_20 c.args.s.now _ w e c.requires)

pub returns-in-Advance : goal.returns-in-Advance
returns-in-Advance c l w e = named_as c.args.s.now w e (ap (meant l) c.in-Advance.is) (said_20 c.args.s.now _ w e c.requires)

pub returns-in-Anchored : goal.returns-in-Anchored
returns-in-Anchored c l w e = named_as c.args.s.now w e (ap (meant l) c.in-Anchored.is) (said_20 c.args.s.now _ w e c.requires)
