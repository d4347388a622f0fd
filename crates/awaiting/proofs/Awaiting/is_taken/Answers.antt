-- `awaiting::Awaiting::is_taken` meets its contract.
use borrow.Author.Rules.{rules}
use native.Mathlib.Omega.{arith}
use mathlib.Core.Path.{sym, ap, ◌∙◌}
use Prim.Native.Nat.{◌<◌}
use Rattle.model.specs.Reads.{Pending}
use Rattle.awaiting.specs.Lent.{all_of}
use Rattle.awaiting.proofs.Places.{FoundAt, found, not_among}
use Rattle.awaiting.proofs.Awaits.{length_pending_of, pending_is}
use Rattle.awaiting.proofs.Awaiting.is_taken.Goals as goal

pub returns-in_default : goal.returns-in_default
returns-in_default c = sym (not_among (all_of c.args.self) c.args.slot _ c.args.self.rising.ok (sym c.find.ensures ∙ c.in_default.is)).not_taken

pub taken_at-requires : goal.taken_at-requires
taken_at-requires c =
    let seen : FoundAt c.args.slot (all_of c.args.self) c.in-Ok.i = found (all_of c.args.self) c.args.slot c.in-Ok.i (sym c.find.ensures ∙ search rules) in
    let f = seen in
    let l = length_pending_of c.args.self.count c.args.self.bytes.now in
    omega arith

pub returns : goal.returns
returns c =
    let seen : FoundAt c.args.slot (all_of c.args.self) c.in-Ok.i = found (all_of c.args.self) c.args.slot c.in-Ok.i (sym c.find.ensures ∙ search rules) in
    let i = c.in-Ok.i in
    let f = seen in
    let h : i < c.args.self.count = omega (arith, length_pending_of c.args.self.count c.args.self.bytes.now, f.inside) in
    c.taken_at.ensures ∙ ap (λ (w : Pending). w.taken) (sym (pending_is c.args.self.count i c.args.self.bytes.now h)) ∙ sym f.taken_is
