-- `unchecked_advance::proceed` meets its contract. Assumes nothing.
use mathlib.Core.Path.{refl, sym, ◌∙◌}
use borrow.Author.Rules.{rules}
use Rattle.header.proofs.Segments.{known_bytes}
use Rattle.unchecked_advance.proofs.Proceeded.{here_by, other_by, follows, proceed_current, proceed_carry, proceed_cold, as_performed}
use Rattle.unchecked_advance.proofs.proceed.Goals as goal

pub invariant_of-generation : goal.invariant_of-generation
invariant_of-generation c = record { installed = (here_by _ _ c.args.s.now c.args.child _ c.guard.ensures c.eq.ensures c.requires.0 c.if-eq.true).has }

pub returns-then-eq : goal.returns-then-eq
returns-then-eq c k q =
    let a = c.args in
    proceed_current a.s.now a.child a.parent_hash k a.addresses.now a.writes.now _ a.out.now (known_bytes _ (search rules)) (here_by _ _ a.s.now a.child _ c.guard.ensures c.eq.ensures c.requires.0 c.if-eq.true) (c.current.ensures a.out.now)

pub carried-requires : goal.carried-requires
carried-requires c =
    let f = follows c.args.s.now c.args.child c.args.parent_hash _ _ c.requires.0 c.classify_link-lineage.ensures (sym c.carries.ensures ∙ c.if-carries.true) in
    (f.has, f.next, c.requires.1, c.requires.2)

pub returns-then-carries : goal.returns-then-carries
returns-then-carries c k q =
    let a = c.args in
    let other = other_by _ _ a.s.now a.child _ c.guard.ensures c.eq.ensures refl c.if-eq.false in
    as_performed a.s.now a.child a.parent_hash k a.addresses.now a.writes.now _ _ _ _ a.out.now
    (proceed_carry a.s.now a.child a.parent_hash k a.addresses.now a.writes.now c.requires.0 other _ _ c.classify_link-lineage.ensures q (sym c.carries.ensures ∙ c.if-carries.true)) (c.carried.ensures k)

pub returns : goal.returns
returns c k q =
    let a = c.args in
    let other = other_by _ _ a.s.now a.child _ c.guard.ensures c.eq.ensures refl c.if-eq.false in
    as_performed a.s.now a.child a.parent_hash k a.addresses.now a.writes.now _ _ _ _ a.out.now
    (proceed_cold a.s.now a.child a.parent_hash k a.addresses.now a.writes.now c.requires.0 other _ _ c.classify_link-lineage.ensures q (sym c.carries.ensures ∙ c.if-carries.false)) (c.cold.ensures k q)
