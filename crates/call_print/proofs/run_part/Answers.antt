-- What a run's answer says of the part.
use Prim.Native.Nat.{◌/◌}
use mathlib.Core.Path.{ap, ◌∙◌}
use mathlib.Core.Bool.{Bool}
use lib.ListN.{length}
use Rattle.std.specs.Prelude.{Ok}
use Rattle.call_run.specs.declared.RunEnd.TheVariants.{Listed}
use Rattle.call_print.proofs.Parts.{part_last, part_more, part_broken}
use Rattle.call_print.proofs.run_part.Goals as goal

pub returns-then-ended : goal.returns-then-ended
returns-then-ended c =
    let a = c.args in
    let r = c.in-Ok-Listed in
    part_last (length a.work.now) (length a.entries.now / 52) a.list.now a.from a.members.now a.s.now a.out.now _ _ c.run.result c.run.ensures
    _ _ (r.is ∙ ap Ok r.field-0-is ∙ ap (λ (t : Bool). Ok (Listed r.next r.written t)) c.if-ended.true)

pub returns-else-ended : goal.returns-else-ended
returns-else-ended c =
    let a = c.args in
    let r = c.in-Ok-Listed in
    part_more (length a.work.now) (length a.entries.now / 52) a.list.now a.from a.members.now a.s.now a.out.now _ _ c.run.result c.run.ensures
    _ _ (r.is ∙ ap Ok r.field-0-is ∙ ap (λ (t : Bool). Ok (Listed r.next r.written t)) c.if-ended.false)

pub returns-in-Ok-Broken : goal.returns-in-Ok-Broken
returns-in-Ok-Broken c =
    let a = c.args in
    part_broken (length a.work.now) (length a.entries.now / 52) a.list.now a.from a.members.now a.s.now a.out.now _ _ c.run.result c.run.ensures
    _ _ _ (c.in-Ok-Broken.is ∙ ap Ok c.in-Ok-Broken.field-0-is)
