-- `write` of `lent_calls`'s words of an advance meets its contract. Assumes nothing.
use Prim.Native.Nat.{ℕ}
use mathlib.Core.Path.{◌≡◌, sym, ap, ap₂, ◌∙◌}
use mathlib.Core.List.{List, ◌∷◌, [], ◌++◌}
use Rattle.model.specs.declared.read_hub.CarryOutcome.TheVariants.{Cold}
use Rattle.lent_calls.specs.ReplyWords.{with_words, outcome_words}
use Rattle.lent_calls.specs.Inner.{count_words}
use Rattle.lent_calls.proofs.DeltaReportReplyWords.write.Goals as goal

pub returns-in-Cold : goal.returns-in-Cold
returns-in-Cold c =
    let a = c.args in
    let d = a.self in
    let e : d.outcome ≡ Cold c.in-Cold.lineage c.in-Cold.bal = c.in-Cold.is in
    let w = ap₂ (λ (l k : ℕ). 2 ∷ 0 ∷ l ∷ k ∷ []) c.from.ensures c.from-in-Cold.ensures ∙ sym (ap outcome_words e) in
    c.write_report-in-Cold.ensures ∙ ap (λ (ws : List ℕ). with_words (ws ++ count_words d) a.reply.now) w
