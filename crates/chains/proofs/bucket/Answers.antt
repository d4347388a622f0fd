-- `chains::bucket` meets its contract.
use mathlib.Core.Path.{ap₂, ◌∙◌}
use Rattle.chains.specs.Chains.{mixed}
use Rattle.chains.proofs.SlotAt.{bucket_words}
use Rattle.chains.proofs.bucket.Goals as goal

pub returns : goal.returns
returns c =
    let a = c.args in
    (c.mix.ensures.0 ∙ ap₂ mixed c.read_u64.ensures c.read_u64-2.ensures ∙ bucket_words a.i a.s.now, c.mix.ensures.1)
