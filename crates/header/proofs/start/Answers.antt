-- `header::start` meets its contract. Assumes nothing.
use mathlib.Core.Path.{◌≡◌, sym, ap}
use mathlib.Core.List.{[], ◌∷◌}
use Rattle.model.specs.declared.delta_snapshot.Retention.TheVariants.{IdleBlocks}
use Rattle.image.specs.Image.{retention_words}
use Rattle.header.proofs.Begun.{opened_by}
use borrow.Author.Rules.{rules}
use Rattle.header.proofs.start.Goals as goal

pub returns-in-Unbounded : goal.returns-in-Unbounded
returns-in-Unbounded c =
    let a = c.args in
    opened_by a.s.now a.capacity a.max_depth _ a.retention (0 ∷ 0 ∷ []) _ _ c.requires.1 c.depth_limit-depth.ensures
    (ap retention_words (sym c.in-Unbounded.is)) c.clear.ensures c.write_config.ensures

pub returns-in-IdleBlocks : goal.returns-in-IdleBlocks
returns-in-IdleBlocks c =
    let a = c.args in
    let n = c.in-IdleBlocks.idle in
    let q : a.retention ≡ IdleBlocks n = search rules in
    opened_by a.s.now a.capacity a.max_depth _ a.retention (1 ∷ n ∷ []) _ _ c.requires.1 c.depth_limit-depth.ensures
    (ap retention_words (sym q)) c.clear.ensures c.write_config-in-IdleBlocks.ensures
