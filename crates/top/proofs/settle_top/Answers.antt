-- `top::settle_top` meets its contract: the use is the installed number. Assumes nothing.
use Prim.Native.Nat.{ℕ}
use mathlib.Core.Path.{ap, ◌∙◌}
use Rattle.model.specs.Contents.{valued}
use Rattle.model.specs.Layers.{insert}
use Rattle.image.specs.Image.{overlay}
use Rattle.image.specs.Lent.{store_of, generation_of}
use Rattle.top.specs.Top.{topped}
use Rattle.top.proofs.settle_top.Goals as goal

pub returns : goal.returns
returns c =
    let a = c.args in
    let b = a.s.now in
    c.set_top.ensures ∙ ap (λ (m : ℕ). overlay (topped (store_of b).config (generation_of b) (insert a.slot (valued m a.value) (generation_of b).top)) b) c.installed_number.ensures
