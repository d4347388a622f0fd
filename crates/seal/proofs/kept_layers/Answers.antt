-- `seal::kept_layers` meets its contract. Assumes nothing.
use Rattle.image.proofs.Lent.{generation_in}
use Rattle.seal.proofs.Link.{not_void, one_void, one_full}
use Rattle.seal.proofs.kept_layers.Goals as goal

pub returns-then-n-ne1 : goal.returns-then-n-ne1
returns-then-n-ne1 c = not_void _ _ c.layers-n.ensures c.if-n-ne1.true (generation_in _ c.args.generation.installed).facts.some_layer

pub returns-then-top_start-eq0 : goal.returns-then-top_start-eq0
returns-then-top_start-eq0 c = one_void _ _ _ c.layers-n.ensures c.if-n-ne1.false c.top_start.ensures c.if-top_start-eq0.true

pub returns : goal.returns
returns c = one_full _ _ _ c.layers-n.ensures c.if-n-ne1.false c.top_start.ensures c.if-top_start-eq0.false
