-- `image::write_words` meets its contract: the first k words stand at the place.
use Prim.Native.Nat.{ℕ}
use mathlib.Core.Path.{ap, ◌∙◌}
use mathlib.Core.List.{List}
use native.Mathlib.Omega.{arith}
use lib.Seq.{take_all}
use Rattle.words.specs.Parts.{placed}
use Rattle.image.specs.Image.{bytes_of}
use Rattle.image.proofs.Written.{placed_none, word_placed}
use Rattle.image.proofs.write_words.Goals as goal

pub loop-k-init : goal.loop-k-init
loop-k-init g c = placed_none c.args.at c.args.s.now (omega arith)

pub loop-k-preserved : goal.loop-k-preserved
loop-k-preserved g c =
    let a = c.args in
    let l = c.loop-k in
    word_placed a.ws a.at l.k a.s.now l.s c.write_u64.new.s (omega arith) (omega arith) l.invariant c.write_u64.ensures

pub returns : goal.returns
returns g c =
    let l = c.loop-k in
    let a = c.args in
    l.invariant ∙ ap (λ (k : List ℕ). placed a.at (bytes_of k) a.s.now) (take_all l.k a.ws (omega arith))
