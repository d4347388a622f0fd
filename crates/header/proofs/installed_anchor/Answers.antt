-- `header::installed_anchor` meets its contract: the words of the number and of the hash are the anchor's.
use mathlib.Core.Path.{ap, ◌∙◌}
use native.Mathlib.Omega.{arith}
use lib.Dec.{lit<}
use Rattle.model.specs.declared.storage_memo.U256.{U256}
use Rattle.image.proofs.Areas.{GenerationBytes}
use Rattle.image.proofs.Lent.{generation_in}
use Rattle.layers.proofs.Header.{header_room}
use Rattle.header.proofs.Anchors.{anchor_unknown, anchor_known}
use Rattle.header.proofs.installed_anchor.Goals as goal

pub read_u64-requires : goal.read_u64-requires
read_u64-requires c = omega (arith, header_room _ c.args.generation.installed.is_store)

pub returns-then-read_u64-eq0 : goal.returns-then-read_u64-eq0
returns-then-read_u64-eq0 c =
    let w : GenerationBytes c.args.generation.bytes.now _ _ = generation_in _ c.args.generation.installed in
    c.at.ensures ∙ anchor_unknown _ c.installed_number-number.ensures (c.read_u64.ensures ∙ w.hash_word 0 (lit< tt)) c.if-read_u64-eq0.true

pub read_u256-requires : goal.read_u256-requires
read_u256-requires c = omega (arith, header_room _ c.args.generation.installed.is_store)

pub returns : goal.returns
returns c =
    let w : GenerationBytes c.args.generation.bytes.now _ _ = generation_in _ c.args.generation.installed in
    c.identified.ensures
    ∙ anchor_known _ c.installed_number-number.ensures (c.read_u64.ensures ∙ w.hash_word 0 (lit< tt)) _ c.if-read_u64-eq0.false (ap (λ (x : U256). x.w0) c.read_u256.ensures ∙ w.hash_word 1 (lit< tt)) (ap (λ (x : U256). x.w1) c.read_u256.ensures ∙ w.hash_word 2 (lit< tt))
    (ap (λ (x : U256). x.w2) c.read_u256.ensures ∙ w.hash_word 3 (lit< tt)) (ap (λ (x : U256). x.w3) c.read_u256.ensures ∙ w.hash_word 4 (lit< tt))
